-- Three programs, and histories that run them.
use Rattle.integers.specs.declared.Operator.TheVariants.{Add}
use Rattle.integers.specs.declared.Comparison.TheVariants.{Equal, Less}
use Rattle.expressions.specs.declared.Dyadic.TheVariants.{Arithmetic, Compare}
use Rattle.expressions.specs.Expression.{number, truth, variable, dyadic}
use Rattle.faults.specs.declared.Layer.TheVariants.{Lines}
use Rattle.std.specs.Prelude.{true, ◌≡◌, List, [], ◌∷◌, ℕ, get_or, pos, Ok, Err}
use Rattle.rules.specs.Types.{Expression, Line, End, Kind, Internal, Outgoing, Incoming, Moved, Slept, Passed, Ended, Finished, Waits, Taken, Held, NoProgram, NoLink, LinkHolds, NoOutput}
use Rattle.rules.specs.Flowchart.{skip_guard, input_guard, Node, assignment, stop, input, output, test, par, alt, Program}
use Rattle.rules.specs.Primary.{sent}
use Rattle.rules.specs.WellFormed.{WellFormed}
use Rattle.rules.specs.Calls.{Machine}
use Rattle.rules.specs.History.{Call, loaded, load_refused, stepped, offered, took, engine, Reached, told}

-- a program from what stands at each line with the line's process, the channels' kinds, and each process's parent and home
abbrev pub charted : List (ℕ × Node) → List Kind → List (ℕ × ℕ) → ℕ → Program
charted lines kinds tree n = record {
  node = λ k. (get_or lines k (0, stop)).1;
  kind = λ c. get_or kinds c Internal;
  entry = Line 0;
  processes = n;
  owner = λ k. (get_or lines k (0, stop)).0;
  parent = λ p. (get_or tree p (0, 0)).0;
  home = λ p. (get_or tree p (0, 0)).1;
}

-- SEQ of in ? x and out ! x, with in (channel 0) at address 4 and out (channel 1) at address 0
abbrev pub echo : Program
echo = charted ((0, input 0 0 (Line 1)) ∷ ((0, output 1 (variable 0) End) ∷ [])) (Incoming 4 ∷ (Outgoing 0 ∷ [])) ((0, 0) ∷ []) 1

-- a history of echo, with a refusal of each kind that a host can meet
abbrev pub echo_calls : List Call
echo_calls =
    stepped (Err NoProgram) ∷
    (load_refused (record { number = 6; layer = Lines; line = 1; byte = 0 }) ∷
    (loaded echo 1 ∷
    (took 0 (Err NoOutput) ∷
    (offered 4 (pos 9) (Ok (Held 0 (pos 9))) ∷
    (offered 4 (pos 8) (Err LinkHolds) ∷
    (offered 5 (pos 8) (Err NoLink) ∷
    (stepped (Ok (Passed 0 0 (pos 9))) ∷
    (stepped (Ok (Slept 0)) ∷
    (stepped (Ok Waits) ∷
    (took 0 (Ok (Taken 0 1 (pos 9))) ∷
    (stepped (Ok (Ended 0)) ∷
    (stepped (Ok Finished) ∷ []))))))))))))

-- PAR of d ! 2 and SEQ of an ALT (TRUE & SKIP, or d ? y), d ? y and STOP
abbrev pub couple : Program
couple =
    charted
    ((0, par (record { process = 1; entry = Line 1 } ∷ (record { process = 2; entry = Line 2 } ∷ [])) End) ∷
    ((1, output 0 (number (pos 2)) End) ∷
    ((2, alt (skip_guard (truth true) (Line 3) ∷ (input_guard (truth true) 0 0 (Line 3) ∷ []))) ∷
    ((2, input 0 0 (Line 4)) ∷
    ((2, stop) ∷ [])))))
    [] ((0, 0) ∷ ((0, 0) ∷ ((0, 0) ∷ []))) 3

-- n = k, where n is variable 2
abbrev pub n_is : ℕ → Expression
n_is k = dyadic (Compare Equal) (variable 2) (number (pos k))

-- WHILE n < 1 over SEQ of a PAR and n := n + 1. The PAR has a PAR of c ! n and d ? y, and an ALT (n = 1 & in ? x, or n = 0 & c ? x) with d ! 5 under both.
-- x, y and n are variables 0, 1 and 2; in (at address 4), c and d are channels 0, 1 and 2
abbrev pub nested : Program
nested =
    charted
    ((0, test (dyadic (Compare Less) (variable 2) (number (pos 1))) (Line 1) End) ∷
    ((0, par (record { process = 1; entry = Line 2 } ∷ (record { process = 4; entry = Line 5 } ∷ [])) (Line 7)) ∷
    ((1, par (record { process = 2; entry = Line 3 } ∷ (record { process = 3; entry = Line 4 } ∷ [])) End) ∷
    ((2, output 1 (variable 2) End) ∷
    ((3, input 2 1 End) ∷
    ((4, alt (input_guard (n_is 1) 0 0 (Line 6) ∷ (input_guard (n_is 0) 1 0 (Line 6) ∷ []))) ∷
    ((4, output 2 (number (pos 5)) End) ∷
    ((0, assignment 2 (dyadic (Arithmetic Add) (variable 2) (number (pos 1))) (Line 0)) ∷ []))))))))
    (Incoming 4 ∷ []) ((0, 0) ∷ ((0, 1) ∷ ((1, 2) ∷ ((1, 2) ∷ ((0, 1) ∷ []))))) 5

-- a history of nested
abbrev pub nested_calls : List Call
nested_calls =
    loaded nested 5 ∷
    (stepped (Ok (Moved 0)) ∷
    (stepped (Ok (Moved 0)) ∷
    (stepped (Ok (Moved 1)) ∷
    (stepped (Ok (Slept 2)) ∷
    (stepped (Ok (Slept 3)) ∷
    (stepped (Ok (Passed 4 1 (pos 0))) ∷
    (stepped (Ok (Passed 4 2 (pos 5))) ∷
    (stepped (Ok (Ended 2)) ∷
    (stepped (Ok (Moved 3)) ∷
    (stepped (Ok (Ended 1)) ∷
    (stepped (Ok (Moved 4)) ∷
    (stepped (Ok (Moved 0)) ∷
    (stepped (Ok (Moved 0)) ∷
    (stepped (Ok (Ended 0)) ∷
    (stepped (Ok Finished) ∷ [])))))))))))))))

-- the three programs are well formed, and the histories are the engine's own; what they told
abbrev pub ExamplesStand : Type 0
ExamplesStand =
    WellFormed echo × WellFormed couple × WellFormed nested ×
    ((m : Machine) × Reached engine echo_calls m) × (told echo_calls ≡ sent 0 (pos 9) ∷ (sent 1 (pos 9) ∷ [])) ×
    ((m : Machine) × Reached engine nested_calls m) × (told nested_calls ≡ sent 1 (pos 0) ∷ (sent 2 (pos 5) ∷ []))
