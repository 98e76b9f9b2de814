-- The example histories, computed call by call.
use Rattle.std.proofs.Common.{refl, arith, lit<, Err, List, None, Ok, Some, [], ◌++◌, ◌∷◌, ◌≡◌, ◌≢◌, pos, suc, zero, ℕ}
use Rattle.expressions.specs.Value.{value}
use Rattle.rules.specs.Types.{End, Ended, Finished, Held, Incoming, Line, LinkHolds, Moved, NoLink, NoOutput, NoProgram, Passed, Slept, Taken, Waits, int_value, truth_value}
use Rattle.rules.specs.Calls.{Counts, Machine, all_ready, at_link, awaits, finishes, idles, lowered, no_link, no_program, readied, turns, writing}
use Rattle.rules.specs.Examples.{ExamplesStand, echo, echo_calls, nested, nested_calls}
use Rattle.rules.specs.Flowchart.{Program}
use Rattle.rules.specs.Functions.{changed}
use Rattle.rules.specs.History.{Call, Reached, also, engine, fresh, last_accepted, load_refused, loaded, new, offered, stepped, took}
use Rattle.rules.specs.Turns.{Tables, begun, empty, finish, freed, go, joined, mark, outside, reader, split, write, writer}
use Rattle.faults.specs.declared.Layer.TheVariants.{Lines}
use Rattle.rules.proofs.Examples.{couple_formed, echo_formed, echo_in, inner_two, nested_formed, outer_two}
use Rattle.rules.proofs.Theorem.{few_held}

abbrev with_tables : Program → Tables → Counts → Machine
with_tables pg t h = record { program = Some pg; tables = t; held = h }

-- echo

abbrev e0 : Machine
e0 = record { program = None; tables = begun echo; held = λ p. 0 }

-- the value is held
abbrev e2 : Machine
e2 = with_tables echo (mark (begun echo) 0 (outside (pos 9))) (readied (λ p. 0) 0)

-- and passed
abbrev e3 : Machine
e3 = with_tables echo (go (write (mark e2.tables 0 empty) 0 (pos 9)) 0 (Line 1)) (readied (lowered e2.held 0) 0)

-- the output waits
abbrev e4 : Machine
e4 = with_tables echo (mark e3.tables 1 (writer 0 (pos 9))) (lowered e3.held 0)

-- and is taken
abbrev e5 : Machine
e5 = with_tables echo (go (mark e4.tables 1 empty) 0 End) (readied e4.held 0)

-- the program has ended
abbrev e6 : Machine
e6 = with_tables echo (finish e5.tables 0) (lowered e5.held 0)

abbrev waiting_calls : List Call
waiting_calls =
    stepped (Err NoProgram) ∷
    (load_refused (record { number = 6; layer = Lines; line = 1; byte = 0 }) ∷
    (loaded echo 1 ∷
    (took 0 (Err NoOutput) ∷
    (offered 4 (pos 9) (Ok (Held 0 (pos 9))) ∷
    (offered 4 (pos 8) (Err LinkHolds) ∷
    (offered 5 (pos 8) (Err NoLink) ∷
    (stepped (Ok (Passed 0 0 (pos 9))) ∷
    (stepped (Ok (Slept 0)) ∷ []))))))))

no_five : (c : ℕ) → echo.kind c ≢ Incoming 5
no_five c e = let i = (echo_in c 5 e).1 in omega arith

to_waiting : Reached engine waiting_calls e4
unfolding changed int_value value
to_waiting =
    also {m = e3} {m' = e4} (stepped (Ok (Slept 0)))
    (also {m = e2} {m' = e3} (stepped (Ok (Passed 0 0 (pos 9))))
    (also {m = e2} {m' = e2} (offered 5 (pos 8) (Err NoLink))
    (also {m = e2} {m' = e2} (offered 4 (pos 8) (Err LinkHolds))
    (also {m = fresh echo} {m' = e2} (offered 4 (pos 9) (Ok (Held 0 (pos 9))))
    (also {m = fresh echo} {m' = fresh echo} (took 0 (Err NoOutput))
    (also {m = e0} {m' = fresh echo} (loaded echo 1)
    (also {m = e0} {m' = e0} (load_refused (record { number = 6; layer = Lines; line = 1; byte = 0 }))
    (also {m = e0} {m' = e0} (stepped (Err NoProgram)) (new (begun echo)) (no_program refl (refl, refl))) refl)
    (echo_formed, refl, refl))
    (at_link echo 1 refl refl (refl, refl)))
    (at_link echo 0 refl refl (refl, refl)))
    (at_link echo 0 refl refl (refl, refl)))
    (no_link echo refl no_five (refl, refl)))
    (turns echo 0 refl (lit< tt) (refl, refl)))
    (turns echo 0 refl (lit< tt) (refl, refl))

-- nobody is ready where number 0 is not
alone : (calls : List Call) (m : Machine) → Reached engine calls m → last_accepted calls ≡ Some echo → m.held 0 ≡ 0 → (k : ℕ) → m.held k ≡ 0
alone calls m u e z zero = z
alone calls m u e z (suc k) = few_held echo calls m u e (suc k) (omega arith)

abbrev ended_calls : List Call
ended_calls = waiting_calls ++ (stepped (Ok Waits) ∷ (took 0 (Ok (Taken 0 1 (pos 9))) ∷ (stepped (Ok (Ended 0)) ∷ [])))

to_ended : Reached engine ended_calls e6
unfolding changed
to_ended =
    also {m = e5} {m' = e6} (stepped (Ok (Ended 0)))
    (also {m = e4} {m' = e5} (took 0 (Ok (Taken 0 1 (pos 9))))
    (also {m = e4} {m' = e4} (stepped (Ok Waits)) to_waiting
    (idles echo Waits refl (alone waiting_calls e4 to_waiting refl refl) (awaits (λ e. let z : ◌≡◌ {A = ℕ} 0 1 = cc in omega arith) (writing 1 0 0 (pos 9) refl refl)) (refl, refl)))
    (at_link echo 1 refl refl (refl, refl)))
    (turns echo 0 refl (lit< tt) (refl, refl))

pub echo_runs : (m : Machine) × Reached engine echo_calls m
unfolding changed
echo_runs = (e6, also {m = e6} {m' = e6} (stepped (Ok Finished)) to_ended (idles echo Finished refl (alone ended_calls e6 to_ended refl refl) (finishes refl) (refl, refl)))

-- nested

abbrev n1 : Machine
n1 = with_tables nested (go (begun nested) 0 (Line 1)) (readied (lowered (readied (λ p. 0) 0) 0) 0)

abbrev n2 : Machine
n2 = with_tables nested (split n1.tables 0 1 outer_two) (all_ready (lowered n1.held 0) (1 ∷ (4 ∷ [])))

abbrev n3 : Machine
n3 = with_tables nested (split n2.tables 1 2 inner_two) (all_ready (lowered n2.held 1) (2 ∷ (3 ∷ [])))

abbrev n4 : Machine
n4 = with_tables nested (mark n3.tables 1 (writer 2 (pos 0))) (lowered n3.held 2)

abbrev n5 : Machine
n5 = with_tables nested (mark n4.tables 2 (reader 3)) (lowered n4.held 3)

abbrev n6 : Machine
n6 = with_tables nested (go (go (write (freed (mark n5.tables 1 empty) 4) 0 (pos 0)) 2 End) 4 (Line 6)) (all_ready (lowered n5.held 4) (2 ∷ (4 ∷ [])))

abbrev n7 : Machine
n7 = with_tables nested (go (go (write (mark n6.tables 2 empty) 1 (pos 5)) 3 End) 4 End) (all_ready (lowered n6.held 4) (3 ∷ (4 ∷ [])))

abbrev n8 : Machine
n8 = with_tables nested (finish n7.tables 2) (lowered n7.held 2)

abbrev n9 : Machine
n9 = with_tables nested (joined n8.tables 1 inner_two End) (readied (lowered n8.held 3) 1)

abbrev n10 : Machine
n10 = with_tables nested (finish n9.tables 1) (lowered n9.held 1)

abbrev n11 : Machine
n11 = with_tables nested (joined n10.tables 0 outer_two (Line 7)) (readied (lowered n10.held 4) 0)

abbrev n12 : Machine
n12 = with_tables nested (go (write n11.tables 2 (pos 1)) 0 (Line 0)) (readied (lowered n11.held 0) 0)

abbrev n13 : Machine
n13 = with_tables nested (go n12.tables 0 End) (readied (lowered n12.held 0) 0)

abbrev n14 : Machine
n14 = with_tables nested (finish n13.tables 0) (lowered n13.held 0)

first_calls : Reached engine
    (loaded nested 5 ∷ (stepped (Ok (Moved 0)) ∷ (stepped (Ok (Moved 0)) ∷ (stepped (Ok (Moved 1)) ∷ (stepped (Ok (Slept 2)) ∷ (stepped (Ok (Slept 3)) ∷ (stepped (Ok (Passed 4 1 (pos 0))) ∷ (stepped (Ok (Passed 4 2 (pos 5))) ∷ [])))))))) n7
unfolding changed int_value truth_value value
first_calls =
    also {m = n6} {m' = n7} (stepped (Ok (Passed 4 2 (pos 5))))
    (also {m = n5} {m' = n6} (stepped (Ok (Passed 4 1 (pos 0))))
    (also {m = n4} {m' = n5} (stepped (Ok (Slept 3)))
    (also {m = n3} {m' = n4} (stepped (Ok (Slept 2)))
    (also {m = n2} {m' = n3} (stepped (Ok (Moved 1)))
    (also {m = n1} {m' = n2} (stepped (Ok (Moved 0)))
    (also {m = fresh nested} {m' = n1} (stepped (Ok (Moved 0)))
    (also {m = e0} {m' = fresh nested} (loaded nested 5) (new (begun echo)) (nested_formed, refl, refl))
    (turns nested 0 refl (lit< tt) (refl, refl)))
    (turns nested 0 refl (lit< tt) (refl, refl)))
    (turns nested 1 refl (lit< tt) (refl, refl)))
    (turns nested 2 refl (lit< tt) (refl, refl)))
    (turns nested 3 refl (lit< tt) (refl, refl)))
    (turns nested 4 refl (lit< tt) (refl, refl)))
    (turns nested 4 refl (lit< tt) (refl, refl))

abbrev all_turns : List Call
all_turns =
    loaded nested 5 ∷ (stepped (Ok (Moved 0)) ∷ (stepped (Ok (Moved 0)) ∷ (stepped (Ok (Moved 1)) ∷ (stepped (Ok (Slept 2)) ∷ (stepped (Ok (Slept 3)) ∷ (stepped (Ok (Passed 4 1 (pos 0))) ∷ (stepped (Ok (Passed 4 2 (pos 5))) ∷
    (stepped (Ok (Ended 2)) ∷ (stepped (Ok (Moved 3)) ∷ (stepped (Ok (Ended 1)) ∷ (stepped (Ok (Moved 4)) ∷ (stepped (Ok (Moved 0)) ∷ (stepped (Ok (Moved 0)) ∷ (stepped (Ok (Ended 0)) ∷ []))))))))))))))

last_calls : Reached engine all_turns n14
unfolding changed int_value truth_value value
last_calls =
    also {m = n13} {m' = n14} (stepped (Ok (Ended 0)))
    (also {m = n12} {m' = n13} (stepped (Ok (Moved 0)))
    (also {m = n11} {m' = n12} (stepped (Ok (Moved 0)))
    (also {m = n10} {m' = n11} (stepped (Ok (Moved 4)))
    (also {m = n9} {m' = n10} (stepped (Ok (Ended 1)))
    (also {m = n8} {m' = n9} (stepped (Ok (Moved 3)))
    (also {m = n7} {m' = n8} (stepped (Ok (Ended 2))) first_calls
    (turns nested 2 refl (lit< tt) (refl, refl)))
    (turns nested 3 refl (lit< tt) (refl, refl)))
    (turns nested 1 refl (lit< tt) (refl, refl)))
    (turns nested 4 refl (lit< tt) (refl, refl)))
    (turns nested 0 refl (lit< tt) (refl, refl)))
    (turns nested 0 refl (lit< tt) (refl, refl)))
    (turns nested 0 refl (lit< tt) (refl, refl))

nobody : (k : ℕ) → n14.held k ≡ 0
nobody zero = refl
nobody (suc zero) = refl
nobody (suc (suc zero)) = refl
nobody (suc (suc (suc zero))) = refl
nobody (suc (suc (suc (suc zero)))) = refl
nobody (suc (suc (suc (suc (suc k))))) = few_held nested all_turns n14 last_calls refl (suc (suc (suc (suc (suc k))))) (omega arith)

pub nested_runs : (m : Machine) × Reached engine nested_calls m
unfolding changed
nested_runs = (n14, also {m = n14} {m' = n14} (stepped (Ok Finished)) last_calls (idles nested Finished refl nobody (finishes refl) (refl, refl)))

pub examples : ExamplesStand
examples = (echo_formed, couple_formed, nested_formed, echo_runs, refl, nested_runs, refl)
