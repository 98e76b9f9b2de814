-- The wrong engines break the promise: for each a program and a history at whose state it fails.
use Rattle.std.proofs.Common.{sym, refl, ap, ◌∙◌, subst, arith, lit<, List, None, Ok, Option, Result, Some, [], ◌&&◌, ◌<◌, ◌∷◌, ◌≡◌, ◌≢◌, ◌≤◌, eqb, ltb, pos, suc, true, zero, ℕ}
use Rattle.std.proofs.lemmas.Bool.{cond-false, ne_eqb}
use Rattle.expressions.specs.Expression.{number}
use Rattle.expressions.specs.Value.{value}
use Rattle.rules.specs.Types.{Absent, Answer, At, End, Held, Holding, Line, Moved, Passed, Refusal, Slept, Stuck, int_value, truth_value}
use Rattle.rules.specs.Calls.{Counts, Gives, Machine, SleepsOnLink, StepBy, all_ready, at_link, choosing, idles, lowered, readied, reading, sticks, turns, writing}
use Rattle.rules.specs.Examples.{couple, echo}
use Rattle.rules.specs.Flowchart.{Node, Program, alt, assignment, input, output, par, skip, stop, test}
use Rattle.rules.specs.Functions.{All, changed}
use Rattle.rules.specs.History.{Call, Reached, also, engine_by, fresh, loaded, new, offered, stepped}
use Rattle.rules.specs.Primary.{Fires, State, Told, assigns, by_guard, by_input, communicates, fills, joins, links_in, passes_par, puts, skips, starts_par, stays, takes_skip, tests, then_put}
use Rattle.rules.specs.Promise.{KeepsPromise, StepMeans, ended, finished, halted, moved, passed, slept, stuck, waits}
use Rattle.rules.specs.Turns.{Tables, Turn, begun, empty, freed, go, joined, line_of, mark, outside, reader, split, turn, view, write, writer}
use Rattle.rules.specs.WellFormed.{WellFormed}
use Rattle.rules.specs.Wrong.{WrongShutOut, clearing, clears_writers, guards_of, joins_early, moves_nothing, sleeping, sleeps_past, stuck_early}
use Rattle.rules.proofs.Changes.{changed_case, changed_there}
use Rattle.rules.proofs.Examples.{couple_formed, couple_two, echo_formed}

abbrev loaded_with : Program → Tables → Counts → Machine
loaded_with pg t h = record { program = Some pg; tables = t; held = h }

abbrev bare : Machine
bare = record { program = None; tables = begun echo; held = λ p. 0 }

-- the start, under any steps
begins : (steps : Machine → Result Answer Refusal → Machine → Type 0) (pg : Program) → WellFormed pg → Reached (engine_by steps) (loaded pg pg.processes ∷ []) (fresh pg)
begins steps pg wf = also {m = bare} {m' = fresh pg} (loaded pg pg.processes) (new (begun echo)) (wf, refl, refl)

-- no number from n on is held
Below : ℕ → Counts → Type 0
Below n h = (k : ℕ) → n ≤ k → h k ≡ 0

below_lowered : (n : ℕ) (h : Counts) (p : ℕ) → Below n h → Below n (lowered h p)
unfolding Below
below_lowered n h p b k le = let z = b k le in omega arith

below_readied : (n : ℕ) (h : Counts) (p : ℕ) → p < n → Below n h → Below n (readied h p)
unfolding Below
below_readied n h p lt b k le =
    cond-false (eqb k p && (ltb p 64 && eqb (h p) 0)) 1 (h k) (ap (λ x. x && (ltb p 64 && eqb (h p) 0)) (ne_eqb k p (λ e. omega arith))) ∙ b k le

-- echo: an engine that says stuck at once, though an offer would let a rule fire
pub stuck_early_lem : ¬ KeepsPromise stuck_early
unfolding changed
stuck_early_lem keeps =
    let p = (keeps (loaded echo 1 ∷ []) (fresh echo) (begins (λ m r m'. (pg : Program) × (m.program ≡ Some pg) × Gives (Ok Stuck, m) r m') echo echo_formed)).kept echo refl in
    let w = (p.sticking (fresh echo) (echo, refl, (refl, refl))).1 in
    (w (fills (view (begun echo)) 0 (Some (pos 0))) (then_put stays (puts 4 refl refl))).0
    (_, _, _, links_in 0 0 0 (Line 1) (pos 0) (by_input 0 refl refl) refl)

-- echo: at the start nothing fires
start_at : (p n : ℕ) → (begun echo).place p ≡ At (Line n) → n ≡ 0
start_at p n e = changed_case (λ q. Absent) 0 (At (Line 0)) p (λ a. a ≡ At (Line n) → n ≡ 0) (λ i j. cc) (λ i j. let z : ◌≡◌ {A = ℕ} 0 1 = cc in absurd (omega arith)) e

start_holds : (p n : ℕ) → (begun echo).place p ≡ Holding n → ⊥
start_holds p n e = changed_case (λ q. Absent) 0 (At (Line 0)) p (λ a. a ≡ Holding n → ⊥) (λ i j. let z : ◌≡◌ {A = ℕ} 0 1 = cc in omega arith) (λ i j. let z : ◌≡◌ {A = ℕ} 0 1 = cc in omega arith) e

node_there : (p n : ℕ) (m : Node) → (begun echo).place p ≡ At (Line n) → echo.node n ≡ m → m ≡ input 0 0 (Line 1)
node_there p n m e i = sym i ∙ ap echo.node (start_at p n e)

nothing_moves : (ps : List ℕ) (l : Option Told) (s' : State) → Fires echo (view (begun echo)) ps l s' → ⊥
nothing_moves ps l s' (assigns p n x e to v st nd val) = let i = node_there p n (assignment x e to) st nd in let z : ◌≡◌ {A = ℕ} 0 1 = cc in omega arith
nothing_moves ps l s' (skips p n to st nd) = let i = node_there p n (skip to) st nd in let z : ◌≡◌ {A = ℕ} 0 1 = cc in omega arith
nothing_moves ps l s' (tests p n e a b v st nd val) = let i = node_there p n (test e a b) st nd in let z : ◌≡◌ {A = ℕ} 0 1 = cc in omega arith
nothing_moves ps l s' (communicates p q c x to to' v rc sn) = let i = node_there q sn.line_number (output c sn.expression to') sn.stands sn.is_output in let z : ◌≡◌ {A = ℕ} 0 1 = cc in omega arith
nothing_moves ps l s' (links_in p c x to v rc e) = let z : ◌≡◌ {A = ℕ} 0 1 = cc in omega arith
nothing_moves ps l s' (takes_skip p n gs e to st nd vd i tr) = let i = node_there p n (alt gs) st nd in let z : ◌≡◌ {A = ℕ} 0 1 = cc in omega arith
nothing_moves ps l s' (passes_par p n to st nd) = let i = node_there p n (par [] to) st nd in let z : ◌≡◌ {A = ℕ} 0 1 = cc in omega arith
nothing_moves ps l s' (starts_par p n b bs to st nd) = let i = node_there p n (par (b ∷ bs) to) st nd in let z : ◌≡◌ {A = ℕ} 0 1 = cc in omega arith
nothing_moves ps l s' (joins p n bs to st nd al) = start_holds p n st

-- what an answer moved means
moved_fires : {pg : Program} {s : State} {a : Answer} {s' : State} → StepMeans pg s a s' → (p : ℕ) → a ≡ Moved p → (ps : List ℕ) × Fires pg s ps None s'
moved_fires (halted q) p e = let z : ◌≡◌ {A = ℕ} 0 1 = cc in absurd (omega arith)
moved_fires (moved q i f) p e = (_, f)
moved_fires (slept q) p e = let z : ◌≡◌ {A = ℕ} 0 1 = cc in absurd (omega arith)
moved_fires (passed q c v i f) p e = let z : ◌≡◌ {A = ℕ} 0 1 = cc in absurd (omega arith)
moved_fires (ended q) p e = let z : ◌≡◌ {A = ℕ} 0 1 = cc in absurd (omega arith)
moved_fires (finished h) p e = let z : ◌≡◌ {A = ℕ} 0 1 = cc in absurd (omega arith)
moved_fires waits p e = let z : ◌≡◌ {A = ℕ} 0 1 = cc in absurd (omega arith)
moved_fires stuck p e = let z : ◌≡◌ {A = ℕ} 0 1 = cc in absurd (omega arith)

-- echo: an engine that answers moved and does nothing
pub moves_nothing_lem : ¬ KeepsPromise moves_nothing
moves_nothing_lem keeps =
    let p = (keeps (loaded echo 1 ∷ []) (fresh echo) (begins (λ m r m'. (pg : Program) × (m.program ≡ Some pg) × Gives (Ok (Moved 0), m) r m') echo echo_formed)).kept echo refl in
    let w = p.meant (stepped (Ok (Moved 0))) (fresh echo) (echo, refl, (refl, refl)) in
    let f = moved_fires w 0 refl in
    nothing_moves f.0 None (view (begun echo)) f.1

-- echo: an engine that sleeps past a held outside value says stuck where link in can fire
abbrev with_value : Tables
with_value = mark (begun echo) 0 (outside (pos 9))

abbrev asleep : Machine
asleep = loaded_with echo with_value (lowered (readied (λ p. 0) 0) 0)

nobody_held : (k : ℕ) → asleep.held k ≡ 0
unfolding Below
nobody_held zero = refl
nobody_held (suc k) = below_lowered 1 (readied (λ p. 0) 0) 0 (below_readied 1 (λ p. 0) 0 (omega arith) (λ i l. refl)) (suc k) (omega arith)

nobody_on_link : SleepsOnLink echo with_value → ⊥
unfolding changed
nobody_on_link (reading zero a p kd e) = let z : ◌≡◌ {A = ℕ} 0 1 = cc in omega arith
nobody_on_link (reading (suc zero) a p kd e) = let z : ◌≡◌ {A = ℕ} 0 1 = cc in omega arith
nobody_on_link (reading (suc (suc c)) a p kd e) = let z : ◌≡◌ {A = ℕ} 0 1 = cc in omega arith
nobody_on_link (choosing zero a p kd e) = let z : ◌≡◌ {A = ℕ} 0 1 = cc in omega arith
nobody_on_link (choosing (suc zero) a p kd e) = let z : ◌≡◌ {A = ℕ} 0 1 = cc in omega arith
nobody_on_link (choosing (suc (suc c)) a p kd e) = let z : ◌≡◌ {A = ℕ} 0 1 = cc in omega arith
nobody_on_link (writing zero a p v kd e) = let z : ◌≡◌ {A = ℕ} 0 1 = cc in omega arith
nobody_on_link (writing (suc zero) a p v kd e) = let z : ◌≡◌ {A = ℕ} 0 1 = cc in omega arith
nobody_on_link (writing (suc (suc c)) a p v kd e) = let z : ◌≡◌ {A = ℕ} 0 1 = cc in omega arith

past_calls : Reached sleeps_past (loaded echo 1 ∷ (offered 4 (pos 9) (Ok (Held 0 (pos 9))) ∷ (stepped (Ok (Slept 0)) ∷ []))) asleep
unfolding changed
past_calls =
    also {m = loaded_with echo with_value (readied (λ p. 0) 0)} {m' = asleep} (stepped (Ok (Slept 0)))
    (also {m = fresh echo} {m' = loaded_with echo with_value (readied (λ p. 0) 0)} (offered 4 (pos 9) (Ok (Held 0 (pos 9))))
    (begins (StepBy (λ pg t p. sleeping t p (turn pg t p))) echo echo_formed) (at_link echo 0 refl refl (refl, refl)))
    (turns echo 0 refl (lit< tt) (refl, refl))

pub sleeps_past_lem : ¬ KeepsPromise sleeps_past
unfolding changed
sleeps_past_lem keeps =
    let p = (keeps (loaded echo 1 ∷ (offered 4 (pos 9) (Ok (Held 0 (pos 9))) ∷ (stepped (Ok (Slept 0)) ∷ []))) asleep past_calls).kept echo refl in
    let s : StepBy (λ pg t p. sleeping t p (turn pg t p)) asleep (Ok Stuck) asleep = idles echo Stuck refl nobody_held (sticks (λ e. let z : ◌≡◌ {A = ℕ} 0 1 = cc in omega arith) nobody_on_link) (refl, refl) in
    ((p.sticking asleep s).1 (view with_value) stays).0
    (_, _, _, links_in 0 0 0 (Line 1) (pos 9) (by_input 0 refl refl) refl)

-- couple: an engine that clears a passed-over guard's writer says stuck where a communication can fire
abbrev cleared_turn : Program → Tables → ℕ → Turn
cleared_turn pg t p = clearing (guards_of (pg.node (line_of (t.place p)))) (turn pg t p)

abbrev c1 : Machine
c1 = loaded_with couple (split (begun couple) 0 0 couple_two) (all_ready (lowered (readied (λ p. 0) 0) 0) (1 ∷ (2 ∷ [])))

abbrev c2 : Machine
c2 = loaded_with couple (mark c1.tables 0 (writer 1 (pos 2))) (lowered c1.held 1)

abbrev c3 : Machine
c3 = loaded_with couple (mark (go (freed c2.tables 2) 2 (Line 3)) 0 empty) (readied (lowered c2.held 2) 2)

abbrev c4 : Machine
c4 = loaded_with couple (mark c3.tables 0 (reader 2)) (lowered c3.held 2)

abbrev cleared_calls : List Call
cleared_calls = loaded couple 3 ∷ (stepped (Ok (Moved 0)) ∷ (stepped (Ok (Slept 1)) ∷ (stepped (Ok (Moved 2)) ∷ (stepped (Ok (Slept 2)) ∷ []))))

to_cleared : Reached clears_writers cleared_calls c4
unfolding changed int_value truth_value value
to_cleared =
    also {m = c3} {m' = c4} (stepped (Ok (Slept 2)))
    (also {m = c2} {m' = c3} (stepped (Ok (Moved 2)))
    (also {m = c1} {m' = c2} (stepped (Ok (Slept 1)))
    (also {m = fresh couple} {m' = c1} (stepped (Ok (Moved 0)))
    (begins (StepBy cleared_turn) couple couple_formed)
    (turns couple 0 refl (lit< tt) (refl, refl)))
    (turns couple 1 refl (lit< tt) (refl, refl)))
    (turns couple 2 refl (lit< tt) (refl, refl)))
    (turns couple 2 refl (lit< tt) (refl, refl))

nobody_left : (k : ℕ) → c4.held k ≡ 0
unfolding Below
nobody_left zero = refl
nobody_left (suc zero) = refl
nobody_left (suc (suc zero)) = refl
nobody_left (suc (suc (suc k))) =
    below_lowered 3 c3.held 2 (below_readied 3 (lowered c2.held 2) 2 (omega arith) (below_lowered 3 c2.held 2 (below_lowered 3 c1.held 1
    (below_readied 3 (readied (lowered (readied (λ p. 0) 0) 0) 1) 2 (omega arith) (below_readied 3 (lowered (readied (λ p. 0) 0) 0) 1 (omega arith)
    (below_lowered 3 (readied (λ p. 0) 0) 0 (below_readied 3 (λ p. 0) 0 (omega arith) (λ i l. refl)))))))) (suc (suc (suc k))) (omega arith)

no_links : (t : Tables) → SleepsOnLink couple t → ⊥
no_links t (reading c a p kd e) = let z : ◌≡◌ {A = ℕ} 0 1 = cc in omega arith
no_links t (choosing c a p kd e) = let z : ◌≡◌ {A = ℕ} 0 1 = cc in omega arith
no_links t (writing c a p v kd e) = let z : ◌≡◌ {A = ℕ} 0 1 = cc in omega arith

pub clears_writers_lem : ¬ KeepsPromise clears_writers
unfolding changed int_value truth_value value
clears_writers_lem keeps =
    let p = (keeps cleared_calls c4 to_cleared).kept couple refl in
    let s : StepBy cleared_turn c4 (Ok Stuck) c4 = idles couple Stuck refl nobody_left (sticks (λ e. let z : ◌≡◌ {A = ℕ} 0 1 = cc in omega arith) (no_links c4.tables)) (refl, refl) in
    ((p.sticking c4 s).1 (view c4.tables) stays).0
    (_, _, _, communicates 2 1 0 0 (Line 4) End (pos 2) (by_input 3 refl refl) (record { line_number = 1; expression = number (pos 2); stands = refl; is_output = refl; has_value = refl }))

-- couple: an engine that joins at the first end answers moved where nothing can fire
abbrev eager_turn : Program → Tables → ℕ → Turn
eager_turn pg t p = turn pg (record { variables = t.variables; place = t.place; channel = t.channel; ended = λ q. true }) p

abbrev j1 : Machine
j1 = loaded_with couple (record { variables = λ x. pos 0; place = c1.tables.place; channel = λ c. empty; ended = λ q. true }) c1.held

abbrev j2 : Machine
j2 = loaded_with couple (mark j1.tables 0 (writer 1 (pos 2))) (lowered j1.held 1)

abbrev j3 : Machine
j3 = loaded_with couple (go (freed j2.tables 2) 2 (Line 3)) (readied (lowered j2.held 2) 2)

abbrev j4 : Machine
j4 = loaded_with couple (go (go (write (mark j3.tables 0 empty) 0 (pos 2)) 1 End) 2 (Line 4)) (all_ready (lowered j3.held 2) (1 ∷ (2 ∷ [])))

abbrev j5 : Machine
j5 = loaded_with couple (joined j4.tables 0 couple_two End) (readied (lowered j4.held 1) 0)

abbrev joined_calls : List Call
joined_calls = loaded couple 3 ∷ (stepped (Ok (Moved 0)) ∷ (stepped (Ok (Slept 1)) ∷ (stepped (Ok (Moved 2)) ∷ (stepped (Ok (Passed 2 0 (pos 2))) ∷ []))))

to_joined : Reached joins_early joined_calls j4
unfolding changed int_value truth_value value
to_joined =
    also {m = j3} {m' = j4} (stepped (Ok (Passed 2 0 (pos 2))))
    (also {m = j2} {m' = j3} (stepped (Ok (Moved 2)))
    (also {m = j1} {m' = j2} (stepped (Ok (Slept 1)))
    (also {m = fresh couple} {m' = j1} (stepped (Ok (Moved 0)))
    (begins (StepBy eager_turn) couple couple_formed)
    (turns couple 0 refl (lit< tt) (refl, refl)))
    (turns couple 1 refl (lit< tt) (refl, refl)))
    (turns couple 2 refl (lit< tt) (refl, refl)))
    (turns couple 2 refl (lit< tt) (refl, refl))

-- there process 0 holds, 1 is at its end, and 2 at its STOP
absent_above : (k : ℕ) → 3 ≤ k → j4.tables.place k ≡ Absent
absent_above k le =
    let n0 : k ≢ 0 = λ e. omega arith in
    let n1 : k ≢ 1 = λ e. omega arith in
    let n2 : k ≢ 2 = λ e. omega arith in
    simp changed_there

line_there : (p n : ℕ) → j4.tables.place p ≡ At (Line n) → n ≡ 4
unfolding changed
line_there zero n e = let z : ◌≡◌ {A = ℕ} 0 1 = cc in absurd (omega arith)
line_there (suc zero) n e = let z : ◌≡◌ {A = ℕ} 0 1 = cc in absurd (omega arith)
line_there (suc (suc zero)) n e = cc
line_there (suc (suc (suc p))) n e = let i = absent_above (suc (suc (suc p))) (omega arith) in let z : ◌≡◌ {A = ℕ} 0 1 = cc in absurd (omega arith)

stop_there : (p n : ℕ) (m : Node) → j4.tables.place p ≡ At (Line n) → couple.node n ≡ m → m ≡ stop
stop_there p n m e i = sym i ∙ ap couple.node (line_there p n e)

holder_there : (p n : ℕ) → j4.tables.place p ≡ Holding n → n ≡ 0
unfolding changed
holder_there zero n e = cc
holder_there (suc zero) n e = let z : ◌≡◌ {A = ℕ} 0 1 = cc in absurd (omega arith)
holder_there (suc (suc zero)) n e = let z : ◌≡◌ {A = ℕ} 0 1 = cc in absurd (omega arith)
holder_there (suc (suc (suc p))) n e = let i = absent_above (suc (suc (suc p))) (omega arith) in let z : ◌≡◌ {A = ℕ} 0 1 = cc in absurd (omega arith)

second_runs : j4.tables.place 2 ≡ At End → ⊥
unfolding changed
second_runs e = let z : ◌≡◌ {A = ℕ} 0 1 = cc in omega arith

nothing_joins : (ps : List ℕ) (l : Option Told) (s' : State) → Fires couple (view j4.tables) ps l s' → ⊥
nothing_joins ps l s' (assigns p n x e to v st nd val) = let i = stop_there p n (assignment x e to) st nd in let z : ◌≡◌ {A = ℕ} 0 1 = cc in omega arith
nothing_joins ps l s' (skips p n to st nd) = let i = stop_there p n (skip to) st nd in let z : ◌≡◌ {A = ℕ} 0 1 = cc in omega arith
nothing_joins ps l s' (tests p n e a b v st nd val) = let i = stop_there p n (test e a b) st nd in let z : ◌≡◌ {A = ℕ} 0 1 = cc in omega arith
nothing_joins ps l s' (communicates p q c x to to' v rc sn) = let i = stop_there q sn.line_number (output c sn.expression to') sn.stands sn.is_output in let z : ◌≡◌ {A = ℕ} 0 1 = cc in omega arith
nothing_joins ps l s' (links_in p c x to v (by_input n st nd) e) = let i = stop_there p n (input c x to) st nd in let z : ◌≡◌ {A = ℕ} 0 1 = cc in omega arith
nothing_joins ps l s' (links_in p c x to v (by_guard n gs b st nd vd i tr) e) = let j = stop_there p n (alt gs) st nd in let z : ◌≡◌ {A = ℕ} 0 1 = cc in omega arith
nothing_joins ps l s' (takes_skip p n gs e to st nd vd i tr) = let j = stop_there p n (alt gs) st nd in let z : ◌≡◌ {A = ℕ} 0 1 = cc in omega arith
nothing_joins ps l s' (passes_par p n to st nd) = let i = stop_there p n (par [] to) st nd in let z : ◌≡◌ {A = ℕ} 0 1 = cc in omega arith
nothing_joins ps l s' (starts_par p n b bs to st nd) = let i = stop_there p n (par (b ∷ bs) to) st nd in let z : ◌≡◌ {A = ℕ} 0 1 = cc in omega arith
nothing_joins ps l s' (joins p n bs to st nd al) =
    let n0 = holder_there p n st in
    let at_zero : couple.node 0 ≡ par bs to = sym (ap couple.node n0) ∙ nd in
    let same : couple_two ≡ bs = cc in
    second_runs (subst (All (λ b. j4.tables.place b.process ≡ At End)) (sym same) al).1.0

pub joins_early_lem : ¬ KeepsPromise joins_early
unfolding changed int_value truth_value value
joins_early_lem keeps =
    let p = (keeps joined_calls j4 to_joined).kept couple refl in
    let s : StepBy eager_turn j4 (Ok (Moved 1)) j5 = turns couple 1 refl (lit< tt) (refl, refl) in
    let f = moved_fires (p.meant (stepped (Ok (Moved 1))) j5 s) 1 refl in
    nothing_joins f.0 None (view j5.tables) f.1

pub shut_out : WrongShutOut
shut_out = (clears_writers_lem, joins_early_lem, sleeps_past_lem, stuck_early_lem, moves_nothing_lem)
