-- Steps that fire no rule cannot go on for long: each takes one process out of the queue that no such step puts back.
use Rattle.std.proofs.Common.{not, sym, refl, ap, ◌∙◌, subst, arith, Bool, List, None, Ok, Option, Result, Some, [], ◌&&◌, ◌+◌, ◌<◌, ◌∷◌, ◌≡◌, ◌≢◌, ◌≤◌, ◌⊎◌, cond, eqb, false, length, suc, true, zero, ℕ, ℤ, inl, inr}
use Rattle.std.proofs.lemmas.Bool.{and_from, and_parts, cases_Bool, cases_eq, cond_both, cond-true, eq-eqb, not_from_false, not-true}
use Rattle.rules.specs.Types.{Absent, Answer, At, End, Ended, Expression, Finished, Halted, Held, Holding, Incoming, Internal, Kind, Line, Moved, Outgoing, Passed, Place, Refusal, Slept, Standing, Stuck, Taken, Waits, int_value, truth_value}
use Rattle.rules.specs.Calls.{Gives, IdleAnswer, Machine, StepBy, after_turn, awaits, finishes, idles, no_program, sticks, turns}
use Rattle.rules.specs.Flowchart.{Branch, Guard, Node, Program, alt, assignment, input, input_guard, output, par, skip, skip_guard, stop, test}
use Rattle.rules.specs.Functions.{Any, In, changed}
use Rattle.rules.specs.History.{engine}
use Rattle.rules.specs.Primary.{leaves}
use Rattle.rules.specs.Promise.{Settles, StepsInARow, by_finishing, by_moving, by_passing, by_sticking, by_waiting, no_step, one_more}
use Rattle.rules.specs.Turns.{Choice, Record, Tables, Turn, after_value, all_valued, alt_turn, any_true, by_outside, by_skip, by_writer, choose, chooser, did, empty, end_turn, enlisted, go, guard_record, if_true, input_turn, internal_output, line_turn, link_output, mark, no_guard, no_rule, others_ended, output_turn, outside, par_turn, place_turn, reader, turn, unended, unruled, write, writer}
use Rattle.rules.specs.WellFormed.{WellFormed}
use Rattle.rules.proofs.Branches.{marks}
use Rattle.rules.proofs.Calls.{agree_turn}
use Rattle.rules.proofs.Changes.{changed_case, changed_here, changed_there}
use Rattle.rules.proofs.Counts.{Agree, count_of, held_ready}
use Rattle.rules.proofs.Enlist.{Calm, calm, calm_at, enlist_case}
use Rattle.rules.proofs.Sound.{ChoosesAt, Present, RecordOk, Sound}
use Rattle.rules.proofs.Turns.{Effect, Good, turn_good}

abbrev is_nothing : Choice → Bool
is_nothing no_guard = true
is_nothing unruled = false
is_nothing (by_skip to) = false
is_nothing (by_writer c x to q v) = false
is_nothing (by_outside c x to v) = false

nothing_is : (ch : Choice) → is_nothing ch ≡ true → ch ≡ no_guard
nothing_is no_guard e = refl
nothing_is unruled e = cc
nothing_is (by_skip to) e = cc
nothing_is (by_writer c x to q v) e = cc
nothing_is (by_outside c x to v) e = cc

-- the process stands at an ALT that takes a guard at its next turn
abbrev alive : Tables → ℕ → Node → Bool
alive t p (assignment x e to) = false
alive t p (skip to) = false
alive t p stop = false
alive t p (input c x to) = false
alive t p (output c e to) = false
alive t p (test e a b) = false
alive t p (par bs to) = false
alive t p (alt gs) = all_valued t.variables gs && not (is_nothing (choose t p gs))

abbrev alive_at : Program → Tables → ℕ → Standing → Bool
alive_at pg t p Absent = false
alive_at pg t p (Holding n) = false
alive_at pg t p (At (Line n)) = alive t p (pg.node n)
alive_at pg t p (At End) = false

abbrev lively : Program → Tables → ℕ → Bool
lively pg t p = alive_at pg t p (t.place p)

record Settled (pg : Program) (t : Tables) (p : ℕ) (t' : Tables) (rs : List ℕ) : Type 0 where
  same_vars : t'.variables ≡ t.variables
  same_place : t'.place ≡ t.place
  empty_back : (c : ℕ) → t'.channel c ≡ empty → t.channel c ≡ empty
  chooser_back : (c q : ℕ) → q ≢ p → t'.channel c ≡ chooser q → t.channel c ≡ chooser q
  dull : lively pg t p ≡ false
  woken : (q : ℕ) → In q rs → (c : ℕ) × (v : ℤ) × (t.channel c ≡ chooser q) × (t'.channel c ≡ writer p v) × (q ≢ p)

-- the answer of a turn that fires no rule
abbrev Quiet : Answer → Type 0
Quiet (Halted p) = Unit {0}
Quiet (Moved p) = ⊥
Quiet (Slept p) = Unit {0}
Quiet (Passed p c v) = ⊥
Quiet (Ended p) = Unit {0}
Quiet Finished = ⊥
Quiet Waits = ⊥
Quiet Stuck = ⊥
Quiet (Taken p c v) = ⊥
Quiet (Held c v) = ⊥

-- a turn that fires no rule settles its process
abbrev Calmly : Program → Tables → ℕ → Turn → Type 0
Calmly pg t p no_rule = Unit {0}
Calmly pg t p (did a t' rs) = Quiet a → Settled pg t p t' rs

module _ (pg : Program) (t : Tables) (r : ℕ → Bool) (so : Sound pg t r) (p : ℕ) where
  same_records : (e : ℕ → Bool) → lively pg t p ≡ false → Settled pg t p (record { variables = t.variables; place = t.place; channel = t.channel; ended = e }) []
  same_records e d = record { same_vars = refl; same_place = refl; empty_back = λ c h. h; chooser_back = λ c q ne h. h; dull = d; woken = λ q i. elim i [ ] }

  module _ (n : ℕ) (stands : t.place p ≡ At (Line n)) where
    lively_is : (m : Node) → pg.node n ≡ m → lively pg t p ≡ alive t p m
    lively_is m e = ap (alive_at pg t p) stands ∙ ap (alive t p) e

    marked : (c : ℕ) (k : Record) (rs : List ℕ) → k ≢ empty → ((q : ℕ) → k ≢ chooser q) → lively pg t p ≡ false → ((q : ℕ) → In q rs → (d : ℕ) × (v : ℤ) × (t.channel d ≡ chooser q) × (changed t.channel c k d ≡ writer p v) × (q ≢ p)) → Settled pg t p (mark t c k) rs
    marked c k rs ne nc d w =
        record {
          same_vars = refl;
          same_place = refl;
          empty_back = λ x h. changed_case t.channel c k x (λ a. a ≡ empty → t.channel x ≡ empty) (λ i j. absurd (ne j)) (λ i j. j) h;
          chooser_back = λ x q u h. changed_case t.channel c k x (λ a. a ≡ chooser q → t.channel x ≡ chooser q) (λ i j. absurd (nc q j)) (λ i j. j) h;
          dull = d;
          woken = w;
        }

    halt_calm : (m : Node) → pg.node n ≡ m → alive t p m ≡ false → Calmly pg t p (did (Halted p) t [])
    halt_calm m nd a i = same_records t.ended (lively_is m nd ∙ a)

    assign_calm : (x : ℕ) (e : Expression) (to : Place) → pg.node n ≡ assignment x e to → (m : Option ℤ) → Calmly pg t p (after_value m t p (λ v. did (Moved p) (go (write t x v) p to) (p ∷ [])))
    assign_calm x e to nd None = halt_calm (assignment x e to) nd refl
    assign_calm x e to nd (Some v) = λ i. elim i [ ]

    test_calm : (e : Expression) (a b : Place) → pg.node n ≡ test e a b → (m : Option Bool) → Calmly pg t p (after_value m t p (λ v. did (Moved p) (go t p (cond v a b)) (p ∷ [])))
    test_calm e a b nd None = halt_calm (test e a b) nd refl
    test_calm e a b nd (Some v) = λ i. elim i [ ]

    input_calm : (c x : ℕ) (to : Place) → pg.node n ≡ input c x to → (k : Record) → Calmly pg t p (input_turn pg t p c x to k)
    input_calm c x to nd empty = λ i. marked c (reader p) [] (λ h. let z : ◌≡◌ {A = ℕ} 0 1 = cc in omega arith) (λ q h. let z : ◌≡◌ {A = ℕ} 0 1 = cc in omega arith) (lively_is (input c x to) nd) (λ q h. elim h [ ])
    input_calm c x to nd (reader q) = tt
    input_calm c x to nd (writer q v) = λ i. elim i [ ]
    input_calm c x to nd (chooser q) = tt
    input_calm c x to nd (outside v) = λ i. elim i [ ]

    module _ (c : ℕ) (e : Expression) (to : Place) (v : ℤ) (nd : pg.node n ≡ output c e to) where
      sleeps : Calmly pg t p (did (Slept p) (mark t c (writer p v)) [])
      sleeps i = marked c (writer p v) [] (λ h. let z : ◌≡◌ {A = ℕ} 0 1 = cc in omega arith) (λ q h. let z : ◌≡◌ {A = ℕ} 0 1 = cc in omega arith) (lively_is (output c e to) nd) (λ q h. elim h [ ])

      internal_calm : (k : Record) → t.channel c ≡ k → Calmly pg t p (internal_output pg t p c v to k)
      internal_calm empty h = sleeps
      internal_calm (reader q) h = λ i. elim i [ ]
      internal_calm (writer q w) h = tt
      internal_calm (chooser q) h = λ i.
          let a : ChoosesAt pg t.place t.variables q c = subst (RecordOk pg t.place t.variables r c) h (so.records c) in
          marked c (writer p v) (q ∷ []) (λ j. let z : ◌≡◌ {A = ℕ} 0 1 = cc in omega arith) (λ x j. let z : ◌≡◌ {A = ℕ} 0 1 = cc in omega arith) (lively_is (output c e to) nd)
          (λ x j. (c, v, h ∙ ap chooser (sym (only x q j)), changed_here t.channel c (writer p v), (λ y. let u = a.stands in let w = a.is_alt in let o = only x q j in let z : ◌≡◌ {A = ℕ} 0 1 = cc in omega arith)))
        where
          only : (x y : ℕ) → In x (y ∷ []) → x ≡ y
          only x y (inl i) = i
          only x y (inr i) = elim i [ ]
      internal_calm (outside w) h = tt

      link_calm : (k : Record) → Calmly pg t p (link_output t p c v k)
      link_calm empty = sleeps
      link_calm (reader q) = tt
      link_calm (writer q w) = tt
      link_calm (chooser q) = tt
      link_calm (outside w) = tt

      kind_calm : (k : Kind) → Calmly pg t p (output_turn pg t p c v to k)
      kind_calm Internal = internal_calm (t.channel c) refl
      kind_calm (Outgoing l) = link_calm (t.channel c)
      kind_calm (Incoming l) = tt

    output_calm : (c : ℕ) (e : Expression) (to : Place) → pg.node n ≡ output c e to → (m : Option ℤ) → Calmly pg t p (after_value m t p (λ v. output_turn pg t p c v to (pg.kind c)))
    output_calm c e to nd None = halt_calm (output c e to) nd refl
    output_calm c e to nd (Some v) = kind_calm c e to v nd (pg.kind c)

    alt_calm : (gs : List Guard) → pg.node n ≡ alt gs → (ch : Choice) → choose t p gs ≡ ch → Calmly pg t p (alt_turn pg t p gs ch)
    alt_calm gs nd no_guard e =
        cond_both (any_true t.variables gs) (did (Slept p) (enlisted t p gs) []) (did (Halted p) t []) (Calmly pg t p)
        (λ a i. record {
          same_vars = refl;
          same_place = refl;
          empty_back = λ d h. enlist_case t.variables t.channel p gs d (λ k. k ≡ empty → t.channel d ≡ empty) (λ b x to j tr l. let z : ◌≡◌ {A = ℕ} 0 1 = cc in absurd (omega arith)) (λ l. l) h;
          chooser_back = λ d q ne h. enlist_case t.variables t.channel p gs d (λ k. k ≡ chooser q → t.channel d ≡ chooser q) (λ b x to j tr l. absurd (ne (let s : q ≡ p = cc in s))) (λ l. l) h;
          dull = quiet;
          woken = λ q j. elim j [ ];
        })
        (λ a. λ i. same_records t.ended quiet)
      where
        both_off : (b : Bool) → (b && false) ≡ false
        both_off true = refl
        both_off false = refl

        quiet : lively pg t p ≡ false
        quiet = lively_is (alt gs) nd ∙ (ap (λ ch. all_valued t.variables gs && not (is_nothing ch)) e ∙ both_off (all_valued t.variables gs))
    alt_calm gs nd unruled e = tt
    alt_calm gs nd (by_skip to) e = λ i. elim i [ ]
    alt_calm gs nd (by_writer c x to q v) e = λ i. elim i [ ]
    alt_calm gs nd (by_outside c x to v) e = λ i. elim i [ ]

    par_calm : (bs : List Branch) (to : Place) → Calmly pg t p (par_turn t p n to bs)
    par_calm [] to = λ i. elim i [ ]
    par_calm (b ∷ bs) to = λ i. elim i [ ]

    line_calm : (m : Node) → pg.node n ≡ m → Calmly pg t p (line_turn pg t p n m)
    line_calm (assignment x e to) nd = assign_calm x e to nd (int_value t.variables e)
    line_calm (skip to) nd = λ i. elim i [ ]
    line_calm stop nd = halt_calm stop nd refl
    line_calm (input c x to) nd = input_calm c x to nd (t.channel c)
    line_calm (output c e to) nd = output_calm c e to nd (int_value t.variables e)
    line_calm (test e a b) nd = test_calm e a b nd (truth_value t.variables e)
    line_calm (par bs to) nd = par_calm bs to
    line_calm (alt gs) nd =
        cond_both (all_valued t.variables gs) (alt_turn pg t p gs (choose t p gs)) (did (Halted p) t []) (Calmly pg t p)
        (λ vd. alt_calm gs nd (choose t p gs) refl)
        (λ vd. halt_calm (alt gs) nd (ap (λ b. b && not (is_nothing (choose t p gs))) vd))

  end_calm : t.place p ≡ At End → (m : Node) → Calmly pg t p (end_turn t p (pg.parent p) m)
  end_calm e (assignment x f to) = tt
  end_calm e (skip to) = tt
  end_calm e stop = tt
  end_calm e (input c x to) = tt
  end_calm e (output c f to) = tt
  end_calm e (test f a b) = tt
  end_calm e (alt gs) = tt
  end_calm e (par bs to) =
      cond_both (others_ended p t.ended bs)
      (did (Moved p) (record { variables = t.variables; place = changed (leaves bs t.place) (pg.parent p) (At to); channel = t.channel; ended = unended bs t.ended }) (pg.parent p ∷ []))
      (did (Ended p) (record { variables = t.variables; place = t.place; channel = t.channel; ended = changed t.ended p true }) []) (Calmly pg t p)
      (λ h. λ i. elim i [ ]) (λ h. λ i. same_records (changed t.ended p true) (ap (alive_at pg t p) e))

  turn_calm : Calmly pg t p (turn pg t p)
  turn_calm = at_place (t.place p) refl
    where
      at_place : (s : Standing) → t.place p ≡ s → Calmly pg t p (place_turn pg t p s)
      at_place Absent e = tt
      at_place (Holding n) e = tt
      at_place (At (Line n)) e = line_calm n e (pg.node n) refl
      at_place (At End) e =
          cond_both (eqb p 0) (did (Ended p) (record { variables = t.variables; place = t.place; channel = t.channel; ended = changed t.ended p true }) []) (end_turn t p (pg.parent p) (pg.node (pg.home p))) (Calmly pg t p)
          (λ h i. same_records (changed t.ended p true) (ap (alive_at pg t p) e)) (λ h. end_calm e (pg.node (pg.home p)))

-- counting
count : (ℕ → Bool) → ℕ → ℕ
count f zero = 0
count f (suc k) = count_of (f k) + count f k

count_of_le : (a b : Bool) → (a ≡ true → b ≡ true) → count_of a ≤ count_of b
count_of_le true true h = omega arith
count_of_le true false h = let e = h refl in let z : ◌≡◌ {A = ℕ} 0 1 = cc in absurd (omega arith)
count_of_le false true h = omega arith
count_of_le false false h = omega arith

count_le : (f g : ℕ → Bool) → ((j : ℕ) → f j ≡ true → g j ≡ true) → (k : ℕ) → count f k ≤ count g k
unfolding count
count_le f g h zero = omega arith
count_le f g h (suc k) = let a = count_of_le (f k) (g k) (h k) in let b = count_le f g h k in omega arith

count_lt : (f g : ℕ → Bool) → ((j : ℕ) → f j ≡ true → g j ≡ true) → (p : ℕ) → f p ≡ false → g p ≡ true → (k : ℕ) → p < k → count f k < count g k
unfolding count
count_lt f g h p ef eg zero lt = absurd (omega arith)
count_lt f g h p ef eg (suc k) lt = which (cases_eq p k) (λ l. count_lt f g h p ef eg k l)
  where
    which : (p ≡ k) ⊎ (p ≡ k → ⊥) → (p < k → count f k < count g k) → count f (suc k) < count g (suc k)
    which (inl e) again =
        let a : count_of (f k) ≡ 0 = ap count_of (ap f (sym e) ∙ ef) in
        let b : count_of (g k) ≡ 1 = ap count_of (ap g (sym e) ∙ eg) in
        let c = count_le f g h k in omega arith
    which (inr ne) again =
        let a = count_of_le (f k) (g k) (h k) in
        let c = again (omega arith) in omega arith

count_of_one : (b : Bool) → count_of b ≤ 1
count_of_one true = omega arith
count_of_one false = omega arith

count_most : (f : ℕ → Bool) (k : ℕ) → count f k ≤ k
unfolding count
count_most f zero = omega arith
count_most f (suc k) = let a = count_of_one (f k) in let b = count_most f k in omega arith

-- who is ready, and would fire nothing by an ALT's guard
abbrev lagging : Program → Tables → (ℕ → Bool) → ℕ → Bool
lagging pg t r p = r p && not (lively pg t p)

marks_from : (rs : List ℕ) (r : ℕ → Bool) (q : ℕ) → marks r rs q ≡ true → In q rs ⊎ (r q ≡ true)
marks_from [] r q h = inr h
marks_from (p ∷ rs) r q h = which (marks_from rs (changed r p true) q h)
  where
    which : In q rs ⊎ (changed r p true q ≡ true) → ((q ≡ p) ⊎ In q rs) ⊎ (r q ≡ true)
    which (inl i) = inl (inr i)
    which (inr e) = changed_case r p true q (λ b. b ≡ true → ((q ≡ p) ⊎ In q rs) ⊎ (r q ≡ true)) (λ i j. inl (inl i)) (λ i j. inr j) e

-- where each TRUE guard's record is empty or the process's own, the ALT takes none
calm_nothing : (t : Tables) (p : ℕ) (gs : List Guard) → Calm t.variables t.channel p gs → choose t p gs ≡ no_guard
calm_nothing t p [] h = refl
calm_nothing t p (skip_guard b to ∷ gs) h = by_value (truth_value t.variables b) refl (calm_nothing t p gs h.1)
  where
    by_value : (m : Option Bool) → truth_value t.variables b ≡ m → choose t p gs ≡ no_guard → if_true m (by_skip to) (choose t p gs) ≡ no_guard
    by_value None e i = i
    by_value (Some true) e i = absurd (h.0 e)
    by_value (Some false) e i = i
calm_nothing t p (input_guard b c x to ∷ gs) h = by_value (truth_value t.variables b) refl (calm_nothing t p gs h.1)
  where
    by_value : (m : Option Bool) → truth_value t.variables b ≡ m → choose t p gs ≡ no_guard → if_true m (guard_record p c x to (t.channel c) (choose t p gs)) (choose t p gs) ≡ no_guard
    by_value None e i = i
    by_value (Some true) e i = by_record (h.0 e)
      where
        by_record : (t.channel c ≡ empty) ⊎ (t.channel c ≡ chooser p) → guard_record p c x to (t.channel c) (choose t p gs) ≡ no_guard
        by_record (inl k) = ap (λ a. guard_record p c x to a (choose t p gs)) k ∙ i
        by_record (inr k) = ap (λ a. guard_record p c x to a (choose t p gs)) k ∙ (cond-true (eqb p p) (choose t p gs) unruled (eq-eqb p p refl) ∙ i)
    by_value (Some false) e i = i

module _ (pg : Program) (t : Tables) (r : ℕ → Bool) (so : Sound pg t r) (p : ℕ) (t' : Tables) (rs : List ℕ) (se : Settled pg t p t' rs) where
  -- an ALT that takes a guard still does
  calm_back : (q : ℕ) → q ≢ p → (gs : List Guard) → Calm t.variables t'.channel q gs → Calm t.variables t.channel q gs
  calm_back q ne [] h = tt
  calm_back q ne (skip_guard b to ∷ gs) h = (h.0, calm_back q ne gs h.1)
  calm_back q ne (input_guard b c x to ∷ gs) h = ((λ e. which (h.0 e)), calm_back q ne gs h.1)
    where
      which : (t'.channel c ≡ empty) ⊎ (t'.channel c ≡ chooser q) → (t.channel c ≡ empty) ⊎ (t.channel c ≡ chooser q)
      which (inl i) = inl (se.empty_back c i)
      which (inr i) = inr (se.chooser_back c q ne i)

  dead_back : (q : ℕ) → q ≢ p → (m : Node) → alive t' q m ≡ false → alive t q m ≡ false
  dead_back q ne (assignment x e to) h = h
  dead_back q ne (skip to) h = h
  dead_back q ne stop h = h
  dead_back q ne (input c x to) h = h
  dead_back q ne (output c e to) h = h
  dead_back q ne (test e a b) h = h
  dead_back q ne (par bs to) h = h
  dead_back q ne (alt gs) h = which (cases_Bool (all_valued t.variables gs)) (cases_Bool (is_nothing (choose t' q gs)))
    where
      which : (all_valued t.variables gs ≡ true) ⊎ (all_valued t.variables gs ≡ false) → (is_nothing (choose t' q gs) ≡ true) ⊎ (is_nothing (choose t' q gs) ≡ false) → alive t q (alt gs) ≡ false
      which (inr vf) k = ap (λ b. b && not (is_nothing (choose t q gs))) vf
      which (inl vt) (inr k) =
          let a : all_valued t'.variables gs ≡ true = ap (λ s. all_valued s gs) se.same_vars ∙ vt in
          let b : alive t' q (alt gs) ≡ true = and_from (all_valued t'.variables gs) (not (is_nothing (choose t' q gs))) a (not_from_false (is_nothing (choose t' q gs)) k) in
          let z : ◌≡◌ {A = ℕ} 0 1 = cc in absurd (omega arith)
      which (inl vt) (inl k) =
          let c' = calm t' q gs (nothing_is (choose t' q gs) k) in
          let c1 : Calm t.variables t'.channel q gs = subst (λ s. Calm s t'.channel q gs) se.same_vars c' in
          let n : choose t q gs ≡ no_guard = calm_nothing t q gs (calm_back q ne gs c1) in
          let f : (all_valued t.variables gs && not (is_nothing no_guard)) ≡ false = both_off (all_valued t.variables gs) in
          ap (λ ch. all_valued t.variables gs && not (is_nothing ch)) n ∙ f
        where
          both_off : (b : Bool) → (b && false) ≡ false
          both_off true = refl
          both_off false = refl

  lively_back : (q : ℕ) → q ≢ p → lively pg t' q ≡ false → lively pg t q ≡ false
  lively_back q ne h = at_place (t.place q) (ap (λ f. alive_at pg t' q (f q)) (sym se.same_place) ∙ h)
    where
      at_place : (s : Standing) → alive_at pg t' q s ≡ false → alive_at pg t q s ≡ false
      at_place Absent i = refl
      at_place (Holding n) i = refl
      at_place (At (Line n)) i = dead_back q ne (pg.node n) i
      at_place (At End) i = refl

  -- a woken chooser takes a guard
  woken_alive : (q : ℕ) → In q rs → lively pg t' q ≡ true
  woken_alive q i =
      ap (λ f. alive_at pg t' q (f q)) se.same_place ∙ (ap (alive_at pg t' q) a.stands ∙ (ap (alive t' q) a.is_alt ∙
      and_from (all_valued t'.variables a.guards) (not (is_nothing (choose t' q a.guards))) (ap (λ s. all_valued s a.guards) se.same_vars ∙ a.all_have_values) (not_from_false (is_nothing (choose t' q a.guards)) (open_now (cases_Bool (is_nothing (choose t' q a.guards)))))))
    where
      w : (c : ℕ) × (v : ℤ) × (t.channel c ≡ chooser q) × (t'.channel c ≡ writer p v) × (q ≢ p)
      w = se.woken q i

      a : ChoosesAt pg t.place t.variables q w.0
      a = subst (RecordOk pg t.place t.variables r w.0) w.2 (so.records w.0)

      clash : (t'.channel w.0 ≡ empty) ⊎ (t'.channel w.0 ≡ chooser q) → ⊥
      clash (inl e) = let u = w.3 in let z : ◌≡◌ {A = ℕ} 0 1 = cc in omega arith
      clash (inr e) = let u = w.3 in let z : ◌≡◌ {A = ℕ} 0 1 = cc in omega arith

      open_now : (is_nothing (choose t' q a.guards) ≡ true) ⊎ (is_nothing (choose t' q a.guards) ≡ false) → is_nothing (choose t' q a.guards) ≡ false
      open_now (inr e) = e
      open_now (inl e) =
          let c' = calm t' q a.guards (nothing_is (choose t' q a.guards) e) in
          absurd (clash (calm_at t'.variables t'.channel q a.guards a.condition w.0 a.variable_number a.to c' a.guard_in (ap (λ z. truth_value z a.condition) se.same_vars ∙ a.guard_true)))

  r' : ℕ → Bool
  r' = marks (changed r p false) rs

  not_p : r' p ≡ true → ⊥
  unfolding r'
  not_p h = which (marks_from rs (changed r p false) p h)
    where
      which : In p rs ⊎ (changed r p false p ≡ true) → ⊥
      which (inl i) = (se.woken p i).4 refl
      which (inr e) = let u = changed_here r p false in let z : ◌≡◌ {A = ℕ} 0 1 = cc in omega arith

  counted : (j : ℕ) → lagging pg t' r' j ≡ true → lagging pg t r j ≡ true
  unfolding r'
  counted j h = which (cases_eq j p) (marks_from rs (changed r p false) j x.0)
    where
      x : (r' j ≡ true) × (not (lively pg t' j) ≡ true)
      x = and_parts (r' j) (not (lively pg t' j)) h

      which : (j ≡ p) ⊎ (j ≡ p → ⊥) → In j rs ⊎ (changed r p false j ≡ true) → lagging pg t r j ≡ true
      which (inl e) k = absurd (not_p (subst (λ y. r' y ≡ true) e x.0))
      which (inr ne) (inl i) = let u = woken_alive j i in let w = not-true (lively pg t' j) x.1 in let z : ◌≡◌ {A = ℕ} 0 1 = cc in absurd (omega arith)
      which (inr ne) (inr e) =
          and_from (r j) (not (lively pg t j)) (sym (changed_there r p false j ne) ∙ e) (not_from_false (lively pg t j) (lively_back j ne (not-true (lively pg t' j) x.1)))

  falls : r p ≡ true → p < pg.processes → count (lagging pg t' (marks (changed r p false) rs)) pg.processes < count (lagging pg t r) pg.processes
  unfolding r'
  falls rp lt =
      count_lt (lagging pg t' r') (lagging pg t r) counted p (off (cases_Bool (lagging pg t' r' p))) (and_from (r p) (not (lively pg t p)) rp (not_from_false (lively pg t p) se.dull)) pg.processes lt
    where
      off : (lagging pg t' r' p ≡ true) ⊎ (lagging pg t' r' p ≡ false) → lagging pg t' r' p ≡ false
      off (inr e) = e
      off (inl e) = absurd (not_p (and_parts (r' p) (not (lively pg t' p)) e).0)

-- a turn's answer settles, or the turn was quiet
settles_or_quiet : (pg : Program) (t t' : Tables) (a : Answer) → Effect pg t a t' → Settles (Ok a) ⊎ Quiet a
settles_or_quiet pg t t' (Halted p) e = inr tt
settles_or_quiet pg t t' (Moved p) e = inl (by_moving p)
settles_or_quiet pg t t' (Slept p) e = inr tt
settles_or_quiet pg t t' (Passed p c v) e = inl (by_passing p c v)
settles_or_quiet pg t t' (Ended p) e = inr tt
settles_or_quiet pg t t' Finished e = elim e [ ]
settles_or_quiet pg t t' Waits e = elim e [ ]
settles_or_quiet pg t t' Stuck e = elim e [ ]
settles_or_quiet pg t t' (Taken p c v) e = elim e [ ]
settles_or_quiet pg t t' (Held c v) e = elim e [ ]

idle_settles : {pg : Program} {t : Tables} {a : Answer} → IdleAnswer pg t a → Settles (Ok a)
idle_settles (finishes e) = by_finishing
idle_settles (awaits e o) = by_waiting
idle_settles (sticks e o) = by_sticking

-- of some steps in a row one settles, or they are no more than the laggards
module _ (pg : Program) (wf : WellFormed pg) where
  abbrev Bounded : Machine → List (Result Answer Refusal) → Type 0
  Bounded m rs = m.program ≡ Some pg → (r : ℕ → Bool) → Agree m.held r → Sound pg m.tables r → Any Settles rs ⊎ (length rs ≤ count (lagging pg m.tables r) pg.processes)

  turn_bounded : (m m' : Machine) (x : Result Answer Refusal) (rs : List (Result Answer Refusal)) → m.program ≡ Some pg → (r : ℕ → Bool) → Agree m.held r → Sound pg m.tables r →
      (p : ℕ) → 0 < m.held p → (tn : Turn) → turn pg m.tables p ≡ tn → Gives (after_turn m p tn) x m' → Bounded m' rs → Any Settles (x ∷ rs) ⊎ (length (x ∷ rs) ≤ count (lagging pg m.tables r) pg.processes)
  turn_bounded m m' x rs is r ag so p lt no_rule e g again =
      absurd (subst (Good pg m.tables r p) e (turn_good pg wf m.tables r so p (held_ready m.held r ag p lt)))
  turn_bounded m m' x rs is r ag so p lt (did a t' qs) e g again = which (settles_or_quiet pg m.tables t' a gd.1)
    where
      rd : r p ≡ true
      rd = held_ready m.held r ag p lt

      gd : Good pg m.tables r p (did a t' qs)
      gd = subst (Good pg m.tables r p) e (turn_good pg wf m.tables r so p (held_ready m.held r ag p lt))

      which : Settles (Ok a) ⊎ Quiet a → Any Settles (x ∷ rs) ⊎ (length (x ∷ rs) ≤ count (lagging pg m.tables r) pg.processes)
      which (inl st) = inl (inl (subst Settles (sym g.0) st))
      which (inr q) = later (again (ap (λ k. k.program) g.1 ∙ is) r' (subst (λ k. Agree k.held r') (sym g.1) (agree_turn pg wf t' m.held r p qs ag rd gd.0)) (subst (λ k. Sound pg k.tables r') (sym g.1) gd.0))
        where
          r' : ℕ → Bool
          r' = marks (changed r p false) qs

          small : p < pg.processes
          small = let w = so.ready_at p rd in so.small p (subst Present (sym w.1) tt)

          settled : Settled pg m.tables p t' qs
          settled = subst (Calmly pg m.tables p) e (turn_calm pg m.tables r so p) q

          later : Any Settles rs ⊎ (length rs ≤ count (lagging pg m'.tables r') pg.processes) → Any Settles (x ∷ rs) ⊎ (length (x ∷ rs) ≤ count (lagging pg m.tables r) pg.processes)
          later (inl s) = inl (inr s)
          later (inr le) =
              let f = falls pg m.tables r so p t' qs settled rd small in
              let le' : length rs ≤ count (lagging pg t' (marks (changed r p false) qs)) pg.processes = subst (λ k. length rs ≤ count (lagging pg k.tables (marks (changed r p false) qs)) pg.processes) g.1 le in
              inr (omega arith)

  bounded : {m : Machine} {rs : List (Result Answer Refusal)} → StepsInARow engine m rs → Bounded m rs
  bounded no_step is r ag so = inr (omega arith)
  bounded (one_more {m = m} {m' = m'} {r = x} {rs = rs} s u) is r ag so = one s (bounded u)
    where
      one : StepBy turn m x m' → Bounded m' rs → Any Settles (x ∷ rs) ⊎ (length (x ∷ rs) ≤ count (lagging pg m.tables r) pg.processes)
      one (no_program e g) again = let z : ◌≡◌ {A = ℕ} 0 1 = cc in absurd (omega arith)
      one (turns pg' p e lt g) again =
          let same : pg' ≡ pg = cc in
          turn_bounded m m' x rs is r ag so p lt (turn pg m.tables p) refl (subst (λ y. Gives (after_turn m p (turn y m.tables p)) x m') same g) again
      one (idles pg' a e z i g) again = inl (inl (subst Settles (sym g.0) (idle_settles i)))

  -- of processes + 1 steps in a row one settles
  pub soon_settles : (m : Machine) → m.program ≡ Some pg → (r : ℕ → Bool) → Agree m.held r → Sound pg m.tables r →
      (rs : List (Result Answer Refusal)) → StepsInARow engine m rs → length rs ≡ pg.processes + 1 → Any Settles rs
  soon_settles m is r ag so rs u e = which (bounded u is r ag so)
    where
      which : Any Settles rs ⊎ (length rs ≤ count (lagging pg m.tables r) pg.processes) → Any Settles rs
      which (inl s) = s
      which (inr le) = let most = count_most (lagging pg m.tables r) pg.processes in absurd (omega arith)
