-- PAR, and the end of a branch that is not the last.
use Rattle.std.proofs.Common.{sym, refl, ap, ◌∙◌, subst, arith, Bool, List, ◌<◌, ◌∷◌, ◌≡◌, ◌≢◌, ◌⊎◌, false, map, true, ℕ, inl, inr}
use Rattle.rules.specs.Types.{At, End, Holding, Line, Place, Standing, Store}
use Rattle.rules.specs.Flowchart.{Branch, Program, par}
use Rattle.rules.specs.Functions.{All, In, changed}
use Rattle.rules.specs.Primary.{starts}
use Rattle.rules.specs.Turns.{Record, Tables, chooser, empty, outside, reader, writer}
use Rattle.rules.specs.WellFormed.{BranchOf, Inside, WellFormed}
use Rattle.rules.proofs.Branches.{NotIn, all_in, marks, marks_case, starts_case}
use Rattle.rules.proofs.Changes.{changed_case, changed_here}
use Rattle.rules.proofs.Ops.{differ}
use Rattle.rules.proofs.Sound.{Names, Present, RecordOk, Sound}

abbrev pub with_places : Tables → (ℕ → Standing) → (ℕ → Bool) → Tables
with_places t f e = record { variables = t.variables; place = f; channel = t.channel; ended = e }

-- what a record says, where the process that it names stays
pub record_place : (pg : Program) (f g : ℕ → Standing) (s : Store) (r r' : ℕ → Bool) (c : ℕ) (k : Record) →
    ((q n : ℕ) → f q ≡ At (Line n) → g q ≡ f q) → ((q n : ℕ) → r q ≡ false → f q ≡ At (Line n) → r' q ≡ false) → RecordOk pg f s r c k → RecordOk pg g s r' c k
record_place pg f g s r r' c empty h low o = tt
record_place pg f g s r r' c (reader p) h low o =
    let a = o.1 in
    (low p a.line_number o.0 a.stands, record { line_number = a.line_number; variable_number = a.variable_number; to = a.to; stands = h p a.line_number a.stands ∙ a.stands; is_input = a.is_input })
record_place pg f g s r r' c (writer p v) h low o =
    let a = o.1 in
    (low p a.line_number o.0 a.stands, record { line_number = a.line_number; expression = a.expression; to = a.to; stands = h p a.line_number a.stands ∙ a.stands; is_output = a.is_output; has_value = a.has_value })
record_place pg f g s r r' c (chooser p) h low a =
    record {
      line_number = a.line_number;
      guards = a.guards;
      condition = a.condition;
      variable_number = a.variable_number;
      to = a.to;
      stands = h p a.line_number a.stands ∙ a.stands;
      is_alt = a.is_alt;
      all_have_values = a.all_have_values;
      guard_in = a.guard_in;
      guard_true = a.guard_true;
    }
record_place pg f g s r r' c (outside v) h low o = o

module _ (pg : Program) (wf : WellFormed pg) (t : Tables) (r : ℕ → Bool) (so : Sound pg t r) where
  present_at : (q : ℕ) (s : Standing) → t.place q ≡ s → Present s → Present (t.place q)
  present_at q s e h = subst Present (sym e) h

  -- p has ended, and is not the last of its PAR
  module _ (p : ℕ) (stands : t.place p ≡ At End)
      (not_last : (h n : ℕ) (bs : List Branch) (to : Place) → t.place h ≡ Holding n → pg.node n ≡ par bs to → ¬ All (λ b. changed t.ended p true b.process ≡ true) bs) where
    pub ended_op : Sound pg (with_places t t.place (changed t.ended p true)) (changed r p false)
    ended_op = record {
      rooted = so.rooted;
      small = so.small;
      owned = so.owned;
      holder = so.holder;
      up = so.up;
      unjoined = not_last;
      ready_at = λ q h. so.ready_at q (changed_case r p false q (λ a. a ≡ true → r q ≡ true) (λ e i. cc) (λ e i. i) h);
      records = λ c. record_place pg t.place t.place t.variables r (changed r p false) c (t.channel c) (λ q n e. refl) (λ q n h e. changed_case r p false q (λ a. a ≡ false) (λ i. refl) (λ i. h)) (so.records c);
      asleep = λ q n a e. so.asleep q n (changed_case r p false q (λ b. b ≡ false → r q ≡ false) (λ i j. cc) (λ i j. j) a) e;
      ended_is = λ q h.
          changed_case t.ended p true q (λ a. a ≡ true → (changed r p false q ≡ false) × (t.place q ≡ At End))
          (λ e i. (changed_case r p false q (λ a. a ≡ false) (λ j. refl) (λ j. absurd (j e)), ap t.place e ∙ stands))
          (λ e i. let o = so.ended_is q i in (changed_case r p false q (λ a. a ≡ false) (λ j. refl) (λ j. o.0), o.1)) h;
      asleep_ended = λ q a e.
          changed_case t.ended p true q (λ b. b ≡ true) (λ i. refl)
          (λ i. so.asleep_ended q (changed_case r p false q (λ b. b ≡ false → r q ≡ false) (λ j k. absurd (i j)) (λ j k. k) a) e);
    }

  -- p starts the branches of its PAR
  module _ (p n : ℕ) (b₀ : Branch) (bs₀ : List Branch) (to : Place) (ready : r p ≡ true) (stands : t.place p ≡ At (Line n)) (is_par : pg.node n ≡ par (b₀ ∷ bs₀) to) where
    new : ℕ → Standing
    new = starts (b₀ ∷ bs₀) (changed t.place p (Holding n))

    r' : ℕ → Bool
    r' = marks (changed r p false) (map (λ b. b.process) (b₀ ∷ bs₀))

    of : (b : Branch) → In b (b₀ ∷ bs₀) → BranchOf pg n b
    of b i = all_in (BranchOf pg n) (b₀ ∷ bs₀) b (wf.branches n (b₀ ∷ bs₀) to is_par) i

    own : pg.owner n ≡ p
    own = so.owned p n stands

    -- the branches were absent
    gone : (b : Branch) → In b (b₀ ∷ bs₀) → Present (t.place b.process) → ⊥
    gone b i h =
        let o = of b i in
        let lt = o.later in
        let pos : 0 < b.process = omega arith in
        let e1 = so.up b.process h pos in
        let e2 = o.parent_is in
        let e3 = own in
        let z : ◌≡◌ {A = ℕ} 0 1 = cc in omega arith

    p_out : NotIn p (b₀ ∷ bs₀)
    p_out b i e = gone b i (subst (λ q. Present (t.place q)) e (subst Present (sym stands) tt))

    new_p : new p ≡ Holding n
    unfolding new
    new_p = starts_case (b₀ ∷ bs₀) (changed t.place p (Holding n)) p (λ a. a ≡ Holding n) (λ b i e. absurd (p_out b i e)) (λ out. changed_here t.place p (Holding n))

    -- by cases: a branch, p itself, or another, which stays
    new_case : (q : ℕ) (P : Standing → Type 0) → ((b : Branch) → In b (b₀ ∷ bs₀) → q ≡ b.process → P (At b.entry)) → (q ≡ p → P (Holding n)) → (NotIn q (b₀ ∷ bs₀) → q ≢ p → P (t.place q)) → P (new q)
    unfolding new
    new_case q P a b c = starts_case (b₀ ∷ bs₀) (changed t.place p (Holding n)) q P a (λ out. changed_case t.place p (Holding n) q P b (λ ne. c out ne))

    r_case : (q : ℕ) (P : Bool → Type 0) → ((b : Branch) → In b (b₀ ∷ bs₀) → q ≡ b.process → P true) → (q ≡ p → P false) → (NotIn q (b₀ ∷ bs₀) → q ≢ p → P (r q)) → P (r' q)
    unfolding r'
    r_case q P a b c = marks_case (b₀ ∷ bs₀) (changed r p false) q P a (λ out. changed_case r p false q P b (λ ne. c out ne))

    stays : (q : ℕ) → Present (t.place q) → q ≢ p → new q ≡ t.place q
    stays q h ne = new_case q (λ a. a ≡ t.place q) (λ b i e. absurd (gone b i (subst (λ k. Present (t.place k)) e h))) (λ e. absurd (ne e)) (λ out i. refl)

    stays_r : (q : ℕ) → Present (t.place q) → q ≢ p → r' q ≡ r q
    stays_r q h ne = r_case q (λ a. a ≡ r q) (λ b i e. absurd (gone b i (subst (λ k. Present (t.place k)) e h))) (λ e. absurd (ne e)) (λ out i. refl)

    still : (q : ℕ) → Present (t.place q) → Present (new q)
    still q h = new_case q Present (λ b i e. tt) (λ e. tt) (λ out ne. h)

    p_r : (q : ℕ) → r q ≡ false → q ≢ p
    p_r q h = differ r q p h ready

    -- a process that sleeps, or has ended, is another
    line_stays : (q m : ℕ) → r' q ≡ false → (s : Place) → new q ≡ At s → (q ≢ p) × (r q ≡ false) × (t.place q ≡ At s)
    line_stays q m h s e =
        r_case q (λ a. a ≡ false → (q ≢ p) × (r q ≡ false) × (t.place q ≡ At s))
        (λ b i j k. let z : ◌≡◌ {A = ℕ} 0 1 = cc in absurd (omega arith))
        (λ j k. let w = new_p in let z : ◌≡◌ {A = ℕ} 0 1 = cc in absurd (omega arith))
        (λ out ne k. (ne, k, new_case q (λ a. a ≡ At s → t.place q ≡ At s) (λ b i j l. absurd (out b i j)) (λ j l. absurd (ne j)) (λ u w l. l) e)) h

    ended_not : (b : Branch) → In b (b₀ ∷ bs₀) → t.ended b.process ≡ true → ⊥
    ended_not b i h = gone b i (present_at b.process (At End) (so.ended_is b.process h).1 tt)

    held_case : (q m : ℕ) → new q ≡ Holding m → ((q ≡ p) × (m ≡ n)) ⊎ ((q ≢ p) × (t.place q ≡ Holding m))
    held_case q m e =
        new_case q (λ a. a ≡ Holding m → ((q ≡ p) × (m ≡ n)) ⊎ ((q ≢ p) × (t.place q ≡ Holding m)))
        (λ b i j k. let z : ◌≡◌ {A = ℕ} 0 1 = cc in absurd (omega arith))
        (λ j k. inl (j, cc)) (λ out ne k. inr (ne, k)) e

    holder_new : (q m : ℕ) → new q ≡ Holding m → (pg.owner m ≡ q) × ((b : Branch) × (cs : List Branch) × (s : Place) × (pg.node m ≡ par (b ∷ cs) s))
    holder_new q m e = pick_one (held_case q m e)
      where
        pick_one : ((q ≡ p) × (m ≡ n)) ⊎ ((q ≢ p) × (t.place q ≡ Holding m)) → (pg.owner m ≡ q) × ((b : Branch) × (cs : List Branch) × (s : Place) × (pg.node m ≡ par (b ∷ cs) s))
        pick_one (inl h) = (ap pg.owner h.1 ∙ (own ∙ sym h.0), (b₀, bs₀, to, ap pg.node h.1 ∙ is_par))
        pick_one (inr h) = so.holder q m h.1

    unjoined_new : (q m : ℕ) (cs : List Branch) (s : Place) → new q ≡ Holding m → pg.node m ≡ par cs s → All (λ b. t.ended b.process ≡ true) cs → ⊥
    unjoined_new q m cs s e i a = pick_one (held_case q m e)
      where
        pick_one : ((q ≡ p) × (m ≡ n)) ⊎ ((q ≢ p) × (t.place q ≡ Holding m)) → ⊥
        pick_one (inl h) =
            let same : cs ≡ (b₀ ∷ bs₀) = let u = h.1 in cc in
            ended_not b₀ (inl refl) (subst (All (λ b. t.ended b.process ≡ true)) same a).0
        pick_one (inr h) = so.unjoined q m cs s h.1 i a

    up_new : (q : ℕ) → Present (new q) → 0 < q → new (pg.parent q) ≡ Holding (pg.home q)
    up_new q h pos =
        new_case q (λ a. Present a → new (pg.parent q) ≡ Holding (pg.home q))
        (λ b i e k. let o = of b i in
        let par_is : pg.parent q ≡ p = ap pg.parent e ∙ (o.parent_is ∙ own) in
        let home_is : pg.home q ≡ n = ap pg.home e ∙ o.home_is in
        ap new par_is ∙ (new_p ∙ ap Holding (sym home_is)))
        (λ e k. higher (subst (λ x. Present (t.place x)) (sym e) (subst Present (sym stands) tt)))
        (λ out ne k. higher k) h
      where
        higher : Present (t.place q) → new (pg.parent q) ≡ Holding (pg.home q)
        higher k =
            let u = so.up q k pos in
            stays (pg.parent q) (present_at (pg.parent q) (Holding (pg.home q)) u tt) (λ e. let z : ◌≡◌ {A = ℕ} 0 1 = cc in omega arith) ∙ u

    pub spawn_op : Sound pg (with_places t (starts (b₀ ∷ bs₀) (changed t.place p (Holding n))) t.ended) (marks (changed r p false) (map (λ b. b.process) (b₀ ∷ bs₀)))
    unfolding new r'
    spawn_op = record {
      rooted = still 0 so.rooted;
      small = λ q h. new_case q (λ a. Present a → q < pg.processes) (λ b i e k. subst (λ x. x < pg.processes) (sym e) (of b i).counted) (λ e k. so.small q (subst (λ x. Present (t.place x)) (sym e) (subst Present (sym stands) tt))) (λ out ne k. so.small q k) h;
      owned = λ q m h.
          new_case q (λ a. a ≡ At (Line m) → pg.owner m ≡ q)
          (λ b i e k. let j : b.entry ≡ Line m = cc in let o : pg.owner m ≡ b.process = subst (Inside pg b.process) j (of b i).inside in o ∙ sym e)
          (λ e k. let z : ◌≡◌ {A = ℕ} 0 1 = cc in absurd (omega arith)) (λ out ne k. so.owned q m k) h;
      holder = holder_new;
      up = up_new;
      unjoined = unjoined_new;
      ready_at = λ q h.
          r_case q (λ a. a ≡ true → (s : Place) × (new q ≡ At s))
          (λ b i e k. new_case q (λ a. (s : Place) × (a ≡ At s)) (λ b' i' e'. (b'.entry, refl)) (λ j. absurd (p_out b i (sym j ∙ e))) (λ out ne. absurd (out b i e)))
          (λ e k. let z : ◌≡◌ {A = ℕ} 0 1 = cc in absurd (omega arith))
          (λ out ne k. let w = so.ready_at q k in (w.0, stays q (present_at q (At w.0) w.1 tt) ne ∙ w.1)) h;
      records = λ c. keep c (t.channel c) (so.records c) refl;
      asleep = λ q m a e. let w = line_stays q m a (Line m) e in so.asleep q m w.1 w.2;
      ended_is = λ q h. let o = so.ended_is q h in let pr = present_at q (At End) o.1 tt in (stays_r q pr (p_r q o.0) ∙ o.0, stays q pr (p_r q o.0) ∙ o.1);
      asleep_ended = λ q a e. let w = line_stays q 0 a End e in so.asleep_ended q w.1 w.2;
    }
      where
        not_p : (q m c : ℕ) (k : Record) → RecordOk pg t.place t.variables r c k → Names k q → q ≢ p
        not_p q m c empty o h = elim h [ ]
        not_p q m c (reader a) o h = λ e. differ r a p o.0 ready (h ∙ e)
        not_p q m c (writer a v) o h = λ e. differ r a p o.0 ready (h ∙ e)
        not_p q m c (chooser a) o h = λ e. let u = o.stands in let w = o.is_alt in let z : ◌≡◌ {A = ℕ} 0 1 = cc in omega arith
        not_p q m c (outside v) o h = elim h [ ]

        keep : (c : ℕ) (k : Record) → RecordOk pg t.place t.variables r c k → t.channel c ≡ k → RecordOk pg new t.variables r' c k
        keep c empty o e = tt
        keep c (reader q) o e = let a = o.1 in let ne = not_p q 0 c (reader q) o refl in let pr = present_at q (At (Line a.line_number)) a.stands tt in
            (stays_r q pr ne ∙ o.0, record { line_number = a.line_number; variable_number = a.variable_number; to = a.to; stands = stays q pr ne ∙ a.stands; is_input = a.is_input })
        keep c (writer q v) o e = let a = o.1 in let ne = not_p q 0 c (writer q v) o refl in let pr = present_at q (At (Line a.line_number)) a.stands tt in
            (stays_r q pr ne ∙ o.0, record { line_number = a.line_number; expression = a.expression; to = a.to; stands = stays q pr ne ∙ a.stands; is_output = a.is_output; has_value = a.has_value })
        keep c (chooser q) a e = let ne = not_p q 0 c (chooser q) a refl in let pr = present_at q (At (Line a.line_number)) a.stands tt in
            record {
              line_number = a.line_number;
              guards = a.guards;
              condition = a.condition;
              variable_number = a.variable_number;
              to = a.to;
              stands = stays q pr ne ∙ a.stands;
              is_alt = a.is_alt;
              all_have_values = a.all_have_values;
              guard_in = a.guard_in;
              guard_true = a.guard_true;
            }
        keep c (outside v) o e = o
