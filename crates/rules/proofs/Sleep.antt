-- Changes of records and of the queue that leave every process where it stands.
use Rattle.std.proofs.Common.{sym, refl, ap, ◌∙◌, subst, arith, Bool, List, [], ◌∷◌, ◌≡◌, ◌≢◌, eqb, false, true, ℕ, inl, inr}
use Rattle.std.proofs.lemmas.Bool.{cond_both, cond-false, eqb-false, ne_eqb}
use Rattle.rules.specs.Types.{At, End, Line, Place, Standing, Store}
use Rattle.rules.specs.Flowchart.{Guard, Node, Program, alt, assignment, input, input_guard, output, par, skip, skip_guard, stop, test}
use Rattle.rules.specs.Functions.{changed}
use Rattle.rules.specs.Turns.{Record, Tables, chooser, empty, freed, mark, outside, reader, release, writer}
use Rattle.rules.proofs.Changes.{changed_case, changed_there}
use Rattle.rules.proofs.Ops.{differ}
use Rattle.rules.proofs.Sound.{Chosen, Names, RecordOk, Rests, Sound}
use Rattle.rules.proofs.Values.{rests_mark}

abbrev pub with_records : Tables → (ℕ → Record) → Tables
with_records t f = record { variables = t.variables; place = t.place; channel = f; ended = t.ended }

-- what a record says, where the queue changes
pub record_ready : (pg : Program) (f : ℕ → Standing) (s : Store) (r r' : ℕ → Bool) (c : ℕ) (k : Record) →
    ((p : ℕ) → Names k p → r p ≡ false → (k ≢ chooser p) → r' p ≡ false) → RecordOk pg f s r c k → RecordOk pg f s r' c k
record_ready pg f s r r' c empty h o = tt
record_ready pg f s r r' c (reader p) h o = (h p refl o.0 (λ e. let z : ◌≡◌ {A = ℕ} 0 1 = cc in omega arith), o.1)
record_ready pg f s r r' c (writer p v) h o = (h p refl o.0 (λ e. let z : ◌≡◌ {A = ℕ} 0 1 = cc in omega arith), o.1)
record_ready pg f s r r' c (chooser p) h o = o
record_ready pg f s r r' c (outside v) h o = o

module _ (pg : Program) (t : Tables) (r : ℕ → Bool) (so : Sound pg t r) where
  pub re_op : (f : ℕ → Record) (r' : ℕ → Bool) →
      ((q : ℕ) → r' q ≡ true → (s : Place) × (t.place q ≡ At s)) →
      ((c : ℕ) → RecordOk pg t.place t.variables r' c (f c)) →
      ((q n : ℕ) → r' q ≡ false → t.place q ≡ At (Line n) → Rests t.variables f q (pg.node n)) →
      ((q : ℕ) → t.ended q ≡ true → r' q ≡ false) →
      ((q : ℕ) → r' q ≡ false → t.place q ≡ At End → r q ≡ false) → Sound pg (with_records t f) r'
  re_op f r' rd rc sl ov so' = record {
    rooted = so.rooted;
    small = so.small;
    owned = so.owned;
    holder = so.holder;
    up = so.up;
    unjoined = so.unjoined;
    ready_at = rd;
    records = rc;
    asleep = sl;
    ended_is = λ q h. (ov q h, (so.ended_is q h).1);
    asleep_ended = λ q a h. so.asleep_ended q (so' q a h) h;
  }

  lower : (p q : ℕ) → r q ≡ false → changed r p false q ≡ false
  lower p q h = changed_case r p false q (λ a. a ≡ false) (λ e. refl) (λ e. h)

  was_ready : (p q : ℕ) → changed r p false q ≡ true → r q ≡ true
  was_ready p q h = changed_case r p false q (λ a. a ≡ true → r q ≡ true) (λ e i. cc) (λ e i. i) h

  raised : (p q : ℕ) → changed r p true q ≡ false → (q ≢ p) × (r q ≡ false)
  raised p q h = changed_case r p true q (λ a. a ≡ false → (q ≢ p) × (r q ≡ false)) (λ e i. ((λ j. let z : ◌≡◌ {A = ℕ} 0 1 = cc in omega arith), cc)) (λ e i. (e, i)) h

  raise_other : (p q : ℕ) → q ≢ p → r q ≡ false → changed r p true q ≡ false
  raise_other p q ne h = changed_there r p true q ne ∙ h

  -- p goes to sleep, or halts, at its line
  module _ (p m : ℕ) (stands : t.place p ≡ At (Line m)) where
    pub settle : (f : ℕ → Record) → ((c : ℕ) → RecordOk pg t.place t.variables (changed r p false) c (f c)) →
        ((q n : ℕ) → q ≢ p → r q ≡ false → t.place q ≡ At (Line n) → Rests t.variables f q (pg.node n)) →
        Rests t.variables f p (pg.node m) → Sound pg (with_records t f) (changed r p false)
    settle f rc others own =
        re_op f (changed r p false)
        (λ q h. so.ready_at q (was_ready p q h))
        rc
        (λ q n a e.
        changed_case r p false q (λ b. b ≡ false → Rests t.variables f q (pg.node n))
        (λ h i. let j : m ≡ n = cc in subst (λ k. Rests t.variables f k (pg.node n)) (sym h) (subst (λ k. Rests t.variables f p (pg.node k)) j own))
        (λ h i. others q n h i e) a)
        (λ q h. lower p q (so.ended_is q h).0)
        (λ q a e. changed_case r p false q (λ b. b ≡ false → r q ≡ false) (λ h i. cc) (λ h i. i) a)

    pub rest_op : Rests t.variables t.channel p (pg.node m) → Sound pg t (changed r p false)
    rest_op own =
        settle t.channel
        (λ c. record_ready pg t.place t.variables r (changed r p false) c (t.channel c) (λ q a b d. lower p q b) (so.records c))
        (λ q n ne a e. so.asleep q n a e) own

    pub sleep_op : (c : ℕ) (k : Record) → t.channel c ≡ empty → RecordOk pg t.place t.variables (changed r p false) c k →
        Rests t.variables (changed t.channel c k) p (pg.node m) → Sound pg (mark t c k) (changed r p false)
    sleep_op c k e ok own =
        settle (changed t.channel c k)
        (λ d. changed_case t.channel c k d (RecordOk pg t.place t.variables (changed r p false) d)
        (λ h. subst (λ x. RecordOk pg t.place t.variables (changed r p false) x k) (sym h) ok)
        (λ h. record_ready pg t.place t.variables r (changed r p false) d (t.channel d) (λ q a b i. lower p q b) (so.records d)))
        (λ q n ne a i. rests_mark t.variables t.channel c k q (λ nm. subst (λ x. Names x q) e nm) (pg.node n) (so.asleep q n a i)) own

  -- a record that names nobody changes to one that names nobody
  pub fill_op : (c : ℕ) (k : Record) → ((q : ℕ) → Names (t.channel c) q → ⊥) → RecordOk pg t.place t.variables r c k → Sound pg (mark t c k) r
  fill_op c k nobody ok =
      re_op (changed t.channel c k) r so.ready_at
      (λ d. changed_case t.channel c k d (RecordOk pg t.place t.variables r d) (λ h. subst (λ x. RecordOk pg t.place t.variables r x k) (sym h) ok) (λ h. so.records d))
      (λ q n a i. rests_mark t.variables t.channel c k q (nobody q) (pg.node n) (so.asleep q n a i))
      (λ q h. (so.ended_is q h).0) (λ q a e. a)

  -- where a named process stands
  named_at : (c q : ℕ) (k : Record) → RecordOk pg t.place t.variables r c k → Names k q → (n : ℕ) × (t.place q ≡ At (Line n))
  named_at c q empty o h = elim h [ ]
  named_at c q (reader a) o h = (o.1.line_number, ap t.place (sym h) ∙ o.1.stands)
  named_at c q (writer a v) o h = (o.1.line_number, ap t.place (sym h) ∙ o.1.stands)
  named_at c q (chooser a) o h = (o.line_number, ap t.place (sym h) ∙ o.stands)
  named_at c q (outside v) o h = elim h [ ]

  -- a reader or a writer is named by one record alone
  lone : (c d q : ℕ) (k l : Record) → RecordOk pg t.place t.variables r c k → RecordOk pg t.place t.variables r d l →
      Names k q → Names l q → (l ≢ chooser q) → d ≡ c
  lone c d q empty l o u h i ne = elim h [ ]
  lone c d q (outside v) l o u h i ne = elim h [ ]
  lone c d q (reader a) empty o u h i ne = elim i [ ]
  lone c d q (reader a) (outside w) o u h i ne = elim i [ ]
  lone c d q (reader a) (reader b) o u h i ne = cc
  lone c d q (reader a) (writer b w) o u h i ne = cc
  lone c d q (reader a) (chooser b) o u h i ne = absurd (ne (ap chooser i))
  lone c d q (writer a v) empty o u h i ne = elim i [ ]
  lone c d q (writer a v) (outside w) o u h i ne = elim i [ ]
  lone c d q (writer a v) (reader b) o u h i ne = cc
  lone c d q (writer a v) (writer b w) o u h i ne = cc
  lone c d q (writer a v) (chooser b) o u h i ne = absurd (ne (ap chooser i))
  lone c d q (chooser a) empty o u h i ne = elim i [ ]
  lone c d q (chooser a) (outside w) o u h i ne = elim i [ ]
  lone c d q (chooser a) (reader b) o u h i ne = cc
  lone c d q (chooser a) (writer b w) o u h i ne = cc
  lone c d q (chooser a) (chooser b) o u h i ne = absurd (ne (ap chooser i))

  names_one : (k : Record) (p q : ℕ) → Names k p → Names k q → p ≡ q
  names_one empty p q h i = elim h [ ]
  names_one (reader a) p q h i = sym h ∙ i
  names_one (writer a v) p q h i = sym h ∙ i
  names_one (chooser a) p q h i = sym h ∙ i
  names_one (outside v) p q h i = elim h [ ]

  -- the process that a record names becomes ready, and the record empties
  pub wake_op : (c q : ℕ) → Names (t.channel c) q → Sound pg (mark t c empty) (changed r q true)
  wake_op c q nm =
      re_op (changed t.channel c empty) (changed r q true)
      (λ p h. changed_case r q true p (λ b. b ≡ true → (s : Place) × (t.place p ≡ At s)) (λ e i. (Line w.0, ap t.place e ∙ w.1)) (λ e i. so.ready_at p i) h)
      (λ d. changed_case t.channel c empty d (RecordOk pg t.place t.variables (changed r q true) d) (λ e. tt)
      (λ e. record_ready pg t.place t.variables r (changed r q true) d (t.channel d)
      (λ p a b ne. raise_other q p (λ i. e (lone c d q (t.channel c) (t.channel d) (so.records c) (so.records d) nm (subst (λ x. Names (t.channel d) x) i a) (λ j. ne (j ∙ ap chooser (sym i))))) b)
      (so.records d)))
      (λ p n a e.
      let z = raised q p a in
      rests_mark t.variables t.channel c empty p (λ i. z.0 (names_one (t.channel c) p q i nm)) (pg.node n) (so.asleep p n z.1 e))
      (λ p h. let o = so.ended_is p h in raise_other q p (λ i. let e1 = w.1 in let e2 = o.1 in let z : ◌≡◌ {A = ℕ} 0 1 = cc in omega arith) o.0)
      (λ p a e. (raised q p a).1)
    where
      w : (n : ℕ) × (t.place q ≡ At (Line n))
      w = named_at c q (t.channel c) (so.records c) nm

  -- every record that names p as chooser empties
  release_other : (p q : ℕ) (k : Record) → q ≢ p → (l : Record) → Names l q → k ≡ l → release p k ≡ l
  release_other p q k ne empty h e = elim h [ ]
  release_other p q k ne (outside v) h e = elim h [ ]
  release_other p q k ne (reader a) h e = ap (release p) e
  release_other p q k ne (writer a v) h e = ap (release p) e
  release_other p q k ne (chooser a) h e = ap (release p) e ∙ cond-false (eqb a p) empty (chooser a) (ne_eqb a p (λ i. ne (sym h ∙ i)))

  chosen_free : (p q : ℕ) → q ≢ p → (gs : List Guard) → Chosen t.variables t.channel q gs → Chosen t.variables (λ c. release p (t.channel c)) q gs
  chosen_free p q ne [] h = tt
  chosen_free p q ne (skip_guard b to ∷ gs) h = (h.0, chosen_free p q ne gs h.1)
  chosen_free p q ne (input_guard b c x to ∷ gs) h = ((λ e. release_other p q (t.channel c) ne (chooser q) refl (h.0 e)), chosen_free p q ne gs h.1)

  rests_free : (p q : ℕ) → q ≢ p → (m : Node) → Rests t.variables t.channel q m → Rests t.variables (λ c. release p (t.channel c)) q m
  rests_free p q ne (assignment x e to) h = h
  rests_free p q ne (skip to) h = h
  rests_free p q ne stop h = tt
  rests_free p q ne (input c x to) h = release_other p q (t.channel c) ne (reader q) refl h
  rests_free p q ne (output c e to) (inl h) = inl h
  rests_free p q ne (output c e to) (inr h) = inr (h.0, release_other p q (t.channel c) ne (writer q h.0) refl h.1)
  rests_free p q ne (test e a b) h = h
  rests_free p q ne (par bs to) h = h
  rests_free p q ne (alt gs) (inl h) = inl h
  rests_free p q ne (alt gs) (inr h) = inr (chosen_free p q ne gs h)

  release_ok : (p c : ℕ) (k : Record) → RecordOk pg t.place t.variables r c k → RecordOk pg t.place t.variables r c (release p k)
  release_ok p c empty o = tt
  release_ok p c (reader q) o = o
  release_ok p c (writer q v) o = o
  release_ok p c (chooser q) o = cond_both (eqb q p) empty (chooser q) (RecordOk pg t.place t.variables r c) (λ e. tt) (λ e. o)
  release_ok p c (outside v) o = o

  pub free_op : (p : ℕ) → r p ≡ true → Sound pg (freed t p) r
  free_op p ready =
      re_op (λ c. release p (t.channel c)) r so.ready_at (λ c. release_ok p c (t.channel c) (so.records c))
      (λ q n a e. rests_free p q (differ r q p a ready) (pg.node n) (so.asleep q n a e))
      (λ q h. (so.ended_is q h).0) (λ q a e. a)

  pub freed_free : (p c : ℕ) (k : Record) → release p k ≢ chooser p
  freed_free p c empty e = let z : ◌≡◌ {A = ℕ} 0 1 = cc in omega arith
  freed_free p c (reader q) e = let z : ◌≡◌ {A = ℕ} 0 1 = cc in omega arith
  freed_free p c (writer q v) e = let z : ◌≡◌ {A = ℕ} 0 1 = cc in omega arith
  freed_free p c (chooser q) e = cond_both (eqb q p) empty (chooser q) (λ k. k ≡ chooser p → ⊥) (λ h i. let z : ◌≡◌ {A = ℕ} 0 1 = cc in omega arith) (λ h i. let j : q ≡ p = cc in eqb-false q p h j) e
  freed_free p c (outside v) e = let z : ◌≡◌ {A = ℕ} 0 1 = cc in omega arith
