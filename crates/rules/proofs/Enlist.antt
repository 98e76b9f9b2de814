-- An ALT that no guard lets go on: its process becomes the chooser of every channel of a TRUE guard.
use Rattle.std.proofs.Common.{sym, refl, ap, ◌∙◌, subst, arith, Bool, List, None, Option, Some, [], ◌∷◌, ◌≡◌, ◌≢◌, ◌⊎◌, eqb, false, true, ℕ, inl, inr}
use Rattle.std.proofs.lemmas.Bool.{cond_both, cond-true, eqb-true}
use Rattle.rules.specs.Types.{At, Expression, Line, Place, Store, truth_value}
use Rattle.rules.specs.Flowchart.{Guard, Node, Program, alt, assignment, input, input_guard, output, par, skip, skip_guard, stop, test}
use Rattle.rules.specs.Functions.{In, changed}
use Rattle.rules.specs.Turns.{Choice, Record, Tables, all_valued, by_skip, choose, chooser, empty, enlist, enlisted, guard_record, if_true, is_true, no_guard, outside, reader, unruled, writer}
use Rattle.rules.proofs.Changes.{changed_case, changed_here}
use Rattle.rules.proofs.Sleep.{record_ready, settle}
use Rattle.rules.proofs.Sound.{Chosen, Names, RecordOk, Rests, Sound}

-- each TRUE guard inputs from a channel whose record is empty or names p as chooser
abbrev pub Calm : Store → (ℕ → Record) → ℕ → List Guard → Type 0
Calm s f p [] = Unit {0}
Calm s f p (skip_guard b to ∷ gs) = (truth_value s b ≢ Some true) × Calm s f p gs
Calm s f p (input_guard b c x to ∷ gs) = (truth_value s b ≡ Some true → (f c ≡ empty) ⊎ (f c ≡ chooser p)) × Calm s f p gs

is_true_some : (m : Option Bool) → is_true m ≡ true → m ≡ Some true
is_true_some None e = cc
is_true_some (Some b) e = ap Some e

true_some : (m : Option Bool) → m ≡ Some true → is_true m ≡ true
true_some m e = ap is_true e

skip_calm : (m : Option Bool) (to : Place) (rest : Choice) → if_true m (by_skip to) rest ≡ no_guard → (m ≢ Some true) × (rest ≡ no_guard)
skip_calm None to rest h = ((λ i. let z : ◌≡◌ {A = ℕ} 0 1 = cc in omega arith), h)
skip_calm (Some true) to rest h = ((λ i. let z : ◌≡◌ {A = ℕ} 0 1 = cc in omega arith), cc)
skip_calm (Some false) to rest h = ((λ i. let z : ◌≡◌ {A = ℕ} 0 1 = cc in omega arith), h)

record_calm : (p c x : ℕ) (to : Place) (k : Record) (rest : Choice) → guard_record p c x to k rest ≡ no_guard → ((k ≡ empty) ⊎ (k ≡ chooser p)) × (rest ≡ no_guard)
record_calm p c x to empty rest h = (inl refl, h)
record_calm p c x to (reader q) rest h = (inl (cc), cc)
record_calm p c x to (writer q v) rest h = (inl (cc), cc)
record_calm p c x to (outside v) rest h = (inl (cc), cc)
record_calm p c x to (chooser q) rest h =
    cond_both (eqb q p) rest unruled (λ a. a ≡ no_guard → ((chooser q ≡ empty) ⊎ (chooser q ≡ chooser p)) × (rest ≡ no_guard))
    (λ e i. (inr (ap chooser (eqb-true q p e)), i)) (λ e i. (inl (cc), cc)) h

input_calm_at : (m : Option Bool) (p c x : ℕ) (to : Place) (k : Record) (rest : Choice) → if_true m (guard_record p c x to k rest) rest ≡ no_guard →
    (m ≡ Some true → (k ≡ empty) ⊎ (k ≡ chooser p)) × (rest ≡ no_guard)
input_calm_at None p c x to k rest h = ((λ i. inl (cc)), h)
input_calm_at (Some true) p c x to k rest h = let o = record_calm p c x to k rest h in ((λ i. o.0), o.1)
input_calm_at (Some false) p c x to k rest h = ((λ i. inl (cc)), h)

pub calm : (t : Tables) (p : ℕ) (gs : List Guard) → choose t p gs ≡ no_guard → Calm t.variables t.channel p gs
calm t p [] h = tt
calm t p (skip_guard b to ∷ gs) h = let o = skip_calm (truth_value t.variables b) to (choose t p gs) h in (o.0, calm t p gs o.1)
calm t p (input_guard b c x to ∷ gs) h = let o = input_calm_at (truth_value t.variables b) p c x to (t.channel c) (choose t p gs) h in (o.0, calm t p gs o.1)

module _ (s : Store) (f : ℕ → Record) (p : ℕ) where
  pub calm_at : (gs : List Guard) (b : Expression) (c x : ℕ) (to : Place) → Calm s f p gs → In (input_guard b c x to) gs → truth_value s b ≡ Some true → (f c ≡ empty) ⊎ (f c ≡ chooser p)
  calm_at [] b c x to k i e = elim i [ ]
  calm_at (skip_guard b' to' ∷ gs) b c x to k (inl i) e = inl (cc)
  calm_at (skip_guard b' to' ∷ gs) b c x to k (inr i) e = calm_at gs b c x to k.1 i e
  calm_at (input_guard b' c' x' to' ∷ gs) b c x to k (inl i) e =
      let eb : b ≡ b' = cc in let ec : c ≡ c' = cc in
      subst (λ d. (f d ≡ empty) ⊎ (f d ≡ chooser p)) (sym ec) (k.0 (ap (λ a. truth_value s a) (sym eb) ∙ e))
  calm_at (input_guard b' c' x' to' ∷ gs) b c x to k (inr i) e = calm_at gs b c x to k.1 i e

  pub enlist_case : (gs : List Guard) (d : ℕ) (P : Record → Type 0) → ((b : Expression) (x : ℕ) (to : Place) → In (input_guard b d x to) gs → truth_value s b ≡ Some true → P (chooser p)) → P (f d) → P (enlist s p gs f d)
  enlist_case [] d P new old = old
  enlist_case (skip_guard b to ∷ gs) d P new old = enlist_case gs d P (λ b' x to' i e. new b' x to' (inr i) e) old
  enlist_case (input_guard b c x to ∷ gs) d P new old =
      let rest : P (enlist s p gs f d) = enlist_case gs d P (λ b' x' to' i e. new b' x' to' (inr i) e) old in
      cond_both (is_true (truth_value s b)) (changed (enlist s p gs f) c (chooser p)) (enlist s p gs f) (λ g. P (g d))
      (λ e. changed_case (enlist s p gs f) c (chooser p) d P (λ h. new b x to (inl (ap (λ a. input_guard b a x to) h)) (is_true_some (truth_value s b) e)) (λ h. rest))
      (λ e. rest)

  enlist_true : (gs : List Guard) (b : Expression) (c x : ℕ) (to : Place) → In (input_guard b c x to) gs → truth_value s b ≡ Some true → enlist s p gs f c ≡ chooser p
  enlist_true [] b c x to i e = elim i [ ]
  enlist_true (skip_guard b' to' ∷ gs) b c x to (inl i) e = cc
  enlist_true (skip_guard b' to' ∷ gs) b c x to (inr i) e = enlist_true gs b c x to i e
  enlist_true (input_guard b' c' x' to' ∷ gs) b c x to (inl i) e =
      let eb : b ≡ b' = cc in let ec : c ≡ c' = cc in
      let on : is_true (truth_value s b') ≡ true = true_some (truth_value s b') (ap (λ a. truth_value s a) (sym eb) ∙ e) in
      ap (λ (g : ℕ → Record). g c) (cond-true (is_true (truth_value s b')) (changed (enlist s p gs f) c' (chooser p)) (enlist s p gs f) on) ∙
      (ap (changed (enlist s p gs f) c' (chooser p)) ec ∙ changed_here (enlist s p gs f) c' (chooser p))
  enlist_true (input_guard b' c' x' to' ∷ gs) b c x to (inr i) e =
      let rest : enlist s p gs f c ≡ chooser p = enlist_true gs b c x to i e in
      cond_both (is_true (truth_value s b')) (changed (enlist s p gs f) c' (chooser p)) (enlist s p gs f) (λ g. g c ≡ chooser p)
      (λ o. changed_case (enlist s p gs f) c' (chooser p) c (λ k. k ≡ chooser p) (λ h. refl) (λ h. rest)) (λ o. rest)

  chosen_all : (gs hs : List Guard) → ((g : Guard) → In g hs → In g gs) → Calm s f p hs → Chosen s (enlist s p gs f) p hs
  chosen_all gs [] sub k = tt
  chosen_all gs (skip_guard b to ∷ hs) sub k = (k.0, chosen_all gs hs (λ g i. sub g (inr i)) k.1)
  chosen_all gs (input_guard b c x to ∷ hs) sub k = ((λ e. enlist_true gs b c x to (sub (input_guard b c x to) (inl refl)) e), chosen_all gs hs (λ g i. sub g (inr i)) k.1)

  kept : (gs : List Guard) → Calm s f p gs → (q : ℕ) → q ≢ p → (d : ℕ) (l : Record) → Names l q → f d ≡ l → enlist s p gs f d ≡ l
  kept gs k q ne d l nm e =
      enlist_case gs d (λ a. a ≡ l) (λ b x to i h. absurd (clash (calm_at gs b d x to k i h))) e
    where
      clash : (f d ≡ empty) ⊎ (f d ≡ chooser p) → ⊥
      clash (inl i) = subst (λ a. Names a q) (sym e ∙ i) nm
      clash (inr i) = let j : p ≡ q = subst (λ a. Names a q) (sym e ∙ i) nm in ne (sym j)

  chosen_others : (gs : List Guard) → Calm s f p gs → (q : ℕ) → q ≢ p → (hs : List Guard) → Chosen s f q hs → Chosen s (enlist s p gs f) q hs
  chosen_others gs k q ne [] h = tt
  chosen_others gs k q ne (skip_guard b to ∷ hs) h = (h.0, chosen_others gs k q ne hs h.1)
  chosen_others gs k q ne (input_guard b c x to ∷ hs) h = ((λ e. kept gs k q ne c (chooser q) refl (h.0 e)), chosen_others gs k q ne hs h.1)

  rests_others : (gs : List Guard) → Calm s f p gs → (q : ℕ) → q ≢ p → (m : Node) → Rests s f q m → Rests s (enlist s p gs f) q m
  rests_others gs k q ne (assignment x e to) h = h
  rests_others gs k q ne (skip to) h = h
  rests_others gs k q ne stop h = tt
  rests_others gs k q ne (input c x to) h = kept gs k q ne c (reader q) refl h
  rests_others gs k q ne (output c e to) (inl h) = inl h
  rests_others gs k q ne (output c e to) (inr h) = inr (h.0, kept gs k q ne c (writer q h.0) refl h.1)
  rests_others gs k q ne (test e a b) h = h
  rests_others gs k q ne (par bs to) h = h
  rests_others gs k q ne (alt hs) (inl h) = inl h
  rests_others gs k q ne (alt hs) (inr h) = inr (chosen_others gs k q ne hs h)

module _ (pg : Program) (t : Tables) (r : ℕ → Bool) (so : Sound pg t r) where
  lower : (p q : ℕ) → r q ≡ false → changed r p false q ≡ false
  lower p q h = changed_case r p false q (λ a. a ≡ false) (λ e. refl) (λ e. h)

  pub enlist_op : (p m : ℕ) (gs : List Guard) → t.place p ≡ At (Line m) → pg.node m ≡ alt gs → all_valued t.variables gs ≡ true → choose t p gs ≡ no_guard →
      Sound pg (enlisted t p gs) (changed r p false)
  enlist_op p m gs stands is_alt vd ch =
      settle pg t r so p m stands (enlist t.variables p gs t.channel)
      (λ c. enlist_case t.variables t.channel p gs c (RecordOk pg t.place t.variables (changed r p false) c)
      (λ b x to i e. record { line_number = m; guards = gs; condition = b; variable_number = x; to = to; stands = stands; is_alt = is_alt; all_have_values = vd; guard_in = i; guard_true = e })
      (record_ready pg t.place t.variables r (changed r p false) c (t.channel c) (λ q a b d. lower p q b) (so.records c)))
      (λ q n ne a e. rests_others t.variables t.channel p gs k q ne (pg.node n) (so.asleep q n a e))
      (subst (Rests t.variables (enlist t.variables p gs t.channel) p) (sym is_alt) (inr (chosen_all t.variables t.channel p gs gs (λ g i. i) k)))
    where
      k : Calm t.variables t.channel p gs
      k = calm t p gs ch
