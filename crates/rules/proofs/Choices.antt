-- What an ALT's choice says of its guards.
use Rattle.std.proofs.Common.{sym, refl, ap, arith, Bool, List, None, Option, Some, [], ◌∷◌, ◌≡◌, ◌≢◌, ◌⊎◌, eqb, false, true, ℕ, inl, inr}
use Rattle.std.proofs.lemmas.Bool.{and_parts, cond_both, eqb-false, or_parts}
use Rattle.rules.specs.Types.{Expression, Place, Store, option_is_some, truth_value}
use Rattle.rules.specs.Flowchart.{Guard, condition_of, input_guard, skip_guard}
use Rattle.rules.specs.Functions.{In}
use Rattle.rules.specs.Primary.{Valued}
use Rattle.rules.specs.Turns.{Choice, Record, Tables, all_valued, any_true, by_outside, by_skip, by_writer, choose, chooser, empty, enlist, guard_record, held_value, if_true, is_true, no_guard, outside, reader, release, unruled, writer}
use Rattle.rules.proofs.Enlist.{Calm, calm_at, enlist_case}
use Rattle.rules.proofs.Sound.{Chosen}

pub record TrueGuard (s : Store) (gs : List Guard) (c x : ℕ) (to : Place) : Type 0 where
  pub condition : Expression
  pub guard_in : In (input_guard condition c x to) gs
  pub guard_true : truth_value s condition ≡ Some true

-- a TRUE guard whose record no rule is for
pub record Barred (t : Tables) (p : ℕ) (gs : List Guard) : Type 0 where
  pub channel : ℕ
  pub variable_number : ℕ
  pub to : Place
  pub who : ℕ
  pub guard : TrueGuard t.variables gs channel variable_number to
  pub named : (t.channel channel ≡ reader who) ⊎ ((t.channel channel ≡ chooser who) × (who ≢ p))

abbrev pub ChoiceOk : Tables → ℕ → List Guard → Choice → Type 0
ChoiceOk t p gs no_guard = Unit {0}
ChoiceOk t p gs unruled = Barred t p gs
ChoiceOk t p gs (by_skip to) = (b : Expression) × In (skip_guard b to) gs × (truth_value t.variables b ≡ Some true)
ChoiceOk t p gs (by_writer c x to q v) = TrueGuard t.variables gs c x to × (t.channel c ≡ writer q v)
ChoiceOk t p gs (by_outside c x to v) = TrueGuard t.variables gs c x to × (t.channel c ≡ outside v)

later_guard : (s : Store) (g : Guard) (gs : List Guard) (c x : ℕ) (to : Place) → TrueGuard s gs c x to → TrueGuard s (g ∷ gs) c x to
later_guard s g gs c x to h = record { condition = h.condition; guard_in = inr h.guard_in; guard_true = h.guard_true }

later : (t : Tables) (p : ℕ) (g : Guard) (gs : List Guard) (ch : Choice) → ChoiceOk t p gs ch → ChoiceOk t p (g ∷ gs) ch
later t p g gs no_guard h = tt
later t p g gs unruled h = record { channel = h.channel; variable_number = h.variable_number; to = h.to; who = h.who; guard = later_guard t.variables g gs h.channel h.variable_number h.to h.guard; named = h.named }
later t p g gs (by_skip to) h = (h.0, inr h.1, h.2)
later t p g gs (by_writer c x to q v) h = (later_guard t.variables g gs c x to h.0, h.1)
later t p g gs (by_outside c x to v) h = (later_guard t.variables g gs c x to h.0, h.1)

pub choice_is : (t : Tables) (p : ℕ) (gs : List Guard) → ChoiceOk t p gs (choose t p gs)
choice_is t p [] = tt
choice_is t p (skip_guard b to ∷ gs) = by_value (truth_value t.variables b) refl (choice_is t p gs)
  where
    by_value : (m : Option Bool) → truth_value t.variables b ≡ m → ChoiceOk t p gs (choose t p gs) → ChoiceOk t p (skip_guard b to ∷ gs) (if_true m (by_skip to) (choose t p gs))
    by_value None e h = later t p (skip_guard b to) gs (choose t p gs) h
    by_value (Some true) e h = (b, inl refl, e)
    by_value (Some false) e h = later t p (skip_guard b to) gs (choose t p gs) h
choice_is t p (input_guard b c x to ∷ gs) = by_value (truth_value t.variables b) refl (choice_is t p gs)
  where
    by_record : (k : Record) → t.channel c ≡ k → truth_value t.variables b ≡ Some true → ChoiceOk t p gs (choose t p gs) → ChoiceOk t p (input_guard b c x to ∷ gs) (guard_record p c x to k (choose t p gs))
    by_record empty e i h = later t p (input_guard b c x to) gs (choose t p gs) h
    by_record (reader q) e i h = record { channel = c; variable_number = x; to = to; who = q; guard = record { condition = b; guard_in = inl refl; guard_true = i }; named = inl e }
    by_record (writer q v) e i h = (record { condition = b; guard_in = inl refl; guard_true = i }, e)
    by_record (outside v) e i h = (record { condition = b; guard_in = inl refl; guard_true = i }, e)
    by_record (chooser q) e i h =
        cond_both (eqb q p) (choose t p gs) unruled (ChoiceOk t p (input_guard b c x to ∷ gs))
        (λ j. later t p (input_guard b c x to) gs (choose t p gs) h)
        (λ j. record { channel = c; variable_number = x; to = to; who = q; guard = record { condition = b; guard_in = inl refl; guard_true = i }; named = inr (e, eqb-false q p j) })

    by_value : (m : Option Bool) → truth_value t.variables b ≡ m → ChoiceOk t p gs (choose t p gs) → ChoiceOk t p (input_guard b c x to ∷ gs) (if_true m (guard_record p c x to (t.channel c) (choose t p gs)) (choose t p gs))
    by_value None e h = later t p (input_guard b c x to) gs (choose t p gs) h
    by_value (Some true) e h = by_record (t.channel c) refl e h
    by_value (Some false) e h = later t p (input_guard b c x to) gs (choose t p gs) h

value_of : (m : Option Bool) → option_is_some m ≡ true → (b : Bool) × (m ≡ Some b)
value_of None e = (true, cc)
value_of (Some b) e = (b, refl)

pub valued_is : (s : Store) (gs : List Guard) → all_valued s gs ≡ true → Valued gs s
valued_is s [] h = tt
valued_is s (g ∷ gs) h = let a = and_parts (option_is_some (truth_value s (condition_of g))) (all_valued s gs) h in (value_of (truth_value s (condition_of g)) a.0, valued_is s gs a.1)

false_not : (m : Option Bool) → is_true m ≡ false → m ≢ Some true
false_not None e i = let z : ◌≡◌ {A = ℕ} 0 1 = cc in omega arith
false_not (Some b) e i = let z : ◌≡◌ {A = ℕ} 0 1 = cc in omega arith

-- without a TRUE guard nothing is asked of the records
pub none_true : (s : Store) (f : ℕ → Record) (p : ℕ) (gs : List Guard) → any_true s gs ≡ false → Chosen s f p gs
none_true s f p [] h = tt
none_true s f p (skip_guard b to ∷ gs) h = let a = or_parts (is_true (truth_value s b)) (any_true s gs) h in (false_not (truth_value s b) a.0, none_true s f p gs a.1)
none_true s f p (input_guard b c x to ∷ gs) h = let a = or_parts (is_true (truth_value s b)) (any_true s gs) h in ((λ e. absurd (false_not (truth_value s b) a.0 e)), none_true s f p gs a.1)

-- links hold what they held
pub release_held : (p : ℕ) (k : Record) → held_value (release p k) ≡ held_value k
release_held p empty = refl
release_held p (reader q) = refl
release_held p (writer q v) = refl
release_held p (chooser q) = cond_both (eqb q p) empty (chooser q) (λ k. held_value k ≡ None) (λ e. refl) (λ e. refl)
release_held p (outside v) = refl

pub enlist_held : (s : Store) (f : ℕ → Record) (p : ℕ) (gs : List Guard) → Calm s f p gs → (d : ℕ) → held_value (enlist s p gs f d) ≡ held_value (f d)
enlist_held s f p gs k d =
    enlist_case s f p gs d (λ a. held_value a ≡ held_value (f d)) (λ b x to i e. same (calm_at s f p gs b d x to k i e)) refl
  where
    same : (f d ≡ empty) ⊎ (f d ≡ chooser p) → None ≡ held_value (f d)
    same (inl e) = sym (ap held_value e)
    same (inr e) = sym (ap held_value e)
