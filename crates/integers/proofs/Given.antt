-- What the operators give is what the laws say.
use Rattle.std.proofs.Common.{◌≡◌, Bool, true, false, cond, ℤ, pos, ◌+ℤ◌, ◌-ℤ◌, ◌*ℤ◌, neg_ℤ, Some, None, Option, int_div, int_rem, sym, refl, subst, inl, inr, arith}
use Rattle.std.proofs.lemmas.Int.{ints}
use Rattle.integers.specs.declared.Operator.{Operator}
use Rattle.integers.specs.declared.Operator.TheVariants.{Add, Subtract, Multiply, Divide, Remainder, Plus, Minus, Times}
use Rattle.integers.specs.Int.{applied, eq_z, inside, negated}
use Rattle.integers.specs.Laws.{Exactly, Gives, Only}
use Rattle.integers.proofs.Ranges.{inside_exact}
use Rattle.integers.proofs.Divisions.{division}
use Rattle.integers.proofs.Moduli.{modulo_is}
use Rattle.integers.proofs.Single.{exactly_one, one_answer}

zero_yes : (b : ℤ) → eq_z b (pos 0) ≡ true → b ≡ pos 0
zero_yes b h = grind (arith, ints)

zero_no : (b : ℤ) → eq_z b (pos 0) ≡ false → b ≡ pos 0 → ⊥
zero_no b h e = grind (arith, ints)

quotient_gives : (a b : ℤ) → Gives Divide a b (applied Divide a b)
quotient_gives a b = by (eq_z b (pos 0)) refl
  where
    by : (t : Bool) → eq_z b (pos 0) ≡ t → Gives Divide a b (cond t None (inside (int_div a b)))
    by true h = inl (zero_yes b h, refl)
    by false h = inr (int_div a b, int_rem a b, division a b (zero_no b h), inside_exact (int_div a b))

remainder_gives : (a b : ℤ) → Gives Remainder a b (applied Remainder a b)
remainder_gives a b = by (eq_z b (pos 0)) refl
  where
    by : (t : Bool) → eq_z b (pos 0) ≡ t → Gives Remainder a b (cond t None (Some (int_rem a b)))
    by true h = inl (zero_yes b h, refl)
    by false h = inr (int_div a b, int_rem a b, division a b (zero_no b h), refl)

applied_gives : (op : Operator) (a b : ℤ) → Gives op a b (applied op a b)
applied_gives Add a b = inside_exact (a +ℤ b)
applied_gives Subtract a b = inside_exact (a -ℤ b)
applied_gives Multiply a b = inside_exact (a *ℤ b)
applied_gives Divide a b = quotient_gives a b
applied_gives Remainder a b = remainder_gives a b
applied_gives Plus a b = modulo_is (a +ℤ b)
applied_gives Minus a b = modulo_is (a -ℤ b)
applied_gives Times a b = modulo_is (a *ℤ b)

pub applied_only : (op : Operator) (a b : ℤ) {r : Option ℤ} → r ≡ applied op a b → Only (Gives op a b) r
applied_only op a b {r} e =
    let holds : Gives op a b r = subst (Gives op a b) (sym e) (applied_gives op a b) in
    record { holds = holds; alone = λ w g. one_answer op a b w r g holds }

pub negated_only : (a : ℤ) {r : Option ℤ} → r ≡ negated a → Only (Exactly (neg_ℤ a)) r
negated_only a {r} e =
    let holds : Exactly (neg_ℤ a) r = subst (Exactly (neg_ℤ a)) (sym e) (inside_exact (neg_ℤ a)) in
    record { holds = holds; alone = λ w g. exactly_one (neg_ℤ a) w r g holds }
