-- The laws leave one answer.
use Rattle.std.proofs.Common.{◌≡◌, ℕ, zero, suc, ◌+◌, ◌*◌, ◌<◌, ℤ, pos, ◌+ℤ◌, ◌-ℤ◌, ◌*ℤ◌, unsigned_abs, Some, None, Option, sym, refl, ap, ◌∙◌, subst, inl, inr, arith}
use borrow.Author.Differences.{up, down, same_in, sum_is_lem, neg_is, product_is}
use Rattle.std.proofs.lemmas.Int.{ints, by_lt_z, unsigned_abs-mul}
use Rattle.integers.specs.declared.Operator.{Operator}
use Rattle.integers.specs.declared.Operator.TheVariants.{Add, Subtract, Multiply, Divide, Remainder, Plus, Minus, Times}
use Rattle.integers.specs.Laws.{Division, Exactly, Modulo, Gives}

pub exactly_one : (z : ℤ) (v w : Option ℤ) → Exactly z v → Exactly z w → v ≡ w
exactly_one z (Some v) (Some w) p q = ap Some (p.0 ∙ sym q.0)
exactly_one z (Some v) None p q = absurd (q p.1)
exactly_one z None (Some w) p q = absurd (p q.1)
exactly_one z None None p q = refl

modulo_one : (z : ℤ) (v w : Option ℤ) → Modulo z v → Modulo z w → v ≡ w
modulo_one z (Some v) (Some w) p q = ap Some (omega (arith, ints, p.0.0, p.0.1, p.1.1, q.0.0, q.0.1, q.1.1))
modulo_one z (Some v) None p q = absurd q
modulo_one z None (Some w) p q = absurd p
modulo_one z None None p q = refl

-- A difference times b.
difference_times : (q p b : ℤ) → (q -ℤ p) *ℤ b ≡ q *ℤ b -ℤ p *ℤ b
difference_times q p b =
    let sum : up (q -ℤ p) + down q + up p ≡ down (q -ℤ p) + up q + down p = omega (arith, sum_is_lem, neg_is) in
    let above = ap (λ n. n * up b) sum in
    let below = ap (λ n. n * down b) sum in
    omega (arith, same_in, sum_is_lem, neg_is, product_is)

-- Only 0 times n lies below n.
zero_times : (m n : ℕ) → m * n < n → m ≡ 0
zero_times zero n h = refl
zero_times (suc m) n h = absurd (omega arith)

-- Two remainders of one number lie nearer to each other than the divisor lies to 0.
remainders_near : (a b q r p s : ℤ) → Division a b q r → Division a b p s → unsigned_abs (s -ℤ r) < unsigned_abs b
remainders_near a b q r p s d e =
    by_lt_z a (pos 0)
    (λ l. omega (arith, ints, d.not_above (omega (arith, ints)), e.not_above (omega (arith, ints))))
    (λ l. omega (arith, ints, d.not_below l, e.not_below l))

division_one : (a b q r p s : ℤ) → Division a b q r → Division a b p s → (q ≡ p) × (r ≡ s)
division_one a b q r p s d e =
    let apart : (q -ℤ p) *ℤ b ≡ s -ℤ r = difference_times q p b ∙ omega (arith, ints, d.whole, e.whole) in
    let far : unsigned_abs (q -ℤ p) * unsigned_abs b < unsigned_abs b = subst (λ n. n < unsigned_abs b) (sym (ap unsigned_abs apart) ∙ unsigned_abs-mul (q -ℤ p) b) (remainders_near a b q r p s d e) in
    let none : unsigned_abs (q -ℤ p) ≡ 0 = zero_times _ _ far in
    let same : q ≡ p = omega (arith, ints) in
    (same, omega (arith, ints, ap (λ x. x *ℤ b) same, d.whole, e.whole))

-- A divisor that leaves a remainder is not 0.
not_zero : (a q r : ℤ) → Division a (pos 0) q r → ⊥
not_zero a q r d = omega (arith, d.smaller)

quotient_one : (a b : ℤ) (v w : Option ℤ) → Gives Divide a b v → Gives Divide a b w → v ≡ w
quotient_one a b v w (inl p) (inl q) = p.1 ∙ sym q.1
quotient_one a b v w (inl p) (inr q) = absurd (not_zero a _ _ (subst (λ x. Division a x q.0 q.1) p.0 q.2))
quotient_one a b v w (inr p) (inl q) = absurd (not_zero a _ _ (subst (λ x. Division a x p.0 p.1) q.0 p.2))
quotient_one a b v w (inr p) (inr q) =
    exactly_one q.0 v w (subst (λ x. Exactly x v) (division_one a b p.0 p.1 q.0 q.1 p.2 q.2).0 p.3) q.3

remainder_one : (a b : ℤ) (v w : Option ℤ) → Gives Remainder a b v → Gives Remainder a b w → v ≡ w
remainder_one a b v w (inl p) (inl q) = p.1 ∙ sym q.1
remainder_one a b v w (inl p) (inr q) = absurd (not_zero a _ _ (subst (λ x. Division a x q.0 q.1) p.0 q.2))
remainder_one a b v w (inr p) (inl q) = absurd (not_zero a _ _ (subst (λ x. Division a x p.0 p.1) q.0 p.2))
remainder_one a b v w (inr p) (inr q) = p.3 ∙ ap Some (division_one a b p.0 p.1 q.0 q.1 p.2 q.2).1 ∙ sym q.3

pub one_answer : (op : Operator) (a b : ℤ) (v w : Option ℤ) → Gives op a b v → Gives op a b w → v ≡ w
one_answer Add a b v w p q = exactly_one (a +ℤ b) v w p q
one_answer Subtract a b v w p q = exactly_one (a -ℤ b) v w p q
one_answer Multiply a b v w p q = exactly_one (a *ℤ b) v w p q
one_answer Divide a b v w p q = quotient_one a b v w p q
one_answer Remainder a b v w p q = remainder_one a b v w p q
one_answer Plus a b v w p q = modulo_one (a +ℤ b) v w p q
one_answer Minus a b v w p q = modulo_one (a -ℤ b) v w p q
one_answer Times a b v w p q = modulo_one (a *ℤ b) v w p q
