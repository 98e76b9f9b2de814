-- Masks of variables: one, and those of two masks together.
use Rattle.std.proofs.Common.{◌≡◌, ℕ, ◌^◌, ◌⊎◌, sym, subst, inl, inr, ⊎_elim, arith}
use Rattle.std.specs.Int.{bit_at}
use Rattle.std.specs.Int.Bits.{bit_or}
use Rattle.std.proofs.lemmas.Bool.{cases_eq}
use Rattle.std.proofs.lemmas.Nat.Bits.{bit_at_or, bit_at-pow_other, bit_at-pow_same}
use Rattle.expressions.specs.Expression.{Expression}
use Rattle.expressions.specs.Reads.{InMask, Masks, Reads, Suffices}
use Rattle.expressions.proofs.Same.{value_same}

-- A bit is 1 in a mask made of two exactly when it is 1 in one of them.
either_bit : (m n x : ℕ) → InMask (bit_or m n) x → InMask m x ⊎ InMask n x
either_bit m n x h = let b = bit_at_or m n x in ⊎_elim inl (λ e. inr (omega arith)) (cases_eq (bit_at m x) 1)

left_bit : (m n x : ℕ) → InMask m x → InMask (bit_or m n) x
left_bit m n x h = let b = bit_at_or m n x in omega arith

right_bit : (m n x : ℕ) → InMask n x → InMask (bit_or m n) x
right_bit m n x h = let b = bit_at_or m n x in omega arith

pub mask_one : (k : ℕ) → Masks (2 ^ k) (λ x. x ≡ k)
mask_one k = record { only = λ x b. ⊎_elim (λ e. e) (λ h. let z = bit_at-pow_other k x h in absurd (omega arith)) (cases_eq x k); every = λ x e. subst (InMask (2 ^ k)) (sym e) (bit_at-pow_same k) }

pub mask_both : (m n : ℕ) {P Q : ℕ → Type 0} → Masks m P → Masks n Q → Masks (bit_or m n) (λ x. P x ⊎ Q x)
mask_both m n p q =
    record { only = λ x b. ⊎_elim (λ h. inl (p.only x h)) (λ h. inr (q.only x h)) (either_bit m n x b); every = λ x r. ⊎_elim (λ h. left_bit m n x (p.every x h)) (λ h. right_bit m n x (q.every x h)) r }

-- The variables of its mask settle an expression's value.
pub mask_suffices : (m : ℕ) (e : Expression) → Masks m (Reads e) → Suffices m e
mask_suffices m e p s s' h = value_same e s s' (λ x r. h x (p.every x r))

-- The mask of an expression is that of its other name.
pub mask_at : {m : ℕ} {e e' : Expression} → e ≡ e' → Masks m (Reads e') → Masks m (Reads e)
mask_at {m} h p = subst (λ e. Masks m (Reads e)) (sym h) p
