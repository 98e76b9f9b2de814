-- The bits of a word, one by one: a bit set, a bit turned over, the lowest, how many. Assumes nothing.
use Rattle.std.proofs.Common.{◌≡◌, ℕ, zero, suc, ◌-◌, ◌*◌, ◌/◌, ◌%◌, ◌^◌, ◌<◌, cond, eqb, Some, inl, inr, sym, ap, ◌∙◌, pow-suc, bit_or, bit_xor, arith}
use Rattle.std.proofs.Math.Path.{fun_ext}
use Rattle.std.proofs.lemmas.Bool.{cases_eq}
use Rattle.std.proofs.lemmas.Bool.Decides.{nat_tests}
use Rattle.std.proofs.lemmas.Nat.{one_shl}
use Rattle.std.proofs.lemmas.Nat.Bits.{bit_at_lowest, bit_at-lt, bit_at-suc, bit_at_xor, bit_at-pow_same, bit_at-pow_other, bit_at_set_same, bit_at_set_other, bit_at-trailing_zeros}
use Rattle.std.specs.Int.{bit_at, trailing_zeros, w64}
use Rattle.std.specs.Int.Count.{ones, ones_step, ones-ones}
use Rattle.queues.specs.Lowest.{GivesLowest}
use Rattle.queues.specs.Meaning.{different, Puts, Takes}
use Rattle.queues.proofs.Counts.{total, total-first, total-zero, total_different}

-- `|= 1 << n` holds the number, where it is one up to 63
pub puts_bit : (w n : ℕ) → n < 64 → Puts (bit_at w) n (bit_at (bit_or w ((1 * 2 ^ n) % 2 ^ 64)))
puts_bit w n small k =
    elim (cases_eq k n) [
      | inl e ↦ grind (arith, nat_tests, bit_at_set_same w64 w n small, bit_at-lt w n, ap (bit_at w) e, ap (bit_at (bit_or w ((1 * 2 ^ n) % 2 ^ 64))) e)
      | inr other ↦ grind (arith, nat_tests, bit_at_set_other w64 w n small k other)
    ]

-- `^= 1 << n` lets go of a held number
lets_go : (w n k : ℕ) → bit_at w n ≡ 1 → bit_at (bit_xor w (2 ^ n)) k ≡ bit_at w k - cond (eqb k n) 1 0
lets_go w n k held =
    elim (cases_eq k n) [
      | inl e ↦ grind (arith, nat_tests, bit_at_xor w (2 ^ n) k, ap (bit_at w) e, ap (bit_at (2 ^ n)) e, bit_at-pow_same n)
      | inr other ↦ grind (arith, nat_tests, bit_at_xor w (2 ^ n) k, bit_at-pow_other n k other, bit_at-lt w k)
    ]

pub takes_lowest : (w : ℕ) → 0 < w → w < 2 ^ 64 → Takes (bit_at w) (Some (trailing_zeros w64 w)) (bit_at (bit_xor w ((1 * 2 ^ trailing_zeros w64 w) % 2 ^ 64)))
takes_lowest w some fits =
    let (small, held, _) = bit_at-trailing_zeros w64 w some fits in
    (small, omega arith, λ k. rw (one_shl (trailing_zeros w64 w) 64 small) (lets_go w (trailing_zeros w64 w) k held))

pub gives_lowest : (w : ℕ) → 0 < w → w < 2 ^ 64 → GivesLowest (bit_at w) (Some (trailing_zeros w64 w))
gives_lowest w some fits = let (_, held, below) = bit_at-trailing_zeros w64 w some fits in (omega arith, below)

-- how many are set
ones_total : (k w : ℕ) → w < 2 ^ k → ones w ≡ total (bit_at w) k
ones_total zero w fits = ap ones (omega arith) ∙ ones-ones 0 ∙ sym (total-zero (bit_at w))
ones_total (suc k) w fits =
    let half : w / 2 < 2 ^ k = omega (arith, pow-suc 2 k) in
    let rest : total (λ j. bit_at w (suc j)) k ≡ total (bit_at (w / 2)) k = ap (λ (h : ℕ → ℕ). total h k) (fun_ext (λ j. bit_at-suc w j)) in
    omega (arith, ones_step w, ones_total k (w / 2) half, rest, total-first (bit_at w) k, bit_at_lowest w)

pub ones_different : (k w : ℕ) → w < 2 ^ k → ones w ≡ different (bit_at w) k
ones_different k w fits = ones_total k w fits ∙ sym (total_different (bit_at w) k (λ j. omega (arith, bit_at-lt w j)))
