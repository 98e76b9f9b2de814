-- A number brought into the range modulo 2^32.
use Rattle.std.proofs.Common.{◌≡◌, ℕ, suc, ◌+◌, ◌-◌, ◌*◌, ◌/◌, ◌%◌, ◌^◌, ◌<◌, Bool, true, false, ltb, ℤ, pos, negsuc, ◌+ℤ◌, ◌-ℤ◌, ◌*ℤ◌, Some, refl, mod-lt, div-add-mod', arith, lit<, w32, to_z}
use mir.Val.{sel}
use Rattle.std.specs.Int.{int_wrap}
use Rattle.std.proofs.lemmas.Int.{ints, SFits-int_wrap}
use Rattle.integers.specs.Int.{modulo}
use Rattle.integers.specs.Laws.{InRange, Modulo}

modulo_in_range : (z : ℤ) → InRange (modulo z)
modulo_in_range z = let f = SFits-int_wrap w32 z in (omega (arith, ints), omega (arith, ints))

-- 32 bits read as a signed number are that number, or lie 2^32 below it.
bits_apart : (n : ℕ) → n < 2 ^ 32 → (j : ℕ) × (to_z w32 n +ℤ pos (j * 2 ^ 32) ≡ pos n)
bits_apart n h = by (ltb n (2 ^ 31)) refl
  where
    by : (t : Bool) → ltb n (2 ^ 31) ≡ t → (j : ℕ) × (sel t (pos n) (negsuc (2 ^ 32 - suc n)) +ℤ pos (j * 2 ^ 32) ≡ pos n)
    by true e = (0, omega (arith, ints))
    by false e = (1, omega (arith, ints))

-- Two numbers with equal sums of multiples of 2^32 differ by a multiple of it.
multiple : (z v : ℤ) (i j : ℕ) → v +ℤ pos (j * 2 ^ 32) ≡ z +ℤ pos (i * 2 ^ 32) → v ≡ z +ℤ (pos i -ℤ pos j) *ℤ pos (2 ^ 32)
multiple z v i j e = omega (arith, ints)

apart : (z : ℤ) → (k : ℤ) × (modulo z ≡ z +ℤ k *ℤ pos (2 ^ 32))
unfolding int_wrap
apart (pos a) =
    let d = div-add-mod' a (2 ^ 32) in
    let b = bits_apart (a % 2 ^ 32) (mod-lt a (lit< tt)) in
    (pos 0 -ℤ pos (b.0 + a / 2 ^ 32), multiple (pos a) (modulo (pos a)) 0 (b.0 + a / 2 ^ 32) (omega (arith, ints, b.1)))
apart (negsuc a) =
    let d = div-add-mod' a (2 ^ 32) in
    let l : a % 2 ^ 32 < 2 ^ 32 = mod-lt a (lit< tt) in
    let b = bits_apart (2 ^ 32 - 1 - a % 2 ^ 32) (omega arith) in
    (pos (a / 2 ^ 32 + 1) -ℤ pos b.0, multiple (negsuc a) (modulo (negsuc a)) (a / 2 ^ 32 + 1) b.0 (omega (arith, ints, b.1)))

pub modulo_is : (z : ℤ) → Modulo z (Some (modulo z))
modulo_is z = (modulo_in_range z, apart z)
