-- INT: its range, and what its operators and comparisons give, over the whole numbers.
use Rattle.std.specs.Prelude.{◌^◌, Bool, false, cond, not, ◌&&◌, ℤ, pos, negsuc, ◌+ℤ◌, ◌-ℤ◌, ◌*ℤ◌, neg_ℤ, Some, None, Option, ◌==◌, int_div, int_le, int_lt, int_rem}
use Rattle.std.specs.Int.{int_wrap, w32}
use Rattle.integers.specs.declared.Operator.{Operator}
use Rattle.integers.specs.declared.Operator.TheVariants.{Add, Subtract, Multiply, Divide, Remainder, Plus, Minus, Times}
use Rattle.integers.specs.declared.Comparison.{Comparison}
use Rattle.integers.specs.declared.Comparison.TheVariants.{Equal, Differ, Less, More, AtMost, AtLeast}

-- Two numbers are the same.
abbrev pub eq_z : ℤ → ℤ → Bool
eq_z (pos a) (pos b) = a == b
eq_z (pos a) (negsuc b) = false
eq_z (negsuc a) (pos b) = false
eq_z (negsuc a) (negsuc b) = a == b

-- INT is the numbers from −2^31 to 2^31 − 1.
abbrev pub in_range : ℤ → Bool
in_range z = int_le (neg_ℤ (pos (2 ^ 31))) z && int_lt z (pos (2 ^ 31))

-- A number outside the range is no value.
abbrev pub inside : ℤ → Option ℤ
inside z = cond (in_range z) (Some z) None

-- A number brought into the range modulo 2^32.
abbrev pub modulo : ℤ → ℤ
modulo z = int_wrap w32 z

-- No value at right operand 0.
abbrev pub unless_zero : ℤ → Option ℤ → Option ℤ
unless_zero b o = cond (eq_z b (pos 0)) None o

-- The value of `a op b`; `int_div` is the quotient rounded toward zero and `int_rem` what it leaves of a.
abbrev pub applied : Operator → ℤ → ℤ → Option ℤ
applied Add a b = inside (a +ℤ b)
applied Subtract a b = inside (a -ℤ b)
applied Multiply a b = inside (a *ℤ b)
applied Divide a b = unless_zero b (inside (int_div a b))
applied Remainder a b = unless_zero b (Some (int_rem a b))
applied Plus a b = Some (modulo (a +ℤ b))
applied Minus a b = Some (modulo (a -ℤ b))
applied Times a b = Some (modulo (a *ℤ b))

-- The value of `- a`.
abbrev pub negated : ℤ → Option ℤ
negated a = inside (neg_ℤ a)

-- Whether `a c b` is TRUE.
abbrev pub compared : Comparison → ℤ → ℤ → Bool
compared Equal a b = eq_z a b
compared Differ a b = not (eq_z a b)
compared Less a b = int_lt a b
compared More a b = int_lt b a
compared AtMost a b = int_le a b
compared AtLeast a b = int_le b a
