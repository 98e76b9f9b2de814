-- What a ready queue means: how often it holds each number. Assumes nothing.
use Rattle.std.specs.Prelude.{◌≡◌, ℕ, ◌-◌, ◌<◌, Bool, cond, ◌&&◌, Some, None, Option, ◌==◌, nat_lt, count_by}
use Rattle.std.specs.List.{range_with_len}

-- nothing is held
abbrev pub Empty : (ℕ → ℕ) → Type 0
Empty held = (k : ℕ) → held k ≡ 0

-- a put accepts a number up to 63 that is not held
abbrev pub welcome : (ℕ → ℕ) → ℕ → Bool
welcome held n = nat_lt n 64 && held n == 0

-- after a put the number is held once if it was welcome, and every other number is held as often as before
abbrev pub Puts : (ℕ → ℕ) → ℕ → (ℕ → ℕ) → Type 0
Puts before n after = (k : ℕ) → after k ≡ cond (k == n && welcome before n) 1 (before k)

-- a take hands over a held number up to 63, which is then held once less; it hands over nothing exactly when nothing is held
abbrev pub Takes : (ℕ → ℕ) → Option ℕ → (ℕ → ℕ) → Type 0
Takes before None after = Empty before × Empty after
Takes before (Some n) after = (n < 64) × (0 < before n) × ((k : ℕ) → after k ≡ before k - cond (k == n) 1 0)

-- how many different numbers below a bound are held
unfoldable pub different : (ℕ → ℕ) → ℕ → ℕ
different held bound = count_by (λ k. nat_lt 0 (held k)) (range_with_len 0 bound)
