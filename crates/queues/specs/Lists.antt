-- How often a number stands in a list. Assumes nothing.
use Rattle.std.specs.Prelude.{ℕ, ◌≤◌, cond, List, ◌==◌, nat_lt, count_by}

-- how often a number stands in a list
abbrev pub times : List ℕ → ℕ → ℕ
times ns k = count_by (λ n. n == k) ns

-- each number up to 63 stands in the list at most once, and no other does
abbrev pub Once : List ℕ → Type 0
Once ns = (k : ℕ) → times ns k ≤ cond (nat_lt k 64) 1 0
