-- The lowest-first queue: a word with a bit for each number. Assumes nothing.
use Rattle.std.specs.Prelude.{◌≡◌, ℕ, ◌<◌, Some, None, Option}
use Rattle.std.specs.Int.{bit_at}
use Rattle.queues.specs.Meaning.{Empty}
use Rattle.queues.specs.declared.lowest.LowestFirst.{LowestFirst}

-- a lowest-first queue holds a number once if its bit is set, and not otherwise
abbrev pub marked : LowestFirst → ℕ → ℕ
marked queue = bit_at queue.word

-- a take hands over the lowest number held, and nothing exactly when none is
abbrev pub GivesLowest : (ℕ → ℕ) → Option ℕ → Type 0
GivesLowest held None = Empty held
GivesLowest held (Some n) = (0 < held n) × ((k : ℕ) → k < n → held k ≡ 0)
