-- The ring: a line of numbers, the oldest first. Assumes nothing.
use Rattle.std.specs.Prelude.{◌≡◌, ℕ, cond, List, [], ◌∷◌, ◌++◌, Some, None, Option}
use Rattle.queues.specs.Lists.{times}
use Rattle.queues.specs.Meaning.{welcome}
use Rattle.queues.specs.Round.{around}
use Rattle.queues.specs.declared.oldest.Ring.{Ring}

-- the numbers that a ring holds, the oldest first
abbrev pub line : Ring → List ℕ
line ring = around ring.places ring.head ring.len

-- a put appends a welcome number to the line, and leaves the line as it was at any other
abbrev pub Appends : List ℕ → ℕ → List ℕ → Type 0
Appends before n after = after ≡ cond (welcome (times before) n) (before ++ n ∷ []) before

-- a take hands over the head of the line and leaves the tail, and nothing exactly when nobody stands in line
abbrev pub GivesHead : List ℕ → Option ℕ → List ℕ → Type 0
GivesHead before None after = (before ≡ []) × (after ≡ [])
GivesHead before (Some n) after = before ≡ n ∷ after
