-- Takes one after another. Assumes nothing.
use Rattle.std.specs.Prelude.{◌≡◌, ℕ, ◌+◌, List, [], ◌∷◌, ◌++◌, Some, None}
use Rattle.queues.specs.Lists.{times}
use Rattle.queues.specs.Meaning.{Takes}

-- takes one after another hand over these numbers in this order, and leave a queue that means this
pub data HandsOver (before : ℕ → ℕ) : List ℕ → (ℕ → ℕ) → Type 0 where
  nothing : HandsOver before [] before
  vain : {ns : List ℕ} {held after : ℕ → ℕ} → HandsOver before ns held → Takes held None after → HandsOver before ns after
  number : {ns : List ℕ} {held after : ℕ → ℕ} (n : ℕ) → HandsOver before ns held → Takes held (Some n) after → HandsOver before (ns ++ n ∷ []) after

-- takes one after another hand over what the list grows by at its end
abbrev pub Moves : (ℕ → ℕ) → List ℕ → (ℕ → ℕ) → List ℕ → Type 0
Moves before list after longer = (ns : List ℕ) × (longer ≡ list ++ ns) × HandsOver before ns after

-- queue and list together have each number as often as before
abbrev pub NoneLost : (ℕ → ℕ) → List ℕ → (ℕ → ℕ) → List ℕ → Type 0
NoneLost before list after longer = (k : ℕ) → after k + times longer k ≡ before k + times list k
