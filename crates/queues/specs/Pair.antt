-- The pair: two queues, and a mask that says which of them a number goes to. Assumes nothing.
use Rattle.std.specs.Prelude.{◌≡◌, ℕ, ◌+◌, ◌<◌, true, false, Option}
use Rattle.std.specs.Int.{bit_at}
use Rattle.queues.specs.Meaning.{Empty, Puts, Takes, welcome}
use Rattle.queues.specs.declared.joined.Pair.{Pair}

-- what the two members mean is a parameter, so that any two queues may be joined
module _ {F S : Type 0} (first : F → ℕ → ℕ) (second : S → ℕ → ℕ) where
  -- a pair holds a number as often as its two members together
  abbrev pub joint : Pair F S → ℕ → ℕ
  joint pair k = first pair.first k + second pair.second k

  -- which member a put of a number concerns, and what it leaves
  pub record Routes (before : Pair F S) (n : ℕ) (after : Pair F S) : Type 0 where
    -- the mask stays
    pub mask : after.mask ≡ before.mask
    -- a number that is not welcome touches neither member
    pub neither : welcome (joint before) n ≡ false → (after.first ≡ before.first) × (after.second ≡ before.second)
    -- a welcome number whose bit is set is put into the first member, and the second is untouched
    pub set : welcome (joint before) n ≡ true → bit_at before.mask n ≡ 1 → Puts (first before.first) n (first after.first) × (after.second ≡ before.second)
    -- a welcome number whose bit is not set is put into the second member, and the first is untouched
    pub unset : welcome (joint before) n ≡ true → bit_at before.mask n ≡ 0 → (after.first ≡ before.first) × Puts (second before.second) n (second after.second)

  -- which member a take concerns, and what it leaves
  pub record FirstBeforeSecond (before : Pair F S) (given : Option ℕ) (after : Pair F S) : Type 0 where
    -- the mask stays
    pub mask : after.mask ≡ before.mask
    -- while the first member holds a number it hands over, and the second is untouched
    pub holding : (k : ℕ) → 0 < first before.first k → Takes (first before.first) given (first after.first) × (after.second ≡ before.second)
    -- when the first member holds nothing the second hands over, and the first still holds nothing
    pub spent : Empty (first before.first) → Empty (first after.first) × Takes (second before.second) given (second after.second)
