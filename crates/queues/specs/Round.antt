-- The 64 places of a ring, gone round from the oldest number on. Assumes nothing.
use Rattle.std.specs.Prelude.{ℕ, ◌+◌, ◌%◌, List, map, slice_index}
use Rattle.std.specs.List.{range_with_len}

-- the number that stands so many places behind the head
abbrev pub behind : List ℕ → ℕ → ℕ → ℕ
behind places head i = slice_index places ((head + i) % 64)

-- so many numbers from the head on, in the order of their places
abbrev pub around : List ℕ → ℕ → ℕ → List ℕ
around places head len = map (behind places head) (range_with_len 0 len)
