-- The first place of a name among others.
use Rattle.std.specs.Prelude.{ℕ, List, Option, position}
use Rattle.std.specs.Str.{bytes_eq}

-- the first place of s among the names, from 0
abbrev pub found : List (List ℕ) → List ℕ → Option ℕ
found ns s = position (λ n. bytes_eq n s) ns
