-- The classes of a byte.
use Rattle.std.specs.Prelude.{ℕ, Bool, not, ◌&&◌, ◌||◌, ◌==◌, nat_le}
use Rattle.words.specs.declared.classes.Class.{Class}
use Rattle.words.specs.declared.classes.Class.TheVariants.{Printable, Space, Letter, Digit, InName}

-- any byte but 10, which ends a line
abbrev pub in_line : ℕ → Bool
in_line b = not (b == 10)

-- a byte that a line may hold
abbrev pub printable : ℕ → Bool
printable b = nat_le 32 b && nat_le b 126

-- a space
abbrev pub space : ℕ → Bool
space b = b == 32

-- `A` to `Z` or `a` to `z`
abbrev pub letter : ℕ → Bool
letter b = (nat_le 65 b && nat_le b 90) || (nat_le 97 b && nat_le b 122)

-- `0` to `9`
abbrev pub digit : ℕ → Bool
digit b = nat_le 48 b && nat_le b 57

-- what a name goes on with: a letter, a digit or a full stop
abbrev pub in_name : ℕ → Bool
in_name b = letter b || digit b || b == 46

-- the bytes of a class
abbrev pub belongs : Class → ℕ → Bool
belongs Printable = printable
belongs Space = space
belongs Letter = letter
belongs Digit = digit
belongs InName = in_name
