-- The expressions of the language.
use Rattle.std.specs.Prelude.{◌≡◌, ℕ, Bool, ℤ}
use Rattle.numbers.specs.Kinds.{Variable}
use Rattle.expressions.specs.declared.Dyadic.{Dyadic}
use Rattle.expressions.specs.declared.Expr.{Expr}
use Rattle.expressions.specs.declared.Expr.TheVariants.{Number, Truth, Name, Negative', Negation', Dyadic'}

-- A number, TRUE or FALSE, a variable by its number, `-` or NOT before an operand, or an operator between two.
pub data Expression : Type 0 where
  number : ℤ → Expression
  truth : Bool → Expression
  variable : ℕ → Expression
  negative : Expression → Expression
  negation : Expression → Expression
  dyadic : Dyadic → Expression → Expression → Expression

-- The expression that a tree of the code stands for.
abbrev pub shape : Expr Variable → Expression
shape (Number n) = number n
shape (Truth b) = truth b
shape (Name x) = variable x.number
shape (Negative' p e) = negative (shape e)
shape (Negation' p e) = negation (shape e)
shape (Dyadic' op p a q b) = dyadic op (shape a) (shape b)

-- The tree e is `-` before an operand.
abbrev pub IsNegative : {N : Type 0} → Expr N → Expr N → Type 0
IsNegative operand e = (p : _) × (e ≡ Negative' p operand)

-- The tree e is NOT before an operand.
abbrev pub IsNegation : {N : Type 0} → Expr N → Expr N → Type 0
IsNegation operand e = (p : _) × (e ≡ Negation' p operand)

-- The tree e is an operator between two operands.
abbrev pub IsDyadic : {N : Type 0} → Dyadic → Expr N → Expr N → Expr N → Type 0
IsDyadic op left right e = (p : _) × (q : _) × (e ≡ Dyadic' op p left q right)
