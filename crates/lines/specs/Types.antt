-- The types of expressions, in which every name is a variable of type INT.
use Rattle.std.specs.Prelude.{Some, None, Ok, Err, Option}
use Rattle.expressions.specs.declared.Dyadic.{Dyadic}
use Rattle.expressions.specs.declared.Dyadic.TheVariants.{Arithmetic, Compare, And, Or}
use Rattle.lines.specs.Answer.{Answer}
use Rattle.lines.specs.Syntax.{Phrase, name, number, truth, negative, negation, dyadic}
use Rattle.lines.specs.declared.refusal.Flaw.TheVariants.{WrongType}
use Rattle.lines.specs.declared.types.Sort.{Sort}
use Rattle.lines.specs.declared.types.Sort.TheVariants.{Int, Truth}

-- what follows from a number
abbrev pub of_int : Option Sort → Option Sort → Option Sort
of_int None r = None
of_int (Some Int) r = r
of_int (Some Truth) r = None

-- what follows from a truth value
abbrev pub of_truth : Option Sort → Option Sort → Option Sort
of_truth None r = None
of_truth (Some Int) r = None
of_truth (Some Truth) r = r

-- arithmetic makes a number of numbers, a comparison a truth value of numbers, AND and OR a truth value of truth values
abbrev pub operation_type : Dyadic → Option Sort → Option Sort → Option Sort
operation_type (Arithmetic o) a b = of_int a (of_int b (Some Int))
operation_type (Compare c) a b = of_int a (of_int b (Some Truth))
operation_type And a b = of_truth a (of_truth b (Some Truth))
operation_type Or a b = of_truth a (of_truth b (Some Truth))

-- the type of an expression, if it has one
abbrev pub type_of : Phrase → Option Sort
type_of (name n) = Some Int
type_of (number z) = Some Int
type_of (truth b) = Some Truth
type_of (negative e) = of_int (type_of e) (Some Int)
type_of (negation e) = of_truth (type_of e) (Some Truth)
type_of (dyadic o a b) = operation_type o (type_of a) (type_of b)

abbrev pub typed : Sort → Option Sort → Answer (Unit {0})
typed Int None = Err WrongType
typed Int (Some Int) = Ok tt
typed Int (Some Truth) = Err WrongType
typed Truth None = Err WrongType
typed Truth (Some Int) = Err WrongType
typed Truth (Some Truth) = Ok tt

-- the expression has to be of that type
abbrev pub of_type : Sort → Phrase → Answer (Unit {0})
of_type s e = typed s (type_of e)
