-- What a single word can be to the grammar.
use Rattle.std.specs.Prelude.{◌≡◌, Bool, true, false, cond, ◌↔◌, ℤ, Some, None, Option}
use denote.Enum.Bare.{same_true, true_same}
use Rattle.integers.specs.declared.Comparison.TheVariants as compare
use Rattle.integers.specs.declared.Operator.TheVariants as operator
use Rattle.expressions.specs.declared.Dyadic.{Dyadic}
use Rattle.expressions.specs.declared.Dyadic.TheVariants.{Arithmetic, Compare, And, Or}
use Rattle.words.specs.Token.{Token, name, keyword, number, sign}
use Rattle.words.specs.contracts.vocabulary.Keyword as any_key
use Rattle.words.specs.contracts.vocabulary.KeywordPartialEq.TheImpl as keyword_eq
use Rattle.words.specs.contracts.vocabulary.Sign as any_sign
use Rattle.words.specs.contracts.vocabulary.SignPartialEq.TheImpl as sign_eq
use Rattle.words.specs.declared.vocabulary.Keyword.{Keyword}
use Rattle.words.specs.declared.vocabulary.Keyword.TheVariants as key
use Rattle.words.specs.declared.vocabulary.Sign.{Sign}
use Rattle.words.specs.declared.vocabulary.Sign.TheVariants as mark
use Rattle.lines.specs.Syntax.{Naming, naming}
use Rattle.lines.specs.declared.syntax.Lone.TheVariants as lone
use Rattle.lines.specs.declared.vocabulary.Fixed.{Fixed}
use Rattle.lines.specs.declared.vocabulary.Fixed.TheVariants as fixed
use Rattle.lines.specs.declared.vocabulary.Leaf.{Leaf}
use Rattle.lines.specs.declared.vocabulary.Leaf.TheVariants as start
use Rattle.lines.specs.declared.vocabulary.Opening.{Opening}
use Rattle.lines.specs.declared.vocabulary.Opening.TheVariants as opening
use Rattle.lines.specs.declared.vocabulary.Prefix.{Prefix}
use Rattle.lines.specs.declared.vocabulary.Prefix.TheVariants as prefix
use Rattle.lines.specs.declared.vocabulary.Separator.{Separator}
use Rattle.lines.specs.declared.vocabulary.Separator.TheVariants as separator
use Rattle.lines.specs.declared.vocabulary.Verb.{Verb}
use Rattle.lines.specs.declared.vocabulary.Verb.TheVariants as verb

-- whether the two are the same keyword, as `==` says
abbrev pub same_key : Keyword → Keyword → Bool
same_key j k = keyword_eq.ghosts.eq j k

-- true exactly where the two are one keyword
pub same_key_lem : (j k : Keyword) → (same_key j k ≡ true) ↔ (j ≡ k)
same_key_lem j k = (same_true any_key.the_type tt j k, true_same any_key.the_type j k)

-- whether the two are the same sign, as `==` says
abbrev pub same_sign : Sign → Sign → Bool
same_sign m n = sign_eq.ghosts.eq m n

-- true exactly where the two are one sign
pub same_sign_lem : (m n : Sign) → (same_sign m n ≡ true) ↔ (m ≡ n)
same_sign_lem m n = (same_true any_sign.the_type tt m n, true_same any_sign.the_type m n)

-- whether a word is that keyword
abbrev pub is_key : Keyword → Token → Bool
is_key k (name s i) = false
is_key k (keyword j s i) = same_key j k
is_key k (number z s i) = false
is_key k (sign m s i) = false

-- whether a word is that sign
abbrev pub is_sign : Sign → Token → Bool
is_sign n (name s i) = false
is_sign n (keyword k s i) = false
is_sign n (number z s i) = false
is_sign n (sign m s i) = same_sign m n

-- what an operand can begin with
pub data Start : Type 0 where
  of_name : Naming → Start
  of_number : ℤ → Start
  of_truth : Bool → Start
  bracket : Start

-- what a leaf of the code stands for
abbrev pub leaf : Leaf → Start
leaf (start.Name m) = of_name (naming m)
leaf (start.Number z) = of_number z
leaf (start.Truth b) = of_truth b
leaf start.Open = bracket

-- what a word is at the start of an operand
abbrev pub leaf_of : Token → Option Start
leaf_of (name s i) = Some (of_name (record { text = s; byte = i }))
leaf_of (keyword k s i) = cond (same_key k key.True) (Some (of_truth true)) (cond (same_key k key.False) (Some (of_truth false)) None)
leaf_of (number z s i) = Some (of_number z)
leaf_of (sign m s i) = cond (same_sign m mark.Open) (Some bracket) None

-- `-` or NOT
abbrev pub prefix_of : Token → Option Prefix
prefix_of (name s i) = None
prefix_of (keyword k s i) = cond (same_key k key.Not) (Some prefix.Not) None
prefix_of (number z s i) = None
prefix_of (sign m s i) = cond (same_sign m mark.Subtract) (Some prefix.Minus) None

-- the signs that stand between two operands
abbrev pub sign_operator : Sign → Option Dyadic
sign_operator mark.Add = Some (Arithmetic operator.Add)
sign_operator mark.Subtract = Some (Arithmetic operator.Subtract)
sign_operator mark.Multiply = Some (Arithmetic operator.Multiply)
sign_operator mark.Divide = Some (Arithmetic operator.Divide)
sign_operator mark.Remainder = Some (Arithmetic operator.Remainder)
sign_operator mark.Equal = Some (Compare compare.Equal)
sign_operator mark.Differ = Some (Compare compare.Differ)
sign_operator mark.Less = Some (Compare compare.Less)
sign_operator mark.More = Some (Compare compare.More)
sign_operator mark.AtMost = Some (Compare compare.AtMost)
sign_operator mark.AtLeast = Some (Compare compare.AtLeast)
sign_operator _ = None

-- the keywords that stand between two operands
abbrev pub key_operator : Keyword → Option Dyadic
key_operator key.Plus = Some (Arithmetic operator.Plus)
key_operator key.Minus = Some (Arithmetic operator.Minus)
key_operator key.Times = Some (Arithmetic operator.Times)
key_operator key.And = Some And
key_operator key.Or = Some Or
key_operator _ = None

-- the operator that a word is
abbrev pub operator_of : Token → Option Dyadic
operator_of (name s i) = None
operator_of (keyword k s i) = key_operator k
operator_of (number z s i) = None
operator_of (sign m s i) = sign_operator m

-- what a line begins with, by its first keyword
abbrev pub keyword_opening : Keyword → Option Opening
keyword_opening key.Int = Some opening.Int
keyword_opening key.Chan = Some opening.Chan
keyword_opening key.Place = Some opening.Place
keyword_opening key.While = Some opening.While
keyword_opening key.Pri = Some opening.Pri
keyword_opening key.Skip = Some (opening.Lone lone.Skip)
keyword_opening key.Stop = Some (opening.Lone lone.Stop)
keyword_opening key.Seq = Some (opening.Lone lone.Seq)
keyword_opening key.Par = Some (opening.Lone lone.Par)
keyword_opening key.If = Some (opening.Lone lone.If)
keyword_opening key.Alt = Some (opening.Lone lone.Alt)
keyword_opening _ = None

-- what a line begins with, by its first word
abbrev pub opening_of : Token → Option Opening
opening_of (name s i) = None
opening_of (keyword k s i) = keyword_opening k
opening_of (number z s i) = None
opening_of (sign m s i) = None

-- the name that a word is
abbrev pub naming_of : Token → Option Naming
naming_of (name s i) = Some (record { text = s; byte = i })
naming_of (keyword k s i) = None
naming_of (number z s i) = None
naming_of (sign m s i) = None

-- the number that a word is
abbrev pub number_of : Token → Option ℤ
number_of (name s i) = None
number_of (keyword k s i) = None
number_of (number z s i) = Some z
number_of (sign m s i) = None

-- `:=`, `?` or `!`
abbrev pub verb_of : Token → Option Verb
verb_of t = cond (is_sign mark.Becomes t) (Some verb.Becomes) (cond (is_sign mark.Input t) (Some verb.Input) (cond (is_sign mark.Output t) (Some verb.Output) None))

-- `,` or `:`
abbrev pub separator_of : Token → Option Separator
separator_of t = cond (is_sign mark.Comma t) (Some separator.Comma) (cond (is_sign mark.Colon t) (Some separator.Colon) None)

-- whether a word is that keyword or sign
abbrev pub is_fixed : Fixed → Token → Bool
is_fixed (fixed.Keyword k) = is_key k
is_fixed (fixed.Sign m) = is_sign m
