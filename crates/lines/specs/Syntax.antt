-- A line as it is written: the names stand in it with their bytes and places.
use Rattle.std.specs.Prelude.{ℕ, Bool, List, map, ℤ, vec_items}
use Rattle.expressions.specs.declared.Dyadic.{Dyadic}
use Rattle.expressions.specs.declared.Expr.{Expr}
use Rattle.expressions.specs.declared.Expr.TheVariants as expr
use Rattle.lines.specs.declared.syntax.Draft.{Draft}
use Rattle.lines.specs.declared.syntax.Draft.TheVariants as draft
use Rattle.lines.specs.declared.syntax.Lone.{Lone}
use Rattle.lines.specs.declared.syntax.Mention.{Mention}

-- a name where it stands
pub record Naming : Type 0 where
  pub text : List ℕ
  pub byte : ℕ

-- an expression as it is written
pub data Phrase : Type 0 where
  name : Naming → Phrase
  number : ℤ → Phrase
  truth : Bool → Phrase
  negative : Phrase → Phrase
  negation : Phrase → Phrase
  dyadic : Dyadic → Phrase → Phrase → Phrase

-- a line as it is written
pub data Sentence : Type 0 where
  variables : List Naming → Sentence
  channels : List Naming → Sentence
  place : Naming → ℤ → Sentence
  lone : Lone → Sentence
  assign : Naming → Phrase → Sentence
  input : Naming → Naming → Sentence
  output : Naming → Phrase → Sentence
  while : Phrase → Sentence
  choice : Phrase → Sentence
  guard : Phrase → Naming → Naming → Sentence
  skip_guard : Phrase → Sentence

-- what a name of the code stands for
abbrev pub naming : Mention → Naming
naming m = record { text = m.text.now; byte = m.byte }

-- the bytes of a name of the code
abbrev pub mention_text : Mention → List ℕ
mention_text m = m.text.now

-- what a tree of the code stands for
abbrev pub phrase : Expr Mention → Phrase
phrase (expr.Name m) = name (naming m)
phrase (expr.Number z) = number z
phrase (expr.Truth b) = truth b
phrase (expr.Negative' p e) = negative (phrase e)
phrase (expr.Negation' p e) = negation (phrase e)
phrase (expr.Dyadic' op p a q b) = dyadic op (phrase a) (phrase b)

-- what a draft of the code stands for
abbrev pub sentence : Draft → Sentence
sentence (draft.Variables ms) = variables (map naming (vec_items ms))
sentence (draft.Channels ms) = channels (map naming (vec_items ms))
sentence (draft.Place c z) = place (naming c) z
sentence (draft.Lone l) = lone l
sentence (draft.Assign x e) = assign (naming x) (phrase e)
sentence (draft.Input c x) = input (naming c) (naming x)
sentence (draft.Output c e) = output (naming c) (phrase e)
sentence (draft.While e) = while (phrase e)
sentence (draft.Choice e) = choice (phrase e)
sentence (draft.Guard e c x) = guard (phrase e) (naming c) (naming x)
sentence (draft.SkipGuard e) = skip_guard (phrase e)
