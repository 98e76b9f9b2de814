-- The expression at the front of some words, as a computation. The rules that it obeys are in Grammar.
use Rattle.std.specs.Prelude.{◌≡◌, ℕ, zero, suc, Bool, cond, List, [], ◌∷◌, map, Some, None, Ok, Err, ok_or, option_map, Option}
use Rattle.std.specs.Borrow.{Bor}
use Rattle.expressions.specs.declared.Dyadic.{Dyadic}
use Rattle.expressions.specs.declared.Expr.{Expr}
use Rattle.words.specs.Token.{Token, token}
use Rattle.words.specs.declared.vocabulary.Sign.TheVariants.{Close}
use Rattle.words.specs.declared.vocabulary.Word.{Word}
use Rattle.lines.specs.Answer.{Answer, onward}
use Rattle.lines.specs.Roles.{Start, of_name, of_number, of_truth, bracket, leaf_of, prefix_of, operator_of, is_sign}
use Rattle.lines.specs.Syntax.{Phrase, name, number, truth, negative, negation, dyadic, phrase}
use Rattle.lines.specs.declared.refusal.Flaw.TheVariants.{NoForm}
use Rattle.lines.specs.declared.syntax.Mention.{Mention}
use Rattle.lines.specs.declared.vocabulary.Prefix.{Prefix}
use Rattle.lines.specs.declared.vocabulary.Prefix.TheVariants.{Minus, Not}

-- what was read, and the words that are left
abbrev pub Read : Type 0 → Type 0
Read A = Answer (A × List Token)

-- what the first word is by `role`, and the words after it
abbrev pub first : {A : Type 0} → (Token → Option A) → List Token → Read A
first role [] = Err NoForm
first role (t ∷ ts) = ok_or (option_map (λ x. (x, ts)) (role t)) NoForm

-- the answer r of the code is that of the first of some words, where Is says what a word may be
abbrev pub FirstIs : {T : Type 0} → (Word → Option T → Type 0) → List Word → Answer (T × Bor (List Word)) → Type 0
FirstIs Is [] r = r ≡ Err NoForm
FirstIs Is (w ∷ ws) (Ok p) = Is w (Some p.0) × (p.1.now ≡ ws)
FirstIs Is (w ∷ ws) (Err f) = Is w None × (f ≡ NoForm)

-- the words after one that has to stand there
abbrev pub past : (Token → Bool) → List Token → Answer (List Token)
past is [] = Err NoForm
past is (t ∷ ts) = cond (is t) (Ok ts) (Err NoForm)

-- what stood in brackets, and what is left after the closing one
abbrev pub closed : Phrase × List Token → Read Phrase
closed r = onward (past (is_sign Close) r.1) (λ ts. Ok (r.0, ts))

-- an operand by its first word, of which the part in brackets is read by k
abbrev pub operand_at : Start → (List Token → Read Phrase) → List Token → Read Phrase
operand_at (of_name n) k ts = Ok (name n, ts)
operand_at (of_number z) k ts = Ok (number z, ts)
operand_at (of_truth b) k ts = Ok (truth b, ts)
operand_at bracket k ts = k ts

abbrev pub operand_by : (List Token → Read Phrase) → List Token → Read Phrase
operand_by k ts = onward (first leaf_of ts) (λ r. operand_at r.0 k r.1)

-- `-` or NOT before an operand
abbrev pub with_prefix : Prefix → Phrase → Phrase
with_prefix Minus e = negative e
with_prefix Not e = negation e

abbrev pub second_at : (List Token → Read Phrase) → Phrase → Option Dyadic → List Token → List Token → Read Phrase
second_at op a None ts us = Ok (a, us)
second_at op a (Some o) ts us = onward (op ts) (λ r. Ok (dyadic o a r.0, r.1))

-- what follows the first operand: an operator and the second, or nothing of the expression
abbrev pub after_first : (List Token → Read Phrase) → Phrase → List Token → Read Phrase
after_first op a [] = Ok (a, [])
after_first op a (t ∷ ts) = second_at op a (operator_of t) ts (t ∷ ts)

abbrev pub prefix_at : (List Token → Read Phrase) → Option Prefix → List Token → List Token → Read Phrase
prefix_at op None ts us = onward (op us) (λ r. after_first op r.0 r.1)
prefix_at op (Some p) ts us = onward (op ts) (λ r. Ok (with_prefix p r.0, r.1))

-- an expression, of which op reads the operands
abbrev pub expression_by : (List Token → Read Phrase) → List Token → Read Phrase
expression_by op [] = Err NoForm
expression_by op (t ∷ ts) = prefix_at op (prefix_of t) ts (t ∷ ts)

-- what stands in brackets, which may be d deep
abbrev pub bracket_of : ℕ → List Token → Read Phrase
bracket_of zero ts = Err NoForm
bracket_of (suc d) ts = onward (expression_by (operand_by (bracket_of d)) ts) closed

-- an operand, with brackets at most d deep
abbrev pub operand_of : ℕ → List Token → Read Phrase
operand_of d ts = operand_by (bracket_of d) ts

-- an expression, with brackets at most d deep
abbrev pub expression_of : ℕ → List Token → Read Phrase
expression_of d ts = expression_by (operand_of d) ts

-- the words that a slice of the code holds
abbrev pub words_left : Bor (List Word) → List Token
words_left r = map token r.now

-- what a term that was read stands for, and the words that are left
abbrev pub term_read : Expr Mention × Bor (List Word) → Phrase × List Token
term_read p = (phrase p.0, words_left p.1)
