-- Expressions in brackets and before a guard.
use Rattle.std.proofs.Common.{◌≡◌, ℕ, suc, false, ◌==◌, List, [], ◌∷◌, map, Ok, Err, length, option_map, ok_or, sym, ap, ◌∙◌, arith}
use Rattle.std.specs.Borrow.{Bor}
use Rattle.words.specs.Token.{Token, token}
use Rattle.words.specs.declared.vocabulary.Sign.TheVariants.{Close, Guard}
use Rattle.words.specs.declared.vocabulary.Word.{Word}
use Rattle.lines.specs.Answer.{onward}
use Rattle.lines.specs.Phrases.{FirstIs, expression_of, operand_at, operand_of, bracket_of, closed, past}
use Rattle.lines.specs.Roles.{Start, is_sign, leaf, leaf_of}
use Rattle.lines.specs.Sentences.{condition_of, guard_of, guarded_of}
use Rattle.lines.specs.Syntax.{Phrase}
use Rattle.lines.specs.declared.refusal.Flaw.{Flaw}
use Rattle.lines.specs.declared.refusal.Flaw.TheVariants.{NoForm}
use Rattle.lines.specs.declared.vocabulary.Leaf.TheVariants.{Open}

pub deeper : (d n : ℕ) (ts : List Token) → d ≡ suc n → bracket_of d ts ≡ onward (expression_of n ts) closed
deeper d n ts e = ap (λ k. bracket_of k ts) e

-- what stands in an open bracket with no closing one
pub unclosed : (d n : ℕ) (ts : List Token) {after : List Token} (x : Phrase) {f : Flaw} → d ≡ suc n → expression_of n ts ≡ Ok (x, after) → past (is_sign Close) after ≡ Err f → bracket_of d ts ≡ Err f
unclosed d n ts x e read none = deeper d n ts e ∙ ap (λ r. onward r closed) read ∙ ap (λ r. onward r (λ us. Ok (x, us))) none

-- an operand that begins with an open bracket
pub opened : (d : ℕ) (ws : List Word) (rest : Bor (List Word)) → FirstIs (λ w l. Word × (option_map leaf l ≡ leaf_of (token w))) ws (Ok (Open, rest)) → operand_of d (map token ws) ≡ bracket_of d (map token rest.now)
opened d [] rest e = let z : ◌≡◌ {A = ℕ} 0 1 = cc in absurd (omega arith)
opened d (w ∷ ws) rest e =
    ap (λ l. onward {A = Start × List Token} (ok_or (option_map (λ x. (x, map token ws)) l) NoForm) (λ r. operand_at r.0 (bracket_of d) r.1)) (sym e.0.1)
    ∙ ap (λ l. bracket_of d (map token l)) (sym e.1)

-- a condition before words that do not begin with `&`
pub unguarded : (ts : List Token) (x : Phrase) (rest : List Word) {f : Flaw} → (length rest == 0) ≡ false → expression_of 8 ts ≡ Ok (x, map token rest) → past (is_sign Guard) (map token rest) ≡ Err f → condition_of ts ≡ Err f
unguarded ts x [] some read none = let z : ◌≡◌ {A = ℕ} 0 1 = cc in absurd (omega arith)
unguarded ts x (w ∷ ws) some read none = ap (λ r. onward r (λ q. guard_of q.0 q.1)) read ∙ ap (λ r. onward r (guarded_of x)) none
