-- The definition of a line's form obeys the law.
use Rattle.std.proofs.Common.{◌≡◌, ℕ, ◌⊎◌, List, [], ◌∷◌, Ok, Err, Option, Result, sym, refl, ap, subst, inl, inr, ⊎_elim}
use Rattle.words.specs.Reading.{Reading, line_of}
use Rattle.words.specs.Token.{Token}
use Rattle.words.specs.declared.refusal.WordFault.{WordFault}
use Rattle.lines.specs.Answer.{Answer, onward, UnlessMemory}
use Rattle.lines.specs.Fault.{in_line}
use Rattle.lines.specs.Grammar.{RightForm}
use Rattle.lines.specs.Judgement.{Formed, judged}
use Rattle.lines.specs.Law.{Told, Lawful, wrong_words, blank, no_form, wrong_line, right}
use Rattle.lines.specs.Lines.{Stated, after_words, line_form_of, located, row_of, stated_of, UnlessStarved}
use Rattle.lines.specs.Sentences.{sentence_of}
use Rattle.lines.specs.Syntax.{Sentence}
use Rattle.lines.specs.Table.{Table}
use Rattle.lines.specs.declared.refusal.Flaw.{Flaw}
use Rattle.lines.specs.declared.refusal.LineFault.{LineFault}
use Rattle.lines.specs.declared.refusal.LineFault.TheVariants.{Memory}
use Rattle.lines.proofs.Formed.{formed}

-- what is told, or that memory ran out
abbrev Tells : Table → ℕ → List ℕ → Result (Option Stated × Table) LineFault → Type 0
Tells t n s x = (x ≡ Err Memory) ⊎ Told t n s x

module _ (t : Table) (n : ℕ) (s : List ℕ) (r : Reading) (is : line_of n s ≡ Ok r) where
  meant : (u : Sentence) (x : Answer (Formed × Table)) → RightForm r.words (Ok u) → judged t u ≡ x → Tells t n s (located n r.level x)
  meant u (Ok p) only e = inr (right r u p.0 p.1 is only e)
  meant u (Err f) only e = inr (wrong_line r u f is only e)

  formless : (f : Flaw) → RightForm r.words (Err f) → Tells t n s (located n r.level (Err f))
  formless f (inl e) = inl (ap (λ g. Err (in_line n g)) e)
  formless f (inr p) = let P : Flaw → Type 0 = λ g. Tells t n s (Err (in_line n g)) in subst P (sym p.0) (inr (no_form r is p.1))

  parsed : (x : Answer Sentence) → sentence_of r.words ≡ x → RightForm r.words x → Tells t n s (located n r.level (onward x (judged t)))
  parsed (Ok u) e only = meant u (judged t u) only refl
  parsed (Err f) e only = formless f only

unmade : {A : Type 0} (x : Answer A) → UnlessMemory x x
unmade (Ok y) = refl
unmade (Err f) = inr refl

worded : (t : Table) (n : ℕ) (s : List ℕ) (level : ℕ) (ts : List Token) → line_of n s ≡ Ok (record { level = level; words = ts }) → Tells t n s (stated_of t n level ts)
worded t n s level [] is = inr (blank (record { level = level; words = [] }) is refl)
worded t n s level (w ∷ ws) is = parsed t n s (record { level = level; words = w ∷ ws }) is (sentence_of (w ∷ ws)) refl (formed (w ∷ ws) (sentence_of (w ∷ ws)) (unmade (sentence_of (w ∷ ws))))

split : (t : Table) (n : ℕ) (s : List ℕ) (x : Result Reading WordFault) → line_of n s ≡ x → Tells t n s (after_words t n (row_of x))
split t n s (Ok r) is = worded t n s r.level r.words is
split t n s (Err e) is = inr (wrong_words e is)

tells : (t : Table) (n : ℕ) (s : List ℕ) → Tells t n s (line_form_of t n s)
tells t n s = split t n s (line_of n s) refl

-- an answer that is the definition's, unless memory ran out, is lawful
pub lawful : (t : Table) (n : ℕ) (s : List ℕ) (r : Result (Option Stated × Table) LineFault) → UnlessStarved r (line_form_of t n s) → Lawful t n s r
lawful t n s (Ok y) e = ⊎_elim (λ m. absurd (cc)) (λ told. let P : Result (Option Stated × Table) LineFault → Type 0 = λ x. Told t n s x in subst P e told) (tells t n s)
lawful t n s (Err f) (inl m) = inl m
lawful t n s (Err f) (inr e) =
    ⊎_elim (λ m. inl (let g : f ≡ Memory = cc in g)) (λ told. inr (let P : Result (Option Stated × Table) LineFault → Type 0 = λ x. Told t n s x in subst P e told)) (tells t n s)
