-- The lines of a text obey the rules of lines and limits.
use Rattle.std.proofs.Common.{◌≡◌, ℕ, suc, ◌+◌, ◌<◌, true, eqb, ltb, List, [], ◌∷◌, ◌++◌, map, length, Ok, Err, Result, sym, refl, ap, ◌∙◌, subst, inl, inr, arith}
use Rattle.std.proofs.lemmas.Bool.{cond-true, cond_both, not-false, eqb-true, ltb-true, ltb-false}
use Rattle.words.specs.Bytes.{in_line}
use Rattle.words.specs.Division.{onto, divided, numbered, lines_of}
use Rattle.words.specs.Limits.{Divides, none, last, more, RightLines}
use Rattle.words.specs.Reading.{UnlessMemory}
use Rattle.words.specs.Spelling.{Every}
use Rattle.words.specs.declared.refusal.WordFault.{WordFault}
use Rattle.words.specs.declared.refusal.WordFault.TheVariants.{TextTooLong, TooManyLines}

onto_divides : (b : ℕ) (s : List ℕ) (ls : List (List ℕ)) → in_line b ≡ true → Divides s ls → Divides (b ∷ s) (onto b ls)
onto_divides b s ls is none = last (b ∷ []) (omega arith) (is, tt)
onto_divides b s ls is (last line some all) = last (b ∷ line) (omega arith) (is, all)
onto_divides b s ls is (more line rest e all d) = more (b ∷ line) rest (ap (λ l. b ∷ l) e) (is, all) d

divides_so : (s : List ℕ) → Divides s (divided s)
divides_so [] = none
divides_so (b ∷ s) =
    cond_both (in_line b) (onto b (divided s)) ([] ∷ divided s) (Divides (b ∷ s))
    (λ is. onto_divides b s (divided s) is (divides_so s))
    (λ is. more [] s (ap (λ c. c ∷ s) (eqb-true b 10 (not-false (eqb b 10) is))) tt (divides_so s))

pub line_ends : (line rest : List ℕ) → Every in_line line → divided (line ++ (10 ∷ rest)) ≡ line ∷ divided rest
line_ends [] rest all = refl
line_ends (b ∷ line) rest all = cond-true _ _ _ all.0 ∙ ap (onto b) (line_ends line rest all.1)

pub line_whole : (b : ℕ) (line : List ℕ) → Every in_line (b ∷ line) → divided (b ∷ line) ≡ (b ∷ line) ∷ []
line_whole b [] all = cond-true _ _ _ all.0
line_whole b (c ∷ line) all = cond-true _ _ _ all.0 ∙ ap (onto b) (line_whole c line all.1)

-- a text has one division into lines
divides_one : (s : List ℕ) (ls : List (List ℕ)) → Divides s ls → divided s ≡ ls
divides_one s ls none = refl
divides_one s ls (last [] some all) = absurd (omega arith)
divides_one s ls (last (b ∷ line) some all) = line_whole b line all
divides_one s ls (more {lines = lines} line rest e all d) = ap divided e ∙ line_ends line rest all ∙ ap (λ l. line ∷ l) (divides_one rest lines d)

unnumbered : (n : ℕ) (ls : List (List ℕ)) → map (λ (l : ℕ × List ℕ). l.1) (numbered n ls) ≡ ls
unnumbered n [] = refl
unnumbered n (l ∷ ls) = ap (λ r. l ∷ r) (unnumbered (n + 1) ls)

numbered_length : (n : ℕ) (ls : List (List ℕ)) → length (numbered n ls) ≡ length ls
numbered_length n [] = refl
numbered_length n (l ∷ ls) = ap suc (numbered_length (n + 1) ls)

right_lines : (s : List ℕ) → RightLines s (lines_of s)
right_lines s =
    cond_both (ltb 33024 (length s)) (Err TextTooLong) _ (RightLines s)
    (λ long. inr (inl (refl, ltb-true 33024 (length s) long)))
    (λ short.
    cond_both (ltb 256 (length (divided s))) (Err TooManyLines) (Ok (numbered 1 (divided s))) (RightLines s)
    (λ many. inr (inr (refl, (ltb-false 33024 (length s) short, λ ls d. subst (λ l. 256 < length l) (divides_one s ls d) (ltb-true 256 (length (divided s)) many)))))
    (λ few.
    let back = unnumbered 1 (divided s) in (
      ltb-false 33024 (length s) short,
      (omega (arith, numbered_length 1 (divided s), ltb-false 256 (length (divided s)) few), (subst (Divides s) (sym back) (divides_so s), ap (numbered 1) (sym back))),
    )))

-- the same of an answer of the code, which may also want memory
pub limited : (s : List ℕ) (r : Result (List (ℕ × List ℕ)) WordFault) → UnlessMemory r (lines_of s) → RightLines s r
limited s r (inl e) = subst (RightLines s) (sym e) (inl refl)
limited s r (inr e) = subst (RightLines s) (sym e) (right_lines s)
