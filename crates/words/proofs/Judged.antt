-- A line is accepted exactly when no fault is true of it, and refused by the first that is.
use Rattle.std.proofs.Common.{◌≡◌, ℕ, ◌+◌, ◌*◌, ◌/◌, ◌%◌, ◌<◌, ◌≤◌, true, false, ◌||◌, eqb, ltb, ◌⊎◌, List, [], length, take, Ok, Err, Result, sym, refl, ap, ◌∙◌, subst, inl, inr, ⊎_elim, arith}
use Rattle.std.proofs.lemmas.List.{length-take-le}
use Rattle.std.proofs.lemmas.Bool.{cond_both, both_ways, and_parts, and_from, and_cases, or_cases, or_left, or_right, or_parts, ltb-true, ltb-false, lt-ltb, eqb-true, eqb-false, eq-eqb}
use Rattle.std.specs.List.{prefix_len}
use Rattle.words.specs.Bytes.{printable, space}
use Rattle.words.specs.Fault.{fault_of}
use Rattle.words.specs.Reading.{Reading, code_of, words_of, misplaced, levelled, line_of, UnlessMemory}
use Rattle.words.specs.Spelling.{Every, Code, Indented, Reads, Misspelled, long_name, big_number, no_sign, Faulty, text_too_long, byte_outside, line_too_long, indentation, misspelled, Right}
use Rattle.words.specs.Token.{Token}
use Rattle.words.specs.declared.refusal.WordFault.{WordFault}
use Rattle.words.specs.declared.refusal.WordFault.TheVariants.{ByteOutside, Indentation}
use Rattle.words.proofs.Cuts.{code_is, code_unique, indented_is, indented_by}
use Rattle.words.proofs.Fronts.{every_front, every_whole, every_at, first_other}
use Rattle.words.proofs.Readings.{Outcome, read_sound, read_complete, fault_complete}
use Rattle.words.proofs.Turns.{before_all, all_fault}

abbrev rank : WordFault → ℕ
rank f = (fault_of f).number

-- a misspelled word has number 5
spelling_rank : {n i : ℕ} {s : List ℕ} {f : WordFault} → Misspelled n i s f → rank f ≡ 5
spelling_rank (long_name text rest e h longest long) = refl
spelling_rank (big_number text rest e h longest big) = refl
spelling_rank (no_sign b rest e ne none) = refl

module _ (n : ℕ) (s : List ℕ) where
  at_least_1 : (g : WordFault) → Faulty n s g → 1 ≤ rank g
  at_least_1 g (text_too_long long) = omega arith
  at_least_1 g (byte_outside front b rest e all out) = omega arith
  at_least_1 g (line_too_long long) = omega arith
  at_least_1 g (indentation code k cut ind bad) = omega arith
  at_least_1 g (misspelled code ts i rest f cut read m) = omega (arith, spelling_rank m)

  at_least_2 : length s ≤ 33024 → (g : WordFault) → Faulty n s g → 2 ≤ rank g
  at_least_2 short g (text_too_long long) = absurd (omega arith)
  at_least_2 short g (byte_outside front b rest e all out) = omega arith
  at_least_2 short g (line_too_long long) = omega arith
  at_least_2 short g (indentation code k cut ind bad) = omega arith
  at_least_2 short g (misspelled code ts i rest f cut read m) = omega (arith, spelling_rank m)

  at_least_3 : length s ≤ 33024 → Every printable s → (g : WordFault) → Faulty n s g → 3 ≤ rank g
  at_least_3 short all g (text_too_long long) = absurd (omega arith)
  at_least_3 short all g (byte_outside front b rest e inside out) = absurd (both_ways (printable b) out (every_at printable front b rest (subst (Every printable) e all)))
  at_least_3 short all g (line_too_long long) = omega arith
  at_least_3 short all g (indentation code k cut ind bad) = omega arith
  at_least_3 short all g (misspelled code ts i rest f cut read m) = omega (arith, spelling_rank m)

  at_least_4 : length s ≤ 128 → Every printable s → (g : WordFault) → Faulty n s g → 4 ≤ rank g
  at_least_4 short all g (text_too_long long) = absurd (omega arith)
  at_least_4 short all g (byte_outside front b rest e inside out) = absurd (both_ways (printable b) out (every_at printable front b rest (subst (Every printable) e all)))
  at_least_4 short all g (line_too_long long) = absurd (omega arith)
  at_least_4 short all g (indentation code k cut ind bad) = omega arith
  at_least_4 short all g (misspelled code ts i rest f cut read m) = omega (arith, spelling_rank m)

  -- spaces that make no level, or one too deep, are misplaced
  misplaced_if : (code : List ℕ) (k : ℕ) → Code s code → Indented code k → (k % 2 ≡ 1) ⊎ (32 < k) → misplaced (code_of s) ≡ true
  misplaced_if code k cut ind bad =
      let is = code_unique s code cut in
      let spaces = indented_is code k ind in
      subst (λ c. misplaced c ≡ true) is
      (and_from _ _ (lt-ltb (prefix_len space code) (length code) (omega (arith, spaces.0, spaces.1)))
      (⊎_elim
      (λ odd. or_left _ _ (eq-eqb (prefix_len space code % 2) 1 (ap (λ j. j % 2) spaces.0 ∙ odd)))
      (λ deep. or_right _ _ (lt-ltb 32 (prefix_len space code) (omega (arith, spaces.0))))
      bad))

  at_least_5 : length s ≤ 128 → Every printable s → misplaced (code_of s) ≡ false → (g : WordFault) → Faulty n s g → 5 ≤ rank g
  at_least_5 short all placed g (text_too_long long) = absurd (omega arith)
  at_least_5 short all placed g (byte_outside front b rest e inside out) = absurd (both_ways (printable b) out (every_at printable front b rest (subst (Every printable) e all)))
  at_least_5 short all placed g (line_too_long long) = absurd (omega arith)
  at_least_5 short all placed g (indentation code k cut ind bad) = absurd (both_ways (misplaced (code_of s)) placed (misplaced_if code k cut ind bad))
  at_least_5 short all placed g (misspelled code ts i rest f cut read m) = omega (arith, spelling_rank m)

  -- where the words are read, no fault of words is true
  none_left : length s ≤ 128 → Every printable s → misplaced (code_of s) ≡ false → (ws : List Token) → words_of n (code_of s) ≡ Ok ws → (g : WordFault) → Faulty n s g → ⊥
  none_left short all placed ws is g (text_too_long long) = omega arith
  none_left short all placed ws is g (byte_outside front b rest e inside out) = both_ways (printable b) out (every_at printable front b rest (subst (Every printable) e all))
  none_left short all placed ws is g (line_too_long long) = omega arith
  none_left short all placed ws is g (indentation code k cut ind bad) = both_ways (misplaced (code_of s)) placed (misplaced_if code k cut ind bad)
  none_left short all placed ws is g (misspelled code ts i rest f cut read m) =
      let refused = ap (words_of n) (sym (code_unique s code cut)) ∙ read_complete n read ∙ ap (before_all ts) (fault_complete n i rest g m) ∙ all_fault ts g in
      let z : ◌≡◌ {A = ℕ} 0 1 = cc in omega arith

  -- the level that the spaces before the first word make
  level_is : misplaced (code_of s) ≡ false → (k : ℕ) → Indented (code_of s) k → k ≡ 2 * (prefix_len space (code_of s) / 2)
  level_is placed k ind =
      let spaces = indented_is (code_of s) k ind in
      ⊎_elim
      (λ none. absurd (omega (arith, ltb-false (prefix_len space (code_of s)) (length (code_of s)) none, spaces.0, spaces.1)))
      (λ fine. let even = eqb-false (prefix_len space (code_of s) % 2) 1 (or_parts _ _ fine).0 in omega (arith, even, spaces.0))
      (and_cases (ltb (prefix_len space (code_of s)) (length (code_of s))) (eqb (prefix_len space (code_of s) % 2) 1 || ltb 32 (prefix_len space (code_of s))) placed)

  misplaced_so : misplaced (code_of s) ≡ true → Faulty n s (Indentation n)
  misplaced_so e =
      let parts = and_parts (ltb (prefix_len space (code_of s)) (length (code_of s))) (eqb (prefix_len space (code_of s) % 2) 1 || ltb 32 (prefix_len space (code_of s))) e in
      indentation (code_of s) (prefix_len space (code_of s)) (code_is s) (indented_by (code_of s) (ltb-true _ _ parts.0))
      (⊎_elim (λ odd. inl (eqb-true _ _ odd)) (λ deep. inr (ltb-true _ _ deep)) (or_cases _ _ parts.1))

  by_words : length s ≤ 128 → Every printable s → misplaced (code_of s) ≡ false → (r : Result (List Token) WordFault) → words_of n (code_of s) ≡ r → Outcome n 1 (code_of s) r
      → Right n s (levelled (prefix_len space (code_of s) / 2) r)
  by_words short all placed (Ok ts) is sound =
      let end : 1 + length (code_of s) ≡ length (code_of s) + 1 = omega arith in
      (record { code = code_of s; cut = code_is s; read = subst (λ j. Reads 1 (code_of s) ts j []) end sound; level = level_is placed }, none_left short all placed ts is)
  by_words short all placed (Err f) is sound =
      inr (
        misspelled (code_of s) sound.0 sound.1 sound.2 f (code_is s) sound.3.0 sound.3.1,
        λ g true_of. let five = spelling_rank sound.3.1 in omega (arith, five, at_least_5 short all placed g true_of),
      )

  outside : prefix_len printable s < length s → Faulty n s (ByteOutside n (prefix_len printable s + 1))
  outside h =
      let other = first_other printable s h in
      let long = length-take-le (prefix_len printable s) s (omega arith) in
      subst (λ k. Faulty n s (ByteOutside n (k + 1))) long (byte_outside (take (prefix_len printable s) s) _ _ other.0 (every_front printable s) other.1)

  pub right : Right n s (line_of n s)
  right =
      cond_both (ltb 33024 (length s)) _ _ (Right n s)
      (λ long. inr (text_too_long (ltb-true 33024 (length s) long), at_least_1))
      (λ short.
      cond_both (ltb (prefix_len printable s) (length s)) _ _ (Right n s)
      (λ out. inr (outside (ltb-true _ _ out), at_least_2 (ltb-false 33024 (length s) short)))
      (λ inside.
      cond_both (ltb 128 (length s)) _ _ (Right n s)
      (λ long. inr (line_too_long (ltb-true 128 (length s) long), at_least_3 (ltb-false 33024 (length s) short) (every_whole printable s (ltb-false _ _ inside))))
      (λ narrow.
      cond_both (misplaced (code_of s)) _ _ (Right n s)
      (λ bad. inr (misplaced_so bad, at_least_4 (ltb-false 128 (length s) narrow) (every_whole printable s (ltb-false _ _ inside))))
      (λ placed. by_words (ltb-false 128 (length s) narrow) (every_whole printable s (ltb-false _ _ inside)) placed (words_of n (code_of s)) refl (read_sound n (length (code_of s)) 1 (code_of s) (omega arith))))))

-- the same of an answer of the code, which may also want memory
pub judged : (n : ℕ) (s : List ℕ) (r : Result Reading WordFault) → UnlessMemory r (line_of n s) → Right n s r
judged n s r (inl e) = subst (Right n s) (sym e) (inl refl)
judged n s r (inr e) = subst (Right n s) (sym e) (right n s)
