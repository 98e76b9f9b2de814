-- The words of a line's code, by the rules: what is read obeys them, and what obeys them is read.
use Rattle.std.proofs.Common.{◌≡◌, ℕ, zero, suc, ◌+◌, ◌<◌, ◌≤◌, Bool, true, false, eqb, List, [], ◌∷◌, ◌++◌, length, get_or, drop, Ok, Err, Result, sym, refl, ap, ◌∙◌, subst, add-zero, arith}
use Rattle.std.proofs.lemmas.List.{drop_at, length-append}
use Rattle.std.proofs.lemmas.Bool.{eqb-true, eqb-false}
use Rattle.words.specs.Reading.{before, words_from}
use Rattle.words.specs.Scan.{word_at}
use Rattle.words.specs.Spelling.{Spelled, Longest, Reads, nothing, space, word, Misspelled, long_name, big_number, no_sign}
use Rattle.words.specs.Token.{Token, text_of, place_of}
use Rattle.words.specs.declared.refusal.WordFault.{WordFault}
use Rattle.words.specs.declared.refusal.WordFault.TheVariants.{UnknownSign}
use Rattle.words.proofs.Sizes.{size, word_within}
use Rattle.words.proofs.Spelled.{Found, word_sound, spelled_at, misspelled_at}
use Rattle.words.proofs.Turns.{before_all, at_space, at_fault, at_word}

-- the words of s obey the rules, or the first word that breaks one is told
abbrev pub Outcome : ℕ → ℕ → List ℕ → Result (List Token) WordFault → Type 0
Outcome n i s (Ok ts) = Reads i s ts (i + length s) []
Outcome n i s (Err e) = (ts : List Token) × (j : ℕ) × (rest : List ℕ) × (Reads i s ts j rest × Misspelled n j rest e)

after_space : (n i b : ℕ) (s : List ℕ) (r : Result (List Token) WordFault) → b ≡ 32 → Outcome n (i + 1) s r → Outcome n i (b ∷ s) r
after_space n i b s (Ok ts) e h = let same : i + 1 + length s ≡ i + suc (length s) = omega arith in space e (subst (λ j. Reads (i + 1) s ts j []) same h)
after_space n i b s (Err f) e h = (h.0, h.1, h.2, (space e h.3.0, h.3.1))

after_word : (n i : ℕ) (s after : List ℕ) (t : Token) (r : Result (List Token) WordFault) → Spelled t → place_of t ≡ i → s ≡ text_of t ++ after → Longest (text_of t) after
    → Outcome n (i + size t) after r → Outcome n i s (before t r)
after_word n i s after t (Ok ts) sp place e longest h =
    let same : i + size t + length after ≡ i + length s = omega (arith, ap length e, length-append (text_of t) after) in
    word t after sp place e longest (subst (λ j. Reads (i + size t) after ts j []) same h)
after_word n i s after t (Err f) sp place e longest h = (t ∷ h.0, h.1, h.2, (word t after sp place e longest h.3.0, h.3.1))

pub read_sound : (n m i : ℕ) (s : List ℕ) → length s ≤ m → Outcome n i s (words_from n 0 i s)
read_sound n m i [] h = subst (λ j. Reads i [] [] j []) (sym (add-zero i)) nothing
read_sound n zero i (b ∷ s) h = absurd (omega arith)
read_sound n (suc m) i (b ∷ s) h =
    by_first (eqb b 32) refl (λ j r k. read_sound n m j r k)
  where
    by_word : (b ≡ 32 → ⊥) → (x : Result Token WordFault) → word_at n i (b ∷ s) ≡ x → Found n i (b ∷ s) x
        → ((j : ℕ) (r : List ℕ) → length r ≤ m → Outcome n j r (words_from n 0 j r)) → Outcome n i (b ∷ s) (words_from n 0 i (b ∷ s))
    by_word ne (Ok t) is found more =
        let after = found.1.1.0 in
        let e = found.1.1.1.0 in
        let within = word_within n i (b ∷ s) t (omega arith) is in
        let left = ap (drop (size t)) e ∙ drop_at (text_of t) after (size t) refl in
        let long = ap length e ∙ length-append (text_of t) after in
        let whole = at_word n i (b ∷ s) t ne is within ∙ ap (λ l. before t (words_from n 0 (i + size t) l)) left in
        subst (Outcome n i (b ∷ s)) (sym whole)
        (after_word n i (b ∷ s) after t _ found.0 found.1.0 e found.1.1.1.1 (more (i + size t) after (omega (arith, long, within.0))))
    by_word ne (Err f) is found more = subst (Outcome n i (b ∷ s)) (sym (at_fault n i (b ∷ s) f (omega arith) ne is)) ([], i, b ∷ s, (nothing, found))

    by_first : (t : Bool) → eqb b 32 ≡ t → ((j : ℕ) (r : List ℕ) → length r ≤ m → Outcome n j r (words_from n 0 j r)) → Outcome n i (b ∷ s) (words_from n 0 i (b ∷ s))
    by_first true e more =
        subst (Outcome n i (b ∷ s)) (sym (at_space n i (b ∷ s) (omega arith) (eqb-true b 32 e))) (after_space n i b s _ (eqb-true b 32 e) (more (i + 1) s (omega arith)))
    by_first false e more = by_word (eqb-false b 32 e) (word_at n i (b ∷ s)) refl (word_sound n i (b ∷ s) (omega arith) (eqb-false b 32 e)) more

-- at a space, and at the end, no sign is known
begins_by : (n i : ℕ) (s : List ℕ) → (word_at n i s ≡ Err (UnknownSign n i) → ⊥) → (0 < length s) × (get_or s 0 0 ≡ 32 → ⊥)
begins_by n i [] h = absurd (h refl)
begins_by n i (b ∷ s) h = (omega arith, λ is. h (ap (λ c. word_at n i (c ∷ s)) is))

word_begins : (n i : ℕ) (s : List ℕ) (t : Token) → word_at n i s ≡ Ok t → (0 < length s) × (get_or s 0 0 ≡ 32 → ⊥)
word_begins n i s t e = begins_by n i s (λ f. let z : ◌≡◌ {A = ℕ} 0 1 = cc in omega arith)

fault_begins : (n i : ℕ) (s : List ℕ) (f : WordFault) → Misspelled n i s f → (0 < length s) × (get_or s 0 0 ≡ 32 → ⊥)
fault_begins n i s f (no_sign b rest e ne none) = (omega (arith, ap length e), λ is. ne (ap (λ l. get_or l 0 0) (sym e) ∙ is))
fault_begins n i s f (long_name text rest e h longest long) =
    let told = misspelled_at n i s f (long_name text rest e h longest long) in
    begins_by n i s (λ g. let z : ◌≡◌ {A = ℕ} 0 1 = cc in omega arith)
fault_begins n i s f (big_number text rest e h longest big) =
    let told = misspelled_at n i s f (big_number text rest e h longest big) in
    begins_by n i s (λ g. let z : ◌≡◌ {A = ℕ} 0 1 = cc in omega arith)

pub read_complete : (n : ℕ) {i j : ℕ} {s rest : List ℕ} {ts : List Token} → Reads i s ts j rest → words_from n 0 i s ≡ before_all ts (words_from n 0 j rest)
read_complete n nothing = refl
read_complete n {i} {j} {s} (space e r) = at_space n i s (omega arith) e ∙ read_complete n r
read_complete n {i} {j} {s} (word t after sp place e longest r) =
    let is = ap (word_at n i) e ∙ spelled_at n i t after sp place longest in
    let some = word_begins n i s t is in
    let left = ap (drop (size t)) e ∙ drop_at (text_of t) after (size t) refl in
    at_word n i s t some.1 is (word_within n i s t some.0 is) ∙ ap (λ l. before t (words_from n 0 (i + size t) l)) left ∙ ap (before t) (read_complete n r)

pub fault_complete : (n i : ℕ) (s : List ℕ) (f : WordFault) → Misspelled n i s f → words_from n 0 i s ≡ Err f
fault_complete n i s f h = let some = fault_begins n i s f h in at_fault n i s f some.0 some.1 (misspelled_at n i s f h)
