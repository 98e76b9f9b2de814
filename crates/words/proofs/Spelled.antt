-- The word at the front of some bytes, by the rules: what is found obeys them, and what obeys them is found.
use Rattle.std.proofs.Common.{◌≡◌, ℕ, ◌+◌, ◌<◌, ◌≤◌, Bool, true, false, ltb, List, [], ◌∷◌, ◌++◌, length, get_or, take, drop, pos, is_some, Some, None, Ok, Err, Option, Result, sym, refl, ap, ◌∙◌, subst, one-add, arith}
use Rattle.std.specs.List.{prefix_len}
use Rattle.std.proofs.lemmas.List.{take_at, take-append-drop, append_assoc, length-append}
use Rattle.std.proofs.lemmas.Bool.{cond-true, cond-false, cond_both, both_ways, or_left, ltb-true, ltb-false, lt-ltb, le-ltb}
use Rattle.words.specs.Bytes.{letter, digit, in_name}
use Rattle.words.specs.Scan.{keyword_of, sign_of, decimal_value, number_of, name_or, name_at, number_or, number_at, sign_or, word_at}
use Rattle.words.specs.Spelling.{Every, NameText, NumberText, WordText, as_name, as_number, as_sign, Longest, Spelled, Misspelled, long_name, big_number, no_sign}
use Rattle.words.specs.Token.{Token, name, keyword, number, sign, text_of, place_of}
use Rattle.words.specs.Vocabulary.{keyword_text, sign_text}
use Rattle.words.specs.declared.refusal.WordFault.{WordFault}
use Rattle.words.specs.declared.vocabulary.Keyword.{Keyword}
use Rattle.words.specs.declared.vocabulary.Sign.{Sign}
use Rattle.words.proofs.Fronts.{StopsAt, every_front, front_stops, front_is, every_at, every_more}
use Rattle.words.proofs.Lexemes.{letter_range, digit_range, sign_head, front_head, long_sign, sign_longest, sign_found, sign_text_lem, keyword_text_lem, keyword_known}

-- the first byte of a name, a number or a sign
name_head : (s : List ℕ) → NameText s → letter (get_or s 0 0) ≡ true
name_head [] h = absurd h
name_head (b ∷ s) h = h.0

number_head : (s : List ℕ) → NumberText s → digit (get_or s 0 0) ≡ true
number_head [] h = absurd h
number_head (b ∷ s) h = h.0

name_some : (s : List ℕ) → NameText s → 0 < length s
name_some [] h = absurd h
name_some (b ∷ s) h = omega arith

number_some : (s : List ℕ) → NumberText s → 0 < length s
number_some [] h = absurd h
number_some (b ∷ s) h = omega arith

undigited : (b : ℕ) → letter b ≡ true → digit b ≡ true → ⊥
undigited b l d = omega (arith, letter_range b l, digit_range b d)

-- a name that could not be longer stops at a byte that no name has, and the other way round
name_longest : (text rest : List ℕ) → NameText text → StopsAt in_name rest → Longest text rest
name_longest [] rest h stops more after e some w = h
name_longest (b ∷ text) rest h stops [] after e some w = omega arith
name_longest (b ∷ text) rest h stops (c ∷ more) after e some (as_name n) = both_ways (in_name c) (subst (StopsAt in_name) e stops) (every_at in_name text c more n.1)
name_longest (b ∷ text) rest h stops (c ∷ more) after e some (as_number n) = undigited b h.0 n.0
name_longest (b ∷ text) rest h stops (c ∷ more) after e some (as_sign m is) =
    both_ways (letter b) (ap (λ s. letter (get_or s 0 0)) is ∙ (sign_head m).unlettered) h.0

number_longest : (text rest : List ℕ) → NumberText text → StopsAt digit rest → Longest text rest
number_longest [] rest h stops more after e some w = h
number_longest (b ∷ text) rest h stops [] after e some w = omega arith
number_longest (b ∷ text) rest h stops (c ∷ more) after e some (as_name n) = undigited b n.0 h.0
number_longest (b ∷ text) rest h stops (c ∷ more) after e some (as_number n) = both_ways (digit c) (subst (StopsAt digit) e stops) (every_at digit text c more n.1)
number_longest (b ∷ text) rest h stops (c ∷ more) after e some (as_sign m is) =
    both_ways (digit b) (ap (λ s. digit (get_or s 0 0)) is ∙ (sign_head m).undigited) h.0

stops_by : (p : ℕ → Bool) (rest : List ℕ) → ((c : ℕ) (r : List ℕ) → rest ≡ c ∷ r → p c ≡ true → ⊥) → StopsAt p rest
stops_by p [] h = tt
stops_by p (c ∷ r) h = by (p c) refl
  where
    by : (t : Bool) → p c ≡ t → p c ≡ false
    by true e = absurd (h c r refl e)
    by false e = e

name_stops : (text rest : List ℕ) → NameText text → Longest text rest → StopsAt in_name rest
name_stops [] rest h longest = absurd h
name_stops (b ∷ text) rest h longest =
    stops_by in_name rest (λ c r e i. longest (c ∷ []) r e (omega arith) (as_name (h.0, every_more in_name text c h.1 i)))

number_stops : (text rest : List ℕ) → NumberText text → Longest text rest → StopsAt digit rest
number_stops [] rest h longest = absurd h
number_stops (b ∷ text) rest h longest =
    stops_by digit rest (λ c r e i. longest (c ∷ []) r e (omega arith) (as_number (h.0, every_more digit text c h.1 i)))

-- the longest front of a class, where the first byte is of it
name_front : (s : List ℕ) → 0 < length s → letter (get_or s 0 0) ≡ true → NameText (take (prefix_len in_name s) s)
name_front [] some e = absurd (omega arith)
name_front (b ∷ s) some e =
    let k = cond-true (in_name b) (1 + prefix_len in_name s) 0 (or_left _ _ (or_left _ _ e)) ∙ one-add (prefix_len in_name s) in
    subst (λ j. NameText (take j (b ∷ s))) (sym k) (e, every_front in_name s)

number_front : (s : List ℕ) → 0 < length s → digit (get_or s 0 0) ≡ true → NumberText (take (prefix_len digit s) s)
number_front [] some e = absurd (omega arith)
number_front (b ∷ s) some e =
    let k = cond-true (digit b) (1 + prefix_len digit s) 0 e ∙ one-add (prefix_len digit s) in
    subst (λ j. NumberText (take j (b ∷ s))) (sym k) (e, every_front digit s)

front_byte : (s : List ℕ) → 0 < length s → s ≡ get_or s 0 0 ∷ drop 1 s
front_byte [] some = absurd (omega arith)
front_byte (b ∷ s) some = refl

-- what stands at the front of s obeys the rules of words, or breaks one
abbrev pub Found : ℕ → ℕ → List ℕ → Result Token WordFault → Type 0
Found n i s (Ok t) = Spelled t × ((place_of t ≡ i) × ((after : List ℕ) × ((s ≡ text_of t ++ after) × Longest (text_of t) after)))
Found n i s (Err e) = Misspelled n i s e

module _ (n i : ℕ) (s : List ℕ) where
  name_found : (text after : List ℕ) → s ≡ text ++ after → NameText text → Longest text after → Found n i s (name_at n i text)
  name_found text after e h longest =
      cond_both (ltb 16 (length text)) _ _ (Found n i s)
      (λ long. long_name text after e h longest (ltb-true 16 (length text) long))
      (λ short. by_keyword (ltb-false 16 (length text) short) (keyword_of text) refl)
    where
      by_keyword : length text ≤ 16 → (o : Option Keyword) → keyword_of text ≡ o → Found n i s (Ok (name_or text i o))
      by_keyword short None is =
          ((h, (short, λ k same. let z = (keyword_known k).found in let y = ap keyword_of same in let x : ◌≡◌ {A = ℕ} 0 1 = cc in omega arith)), (refl, (after, (e, longest))))
      by_keyword short (Some k) is = (keyword_text_lem text k is, (refl, (after, (e, longest))))

  number_found : (text after : List ℕ) → s ≡ text ++ after → NumberText text → Longest text after → Found n i s (number_at n i text)
  unfolding number_of
  number_found text after e h longest =
      cond_both (ltb 2147483647 (decimal_value text)) None (Some (pos (decimal_value text))) (λ o. Found n i s (number_or n i text o))
      (λ big. big_number text after e h longest (ltb-true 2147483647 (decimal_value text) big))
      (λ fits. ((h, (refl, ltb-false 2147483647 (decimal_value text) fits)), (refl, (after, (e, longest)))))

  sign_none : sign_of s ≡ None → letter (get_or s 0 0) ≡ false → digit (get_or s 0 0) ≡ false → (text after : List ℕ) → s ≡ text ++ after → WordText text → ⊥
  sign_none is l d text after e (as_name h) = both_ways _ l (ap (λ r. letter (get_or r 0 0)) e ∙ ap letter (front_head text after (name_some text h)) ∙ name_head text h)
  sign_none is l d text after e (as_number h) = both_ways _ d (ap (λ r. digit (get_or r 0 0)) e ∙ ap digit (front_head text after (number_some text h)) ∙ number_head text h)
  sign_none is l d text after e (as_sign m same) =
      let found = sign_found m after in
      let whole = ap sign_of (e ∙ ap (λ t. t ++ after) same) in
      let none = ap is_some is in
      both_ways _ none (ap is_some whole ∙ found)

  sign_long : (m : Sign) (k : ℕ) → sign_of s ≡ Some (m, k) → Longest (sign_text m) (drop k s)
  sign_long m k is more after e some (as_name h) =
      both_ways _ (sign_head m).unlettered (ap letter (sym (front_head (sign_text m) more (sign_head m).some)) ∙ name_head _ h)
  sign_long m k is more after e some (as_number h) =
      both_ways _ (sign_head m).undigited (ap digit (sym (front_head (sign_text m) more (sign_head m).some)) ∙ number_head _ h)
  sign_long m k is more after e some (as_sign m' same) =
      let text = sign_text_lem s m k is in
      let long = ap length same ∙ refl in
      let whole = sym (take-append-drop k s) ∙ ap (λ t. t ++ drop k s) text.0 ∙ ap (λ r. sign_text m ++ r) e ∙ sym (append_assoc (sign_text m) more after) ∙ ap (λ t. t ++ after) same in
      let two = long_sign m' after (omega (arith, sym long, length-append (sign_text m) more, (sign_head m).some)) in
      let pair : ◌≡◌ {A = Sign × ℕ} (m, k) (m', length (sign_text m')) = let w = ap sign_of whole in cc in
      omega (arith, text.1, ap (λ (q : Sign × ℕ). q.1) pair, sym long, length-append (sign_text m) more)

  sign_is : (o : Option (Sign × ℕ)) → sign_of s ≡ o → 0 < length s → (get_or s 0 0 ≡ 32 → ⊥) → letter (get_or s 0 0) ≡ false → digit (get_or s 0 0) ≡ false → Found n i s (sign_or n i s o)
  sign_is None is some ne l d = no_sign (get_or s 0 0) (drop 1 s) (front_byte s some) ne (sign_none is l d)
  sign_is (Some m) is some ne l d =
      let text = sign_text_lem s m.0 m.1 is in
      let longest : Longest (take m.1 s) (drop m.1 s) = subst (λ t. Longest t (drop m.1 s)) (sym text.0) (sign_long m.0 m.1 is) in
      (text.0, (refl, (drop m.1 s, (sym (take-append-drop m.1 s), longest))))

  pub word_sound : 0 < length s → (get_or s 0 0 ≡ 32 → ⊥) → Found n i s (word_at n i s)
  word_sound some ne =
      cond_both (letter (get_or s 0 0)) _ _ (Found n i s)
      (λ l.
      let text = take (prefix_len in_name s) s in
      let h = name_front s some l in
      name_found text (drop (prefix_len in_name s) s) (sym (take-append-drop (prefix_len in_name s) s)) h (name_longest text _ h (front_stops in_name s)))
      (λ l.
      cond_both (digit (get_or s 0 0)) _ _ (Found n i s)
      (λ d.
      let text = take (prefix_len digit s) s in
      let h = number_front s some d in
      number_found text (drop (prefix_len digit s) s) (sym (take-append-drop (prefix_len digit s) s)) h (number_longest text _ h (front_stops digit s)))
      (λ d. sign_is (sign_of s) refl some ne l d))

module _ (n i : ℕ) where
  every_name : (text : List ℕ) → NameText text → Every in_name text
  every_name [] h = absurd h
  every_name (b ∷ text) h = (or_left _ _ (or_left _ _ h.0), h.1)

  every_number : (text : List ℕ) → NumberText text → Every digit text
  every_number [] h = absurd h
  every_number (b ∷ text) h = h

  front_taken : (p : ℕ → Bool) (text after : List ℕ) → Every p text → StopsAt p after → take (prefix_len p (text ++ after)) (text ++ after) ≡ text
  front_taken p text after all stops = ap (λ k. take k (text ++ after)) (front_is p text after all stops) ∙ take_at text after (length text) refl

  name_at_lem : (text after : List ℕ) → NameText text → Longest text after → word_at n i (text ++ after) ≡ name_at n i text
  name_at_lem text after h longest =
      cond-true _ _ _ (ap letter (front_head text after (name_some text h)) ∙ name_head text h)
      ∙ ap (name_at n i) (front_taken in_name text after (every_name text h) (name_stops text after h longest))

  unlettered : (b : ℕ) → digit b ≡ true → (t : Bool) → letter b ≡ t → letter b ≡ false
  unlettered b d true l = absurd (undigited b l d)
  unlettered b d false l = l

  number_at_lem : (text after : List ℕ) → NumberText text → Longest text after → word_at n i (text ++ after) ≡ number_at n i text
  number_at_lem text after h longest =
      let d = ap digit (front_head text after (number_some text h)) ∙ number_head text h in
      let l = unlettered (get_or (text ++ after) 0 0) d _ refl in
      cond-false (letter (get_or (text ++ after) 0 0)) _ _ l ∙ cond-true _ _ _ d
      ∙ ap (number_at n i) (front_taken digit text after (every_number text h) (number_stops text after h longest))

  sign_at : (s : List ℕ) → letter (get_or s 0 0) ≡ false → digit (get_or s 0 0) ≡ false → word_at n i s ≡ sign_or n i s (sign_of s)
  sign_at s l d = cond-false _ _ _ l ∙ cond-false _ _ _ d

  short_name : (text : List ℕ) (o : Option Keyword) → keyword_of text ≡ o → ltb 16 (length text) ≡ false → name_at n i text ≡ Ok (name_or text i o)
  short_name text o is short = cond-false _ _ _ short ∙ ap (λ k. Ok (name_or text i k)) is

  no_keyword : (text : List ℕ) → ((k : Keyword) → text ≡ keyword_text k → ⊥) → (o : Option Keyword) → keyword_of text ≡ o → keyword_of text ≡ None
  no_keyword text h None is = is
  no_keyword text h (Some k) is = absurd (h k (keyword_text_lem text k is))

  number_fits : (text : List ℕ) → decimal_value text ≤ 2147483647 → number_of text ≡ Some (pos (decimal_value text))
  unfolding number_of
  number_fits text h = cond-false _ _ _ (le-ltb 2147483647 (decimal_value text) h)

  number_over : (text : List ℕ) → 2147483647 < decimal_value text → number_of text ≡ None
  unfolding number_of
  number_over text h = cond-true _ _ _ (lt-ltb 2147483647 (decimal_value text) h)

  -- a word that obeys the rules is the one that is found
  pub spelled_at : (t : Token) (after : List ℕ) → Spelled t → place_of t ≡ i → Longest (text_of t) after → word_at n i (text_of t ++ after) ≡ Ok t
  spelled_at (name text j) after h place longest =
      name_at_lem text after h.0 longest ∙ short_name text None (no_keyword text h.1.1 _ refl) (le-ltb 16 (length text) h.1.0) ∙ ap (λ k. Ok (name text k)) (sym place)
  spelled_at (keyword k text j) after h place longest =
      let known = keyword_known k in
      name_at_lem text after (subst NameText (sym h) known.name) longest
      ∙ short_name text (Some k) (ap keyword_of h ∙ known.found) (ap (λ s. ltb 16 (length s)) h ∙ known.short)
      ∙ ap (λ p. Ok (keyword k text p)) (sym place)
  spelled_at (number z text j) after h place longest =
      number_at_lem text after h.0 longest ∙ ap (number_or n i text) (number_fits text h.1.1)
      ∙ ap (λ v. Ok (number v text i)) (sym h.1.0) ∙ ap (λ k. Ok (number z text k)) (sym place)
  spelled_at (sign m text j) after h place longest =
      let head = sign_head m in
      let is_head = ap (λ s. get_or (s ++ after) 0 0) h ∙ front_head (sign_text m) after head.some in
      let found = ap (λ s. sign_of (s ++ after)) h ∙ sign_longest m after (subst (λ s. Longest s after) h longest) in
      let text_is = ap (λ k. take k (text ++ after)) (sym (ap length h)) ∙ take_at text after (length text) refl in
      sign_at (text ++ after) (ap letter is_head ∙ head.unlettered) (ap digit is_head ∙ head.undigited)
      ∙ ap (sign_or n i (text ++ after)) found ∙ ap (λ l. Ok (sign m l i)) text_is ∙ ap (λ k. Ok (sign m text k)) (sym place)

  no_sign_lem : (s : List ℕ) → ((text after : List ℕ) → s ≡ text ++ after → WordText text → ⊥) → (o : Option (Sign × ℕ)) → sign_of s ≡ o → sign_of s ≡ None
  no_sign_lem s h None is = is
  no_sign_lem s h (Some m) is =
      let text = sign_text_lem s m.0 m.1 is in
      absurd (h (take m.1 s) (drop m.1 s) (sym (take-append-drop m.1 s)) (as_sign m.0 text.0))

  other_than : (p : ℕ → Bool) (b : ℕ) → (p b ≡ true → ⊥) → (t : Bool) → p b ≡ t → p b ≡ false
  other_than p b h true e = absurd (h e)
  other_than p b h false e = e

  -- what breaks a rule is refused so
  pub misspelled_at : (s : List ℕ) (f : WordFault) → Misspelled n i s f → word_at n i s ≡ Err f
  misspelled_at s f (long_name text rest e h longest long) =
      ap (word_at n i) e ∙ name_at_lem text rest h longest ∙ cond-true _ _ _ (lt-ltb 16 (length text) long)
  misspelled_at s f (big_number text rest e h longest big) = ap (word_at n i) e ∙ number_at_lem text rest h longest ∙ ap (number_or n i text) (number_over text big)
  misspelled_at s f (no_sign b rest e ne none) =
      let front = ap (λ l. get_or l 0 0) e in
      let l = other_than letter b (λ y. none (b ∷ []) rest e (as_name (y, tt))) _ refl in
      let d = other_than digit b (λ y. none (b ∷ []) rest e (as_number (y, tt))) _ refl in
      sign_at s (ap letter front ∙ l) (ap digit front ∙ d) ∙ ap (sign_or n i s) (no_sign_lem s none _ refl)
