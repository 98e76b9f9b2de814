-- What is read of a line's words the grammar makes of them, and where nothing is read it makes nothing.
use Rattle.std.proofs.Common.{◌≡◌, ℕ, Bool, true, List, [], ◌∷◌, ◌++◌, ℤ, Some, None, Ok, Err, Option, ok_or, option_map, sym, refl, subst, inl, inr}
use Rattle.std.proofs.lemmas.List.{append-nil}
use Rattle.std.proofs.lemmas.Bool.{cond_both}
use Rattle.words.specs.Token.{Token}
use Rattle.words.specs.Token as word
use Rattle.words.specs.declared.vocabulary.Keyword.TheVariants as key
use Rattle.words.specs.declared.vocabulary.Sign.TheVariants as mark
use Rattle.lines.specs.Answer.{Answer, onward, UnlessMemory}
use Rattle.lines.specs.Grammar.{expression, Makes, MakesNames, last, more, MakesLine, for_variables, for_channels, for_place, for_lone, for_assign, for_input, for_output, for_while, for_choice, for_guard, for_skip_guard, RightForm}
use Rattle.lines.specs.Phrases.{Read, first, past, expression_of}
use Rattle.lines.specs.Roles.{opening_of, naming_of, number_of, verb_of, separator_of, is_sign, is_key}
use Rattle.lines.specs.Sentences.{ended, name_last, whole_of, listed_by, names_of, address_of, input_of, guard_by, guarded_of, guard_of, condition_of, acted_of, action_by, process_by, process_of, sentence_by, sentence_of}
use Rattle.lines.specs.Syntax.{Naming, Phrase, Sentence, lone, choice, guard, skip_guard}
use Rattle.lines.specs.declared.refusal.Flaw.TheVariants.{NoForm}
use Rattle.lines.specs.declared.syntax.Lone.TheVariants as alone
use Rattle.lines.specs.declared.vocabulary.Opening.{Opening}
use Rattle.lines.specs.declared.vocabulary.Opening.TheVariants as opening
use Rattle.lines.specs.declared.vocabulary.Separator.{Separator}
use Rattle.lines.specs.declared.vocabulary.Separator.TheVariants.{Comma, Colon}
use Rattle.lines.specs.declared.vocabulary.Verb.{Verb}
use Rattle.lines.specs.declared.vocabulary.Verb.TheVariants as verb
use Rattle.lines.proofs.Accepts.{line_read}
use Rattle.lines.proofs.Parsed.{Parsed, parsed}
use Rattle.lines.proofs.Words.{separator_is, verb_is, Opens, opens}

-- what holds of every answer that a part of the reader gives of some words, if it holds of the words that the part accepts
module _ {A : Type 0} (P : List Token → Answer A → Type 0) (bad : (ts : List Token) → P ts (Err NoForm)) where
  by_past : (test : Token → Bool) (ts : List Token) (k : List Token → Answer A) → ((u : Token) (us : List Token) → test u ≡ true → P (u ∷ us) (k us)) → P ts (onward (past test ts) k)
  by_past test [] k h = bad []
  by_past test (u ∷ us) k h = cond_both (test u) (Ok us) (Err NoForm) (λ x. P (u ∷ us) (onward x k)) (λ is. h u us is) (λ _. bad (u ∷ us))

  by_ended : (x : A) (ts : List Token) → P [] (Ok x) → P ts (ended x ts)
  by_ended x [] h = h
  by_ended x (t ∷ ts) h = bad (t ∷ ts)

  by_end : {B : Type 0} (x : B) (ts : List Token) (k : B → Answer A) → P [] (k x) → P ts (onward (ended x ts) k)
  by_end x [] k h = h
  by_end x (t ∷ ts) k h = bad (t ∷ ts)

  by_first : {B : Type 0} (role : Token → Option B) (ts : List Token) (k : B × List Token → Answer A) → ((u : Token) (us : List Token) (x : B) → role u ≡ Some x → P (u ∷ us) (k (x, us))) → P ts (onward (first role ts) k)
  by_first role [] k h = bad []
  by_first {B} role (u ∷ us) k h = by (role u) refl
    where
      by : (o : Option B) → role u ≡ o → P (u ∷ us) (onward (ok_or (option_map (λ x. (x, us)) o) NoForm) k)
      by None is = bad (u ∷ us)
      by (Some x) is = h u us x is

  by_number : (ts : List Token) (k : ℤ × List Token → Answer A) → ((z : ℤ) (s : List ℕ) (i : ℕ) (us : List Token) → P (word.number z s i ∷ us) (k (z, us))) → P ts (onward (first number_of ts) k)
  by_number [] k h = bad []
  by_number (word.name s i ∷ us) k h = bad (word.name s i ∷ us)
  by_number (word.keyword j s i ∷ us) k h = bad (word.keyword j s i ∷ us)
  by_number (word.number z s i ∷ us) k h = h z s i us
  by_number (word.sign m s i ∷ us) k h = bad (word.sign m s i ∷ us)

  by_expression : (ts : List Token) (k : Phrase × List Token → Answer A) → ((xs us : List Token) (e : Phrase) → Makes expression 8 xs e → P (xs ++ us) (k (e, us))) → P ts (onward (expression_of 8 ts) k)
  by_expression ts k h = by (expression_of 8 ts) (parsed 8 ts)
    where
      by : (r : Read Phrase) → Parsed expression 8 ts r → P ts (onward r k)
      by (Ok r) (xs, e, m) = subst (λ l. P l (k r)) (sym e) (h xs r.1 r.0 m)
      by (Err f) g = subst (λ x. P ts (Err x)) (sym g) (bad ts)

  -- one part after another
  by_both : {B C : Type 0} (ts : List Token) (r : Answer B) (f : B → Answer C) (k : C → Answer A) → P ts (onward r (λ x. onward (f x) k)) → P ts (onward (onward r f) k)
  by_both ts (Ok x) f k h = h
  by_both ts (Err e) f k h = h

module _ {A : Type 0} (P : List Token → Answer A → Type 0) (bad : (ts : List Token) → P ts (Err NoForm)) where
  by_last : (ts : List Token) (k : Naming → Answer A) → ((u : Token) (n : Naming) → naming_of u ≡ Some n → P (u ∷ []) (k n)) → P ts (onward (name_last ts) k)
  by_last ts k h = by_both P bad ts (first naming_of ts) _ k (by_first P bad naming_of ts _ (λ u us n is. by_end (λ l. P (u ∷ l)) (λ l. bad (u ∷ l)) n us k (h u n is)))

  by_whole : (ts : List Token) (k : Phrase → Answer A) → ((xs : List Token) (e : Phrase) → Makes expression 8 xs e → P xs (k e)) → P ts (onward (whole_of ts) k)
  by_whole ts k h =
      by_both P bad ts (expression_of 8 ts) _ k (by_expression P bad ts _ (λ xs us e m.
      by_end (λ l. P (xs ++ l)) (λ l. bad (xs ++ l)) e us k (subst (λ l. P l (k e)) (sym (append-nil xs)) (h xs e m))))

  -- an address: a number and a colon
  by_address : (ts : List Token) (k : ℤ → Answer A) → ((z : ℤ) (s : List ℕ) (i : ℕ) (c : Token) → is_sign mark.Colon c ≡ true → P (word.number z s i ∷ (c ∷ [])) (k z)) → P ts (onward (address_of ts) k)
  by_address ts k h =
      by_both P bad ts (first number_of ts) _ k (by_number P bad ts _ (λ z s i us.
      by_both (λ l. P (word.number z s i ∷ l)) (λ l. bad (word.number z s i ∷ l)) us (past (is_sign mark.Colon) us) _ k (by_past (λ l. P (word.number z s i ∷ l)) (λ l. bad (word.number z s i ∷ l)) (is_sign mark.Colon) us _ (λ c vs colon.
      by_end (λ l. P (word.number z s i ∷ (c ∷ l))) (λ l. bad (word.number z s i ∷ (c ∷ l))) z vs k (h z s i c colon)))))

module _ {A : Type 0} (P : List Token → Answer A → Type 0) (bad : (ts : List Token) → P ts (Err NoForm)) where
  -- an input: a name, `?` and a name
  by_input : (ts : List Token) (k : Naming × Naming → Answer A)
      → ((u v w : Token) (n x : Naming) → naming_of u ≡ Some n → is_sign mark.Input v ≡ true → naming_of w ≡ Some x → P (u ∷ (v ∷ (w ∷ []))) (k (n, x))) → P ts (onward (input_of ts) k)
  by_input ts k h =
      by_both P bad ts (first naming_of ts) _ k (by_first P bad naming_of ts _ (λ u us n named.
      by_both (λ l. P (u ∷ l)) (λ l. bad (u ∷ l)) us (past (is_sign mark.Input) us) _ k (by_past (λ l. P (u ∷ l)) (λ l. bad (u ∷ l)) (is_sign mark.Input) us _ (λ v vs in_sign.
      by_both (λ l. P (u ∷ (v ∷ l))) (λ l. bad (u ∷ (v ∷ l))) vs (name_last vs) _ k (by_last (λ l. P (u ∷ (v ∷ l))) (λ l. bad (u ∷ (v ∷ l))) vs _ (λ w x named'. h u v w n x named in_sign named'))))))

-- names
abbrev NamesMade : List Token → Answer (List Naming) → Type 0
NamesMade ts (Ok ns) = MakesNames ts ns
NamesMade ts (Err f) = f ≡ NoForm

names_made : (ts : List Token) → NamesMade ts (names_of ts)
names_made [] = refl
names_made (t ∷ []) = refl
names_made (t ∷ (u ∷ ts)) = by (naming_of t) refl (separator_of u) refl (names_of ts) (names_made ts)
  where
    by : (o : Option Naming) → naming_of t ≡ o → (s : Option Separator) → separator_of u ≡ s → (r : Answer (List Naming)) → NamesMade ts r → NamesMade (t ∷ (u ∷ ts)) (listed_by o s ts r)
    by None is s sep r m = refl
    by (Some n) is None sep r m = refl
    by (Some n) is (Some Comma) sep (Ok ns) m = more is (separator_is u Comma sep) m
    by (Some n) is (Some Comma) sep (Err f) m = m
    by (Some n) is (Some Colon) sep r m = by_ended (λ l. NamesMade (t ∷ (u ∷ l))) (λ _. refl) (n ∷ []) ts (last is (separator_is u Colon sep))

by_names : {A : Type 0} (P : List Token → Answer A → Type 0) (bad : (ts : List Token) → P ts (Err NoForm)) (ts : List Token) (k : List Naming → Answer A) → ((ns : List Naming) → MakesNames ts ns → P ts (k ns)) → P ts (onward (names_of ts) k)
by_names P bad ts k h = by (names_of ts) (names_made ts)
  where
    by : (r : Answer (List Naming)) → NamesMade ts r → P ts (onward r k)
    by (Ok ns) m = h ns m
    by (Err f) g = subst (λ x. P ts (Err x)) (sym g) (bad ts)

-- the answer is a line that the words make, or that they have no form
abbrev pub Made : List Token → Answer Sentence → Type 0
Made ts (Ok s) = MakesLine ts s
Made ts (Err f) = f ≡ NoForm

-- what stands after a condition
module _ (xs : List Token) (e : Phrase) (m : Makes expression 8 xs e) where
  guarded_made : (t : Token) (us : List Token) → is_sign mark.Guard t ≡ true → Made (xs ++ (t ∷ us)) (guarded_of e us)
  guarded_made t us amp = by us
    where
      input : (vs : List Token) → Made (xs ++ (t ∷ vs)) (onward (input_of vs) (λ p. Ok (guard e p.0 p.1)))
      input vs = by_input (λ l. Made (xs ++ (t ∷ l))) (λ _. refl) vs _ (λ u v w n x named in_sign named'. for_guard xs t u v w refl m amp named in_sign named')

      by : (vs : List Token) → Made (xs ++ (t ∷ vs)) (guarded_of e vs)
      by [] = input []
      by (u ∷ vs) =
          cond_both (is_key key.Skip u) (Ok vs) (Err NoForm) (λ x. Made (xs ++ (t ∷ (u ∷ vs))) (guard_by e x (u ∷ vs)))
          (λ skips. by_ended (λ l. Made (xs ++ (t ∷ (u ∷ l)))) (λ _. refl) (skip_guard e) vs (for_skip_guard xs t u refl m amp skips))
          (λ _. input (u ∷ vs))

  condition_made : (us : List Token) → Made (xs ++ us) (guard_of e us)
  condition_made [] = subst (λ l. Made l (Ok (choice e))) (sym (append-nil xs)) (for_choice m)
  condition_made (t ∷ us) = by_past (λ l. Made (xs ++ l)) (λ _. refl) (is_sign mark.Guard) (t ∷ us) (guarded_of e) guarded_made

conditions_made : (ws : List Token) → Made ws (condition_of ws)
conditions_made ws = by_expression Made (λ _. refl) ws _ (λ xs us e m. condition_made xs e m us)

module _ (t u : Token) (ts : List Token) (n : Naming) (h : naming_of t ≡ Some n) where
  acted_made : (v : Verb) → verb_of u ≡ Some v → Made (t ∷ (u ∷ ts)) (acted_of n v ts)
  acted_made verb.Becomes w = by_whole (λ l. Made (t ∷ (u ∷ l))) (λ _. refl) ts _ (λ xs e m. for_assign h (verb_is u verb.Becomes w) m)
  acted_made verb.Input w = by_last (λ l. Made (t ∷ (u ∷ l))) (λ _. refl) ts _ (λ x k named. for_input h (verb_is u verb.Input w) named)
  acted_made verb.Output w = by_whole (λ l. Made (t ∷ (u ∷ l))) (λ _. refl) ts _ (λ xs e m. for_output h (verb_is u verb.Output w) m)

process_made : (ws : List Token) → Made ws (process_of ws)
process_made [] = conditions_made []
process_made (t ∷ []) = conditions_made (t ∷ [])
process_made (t ∷ (u ∷ ts)) = by (naming_of t) refl (verb_of u) refl
  where
    by : (o : Option Naming) → naming_of t ≡ o → (v : Option Verb) → verb_of u ≡ v → Made (t ∷ (u ∷ ts)) (process_by (action_by o v ts) (t ∷ (u ∷ ts)))
    by None h v w = conditions_made (t ∷ (u ∷ ts))
    by (Some n) h None w = conditions_made (t ∷ (u ∷ ts))
    by (Some n) h (Some v) w = acted_made t u ts n h v w

line_made : (ts : List Token) → Made ts (sentence_of ts)
line_made [] = refl
line_made (t ∷ ts) = by (opening_of t) (opens t)
  where
    by : (o : Option Opening) → Opens t o → Made (t ∷ ts) (sentence_by o (t ∷ ts) ts)
    by None h = process_made (t ∷ ts)
    by (Some opening.Int) h = by_names (λ l. Made (t ∷ l)) (λ _. refl) ts _ (λ ns m. for_variables h m)
    by (Some opening.Chan) h =
        by_past (λ l. Made (t ∷ l)) (λ _. refl) (is_key key.Of) ts _ (λ u us of.
        by_past (λ l. Made (t ∷ (u ∷ l))) (λ _. refl) (is_key key.Int) us _ (λ v vs int.
        by_names (λ l. Made (t ∷ (u ∷ (v ∷ l)))) (λ _. refl) vs _ (λ ns m. for_channels h of int m)))
    by (Some opening.Place) h =
        by_first (λ l. Made (t ∷ l)) (λ _. refl) naming_of ts _ (λ u us n named.
        by_past (λ l. Made (t ∷ (u ∷ l))) (λ _. refl) (is_key key.At) us _ (λ v vs at.
        by_address (λ l. Made (t ∷ (u ∷ (v ∷ l)))) (λ _. refl) vs _ (λ z s i c colon. for_place h named at colon)))
    by (Some opening.While) h = by_whole (λ l. Made (t ∷ l)) (λ _. refl) ts _ (λ xs e m. for_while h m)
    by (Some opening.Pri) h =
        by_past (λ l. Made (t ∷ l)) (λ _. refl) (is_key key.Alt) ts _ (λ u us alts.
        by_ended (λ l. Made (t ∷ (u ∷ l))) (λ _. refl) (lone alone.PriAlt) us (for_lone alone.PriAlt (h, (alts, tt))))
    by (Some (opening.Lone l)) h = by_ended (λ r. Made (t ∷ r)) (λ _. refl) (lone l) ts (for_lone l h)

right_form : (ts : List Token) → RightForm ts (sentence_of ts)
right_form ts = by (sentence_of ts) refl (line_made ts)
  where
    by : (r : Answer Sentence) → sentence_of ts ≡ r → Made ts r → RightForm ts r
    by (Ok s) is m = (m, λ s' m'. let read = line_read m' in cc)
    by (Err f) is g = inr (g, λ s m. let read = line_read m in cc)

-- the same of an answer of the code, which may also want memory
pub formed : (ts : List Token) (r : Answer Sentence) → UnlessMemory r (sentence_of ts) → RightForm ts r
formed ts (Ok s) e = subst (RightForm ts) e (right_form ts)
formed ts (Err f) (inl e) = inl e
formed ts (Err f) (inr e) = subst (RightForm ts) e (right_form ts)
