-- Expressions, by the grammar: what the grammar makes is read, and what is read the grammar makes.
use Rattle.std.proofs.Common.{◌≡◌, ◌⊎◌, ℕ, zero, suc, List, [], ◌∷◌, ◌++◌, Some, None, Ok, Err, Option, ok_or, option_map, sym, refl, ap, ◌∙◌, inl, inr}
use Rattle.std.proofs.lemmas.List.{append_assoc}
use Rattle.std.proofs.lemmas.Bool.{cond_both}
use Rattle.expressions.specs.declared.Dyadic.{Dyadic}
use Rattle.words.specs.Token.{Token}
use Rattle.words.specs.declared.vocabulary.Sign.TheVariants as mark
use Rattle.lines.specs.Answer.{onward}
use Rattle.lines.specs.Grammar.{Sort, operand, expression, Makes, of_named, of_numbered, of_truthful, in_brackets, one, prefixed, two}
use Rattle.lines.specs.Phrases.{Read, closed, operand_at, operand_by, with_prefix, second_at, after_first, prefix_at, expression_by, bracket_of, operand_of, expression_of}
use Rattle.lines.specs.Roles.{is_sign, Start, of_name, of_number, of_truth, bracket, leaf_of, prefix_of, operator_of, opening_of, naming_of}
use Rattle.lines.specs.Syntax.{Phrase, dyadic}
use Rattle.lines.specs.declared.refusal.Flaw.TheVariants.{NoForm}
use Rattle.lines.specs.declared.vocabulary.Prefix.{Prefix}
use Rattle.lines.proofs.Words.{by_sign, leaf_alone, bracket_opens}

-- no word follows, or one that is no operator
abbrev pub NoOperator : List Token → Type 0
NoOperator [] = Unit {0}
NoOperator (t ∷ ts) = operator_of t ≡ None

-- what is read of the words and whatever follows them
abbrev pub Reads : Sort → ℕ → List Token → Phrase → Type 0
Reads operand d ts e = (rest : List Token) → operand_of d (ts ++ rest) ≡ Ok (e, rest)
Reads expression d ts e = (rest : List Token) → NoOperator rest → expression_of d (ts ++ rest) ≡ Ok (e, rest)

-- the first word of an operand: no prefix, no start of a line of its own, and no name that another word follows
pub record First (ts : List Token) : Type 0 where
  pub head : Token
  pub tail : List Token
  pub is : ts ≡ head ∷ tail
  pub unprefixed : prefix_of head ≡ None
  pub unopened : opening_of head ≡ None
  pub plain : (naming_of head ≡ None) ⊎ (tail ≡ [])

one_word : (t : Token) (x : Start) → leaf_of t ≡ Some x → First (t ∷ [])
one_word t x h = let alone = leaf_alone t x h in record { head = t; tail = []; is = refl; unprefixed = alone.0; unopened = alone.1; plain = inr refl }

pub first_of_operand : {d : ℕ} {ts : List Token} {e : Phrase} → Makes operand d ts e → First ts
first_of_operand (of_named {t = t} {n = n} h) = one_word t (of_name n) h
first_of_operand (of_numbered {t = t} {z = v} h) = one_word t (of_number v) h
first_of_operand (of_truthful {t = t} {b = b} h) = one_word t (of_truth b) h
first_of_operand (in_brackets {t = t} {ws = ws} ts u e opens m closes) =
    record {
      head = t;
      tail = ws;
      is = refl;
      unprefixed = by_sign prefix_of mark.Open t None (λ s i. refl) opens;
      unopened = by_sign opening_of mark.Open t None (λ s i. refl) opens;
      plain = inl (by_sign naming_of mark.Open t None (λ s i. refl) opens);
    }

after_one : (op : List Token → Read Phrase) (a : Phrase) (rest : List Token) → NoOperator rest → after_first op a rest ≡ Ok (a, rest)
after_one op a [] no_one = refl
after_one op a (t ∷ ts) no_one = rw no_one

-- an expression whose first word is no prefix begins with an operand
unprefixed_is : (d : ℕ) (ts rest : List Token) → First ts → expression_of d (ts ++ rest) ≡ onward (operand_of d (ts ++ rest)) (λ r. after_first (operand_of d) r.0 r.1)
unprefixed_is d ts rest f = rw (f.is, f.unprefixed)

pub complete : {s : Sort} {d : ℕ} {ts : List Token} {e : Phrase} → Makes s d ts e → Reads s d ts e
complete (of_named h) = λ rest. rw h
complete (of_numbered h) = λ rest. rw h
complete (of_truthful h) = λ rest. rw h
complete (in_brackets {t = t} ts u e opens m closes) = λ rest.
    rw (
      by_sign leaf_of mark.Open t (Some bracket) (λ s i. refl) opens,
      e,
      append_assoc ts (u ∷ []) rest,
      complete m (u ∷ rest) (by_sign operator_of mark.Close u None (λ s i. refl) closes),
      closes,
    )
complete (one {d = d} {ts = ts} {e = p} m) = λ rest no_one. unprefixed_is d ts rest (first_of_operand m) ∙ rw (complete m rest) (after_one (operand_of d) p rest no_one)
complete (prefixed h m) = λ rest no_one. rw (h, complete m rest)
complete (two {d = d} ts t us e first h second) = λ rest no_one.
    rw (e, append_assoc ts (t ∷ us) rest) (unprefixed_is d ts (t ∷ (us ++ rest)) (first_of_operand first) ∙ rw (complete first (t ∷ (us ++ rest)), h, complete second rest))

-- what an answer of the reader says of the words: the front of them makes what was read; the only flaw is that they have no form
abbrev pub Parsed : Sort → ℕ → List Token → Read Phrase → Type 0
Parsed s d ts (Ok r) = (xs : List Token) × (ts ≡ xs ++ r.1) × Makes s d xs r.0
Parsed s d ts (Err f) = f ≡ NoForm

module _ (d : ℕ) (op : List Token → Read Phrase) (sound : (ts : List Token) → Parsed operand d ts (op ts)) where
  second_sound : (ts xs : List Token) (t : Token) (us : List Token) (a : Phrase) (o : Dyadic) → ts ≡ xs ++ (t ∷ us) → Makes operand d xs a → operator_of t ≡ Some o
      → (r : Read Phrase) → Parsed operand d us r → Parsed expression d ts (onward r (λ q. Ok (dyadic o a q.0, q.1)))
  second_sound ts xs t us a o e first h (Ok r) (ys, f, m) =
      (xs ++ (t ∷ ys), e ∙ ap (λ l. xs ++ (t ∷ l)) f ∙ sym (append_assoc xs (t ∷ ys) r.1), two xs t ys refl first h m)
  second_sound ts xs t us a o e first h (Err f) g = g

  after_sound : (ts xs us : List Token) (a : Phrase) → ts ≡ xs ++ us → Makes operand d xs a → Parsed expression d ts (after_first op a us)
  after_sound ts xs [] a e m = (xs, e, one m)
  after_sound ts xs (t ∷ us) a e m = by (operator_of t) refl
    where
      by : (o : Option Dyadic) → operator_of t ≡ o → Parsed expression d ts (second_at op a o us (t ∷ us))
      by None is = (xs, e, one m)
      by (Some o) is = second_sound ts xs t us a o e m is (op us) (sound us)

  pub expression_by_lem : (ts : List Token) → Parsed expression d ts (expression_by op ts)
  expression_by_lem [] = refl
  expression_by_lem (t ∷ ts) = by (prefix_of t) refl
    where
      after : (r : Read Phrase) → Parsed operand d (t ∷ ts) r → Parsed expression d (t ∷ ts) (onward r (λ q. after_first op q.0 q.1))
      after (Ok r) (xs, e, m) = after_sound (t ∷ ts) xs r.1 r.0 e m
      after (Err f) g = g

      with_prefix_lem : (p : Prefix) → prefix_of t ≡ Some p → (r : Read Phrase) → Parsed operand d ts r → Parsed expression d (t ∷ ts) (onward r (λ q. Ok (with_prefix p q.0, q.1)))
      with_prefix_lem p is (Ok r) (xs, e, m) = (t ∷ xs, ap (λ l. t ∷ l) e, prefixed is m)
      with_prefix_lem p is (Err f) g = g

      by : (o : Option Prefix) → prefix_of t ≡ o → Parsed expression d (t ∷ ts) (prefix_at op o ts (t ∷ ts))
      by None is = after (op (t ∷ ts)) (sound (t ∷ ts))
      by (Some p) is = with_prefix_lem p is (op ts) (sound ts)

operand_by_lem : (d : ℕ) (k : List Token → Read Phrase) → ((t : Token) (ts : List Token) → leaf_of t ≡ Some bracket → Parsed operand d (t ∷ ts) (k ts)) → (ts : List Token) → Parsed operand d ts (operand_by k ts)
operand_by_lem d k inner [] = refl
operand_by_lem d k inner (t ∷ ts) = by (leaf_of t) refl
  where
    by : (x : Option Start) → leaf_of t ≡ x → Parsed operand d (t ∷ ts) (onward {A = Start × List Token} (ok_or (option_map (λ y. (y, ts)) x) NoForm) (λ r. operand_at r.0 k r.1))
    by None is = refl
    by (Some (of_name n)) is = (t ∷ [], refl, of_named is)
    by (Some (of_number z)) is = (t ∷ [], refl, of_numbered is)
    by (Some (of_truth b)) is = (t ∷ [], refl, of_truthful is)
    by (Some bracket) is = inner t ts is

closing : (d : ℕ) (t : Token) (ts : List Token) → leaf_of t ≡ Some bracket → (r : Read Phrase) → Parsed expression d ts r → Parsed operand (suc d) (t ∷ ts) (onward r closed)
closing d t ts is (Err f) g = g
closing d t ts is (Ok r) (xs, e, m) = by r.1 e
  where
    by : (us : List Token) → ts ≡ xs ++ us → Parsed operand (suc d) (t ∷ ts) (closed (r.0, us))
    by [] f = refl
    by (u ∷ us) f =
        cond_both (is_sign mark.Close u) (Ok us) (Err NoForm) (λ x. Parsed operand (suc d) (t ∷ ts) (onward x (λ vs. Ok (r.0, vs))))
        (λ closes. (t ∷ (xs ++ (u ∷ [])), ap (λ l. t ∷ l) (f ∙ sym (append_assoc xs (u ∷ []) us)), in_brackets xs u refl (bracket_opens t is) m closes))
        (λ _. refl)

bracket_sound : (d : ℕ) (t : Token) (ts : List Token) → leaf_of t ≡ Some bracket → Parsed operand d (t ∷ ts) (bracket_of d ts)
bracket_sound zero t ts is = refl
bracket_sound (suc d) t ts is =
    closing d t ts is (expression_of d ts) (expression_by_lem d (operand_of d) (operand_by_lem d (bracket_of d) (bracket_sound d)) ts)

pub parsed : (d : ℕ) (ts : List Token) → Parsed expression d ts (expression_of d ts)
parsed d ts = expression_by_lem d (operand_of d) (operand_by_lem d (bracket_of d) (bracket_sound d)) ts
