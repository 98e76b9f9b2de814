-- What the grammar makes of a line's words is read.
use Rattle.std.proofs.Common.{◌≡◌, ℕ, true, List, [], ◌∷◌, ◌++◌, Some, None, Ok, Option, sym, refl, ap, ◌∙◌, subst, ⊎_elim}
use Rattle.std.proofs.lemmas.List.{append-nil, append_assoc}
use Rattle.words.specs.Token.{Token, number}
use Rattle.words.specs.declared.vocabulary.Keyword.{Keyword}
use Rattle.words.specs.declared.vocabulary.Keyword.TheVariants as key
use Rattle.words.specs.declared.vocabulary.Sign.TheVariants as mark
use Rattle.lines.specs.Grammar.{expression, Makes, one, prefixed, two, MakesNames, last, more, AreKeys, lone_key, MakesLine, for_variables, for_channels, for_place, for_lone, for_assign, for_input, for_output, for_while, for_choice, for_guard, for_skip_guard}
use Rattle.lines.specs.Roles.{is_key, is_sign, operator_of, keyword_opening, opening_of, naming_of, verb_of, separator_of}
use Rattle.lines.specs.Sentences.{whole_of, names_of, guarded_of, condition_of, acted_of, action_by, action_of, process_of, opened_by, sentence_by, sentence_of}
use Rattle.lines.specs.Syntax.{Naming, Phrase, Sentence, lone}
use Rattle.lines.specs.declared.syntax.Lone.{Lone}
use Rattle.lines.specs.declared.syntax.Lone.TheVariants as alone
use Rattle.lines.specs.declared.vocabulary.Opening.{Opening}
use Rattle.lines.specs.declared.vocabulary.Opening.TheVariants as opening
use Rattle.lines.specs.declared.vocabulary.Separator.TheVariants.{Comma, Colon}
use Rattle.lines.specs.declared.vocabulary.Verb.{Verb}
use Rattle.lines.specs.declared.vocabulary.Verb.TheVariants as verb
use Rattle.lines.proofs.Parsed.{First, first_of_operand, complete}
use Rattle.lines.proofs.Words.{by_sign, by_key, prefix_alone, name_alone, operator_no_verb}

names_read : {ts : List Token} {ns : List Naming} → MakesNames ts ns → names_of ts ≡ Ok ns
names_read (last {u = u} h colon) = rw (h, by_sign separator_of mark.Colon u (Some Colon) (λ s i. refl) colon)
names_read (more {u = u} h comma m) = rw (h, by_sign separator_of mark.Comma u (Some Comma) (λ s i. refl) comma, names_read m)

whole_read : {ts : List Token} {e : Phrase} → Makes expression 8 ts e → whole_of ts ≡ Ok e
whole_read m = let read = rw append-nil at (complete m [] tt) in rw read

-- the line that begins with that keyword
opened : (k : Keyword) (t : Token) (ts : List Token) (o : Opening) → keyword_opening k ≡ Some o → is_key k t ≡ true → sentence_of (t ∷ ts) ≡ opened_by o ts
opened k t ts o e h = ap (λ x. sentence_by x (t ∷ ts) ts) (by_key opening_of k t (Some o) (λ s i. e) h)

-- the line that begins with no keyword of its own
unopened : (t : Token) (ts : List Token) → opening_of t ≡ None → sentence_of (t ∷ ts) ≡ process_of (t ∷ ts)
unopened t ts e = ap (λ x. sentence_by x (t ∷ ts) ts) e

acted : (t u : Token) (ts : List Token) (n : Naming) (v : Verb) → naming_of t ≡ Some n → verb_of u ≡ Some v → sentence_of (t ∷ (u ∷ ts)) ≡ acted_of n v ts
acted t u ts n v h w =
    unopened t (u ∷ ts) (name_alone t n h).0 ∙ rw (h, w)

-- no word follows, or one that is none of `:=`, `?` and `!`
abbrev NoVerb : List Token → Type 0
NoVerb [] = Unit {0}
NoVerb (t ∷ ts) = verb_of t ≡ None

unnamed_none : (t : Token) (l : List Token) → naming_of t ≡ None → action_of (t ∷ l) ≡ None
unnamed_none t [] h = refl
unnamed_none t (u ∷ us) h = rw h

verbless_none : (t : Token) (l : List Token) → NoVerb l → action_of (t ∷ l) ≡ None
verbless_none t [] h = refl
verbless_none t (u ∷ us) h = ap (λ o. action_by (naming_of t) o us) h ∙ by (naming_of t)
  where
    by : (o : Option Naming) → action_by o None us ≡ None
    by None = refl
    by (Some n) = refl

-- an expression, and what follows it: no process that begins with a name
starts_condition : (ts rest : List Token) → First ts → NoVerb rest → sentence_of (ts ++ rest) ≡ condition_of (ts ++ rest)
starts_condition ts rest s no_verb =
    rw s.is (unopened s.head (s.tail ++ rest) s.unopened ∙ rw none)
  where
    none : action_of (s.head ∷ (s.tail ++ rest)) ≡ None
    none = ⊎_elim (λ h. unnamed_none s.head (s.tail ++ rest) h) (λ e. verbless_none s.head (s.tail ++ rest) (subst (λ l. NoVerb (l ++ rest)) (sym e) no_verb)) s.plain

expression_condition : {d : ℕ} {ts : List Token} {e : Phrase} → Makes expression d ts e → (rest : List Token) → NoVerb rest → sentence_of (ts ++ rest) ≡ condition_of (ts ++ rest)
expression_condition (one m) rest no_verb = starts_condition _ rest (first_of_operand m) no_verb
expression_condition (prefixed {t = t} {ts = ts} {p = p} h m) rest no_verb =
    let alone = prefix_alone t p h in
    unopened t (ts ++ rest) alone.0 ∙ rw (unnamed_none t (ts ++ rest) alone.1)
expression_condition (two {o = o} ts t us e first h second) rest no_verb =
    rw (e, append_assoc ts (t ∷ us) rest) (starts_condition ts (t ∷ (us ++ rest)) (first_of_operand first) (operator_no_verb t o h))

key_read : (k : Keyword) (l : Lone) (ts : List Token) → keyword_opening k ≡ Some (opening.Lone l) → AreKeys (k ∷ []) ts → sentence_of ts ≡ Ok (lone l)
key_read k l [] e h = absurd h
key_read k l (t ∷ []) e h = opened k t [] (opening.Lone l) e h.0
key_read k l (t ∷ (u ∷ us)) e h = absurd h.1

lone_read : (l : Lone) (ts : List Token) → AreKeys (lone_key l) ts → sentence_of ts ≡ Ok (lone l)
lone_read alone.Skip ts h = key_read key.Skip alone.Skip ts refl h
lone_read alone.Stop ts h = key_read key.Stop alone.Stop ts refl h
lone_read alone.Seq ts h = key_read key.Seq alone.Seq ts refl h
lone_read alone.Par ts h = key_read key.Par alone.Par ts refl h
lone_read alone.If ts h = key_read key.If alone.If ts refl h
lone_read alone.Alt ts h = key_read key.Alt alone.Alt ts refl h
lone_read alone.PriAlt [] h = absurd h
lone_read alone.PriAlt (t ∷ []) h = absurd h.1
lone_read alone.PriAlt (t ∷ (u ∷ [])) h = opened key.Pri t (u ∷ []) opening.Pri refl h.0 ∙ rw h.1.0
lone_read alone.PriAlt (t ∷ (u ∷ (v ∷ vs))) h = absurd h.1.1

-- what follows the condition of a guard
amp_read : (ts us : List Token) (t : Token) (e : Phrase) → Makes expression 8 ts e → is_sign mark.Guard t ≡ true → sentence_of (ts ++ (t ∷ us)) ≡ guarded_of e us
amp_read ts us t e m amp =
    expression_condition m (t ∷ us) (by_sign verb_of mark.Guard t None (λ s i. refl) amp)
    ∙ rw (complete m (t ∷ us) (by_sign operator_of mark.Guard t None (λ s i. refl) amp), amp)

pub line_read : {ts : List Token} {s : Sentence} → MakesLine ts s → sentence_of ts ≡ Ok s
line_read (for_variables {t = t} {ts = ts} h m) = opened key.Int t ts opening.Int refl h ∙ rw (names_read m)
line_read (for_channels {t = t} {u = u} {v = v} {ts = ts} h of int m) = opened key.Chan t (u ∷ (v ∷ ts)) opening.Chan refl h ∙ rw (of, int, names_read m)
line_read (for_place {t = t} {u = u} {v = v} {c = c} {n = n} {z = z} {s = s} {i = i} h name at colon) =
    opened key.Place t (u ∷ (v ∷ (number z s i ∷ (c ∷ [])))) opening.Place refl h ∙ rw (name, at, colon)
line_read (for_lone {ts = ts} l h) = lone_read l ts h
line_read (for_assign {t = t} {u = u} {ts = ts} {n = n} h becomes m) =
    acted t u ts n verb.Becomes h (by_sign verb_of mark.Becomes u (Some verb.Becomes) (λ s i. refl) becomes) ∙ rw (whole_read m)
line_read (for_input {t = t} {u = u} {v = v} {c = c} h in_sign k) =
    acted t u (v ∷ []) c verb.Input h (by_sign verb_of mark.Input u (Some verb.Input) (λ s i. refl) in_sign) ∙ rw k
line_read (for_output {t = t} {u = u} {ts = ts} {n = n} h out m) =
    acted t u ts n verb.Output h (by_sign verb_of mark.Output u (Some verb.Output) (λ s i. refl) out) ∙ rw (whole_read m)
line_read (for_while {t = t} {ts = ts} h m) = opened key.While t ts opening.While refl h ∙ rw (whole_read m)
line_read (for_choice {ts = ts} m) = ap sentence_of (sym (append-nil ts)) ∙ expression_condition m [] tt ∙ rw (complete m [] tt)
line_read (for_guard {e = e} {c = c} ts t u v w is m amp named in_sign named') =
    ap sentence_of is ∙ amp_read ts (u ∷ (v ∷ (w ∷ []))) t e m amp ∙ rw ((name_alone u c named).1, named, in_sign, named')
line_read (for_skip_guard {e = e} ts t u is m amp skips) = ap sentence_of is ∙ amp_read ts (u ∷ []) t e m amp ∙ rw skips
