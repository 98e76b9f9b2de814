-- The line as it is written, from its words, as a computation. The rules that it obeys are in Grammar.
use Rattle.std.specs.Prelude.{List, [], ◌∷◌, map, ℤ, Some, None, Ok, Err, vec_items, Option, Vec}
use Rattle.std.specs.Borrow.{Bor}
use Rattle.std.specs.declared.alloc.Global.{Global}
use Rattle.words.specs.Token.{Token}
use Rattle.words.specs.declared.vocabulary.Keyword.TheVariants as key
use Rattle.words.specs.declared.vocabulary.Sign.TheVariants as mark
use Rattle.words.specs.declared.vocabulary.Word.{Word}
use Rattle.lines.specs.Answer.{Answer, onward}
use Rattle.lines.specs.Phrases.{first, past, expression_of, words_left}
use Rattle.lines.specs.Roles.{is_key, is_sign, naming_of, number_of, opening_of, separator_of, verb_of}
use Rattle.lines.specs.Syntax.{Naming, Phrase, Sentence, variables, channels, place, lone, assign, input, output, while, choice, guard, skip_guard, naming}
use Rattle.lines.specs.declared.refusal.Flaw.TheVariants.{NoForm}
use Rattle.lines.specs.declared.syntax.Lone.TheVariants.{PriAlt}
use Rattle.lines.specs.declared.syntax.Mention.{Mention}
use Rattle.lines.specs.declared.vocabulary.Opening.{Opening}
use Rattle.lines.specs.declared.vocabulary.Opening.TheVariants as opening
use Rattle.lines.specs.declared.vocabulary.Separator.{Separator}
use Rattle.lines.specs.declared.vocabulary.Separator.TheVariants.{Comma, Colon}
use Rattle.lines.specs.declared.vocabulary.Verb.{Verb}
use Rattle.lines.specs.declared.vocabulary.Verb.TheVariants as verb

-- no word is left, and x was read
abbrev pub ended : {A : Type 0} → A → List Token → Answer A
ended x [] = Ok x
ended x (t ∷ ts) = Err NoForm

-- a name, and no word after it
abbrev pub name_last : List Token → Answer Naming
name_last ts = onward (first naming_of ts) (λ r. ended r.0 r.1)

-- an expression, brackets at most eight deep, and no word after it
abbrev pub whole_of : List Token → Answer Phrase
whole_of ts = onward (expression_of 8 ts) (λ r. ended r.0 r.1)

abbrev pub separated : Naming → Option Separator → List Token → Answer (List Naming) → Answer (List Naming)
separated n None ts more = Err NoForm
separated n (Some Comma) ts more = onward more (λ ns. Ok (n ∷ ns))
separated n (Some Colon) ts more = ended (n ∷ []) ts

abbrev pub listed_by : Option Naming → Option Separator → List Token → Answer (List Naming) → Answer (List Naming)
listed_by None s ts more = Err NoForm
listed_by (Some n) s ts more = separated n s ts more

-- names parted by commas, with a colon at the end
abbrev pub names_of : List Token → Answer (List Naming)
names_of [] = Err NoForm
names_of (t ∷ []) = Err NoForm
names_of (t ∷ u ∷ ts) = listed_by (naming_of t) (separator_of u) ts (names_of ts)

-- after CHAN: OF INT and names
abbrev pub channels_of : List Token → Answer Sentence
channels_of ts = onward (past (is_key key.Of) ts) (λ us. onward (past (is_key key.Int) us) (λ vs. onward (names_of vs) (λ ns. Ok (channels ns))))

-- a number and a colon, and no word after them
abbrev pub address_of : List Token → Answer ℤ
address_of ts = onward (first number_of ts) (λ r. onward (past (is_sign mark.Colon) r.1) (λ us. ended r.0 us))

-- after PLACE: a name, AT, a number and a colon
abbrev pub place_of : List Token → Answer Sentence
place_of ts = onward (first naming_of ts) (λ r. onward (past (is_key key.At) r.1) (λ us. onward (address_of us) (λ z. Ok (place r.0 z))))

-- a name, `?` and a name, and no word after them
abbrev pub input_of : List Token → Answer (Naming × Naming)
input_of ts = onward (first naming_of ts) (λ r. onward (past (is_sign mark.Input) r.1) (λ us. onward (name_last us) (λ x. Ok (r.0, x))))

abbrev pub guard_by : Phrase → Answer (List Token) → List Token → Answer Sentence
guard_by e (Ok us) ts = ended (skip_guard e) us
guard_by e (Err f) ts = onward (input_of ts) (λ p. Ok (guard e p.0 p.1))

-- what stands after `&`: SKIP or an input
abbrev pub guarded_of : Phrase → List Token → Answer Sentence
guarded_of e ts = guard_by e (past (is_key key.Skip) ts) ts

-- what stands after the condition: nothing, or `&` and more
abbrev pub guard_of : Phrase → List Token → Answer Sentence
guard_of e [] = Ok (choice e)
guard_of e (t ∷ ts) = onward (past (is_sign mark.Guard) (t ∷ ts)) (guarded_of e)

-- a line that begins with a condition
abbrev pub condition_of : List Token → Answer Sentence
condition_of ts = onward (expression_of 8 ts) (λ r. guard_of r.0 r.1)

-- the process that begins with the name and the verb
abbrev pub acted_of : Naming → Verb → List Token → Answer Sentence
acted_of n verb.Becomes ts = onward (whole_of ts) (λ e. Ok (assign n e))
acted_of n verb.Input ts = onward (name_last ts) (λ x. Ok (input n x))
acted_of n verb.Output ts = onward (whole_of ts) (λ e. Ok (output n e))

abbrev pub action_by : Option Naming → Option Verb → List Token → Option (Naming × Verb × List Token)
action_by None v ts = None
action_by (Some n) None ts = None
action_by (Some n) (Some v) ts = Some (n, v, ts)

-- a name and `:=`, `?` or `!`, and the words after them
abbrev pub action_of : List Token → Option (Naming × Verb × List Token)
action_of [] = None
action_of (t ∷ []) = None
action_of (t ∷ u ∷ ts) = action_by (naming_of t) (verb_of u) ts

abbrev pub process_by : Option (Naming × Verb × List Token) → List Token → Answer Sentence
process_by None ts = condition_of ts
process_by (Some a) ts = acted_of a.0 a.1 a.2

-- a line that begins with no keyword of its own
abbrev pub process_of : List Token → Answer Sentence
process_of ts = process_by (action_of ts) ts

-- the line that begins so, of which ts are the words after the first
abbrev pub opened_by : Opening → List Token → Answer Sentence
opened_by opening.Int ts = onward (names_of ts) (λ ns. Ok (variables ns))
opened_by opening.Chan ts = channels_of ts
opened_by opening.Place ts = place_of ts
opened_by opening.While ts = onward (whole_of ts) (λ e. Ok (while e))
opened_by opening.Pri ts = onward (past (is_key key.Alt) ts) (λ us. ended (lone PriAlt) us)
opened_by (opening.Lone l) ts = ended (lone l) ts

-- the line of which ts are all words and us those after the first
abbrev pub sentence_by : Option Opening → List Token → List Token → Answer Sentence
sentence_by None ts us = process_of ts
sentence_by (Some o) ts us = opened_by o us

-- the line that some words are
abbrev pub sentence_of : List Token → Answer Sentence
sentence_of [] = Err NoForm
sentence_of (t ∷ ts) = sentence_by (opening_of t) (t ∷ ts) ts

-- what two names stand for
abbrev pub mentions_read : Mention × Mention → Naming × Naming
mentions_read p = (naming p.0, naming p.1)

-- what a list of names stands for
abbrev pub namings : Vec Mention Global → List Naming
namings v = map naming (vec_items v)

-- what the start of a process stands for
abbrev pub action_read : Mention × Verb × Bor (List Word) → Naming × Verb × List Token
action_read a = (naming a.0, a.1, words_left a.2)
