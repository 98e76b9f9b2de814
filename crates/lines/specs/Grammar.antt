-- The grammar: which words make which expression, and which line.
use Rattle.std.specs.Prelude.{◌≡◌, ℕ, suc, Bool, true, ◌⊎◌, List, [], ◌∷◌, ◌++◌, ℤ, Some, Ok, Err}
use Rattle.expressions.specs.declared.Dyadic.{Dyadic}
use Rattle.words.specs.Token.{Token}
use Rattle.words.specs.Token as word
use Rattle.words.specs.declared.vocabulary.Keyword.{Keyword}
use Rattle.words.specs.declared.vocabulary.Keyword.TheVariants as key
use Rattle.words.specs.declared.vocabulary.Sign.TheVariants as mark
use Rattle.lines.specs.Answer.{Answer}
use Rattle.lines.specs.Phrases.{with_prefix}
use Rattle.lines.specs.Roles.{is_key, is_sign, naming_of, leaf_of, of_name, of_number, of_truth, prefix_of, operator_of}
use Rattle.lines.specs.Syntax.{Naming, Phrase, name, number, truth, dyadic, Sentence, variables, channels, place, lone, assign, input, output, while, choice, guard, skip_guard}
use Rattle.lines.specs.declared.refusal.Flaw.TheVariants.{NoForm, Memory}
use Rattle.lines.specs.declared.syntax.Lone.{Lone}
use Rattle.lines.specs.declared.syntax.Lone.TheVariants as alone
use Rattle.lines.specs.declared.vocabulary.Prefix.{Prefix}

-- an operand, or an expression
pub data Sort : Type 0 where
  operand : Sort
  expression : Sort

-- the words make that operand or expression, with brackets at most d deep
pub data Makes : Sort → ℕ → List Token → Phrase → Type 0 where
  -- an operand is a name, a number, TRUE or FALSE
  of_named : {d : ℕ} {t : Token} {n : Naming} → leaf_of t ≡ Some (of_name n) → Makes operand d (t ∷ []) (name n)
  of_numbered : {d : ℕ} {t : Token} {z : ℤ} → leaf_of t ≡ Some (of_number z) → Makes operand d (t ∷ []) (number z)
  of_truthful : {d : ℕ} {t : Token} {b : Bool} → leaf_of t ≡ Some (of_truth b) → Makes operand d (t ∷ []) (truth b)
  -- or an expression in brackets
  in_brackets : {d : ℕ} {t : Token} {ws : List Token} {e : Phrase} (ts : List Token) (u : Token) → ws ≡ ts ++ (u ∷ []) → is_sign mark.Open t ≡ true → Makes expression d ts e → is_sign mark.Close u ≡ true
      → Makes operand (suc d) (t ∷ ws) e
  -- an expression is an operand
  one : {d : ℕ} {ts : List Token} {e : Phrase} → Makes operand d ts e → Makes expression d ts e
  -- or `-` or NOT and an operand
  prefixed : {d : ℕ} {t : Token} {ts : List Token} {p : Prefix} {e : Phrase} → prefix_of t ≡ Some p → Makes operand d ts e → Makes expression d (t ∷ ts) (with_prefix p e)
  -- or two operands with one operator between
  two : {d : ℕ} {ws : List Token} {o : Dyadic} {a b : Phrase} (ts : List Token) (t : Token) (us : List Token) → ws ≡ ts ++ (t ∷ us) → Makes operand d ts a → operator_of t ≡ Some o → Makes operand d us b
      → Makes expression d ws (dyadic o a b)

-- names parted by commas, with a colon at the end
pub data MakesNames : List Token → List Naming → Type 0 where
  last : {t u : Token} {n : Naming} → naming_of t ≡ Some n → is_sign mark.Colon u ≡ true → MakesNames (t ∷ (u ∷ [])) (n ∷ [])
  more : {t u : Token} {ts : List Token} {n : Naming} {ns : List Naming} → naming_of t ≡ Some n → is_sign mark.Comma u ≡ true → MakesNames ts ns → MakesNames (t ∷ (u ∷ ts)) (n ∷ ns)

-- the keyword of a line that is one keyword alone
abbrev pub lone_key : Lone → List Keyword
lone_key alone.Skip = key.Skip ∷ []
lone_key alone.Stop = key.Stop ∷ []
lone_key alone.Seq = key.Seq ∷ []
lone_key alone.Par = key.Par ∷ []
lone_key alone.If = key.If ∷ []
lone_key alone.Alt = key.Alt ∷ []
lone_key alone.PriAlt = key.Pri ∷ (key.Alt ∷ [])

-- the words are these keywords, one by one
abbrev pub AreKeys : List Keyword → List Token → Type 0
AreKeys [] [] = Unit {0}
AreKeys [] (t ∷ ts) = ⊥
AreKeys (k ∷ ks) [] = ⊥
AreKeys (k ∷ ks) (t ∷ ts) = (is_key k t ≡ true) × AreKeys ks ts

-- the words make that line; brackets are at most eight deep
pub data MakesLine : List Token → Sentence → Type 0 where
  -- INT names:
  for_variables : {t : Token} {ts : List Token} {ns : List Naming} → is_key key.Int t ≡ true → MakesNames ts ns → MakesLine (t ∷ ts) (variables ns)
  -- CHAN OF INT names:
  for_channels : {t u v : Token} {ts : List Token} {ns : List Naming} → is_key key.Chan t ≡ true → is_key key.Of u ≡ true → is_key key.Int v ≡ true → MakesNames ts ns
      → MakesLine (t ∷ (u ∷ (v ∷ ts))) (channels ns)
  -- PLACE channel AT number:
  for_place : {t u v c : Token} {n : Naming} {z : ℤ} {s : List ℕ} {i : ℕ} → is_key key.Place t ≡ true → naming_of u ≡ Some n → is_key key.At v ≡ true → is_sign mark.Colon c ≡ true
      → MakesLine (t ∷ (u ∷ (v ∷ (word.number z s i ∷ (c ∷ []))))) (place n z)
  -- SKIP, STOP, SEQ, PAR, IF, ALT or PRI ALT
  for_lone : {ts : List Token} (l : Lone) → AreKeys (lone_key l) ts → MakesLine ts (lone l)
  -- variable := expression
  for_assign : {t u : Token} {ts : List Token} {n : Naming} {e : Phrase} → naming_of t ≡ Some n → is_sign mark.Becomes u ≡ true → Makes expression 8 ts e → MakesLine (t ∷ (u ∷ ts)) (assign n e)
  -- channel ? variable
  for_input : {t u v : Token} {c x : Naming} → naming_of t ≡ Some c → is_sign mark.Input u ≡ true → naming_of v ≡ Some x → MakesLine (t ∷ (u ∷ (v ∷ []))) (input c x)
  -- channel ! expression
  for_output : {t u : Token} {ts : List Token} {n : Naming} {e : Phrase} → naming_of t ≡ Some n → is_sign mark.Output u ≡ true → Makes expression 8 ts e → MakesLine (t ∷ (u ∷ ts)) (output n e)
  -- WHILE condition
  for_while : {t : Token} {ts : List Token} {e : Phrase} → is_key key.While t ≡ true → Makes expression 8 ts e → MakesLine (t ∷ ts) (while e)
  -- a condition
  for_choice : {ts : List Token} {e : Phrase} → Makes expression 8 ts e → MakesLine ts (choice e)
  -- condition & channel ? variable
  for_guard : {ws : List Token} {e : Phrase} {c x : Naming} (ts : List Token) (t u v w : Token) → ws ≡ ts ++ (t ∷ (u ∷ (v ∷ (w ∷ []))))
      → Makes expression 8 ts e → is_sign mark.Guard t ≡ true → naming_of u ≡ Some c → is_sign mark.Input v ≡ true → naming_of w ≡ Some x → MakesLine ws (guard e c x)
  -- condition & SKIP
  for_skip_guard : {ws : List Token} {e : Phrase} (ts : List Token) (t u : Token) → ws ≡ ts ++ (t ∷ (u ∷ [])) → Makes expression 8 ts e → is_sign mark.Guard t ≡ true → is_key key.Skip u ≡ true → MakesLine ws (skip_guard e)

-- an answer is right: the words make that line and no other, or they make none
abbrev pub RightForm : List Token → Answer Sentence → Type 0
RightForm ts (Ok s) = MakesLine ts s × ((s' : Sentence) → MakesLine ts s' → s' ≡ s)
RightForm ts (Err f) = (f ≡ Memory) ⊎ ((f ≡ NoForm) × ((s : Sentence) → MakesLine ts s → ⊥))
