-- What a word that is a given keyword or sign is to the grammar.
use Rattle.std.proofs.Common.{◌≡◌, ℕ, Bool, true, false, cond, List, [], ◌∷◌, Some, None, Option, sym, refl, ap, ◌∙◌, subst}
use Rattle.words.specs.Token.{Token, name, keyword, number, sign}
use Rattle.words.specs.declared.vocabulary.Keyword.{Keyword}
use Rattle.words.specs.declared.vocabulary.Keyword.TheVariants as key
use Rattle.words.specs.declared.vocabulary.Sign.{Sign}
use Rattle.words.specs.declared.vocabulary.Sign.TheVariants as mark
use Rattle.expressions.specs.declared.Dyadic.{Dyadic}
use Rattle.lines.specs.Grammar.{AreKeys, lone_key}
use Rattle.lines.specs.Roles.{same_key, same_key_lem, same_sign, same_sign_lem, is_key, is_sign, Start, of_truth, bracket, leaf_of, prefix_of, sign_operator, operator_of, keyword_opening, opening_of, naming_of, verb_of, separator_of}
use Rattle.lines.specs.Syntax.{Naming}
use Rattle.lines.specs.declared.vocabulary.Opening.{Opening}
use Rattle.lines.specs.declared.vocabulary.Opening.TheVariants as opening
use Rattle.lines.specs.declared.vocabulary.Prefix.{Prefix}
use Rattle.lines.specs.declared.vocabulary.Separator.{Separator}
use Rattle.lines.specs.declared.vocabulary.Separator.TheVariants as separator
use Rattle.lines.specs.declared.vocabulary.Verb.{Verb}
use Rattle.lines.specs.declared.vocabulary.Verb.TheVariants as verb

-- what a word that is that keyword, or that sign, is to a reader of words
pub by_key : {A : Type 0} (f : Token → A) (k : Keyword) (t : Token) (x : A) → ((s : List ℕ) (i : ℕ) → f (keyword k s i) ≡ x) → is_key k t ≡ true → f t ≡ x
by_key f k (name s i) x h e = absurd (cc)
by_key f k (keyword j s i) x h e = ap (λ l. f (keyword l s i)) ((same_key_lem j k).0 e) ∙ h s i
by_key f k (number z s i) x h e = absurd (cc)
by_key f k (sign m s i) x h e = absurd (cc)

pub by_sign : {A : Type 0} (f : Token → A) (n : Sign) (t : Token) (x : A) → ((s : List ℕ) (i : ℕ) → f (sign n s i) ≡ x) → is_sign n t ≡ true → f t ≡ x
by_sign f n (name s i) x h e = absurd (cc)
by_sign f n (keyword k s i) x h e = absurd (cc)
by_sign f n (number z s i) x h e = absurd (cc)
by_sign f n (sign m s i) x h e = ap (λ l. f (sign l s i)) ((same_sign_lem m n).0 e) ∙ h s i

-- what holds of the value that a chain of tests gives, if it holds of the value of each
by_test : {A : Type 0} (P : A → Type 0) (b : Bool) (x : A) (o : Option A) → (b ≡ true → P x) → ((y : A) → o ≡ Some y → P y) → (y : A) → cond b (Some x) o ≡ Some y → P y
by_test P true x o here after y e = let same : x ≡ y = cc in subst P same (here refl)
by_test P false x o here after y e = after y e

-- no test is left
none_left : {A : Type 0} (P : A → Type 0) (y : A) → None ≡ Some y → P y
none_left P y e = absurd (cc)

-- no prefix, and no start of a line of its own
abbrev pub Alone : Token → Type 0
Alone t = (prefix_of t ≡ None) × (opening_of t ≡ None)

-- what begins an operand is neither
pub leaf_alone : (t : Token) (x : Start) → leaf_of t ≡ Some x → Alone t
leaf_alone (name s i) x e = (refl, refl)
leaf_alone (keyword k s i) x e =
    by_test (λ _. Alone (keyword k s i)) _ _ _ (truth key.True (refl, refl)) (by_test (λ _. Alone (keyword k s i)) _ _ _ (truth key.False (refl, refl)) (none_left _)) x e
  where
    truth : (j : Keyword) → Alone (keyword j s i) → same_key k j ≡ true → Alone (keyword k s i)
    truth j h is = subst (λ l. Alone (keyword l s i)) (sym ((same_key_lem k j).0 is)) h
leaf_alone (number z s i) x e = (refl, refl)
leaf_alone (sign m s i) x e =
    by_test (λ _. Alone (sign m s i)) _ _ _ (λ is. subst (λ n. Alone (sign n s i)) (sym ((same_sign_lem m mark.Open).0 is)) (refl, refl)) (none_left _) x e

-- the opening bracket
pub bracket_opens : (t : Token) → leaf_of t ≡ Some bracket → is_sign mark.Open t ≡ true
bracket_opens (name s i) e = absurd (cc)
bracket_opens (keyword k s i) e = absurd (by_test (λ y. y ≡ bracket → ⊥) _ _ _ (λ _. truth true) (by_test (λ y. y ≡ bracket → ⊥) _ _ _ (λ _. truth false) (none_left _)) bracket e refl)
  where
    truth : (b : Bool) → of_truth b ≡ bracket → ⊥
    truth b f = cc
bracket_opens (number z s i) e = absurd (cc)
bracket_opens (sign m s i) e = by_test (λ _. same_sign m mark.Open ≡ true) _ _ _ (λ is. is) (none_left _) bracket e

-- a prefix begins no line of its own, and is no name
pub prefix_alone : (t : Token) (p : Prefix) → prefix_of t ≡ Some p → (opening_of t ≡ None) × (naming_of t ≡ None)
prefix_alone (name s i) p e = absurd (cc)
prefix_alone (keyword k s i) p e = (by_test (λ _. keyword_opening k ≡ None) _ _ _ (λ is. ap keyword_opening ((same_key_lem k key.Not).0 is)) (none_left _) p e, refl)
prefix_alone (number z s i) p e = absurd (cc)
prefix_alone (sign m s i) p e = (refl, refl)

-- a name begins no line of its own, and is no keyword
pub name_alone : (t : Token) (n : Naming) → naming_of t ≡ Some n → (opening_of t ≡ None) × (is_key key.Skip t ≡ false)
name_alone (name s i) n e = (refl, refl)
name_alone (keyword k s i) n e = absurd (cc)
name_alone (number z s i) n e = absurd (cc)
name_alone (sign m s i) n e = absurd (cc)

-- the sign of a separator
abbrev pub separator_sign : Separator → Sign
separator_sign separator.Comma = mark.Comma
separator_sign separator.Colon = mark.Colon

pub separator_is : (t : Token) (s : Separator) → separator_of t ≡ Some s → is_sign (separator_sign s) t ≡ true
separator_is t s e = by_test Is _ separator.Comma _ (λ is. is) (by_test Is _ separator.Colon _ (λ is. is) (none_left Is)) s e
  where
    Is : Separator → Type 0
    Is r = is_sign (separator_sign r) t ≡ true

-- the sign of a verb
abbrev pub verb_sign : Verb → Sign
verb_sign verb.Becomes = mark.Becomes
verb_sign verb.Input = mark.Input
verb_sign verb.Output = mark.Output

pub verb_is : (t : Token) (v : Verb) → verb_of t ≡ Some v → is_sign (verb_sign v) t ≡ true
verb_is t v e = by_test Is _ verb.Becomes _ (λ is. is) (by_test Is _ verb.Input _ (λ is. is) (by_test Is _ verb.Output _ (λ is. is) (none_left Is))) v e
  where
    Is : Verb → Type 0
    Is w = is_sign (verb_sign w) t ≡ true

-- an operator is none of `:=`, `?` and `!`
pub operator_no_verb : (t : Token) (o : Dyadic) → operator_of t ≡ Some o → verb_of t ≡ None
operator_no_verb t o e = by (verb_of t) refl
  where
    unruled : (v : Verb) → sign_operator (verb_sign v) ≡ None
    unruled verb.Becomes = refl
    unruled verb.Input = refl
    unruled verb.Output = refl

    by : (v : Option Verb) → verb_of t ≡ v → v ≡ None
    by None is = refl
    by (Some v) is = let none = by_sign operator_of (verb_sign v) t None (λ s i. unruled v) (verb_is t v is) in absurd (cc)

-- what a first word of each kind is
abbrev pub Opens : Token → Option Opening → Type 0
Opens t None = Unit {0}
Opens t (Some opening.Int) = is_key key.Int t ≡ true
Opens t (Some opening.Chan) = is_key key.Chan t ≡ true
Opens t (Some opening.Place) = is_key key.Place t ≡ true
Opens t (Some opening.While) = is_key key.While t ≡ true
Opens t (Some opening.Pri) = is_key key.Pri t ≡ true
Opens t (Some (opening.Lone l)) = AreKeys (lone_key l) (t ∷ [])

pub opens : (t : Token) → Opens t (opening_of t)
opens (name s i) = tt
opens (number z s i) = tt
opens (sign m s i) = tt
opens (keyword key.After s i) = tt
opens (keyword key.Alt s i) = (refl, tt)
opens (keyword key.And s i) = tt
opens (keyword key.At s i) = tt
opens (keyword key.Chan s i) = refl
opens (keyword key.False s i) = tt
opens (keyword key.If s i) = (refl, tt)
opens (keyword key.Int s i) = refl
opens (keyword key.Minus s i) = tt
opens (keyword key.Not s i) = tt
opens (keyword key.Of s i) = tt
opens (keyword key.Or s i) = tt
opens (keyword key.Par s i) = (refl, tt)
opens (keyword key.Place s i) = refl
opens (keyword key.Plus s i) = tt
opens (keyword key.Pri s i) = refl
opens (keyword key.Seq s i) = (refl, tt)
opens (keyword key.Skip s i) = (refl, tt)
opens (keyword key.Stop s i) = (refl, tt)
opens (keyword key.Timer s i) = tt
opens (keyword key.Times s i) = tt
opens (keyword key.True s i) = tt
opens (keyword key.While s i) = refl
