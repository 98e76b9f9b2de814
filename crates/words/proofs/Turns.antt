-- The loop that reads the words of a line: one space, or one word, after another.
use Rattle.std.proofs.Common.{◌≡◌, ℕ, zero, suc, ◌+◌, ◌-◌, ◌<◌, ◌≤◌, List, [], ◌∷◌, ◌++◌, length, get_or, take, drop, Ok, Err, Result, sym, refl, ap, ◌∙◌, add-zero, arith, length-drop}
use Rattle.std.proofs.lemmas.List.{take_rest, nil_from_length}
use Rattle.std.proofs.lemmas.Bool.{cond-true, cond-false, eq-eqb, ne_eqb}
use Rattle.words.specs.Reading.{before, onward, words_from, words_of}
use Rattle.words.specs.Scan.{word_at}
use Rattle.words.specs.Token.{Token}
use Rattle.words.specs.declared.refusal.WordFault.{WordFault}
use Rattle.words.proofs.Signs.{Within}
use Rattle.words.proofs.Sizes.{size, word_within}

-- some words, and then what the rest of the line gives
abbrev pub before_all : List Token → Result (List Token) WordFault → Result (List Token) WordFault
before_all [] x = x
before_all (t ∷ ts) x = before t (before_all ts x)

skipped : (n k i : ℕ) (s : List ℕ) → k ≤ length s → words_from n k i s ≡ words_from n 0 (i + k) (drop k s)
skipped n zero i s h = ap (λ j. words_from n 0 j s) (sym (add-zero i))
skipped n (suc k) i [] h = absurd (omega arith)
skipped n (suc k) i (b ∷ s) h =
    let same : i + 1 + k ≡ i + suc k = omega arith in
    skipped n k (i + 1) s (omega arith) ∙ ap (λ j. words_from n 0 j (drop k s)) same

pub at_space : (n i : ℕ) (s : List ℕ) → 0 < length s → get_or s 0 0 ≡ 32 → words_from n 0 i s ≡ words_from n 0 (i + 1) (drop 1 s)
at_space n i [] some e = absurd (omega arith)
at_space n i (b ∷ s) some e = cond-true _ _ _ (eq-eqb b 32 e)

pub at_fault : (n i : ℕ) (s : List ℕ) (e : WordFault) → 0 < length s → (get_or s 0 0 ≡ 32 → ⊥) → word_at n i s ≡ Err e → words_from n 0 i s ≡ Err e
at_fault n i [] e some ne first = absurd (omega arith)
at_fault n i (b ∷ s) e some ne first = cond-false _ _ _ (ne_eqb b 32 ne) ∙ ap (λ r. onward r (λ t. before t (words_from n (size t - 1) (i + 1) s))) first

pub at_word : (n i : ℕ) (s : List ℕ) (t : Token) → (get_or s 0 0 ≡ 32 → ⊥) → word_at n i s ≡ Ok t → Within (size t) s → words_from n 0 i s ≡ before t (words_from n 0 (i + size t) (drop (size t) s))
at_word n i [] t ne first within = absurd (omega arith)
at_word n i (b ∷ s) t ne first within =
    let k = size t - 1 in
    let back : suc k ≡ size t = omega arith in
    let place : i + 1 + k ≡ i + size t = omega arith in
    cond-false _ _ _ (ne_eqb b 32 ne)
    ∙ ap (λ r. onward r (λ u. before u (words_from n (size u - 1) (i + 1) s))) first
    ∙ ap (before t) (skipped n k (i + 1) s (omega arith) ∙ ap (λ j. words_from n 0 j (drop k s)) place ∙ ap (λ j. words_from n 0 (i + size t) (drop j (b ∷ s))) back)

all_more : (ts : List Token) (t : Token) (x : Result (List Token) WordFault) → before_all (ts ++ t ∷ []) x ≡ before_all ts (before t x)
all_more [] t x = refl
all_more (u ∷ ts) t x = ap (before u) (all_more ts t x)

pub all_fault : (ts : List Token) (e : WordFault) → before_all ts (Err e) ≡ Err e
all_fault [] e = refl
all_fault (u ∷ ts) e = ap (before u) (all_fault ts e)

pub all_done : (ts : List Token) → before_all ts (Ok []) ≡ Ok ts
all_done [] = refl
all_done (u ∷ ts) = ap (before u) (all_done ts)

-- what the loop keeps: the n-th line s is the words ts, of which there are k, and then rest
pub record Sofar (n : ℕ) (s rest : List ℕ) (k : ℕ) (ts : List Token) : Type 0 where
  pub few : k + length rest ≤ length s
  pub split : words_of n s ≡ before_all ts (words_from n 0 (length s - length rest + 1) rest)

module _ {n k : ℕ} {s rest : List ℕ} {ts : List Token} (some : 0 < length rest) (sofar : Sofar n s rest k ts) where
  -- the place of the next word
  abbrev place : ℕ
  place = length s - length rest + 1

  pub fault_turn : (e : WordFault) → (get_or rest 0 0 ≡ 32 → ⊥) → Err e ≡ word_at n place rest → words_of n s ≡ Err e
  fault_turn e ne first = sofar.split ∙ ap (before_all ts) (at_fault n place rest e some ne (sym first)) ∙ all_fault ts e

  pub word_size : (t : Token) → Ok t ≡ word_at n place rest → Within (size t) rest
  word_size t first = word_within n place rest t some (sym first)

  passed : (t : Token) → (get_or rest 0 0 ≡ 32 → ⊥) → Ok t ≡ word_at n place rest → Sofar n s (drop (size t) rest) (k + 1) (ts ++ t ∷ [])
  passed t ne first =
      let sized = word_size t first in
      let left = length-drop (size t) rest in
      let few = sofar.few in
      let on : place + size t ≡ length s - length (drop (size t) rest) + 1 = omega arith in
      record {
        few = omega arith;
        split =
            sofar.split
            ∙ ap (before_all ts) (at_word n place rest t ne (sym first) sized ∙ ap (λ j. before t (words_from n 0 j (drop (size t) rest))) on)
            ∙ sym (all_more ts t _);
      }

  -- the same at the values that the code has
  pub word_turn : (t : Token) (m : ℕ) {us : List Token} → m ≡ size t → us ≡ ts ++ t ∷ [] → (get_or rest 0 0 ≡ 32 → ⊥) → Ok t ≡ word_at n place rest
      → Sofar n s (take (length rest - m) (drop m rest)) (k + 1) us
  word_turn t m long same ne first = rw (take_rest rest m, long, same) (passed t ne first)

pub line_done : {n k : ℕ} {s rest : List ℕ} {ts : List Token} → length rest < 1 → Sofar n s rest k ts → words_of n s ≡ Ok ts
line_done {n} {k} {s} {rest} {ts} end sofar = sofar.split ∙ ap (λ l. before_all ts (words_from n 0 (length s - length rest + 1) l)) (nil_from_length rest (omega arith)) ∙ all_done ts
