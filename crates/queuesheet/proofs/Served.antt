-- Two numbers put into an empty queue, and the order in which they leave it. Assumes nothing.
use Rattle.std.proofs.Common.{◌≡◌, ℕ, ◌<◌, cond, eqb, Some, None, Option, sym, ap, ◌∙◌, subst, inl, inr, arith}
use Rattle.std.proofs.lemmas.Bool.{cases_order}
use Rattle.std.proofs.lemmas.Bool.Decides.{nat_tests}
use Rattle.std.specs.Int.{bit_at}
use Rattle.queues.specs.Lowest.{GivesLowest}
use Rattle.queues.specs.Meaning.{Empty, Puts, Takes}
use Rattle.queues.specs.Pair.{FirstBeforeSecond, Routes}
use Rattle.queues.specs.declared.joined.Pair.{Pair}

-- one number is held, once
abbrev Only : (ℕ → ℕ) → ℕ → Type 0
Only held n = (k : ℕ) → held k ≡ cond (eqb k n) 1 0

only_put : (before after : ℕ → ℕ) (n : ℕ) → n < 64 → Empty before → Puts before n after → Only after n
only_put before after n small none puts k = grind (arith, nat_tests, puts k, none k, none n)

only_held : (held : ℕ → ℕ) (n : ℕ) → Only held n → 0 < held n
only_held held n only = grind (arith, nat_tests, only n)

only_taken : (before after : ℕ → ℕ) (o : Option ℕ) (n : ℕ) → Only before n → Takes before o after → (o ≡ Some n) × Empty after
only_taken before after None n only (none, _) = absurd (grind (arith, nat_tests, only n, none n))
only_taken before after (Some m) n only (_, some, less) =
    let same : m ≡ n = grind (arith, nat_tests, only m) in
    (ap Some same, λ k. grind (arith, nat_tests, less k, only k))

lowest_given : (held : ℕ → ℕ) (o : Option ℕ) (n : ℕ) → GivesLowest held o → 0 < held n → ((k : ℕ) → k < n → held k ≡ 0) → o ≡ Some n
lowest_given held None n none some below = absurd (omega (arith, none n))
lowest_given held (Some m) n (given, lower) some below =
    elim (cases_order m n) [
      | inl e ↦ ap Some e
      | inr (inl l) ↦ absurd (omega (arith, below m l))
      | inr (inr l) ↦ absurd (omega (arith, lower n l))
    ]

pub lower_first : (h i j l : ℕ → ℕ) (a b : ℕ) (o p : Option ℕ) → Empty h → Puts h b i → Puts i a j → Takes j o l → GivesLowest j o → GivesLowest l p → a < b → b < 64 → (o ≡ Some a) × (p ≡ Some b)
lower_first h i j l a b o p none put_b put_a takes low next less small =
    let just : Only i b = only_put h i b small none put_b in
    let first = lowest_given j o a low (grind (arith, nat_tests, put_a a, just a)) (λ k lt. grind (arith, nat_tests, put_a k, just k)) in
    let gone = subst (λ (x : Option ℕ). Takes j x l) first takes in
    let left : Only l b = λ k. grind (arith, nat_tests, gone.2 k, put_a k, just k, just a) in
    (first, lowest_given l p b next (only_held l b left) (λ k lt. grind (arith, nat_tests, left k)))

module _ {F S : Type 0} (first : F → ℕ → ℕ) (second : S → ℕ → ℕ) where
  pub masked_first : (h i j l m : Pair F S) (a b : ℕ) (o p : Option ℕ) → Empty (first h.first) → Empty (second h.second) → Routes first second h b i → Routes first second i a j → FirstBeforeSecond first second j o l → FirstBeforeSecond first second l p m → a < 64 → b < 64 → bit_at h.mask a ≡ 1 → bit_at h.mask b ≡ 0 → (o ≡ Some a) × (p ≡ Some b)
  masked_first h i j l m a b o p none nought put_b put_a take_a take_b small_a small_b set unset =
      let other : a ≡ b → ⊥ = λ e. omega (arith, ap (bit_at h.mask) e) in
      let to_second = put_b.unset (grind (arith, nat_tests, none b, nought b)) unset in
      let second_b : Only (second i.second) b = only_put _ _ b small_b nought to_second.1 in
      let first_none : Empty (first i.first) = subst (λ (f : F). Empty (first f)) (sym to_second.0) none in
      let to_first = put_a.set (grind (arith, nat_tests, first_none a, second_b a)) (ap (λ (x : ℕ). bit_at x a) put_b.mask ∙ set) in
      let first_a : Only (first j.first) a = only_put _ _ a small_a first_none to_first.0 in
      let from_First = take_a.holding a (only_held _ a first_a) in
      let out_a = only_taken _ _ o a first_a from_First.0 in
      let still_b : Only (second l.second) b = subst (λ (s : S). Only (second s) b) (sym (from_First.1 ∙ to_first.1)) second_b in
      (out_a.0, (only_taken _ _ p b still_b (take_b.spent out_a.1).1).0)
