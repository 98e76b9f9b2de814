-- Lists in which each number up to 63 stands at most once: a number appended, and the head taken off. Assumes nothing.
use Rattle.std.proofs.Common.{◌≡◌, ℕ, zero, suc, ◌+◌, ◌<◌, ◌≤◌, cond, eqb, ltb, List, [], ◌∷◌, ◌++◌, length, map, Some, inl, inr, refl, ap, ◌∙◌, arith}
use Rattle.std.proofs.lemmas.Bool.{cases_eq}
use Rattle.std.proofs.lemmas.Bool.Decides.{nat_tests}
use Rattle.std.proofs.lemmas.List.Sums.{sum_by-cons, sum_by_push}
use Rattle.std.specs.List.{list_any}
use Rattle.queues.specs.Lists.{times, Once}
use Rattle.queues.specs.Meaning.{different, Puts, Takes}
use Rattle.queues.proofs.Counts.{total, total-suc, total-zero, total_different, total_less}

times_first : (n : ℕ) (ns : List ℕ) (k : ℕ) → times (n ∷ ns) k ≡ cond (eqb n k) 1 0 + times ns k
times_first n ns k = sum_by-cons (λ m. cond (eqb m k) 1 0) n ns

pub times_last : (ns : List ℕ) (n k : ℕ) → times (ns ++ n ∷ []) k ≡ times ns k + cond (eqb n k) 1 0
times_last ns n k = sum_by_push (λ m. cond (eqb m k) 1 0) ns n

-- a search for a number finds one that stands in the list
pub any_times : (f : ℕ → ℕ) (is : List ℕ) (k : ℕ) → list_any (λ i. eqb (f i) k) is ≡ ltb 0 (times (map f is) k)
any_times f [] k = refl
any_times f (i ∷ is) k = grind (arith, nat_tests, times_first (f i) (map f is) k, any_times f is k)

once_head : (n : ℕ) (ns : List ℕ) → Once (n ∷ ns) → n < 64
once_head n ns once = grind (arith, nat_tests, once n, times_first n ns n)

pub once_tail : (n : ℕ) (ns : List ℕ) → Once (n ∷ ns) → Once ns
once_tail n ns once k = omega (arith, once k, times_first n ns k)

pub once_last : (ns : List ℕ) (n : ℕ) → n < 64 → times ns n ≡ 0 → Once ns → Once (ns ++ n ∷ [])
once_last ns n small free once k =
    elim (cases_eq n k) [
      | inl e ↦ grind (arith, nat_tests, times_last ns n k, ap (times ns) e)
      | inr other ↦ grind (arith, nat_tests, times_last ns n k, once k)
    ]

-- such a list is as long as the numbers in it are many
total_none : (m : ℕ) → total (times []) m ≡ 0
total_none zero = total-zero (times [])
total_none (suc m) = omega (arith, total-suc (times []) m, total_none m)

total_more : (n : ℕ) (ns : List ℕ) (m : ℕ) → total (times (n ∷ ns)) m ≡ cond (ltb n m) 1 0 + total (times ns) m
total_more n ns zero = grind (arith, nat_tests, total-zero (times (n ∷ ns)), total-zero (times ns))
total_more n ns (suc m) = grind (arith, nat_tests, total-suc (times (n ∷ ns)) m, total-suc (times ns) m, times_first n ns m, total_more n ns m)

total_length : (ns : List ℕ) → Once ns → total (times ns) 64 ≡ length ns
total_length [] once = total_none 64
total_length (n ∷ ns) once = total_more n ns 64 ∙ grind (arith, nat_tests, once_head n ns once, total_length ns (once_tail n ns once))

at_most_once : (ns : List ℕ) → Once ns → (k : ℕ) → times ns k ≤ 1
at_most_once ns once k = grind (arith, nat_tests, once k)

pub different_length : (ns : List ℕ) → Once ns → different (times ns) 64 ≡ length ns
different_length ns once = total_different (times ns) 64 (at_most_once ns once) ∙ total_length ns once

-- so a number up to 63 that does not stand in it leaves one of 64 places free
pub room : (ns : List ℕ) (n : ℕ) → Once ns → n < 64 → times ns n ≡ 0 → length ns < 64
room ns n once small free = grind (arith, nat_tests, total_length ns once, total_less (times ns) n 64 (at_most_once ns once) free)

-- what a put and a take mean, said of the list
pub puts_last : (ns : List ℕ) (n : ℕ) → n < 64 → times ns n ≡ 0 → Puts (times ns) n (times (ns ++ n ∷ []))
puts_last ns n small free k =
    elim (cases_eq n k) [
      | inl e ↦ grind (arith, nat_tests, times_last ns n k, ap (times ns) e)
      | inr other ↦ grind (arith, nat_tests, times_last ns n k)
    ]

pub takes_head : (n : ℕ) (ns : List ℕ) → Once (n ∷ ns) → Takes (times (n ∷ ns)) (Some n) (times ns)
takes_head n ns once = (once_head n ns once, grind (arith, nat_tests, times_first n ns n), λ k. grind (arith, nat_tests, times_first n ns k))
