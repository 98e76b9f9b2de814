-- What takes one after another hand over is what they leave less. Assumes nothing.
use Rattle.std.proofs.Common.{◌≡◌, ℕ, ◌+◌, ◌-◌, ◌<◌, cond, eqb, List, [], ◌∷◌, ◌++◌, Some, None, ap, ◌∙◌, inl, inr, append_assoc, append-nil, arith}
use Rattle.std.proofs.lemmas.Bool.{cases_eq}
use Rattle.std.proofs.lemmas.Bool.Decides.{nat_tests}
use Rattle.std.proofs.lemmas.List.Sums.{sum_by-append}
use Rattle.queues.specs.Lists.{times}
use Rattle.queues.specs.Meaning.{Takes}
use Rattle.queues.specs.Takings.{HandsOver, nothing, vain, number, Moves, NoneLost}
use Rattle.queues.proofs.Counts.{total, total_taken}
use Rattle.queues.proofs.Times.{times_last}

-- fewer numbers are held with each that is taken
pub falls : (before after : ℕ → ℕ) (n : ℕ) → Takes before (Some n) after → total after 64 < total before 64
falls before after n (small, some, less) = grind (arith, nat_tests, total_taken before after n 64 some less)

-- what was handed over and what is left add up to what was held
one_less : (before after : ℕ → ℕ) (n k : ℕ) → 0 < before n → ((j : ℕ) → after j ≡ before j - cond (eqb j n) 1 0) → after k + cond (eqb n k) 1 0 ≡ before k
one_less before after n k some less =
    elim (cases_eq k n) [
      | inl e ↦ grind (arith, nat_tests, less k, ap before e)
      | inr other ↦ grind (arith, nat_tests, less k)
    ]

handed : (before after : ℕ → ℕ) (ns : List ℕ) → HandsOver before ns after → (k : ℕ) → after k + times ns k ≡ before k
handed before after [] nothing k = omega arith
handed before after ns (vain {held = held} row none) k = omega (arith, handed before held ns row k, none.0 k, none.1 k)
handed before after _ (number {ns = ns} {held = held} n row takes) k =
    omega (arith, handed before held ns row k, times_last ns n k, one_less held after n k takes.1 takes.2)

pub moves_lost : (before after : ℕ → ℕ) (list longer : List ℕ) → Moves before list after longer → NoneLost before list after longer
moves_lost before after list longer (ns, grown, row) k =
    omega (arith, ap (λ (ms : List ℕ). times ms k) grown, sum_by-append (λ n. cond (eqb n k) 1 0) list ns, handed before after ns row k)

-- a list that grows by what is taken
pub moves_none : (before : ℕ → ℕ) (list longer : List ℕ) → longer ≡ list → Moves before list before longer
moves_none before list longer same = ([], same ∙ simp append-nil, nothing)

pub moves_vain : (before held after : ℕ → ℕ) (list longer : List ℕ) → Moves before list held longer → Takes held None after → Moves before list after longer
moves_vain before held after list longer (ns, grown, row) none = (ns, grown, vain row none)

pub moves_number : (before held after : ℕ → ℕ) (list longer longest : List ℕ) (n : ℕ) → Moves before list held longer → Takes held (Some n) after → longest ≡ longer ++ n ∷ [] → Moves before list after longest
moves_number before held after list longer longest n (ns, grown, row) takes last =
    (ns ++ n ∷ [], last ∙ ap (λ (ms : List ℕ). ms ++ n ∷ []) grown ∙ simp append_assoc, number n row takes)

pub moves_same : (before held : ℕ → ℕ) (list longer same : List ℕ) → Moves before list held longer → same ≡ longer → Moves before list held same
moves_same before held list longer same (ns, grown, row) e = (ns, e ∙ grown, row)
