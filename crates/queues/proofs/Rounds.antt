-- The numbers from the head of a circle of 64 places on. Assumes nothing.
use Rattle.std.proofs.Common.{◌≡◌, ℕ, zero, suc, ◌+◌, ◌-◌, ◌%◌, ◌<◌, List, [], ◌∷◌, ◌++◌, length, get_or, set, sym, ap, ◌∙◌, arith}
use Rattle.std.proofs.lemmas.List.{get_or-set_same, get_or-set_other}
use Rattle.std.proofs.lemmas.List.FromFn.{fill_by_all, get_or-map-range_with_len, length-map-range_with_len, map-range_with_len_more}
use Rattle.queues.specs.Lists.{times, Once}
use Rattle.queues.specs.Round.{behind, around}
use Rattle.queues.proofs.Times.{room}

pub around_length : (places : List ℕ) (head len : ℕ) → length (around places head len) ≡ len
around_length places head len = length-map-range_with_len (behind places head) 0 len

-- two places up to the last are apart
apart : (head i len : ℕ) → i < len → len < 64 → (head + i) % 64 ≡ (head + len) % 64 → ⊥
apart head i len h l e = omega arith

-- a number that does not stand in the line finds a place behind the last, and is appended
pub around_put : (places : List ℕ) (head len n : ℕ) → length places ≡ 64 → Once (around places head len) → n < 64 → times (around places head len) n ≡ 0 → (len < 64) × (around (set places ((head + len) % 64) n) head (len + 1) ≡ around places head len ++ n ∷ [])
around_put places head len n long once small free = (space, map-range_with_len_more (behind written head) 0 len len (omega arith) ∙ rw (new, kept))
  where
    at : ℕ
    at = (head + len) % 64

    written : List ℕ
    written = set places at n

    space : len < 64
    space = omega (arith, around_length places head len, room (around places head len) n once small free)

    new : get_or written at 0 ≡ n
    new = get_or-set_same places at n 0 (omega arith)

    kept : around written head len ≡ around places head len
    kept =
        fill_by_all (behind places head) (around written head len) len 0 (around_length written head len)
        (λ k h. get_or-map-range_with_len (behind written head) 0 len k k 0 h (omega arith) ∙ get_or-set_other places at ((head + k) % 64) n 0 (apart head k len h space))

-- the number at the head is the first, and the next place's numbers are the rest
pub around_take : (places : List ℕ) (head len : ℕ) → head < 64 → 0 < len → around places head len ≡ get_or places head 0 ∷ around places ((head + 1) % 64) (len - 1)
around_take places head len h l = sym (fill_by_all (behind places head) split len 0 (omega (arith, around_length places ((head + 1) % 64) (len - 1))) at)
  where
    split : List ℕ
    split = get_or places head 0 ∷ around places ((head + 1) % 64) (len - 1)

    at : (k : ℕ) → k < len → get_or split k 0 ≡ behind places head k
    at zero small = ap (λ (j : ℕ). get_or places j 0) (omega arith)
    at (suc k) small =
        get_or-map-range_with_len (behind places ((head + 1) % 64)) 0 (len - 1) k k 0 (omega arith) (omega arith) ∙ ap (λ (j : ℕ). get_or places j 0) (omega arith)
