-- How often a queue holds each number, against who is ready.
use Rattle.std.proofs.Common.{refl, ap, ◌∙◌, arith, Bool, List, [], ◌&&◌, ◌<◌, ◌∷◌, ◌≡◌, cond, eqb, false, ltb, true, ℕ}
use Rattle.std.proofs.lemmas.Bool.{and_from, cond_both, cond-false, cond-true, eq-eqb, lt-ltb, ne_eqb}
use Rattle.rules.specs.Calls.{Counts, all_ready, lowered, readied}
use Rattle.rules.specs.Functions.{All, changed}
use Rattle.rules.proofs.Branches.{marks}
use Rattle.rules.proofs.Changes.{changed_case, changed_here}

-- how often a ready, or an unready, process is held
abbrev pub count_of : Bool → ℕ
count_of true = 1
count_of false = 0

-- the queue holds exactly the ready, each once
abbrev pub Agree : Counts → (ℕ → Bool) → Type 0
Agree h r = (p : ℕ) → h p ≡ count_of (r p)

pub held_ready : (h : Counts) (r : ℕ → Bool) → Agree h r → (p : ℕ) → 0 < h p → r p ≡ true
held_ready h r a p lt = which (r p) (a p)
  where
    which : (b : Bool) → h p ≡ count_of b → b ≡ true
    which true e = refl
    which false e = absurd (omega arith)

pub held_none : (h : Counts) (r : ℕ → Bool) → Agree h r → (p : ℕ) → h p ≡ 0 → r p ≡ false
held_none h r a p z = which (r p) (a p)
  where
    which : (b : Bool) → h p ≡ count_of b → b ≡ false
    which true e = absurd (omega arith)
    which false e = refl

pub agree_lower : (h : Counts) (r : ℕ → Bool) → Agree h r → (p : ℕ) → r p ≡ true → Agree (lowered h p) (changed r p false)
agree_lower h r a p e j =
    changed_case r p false j (λ b. lowered h p j ≡ count_of b)
    (λ i. let one : h j ≡ 1 = ap h i ∙ (a p ∙ ap count_of e) in let less : ◌≡◌ {A = ℕ} (cond (eqb j p) 1 0) 1 = cond-true (eqb j p) 1 0 (eq-eqb j p i) in omega arith)
    (λ i. let same : h j ≡ count_of (r j) = a j in let less : ◌≡◌ {A = ℕ} (cond (eqb j p) 1 0) 0 = cond-false (eqb j p) 1 0 (ne_eqb j p i) in omega arith)

pub agree_ready : (h : Counts) (r : ℕ → Bool) → Agree h r → (p : ℕ) → p < 64 → Agree (readied h p) (changed r p true)
agree_ready h r a p lt j =
    changed_case r p true j (λ b. readied h p j ≡ count_of b) (λ i. here i (r p) (a p))
    (λ i. cond-false (eqb j p && (ltb p 64 && eqb (h p) 0)) 1 (h j) (ap (λ b. b && (ltb p 64 && eqb (h p) 0)) (ne_eqb j p i)) ∙ a j)
  where
    here : j ≡ p → (b : Bool) → h p ≡ count_of b → readied h p j ≡ 1
    here i true e = cond_both (eqb j p && (ltb p 64 && eqb (h p) 0)) 1 (h j) (λ n. n ≡ 1) (λ k. refl) (λ k. ap h i ∙ e)
    here i false e =
        cond-true (eqb j p && (ltb p 64 && eqb (h p) 0)) 1 (h j)
        (and_from (eqb j p) (ltb p 64 && eqb (h p) 0) (eq-eqb j p i) (and_from (ltb p 64) (eqb (h p) 0) (lt-ltb p 64 lt) (eq-eqb (h p) 0 e)))

pub agree_all : (rs : List ℕ) (h : Counts) (r : ℕ → Bool) → Agree h r → All (λ p. p < 64) rs → Agree (all_ready h rs) (marks r rs)
agree_all [] h r a l = a
agree_all (p ∷ rs) h r a l = agree_all rs (readied h p) (changed r p true) (agree_ready h r a p l.0) l.1

marks_kept : (rs : List ℕ) (r : ℕ → Bool) (q : ℕ) → r q ≡ true → marks r rs q ≡ true
marks_kept [] r q h = h
marks_kept (p ∷ rs) r q h = marks_kept rs (changed r p true) q (changed_case r p true q (λ b. b ≡ true) (λ e. refl) (λ e. h))

-- what holds of all that are ready in the end holds of those put
pub marked : (rs : List ℕ) (r : ℕ → Bool) (P : ℕ → Type 0) → ((q : ℕ) → marks r rs q ≡ true → P q) → All P rs
marked [] r P f = tt
marked (p ∷ rs) r P f = (f p (marks_kept rs (changed r p true) p (changed_here r p true)), marked rs (changed r p true) P f)
