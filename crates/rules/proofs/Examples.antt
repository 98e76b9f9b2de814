-- The example programs are well formed.
use Rattle.std.proofs.Common.{sym, refl, ap, ◌∙◌, subst, arith, List, [], ◌<◌, ◌∷◌, ◌≡◌, ◌≢◌, ◌⊎◌, get_or, suc, zero, ℕ, inl, inr}
use Rattle.rules.specs.Types.{Expression, Incoming, Line, Outgoing, Place, Reads}
use Rattle.rules.specs.Examples.{couple, echo, n_is, nested}
use Rattle.rules.specs.Flowchart.{Branch, Program, assignment, par}
use Rattle.rules.specs.Functions.{All, In}
use Rattle.rules.specs.WellFormed.{Apart, BranchOf, Leads, LineWrites, Under, WellFormed, below, by_assignment, by_receiving, itself}
use Rattle.rules.proofs.Uses.{NodeInputs, NodeOutputs, NodeReads, line_inputs, line_outputs, line_reads}

-- who is above process 0
pub above_root : (pg : Program) (a q : ℕ) → Under pg a q → q ≡ 0 → a ≡ 0
above_root pg a q itself e = e
above_root pg a q (below h u) e = absurd (omega arith)

-- echo

echo_owner : (n : ℕ) → echo.owner n ≡ 0
echo_owner zero = refl
echo_owner (suc zero) = refl
echo_owner (suc (suc n)) = refl

echo_leads : (n : ℕ) → Leads echo (echo.owner n) (echo.node n)
echo_leads zero = refl
echo_leads (suc zero) = tt
echo_leads (suc (suc n)) = tt

echo_branches : (n : ℕ) (bs : List Branch) (to : Place) → echo.node n ≡ par bs to → All (BranchOf echo n) bs
echo_branches zero bs to e = let z : ◌≡◌ {A = ℕ} 0 1 = cc in absurd (omega arith)
echo_branches (suc zero) bs to e = let z : ◌≡◌ {A = ℕ} 0 1 = cc in absurd (omega arith)
echo_branches (suc (suc n)) bs to e = let z : ◌≡◌ {A = ℕ} 0 1 = cc in absurd (omega arith)

-- it inputs from channel 0 alone, and outputs to channel 1
echo_inputs : (n c x : ℕ) → NodeInputs (echo.node n) c x → c ≡ 0
echo_inputs zero c x h = h.0
echo_inputs (suc zero) c x h = elim h [ ]
echo_inputs (suc (suc n)) c x h = elim h [ ]

echo_outputs : (n c : ℕ) → NodeOutputs (echo.node n) c → c ≡ 1
echo_outputs zero c h = elim h [ ]
echo_outputs (suc zero) c h = h
echo_outputs (suc (suc n)) c h = elim h [ ]

echo_out : (c a : ℕ) → echo.kind c ≡ Outgoing a → c ≡ 1
echo_out zero a e = let z : ◌≡◌ {A = ℕ} 0 1 = cc in absurd (omega arith)
echo_out (suc zero) a e = refl
echo_out (suc (suc c)) a e = let z : ◌≡◌ {A = ℕ} 0 1 = cc in absurd (omega arith)

pub echo_in : (c a : ℕ) → echo.kind c ≡ Incoming a → (c ≡ 0) × (a ≡ 4)
echo_in zero a e = (refl, let i : a ≡ 4 = cc in i)
echo_in (suc zero) a e = let z : ◌≡◌ {A = ℕ} 0 1 = cc in absurd (omega arith)
echo_in (suc (suc c)) a e = let z : ◌≡◌ {A = ℕ} 0 1 = cc in absurd (omega arith)

pub echo_formed : WellFormed echo
echo_formed = record {
  root = omega arith;
  few = omega arith;
  older = λ p h l. absurd (omega arith);
  entry_inside = refl;
  leads = echo_leads;
  branches = echo_branches;
  listed = λ q h l bs to e. absurd (omega arith);
  apart = λ a b m n pa pb ne e1 e2 ua ub. let z = above_root echo a (echo.owner m) ua (echo_owner m) in absurd (omega arith);
  inputs_in = λ n c x a h e. let i = echo_inputs n c x (line_inputs (echo.node n) c x h) in let j = echo_out c a e in omega arith;
  outputs_out = λ n c a h e. let i = echo_outputs n c (line_outputs (echo.node n) c h) in let j = (echo_in c a e).0 in omega arith;
  one_outgoing = λ c d a i j. echo_out c a i ∙ sym (echo_out d a j);
  one_incoming = λ c d a i j. (echo_in c a i).0 ∙ sym (echo_in d a j).0;
}

-- couple

couple_parent : (p : ℕ) → couple.parent p ≡ 0
couple_parent zero = refl
couple_parent (suc zero) = refl
couple_parent (suc (suc zero)) = refl
couple_parent (suc (suc (suc p))) = refl

couple_under : (a p : ℕ) → 0 < a → Under couple a p → a ≡ p
couple_under a p lt itself = refl
couple_under a p lt (below h u) = let z = above_root couple a (couple.parent p) u (couple_parent p) in absurd (omega arith)

couple_leads : (n : ℕ) → Leads couple (couple.owner n) (couple.node n)
couple_leads zero = tt
couple_leads (suc zero) = tt
couple_leads (suc (suc zero)) = (refl, (refl, tt))
couple_leads (suc (suc (suc zero))) = refl
couple_leads (suc (suc (suc (suc zero)))) = tt
couple_leads (suc (suc (suc (suc (suc n))))) = tt

abbrev pub couple_two : List Branch
couple_two = record { process = 1; entry = Line 1 } ∷ (record { process = 2; entry = Line 2 } ∷ [])

couple_branches : (n : ℕ) (bs : List Branch) (to : Place) → couple.node n ≡ par bs to → All (BranchOf couple n) bs
couple_branches zero bs to e =
    let same : couple_two ≡ bs = cc in
    subst (All (BranchOf couple 0)) same (
      record { counted = omega arith; later = omega arith; parent_is = refl; home_is = refl; inside = refl },
      (record { counted = omega arith; later = omega arith; parent_is = refl; home_is = refl; inside = refl }, tt),
    )
couple_branches (suc zero) bs to e = let z : ◌≡◌ {A = ℕ} 0 1 = cc in absurd (omega arith)
couple_branches (suc (suc zero)) bs to e = let z : ◌≡◌ {A = ℕ} 0 1 = cc in absurd (omega arith)
couple_branches (suc (suc (suc zero))) bs to e = let z : ◌≡◌ {A = ℕ} 0 1 = cc in absurd (omega arith)
couple_branches (suc (suc (suc (suc zero)))) bs to e = let z : ◌≡◌ {A = ℕ} 0 1 = cc in absurd (omega arith)
couple_branches (suc (suc (suc (suc (suc n))))) bs to e = let z : ◌≡◌ {A = ℕ} 0 1 = cc in absurd (omega arith)

couple_listed : (q : ℕ) → 0 < q → q < 3 → (bs : List Branch) (to : Place) → couple.node (couple.home q) ≡ par bs to → (b : Branch) × In b bs × (q ≡ b.process)
couple_listed zero lt l bs to e = absurd (omega arith)
couple_listed (suc zero) lt l bs to e = let same : couple_two ≡ bs = cc in subst (λ x. (b : Branch) × In b x × (◌≡◌ {A = ℕ} 1 b.process)) same (record { process = 1; entry = Line 1 }, inl refl, refl)
couple_listed (suc (suc zero)) lt l bs to e = let same : couple_two ≡ bs = cc in subst (λ x. (b : Branch) × In b x × (◌≡◌ {A = ℕ} 2 b.process)) same (record { process = 2; entry = Line 2 }, inr (inl refl), refl)
couple_listed (suc (suc (suc q))) lt l bs to e = absurd (omega arith)

couple_reads : (n x : ℕ) → NodeReads (couple.node n) x → ⊥
couple_reads zero x h = h
couple_reads (suc zero) x h = h
couple_reads (suc (suc zero)) x (inl h) = h
couple_reads (suc (suc zero)) x (inr (inl h)) = h
couple_reads (suc (suc zero)) x (inr (inr h)) = h
couple_reads (suc (suc (suc zero))) x h = h
couple_reads (suc (suc (suc (suc zero)))) x h = h
couple_reads (suc (suc (suc (suc (suc n))))) x h = h

couple_inputs : (n c x : ℕ) → NodeInputs (couple.node n) c x → couple.owner n ≡ 2
couple_inputs zero c x h = elim h [ ]
couple_inputs (suc zero) c x h = elim h [ ]
couple_inputs (suc (suc zero)) c x h = refl
couple_inputs (suc (suc (suc zero))) c x h = refl
couple_inputs (suc (suc (suc (suc zero)))) c x h = elim h [ ]
couple_inputs (suc (suc (suc (suc (suc n))))) c x h = elim h [ ]

couple_outputs : (n c : ℕ) → NodeOutputs (couple.node n) c → couple.owner n ≡ 1
couple_outputs zero c h = elim h [ ]
couple_outputs (suc zero) c h = refl
couple_outputs (suc (suc zero)) c h = elim h [ ]
couple_outputs (suc (suc (suc zero))) c h = elim h [ ]
couple_outputs (suc (suc (suc (suc zero)))) c h = elim h [ ]
couple_outputs (suc (suc (suc (suc (suc n))))) c h = elim h [ ]

pub couple_formed : WellFormed couple
couple_formed = record {
  root = omega arith;
  few = omega arith;
  older = λ p h l. let e = couple_parent p in omega arith;
  entry_inside = refl;
  leads = couple_leads;
  branches = couple_branches;
  listed = couple_listed;
  apart = λ a b m n pa pb ne e1 e2 ua ub.
      let ea = couple_under a (couple.owner m) pa ua in
      let eb = couple_under b (couple.owner n) pb ub in
      record {
        none_reads = λ x w h. couple_reads n x (line_reads (couple.node n) x h);
        one_inputs = λ c x y h i. ne (ea ∙ (couple_inputs m c x (line_inputs (couple.node m) c x h) ∙ sym (eb ∙ couple_inputs n c y (line_inputs (couple.node n) c y i))));
        one_outputs = λ c h i. ne (ea ∙ (couple_outputs m c (line_outputs (couple.node m) c h) ∙ sym (eb ∙ couple_outputs n c (line_outputs (couple.node n) c i))));
      };
  inputs_in = λ n c x a h e. let z : ◌≡◌ {A = ℕ} 0 1 = cc in omega arith;
  outputs_out = λ n c a h e. let z : ◌≡◌ {A = ℕ} 0 1 = cc in omega arith;
  one_outgoing = λ c d a i j. cc;
  one_incoming = λ c d a i j. cc;
}

-- nested

-- the branches that a process stands under, from itself up
abbrev chain : ℕ → List ℕ
chain p = get_or ([] ∷ ((1 ∷ []) ∷ ((2 ∷ (1 ∷ [])) ∷ ((3 ∷ (1 ∷ [])) ∷ ((4 ∷ []) ∷ []))))) p []

nested_under : (a p : ℕ) → p < 5 → 0 < a → Under nested a p → In a (chain p)
nested_under a zero l lt u = let z = above_root nested a 0 u refl in absurd (omega arith)
nested_under a (suc zero) l lt itself = inl refl
nested_under a (suc zero) l lt (below h u) = let z = above_root nested a 0 u refl in absurd (omega arith)
nested_under a (suc (suc zero)) l lt itself = inl refl
nested_under a (suc (suc zero)) l lt (below h u) = inr (nested_under a 1 (omega arith) lt u)
nested_under a (suc (suc (suc zero))) l lt itself = inl refl
nested_under a (suc (suc (suc zero))) l lt (below h u) = inr (nested_under a 1 (omega arith) lt u)
nested_under a (suc (suc (suc (suc zero)))) l lt itself = inl refl
nested_under a (suc (suc (suc (suc zero)))) l lt (below h u) = let z = above_root nested a 0 u refl in absurd (omega arith)
nested_under a (suc (suc (suc (suc (suc p))))) l lt u = absurd (omega arith)

-- of those, no two have one parent
chain_apart : (p a b : ℕ) → In a (chain p) → In b (chain p) → nested.parent a ≡ nested.parent b → a ≡ b
chain_apart zero a b i j e = elim i [ ]
chain_apart (suc zero) a b (inl i) (inl j) e = i ∙ sym j
chain_apart (suc zero) a b (inr i) j e = elim i [ ]
chain_apart (suc zero) a b (inl i) (inr j) e = elim j [ ]
chain_apart (suc (suc zero)) a b i j e = two i j
  where
    two : (a ≡ 2) ⊎ ((a ≡ 1) ⊎ ⊥) → (b ≡ 2) ⊎ ((b ≡ 1) ⊎ ⊥) → a ≡ b
    two (inl x) (inl y) = x ∙ sym y
    two (inl x) (inr (inl y)) = let z : ◌≡◌ {A = ℕ} 1 0 = sym (ap nested.parent x) ∙ (e ∙ ap nested.parent y) in absurd (omega arith)
    two (inr (inl x)) (inl y) = let z : ◌≡◌ {A = ℕ} 0 1 = sym (ap nested.parent x) ∙ (e ∙ ap nested.parent y) in absurd (omega arith)
    two (inr (inl x)) (inr (inl y)) = x ∙ sym y
    two (inr (inr x)) y = elim x [ ]
    two (inl x) (inr (inr y)) = elim y [ ]
    two (inr (inl x)) (inr (inr y)) = elim y [ ]
chain_apart (suc (suc (suc zero))) a b i j e = two i j
  where
    two : (a ≡ 3) ⊎ ((a ≡ 1) ⊎ ⊥) → (b ≡ 3) ⊎ ((b ≡ 1) ⊎ ⊥) → a ≡ b
    two (inl x) (inl y) = x ∙ sym y
    two (inl x) (inr (inl y)) = let z : ◌≡◌ {A = ℕ} 1 0 = sym (ap nested.parent x) ∙ (e ∙ ap nested.parent y) in absurd (omega arith)
    two (inr (inl x)) (inl y) = let z : ◌≡◌ {A = ℕ} 0 1 = sym (ap nested.parent x) ∙ (e ∙ ap nested.parent y) in absurd (omega arith)
    two (inr (inl x)) (inr (inl y)) = x ∙ sym y
    two (inr (inr x)) y = elim x [ ]
    two (inl x) (inr (inr y)) = elim y [ ]
    two (inr (inl x)) (inr (inr y)) = elim y [ ]
chain_apart (suc (suc (suc (suc zero)))) a b (inl i) (inl j) e = i ∙ sym j
chain_apart (suc (suc (suc (suc zero)))) a b (inr i) j e = elim i [ ]
chain_apart (suc (suc (suc (suc zero)))) a b (inl i) (inr j) e = elim j [ ]
chain_apart (suc (suc (suc (suc (suc p))))) a b i j e = elim i [ ]

nested_owner : (n : ℕ) → nested.owner n < 5
nested_owner zero = omega arith
nested_owner (suc zero) = omega arith
nested_owner (suc (suc zero)) = omega arith
nested_owner (suc (suc (suc zero))) = omega arith
nested_owner (suc (suc (suc (suc zero)))) = omega arith
nested_owner (suc (suc (suc (suc (suc zero))))) = omega arith
nested_owner (suc (suc (suc (suc (suc (suc zero)))))) = omega arith
nested_owner (suc (suc (suc (suc (suc (suc (suc zero))))))) = omega arith
nested_owner (suc (suc (suc (suc (suc (suc (suc (suc n)))))))) = omega arith

nested_older : (p : ℕ) → 0 < p → p < 5 → nested.parent p < p
nested_older zero h l = absurd (omega arith)
nested_older (suc zero) h l = omega arith
nested_older (suc (suc zero)) h l = omega arith
nested_older (suc (suc (suc zero))) h l = omega arith
nested_older (suc (suc (suc (suc zero)))) h l = omega arith
nested_older (suc (suc (suc (suc (suc p))))) h l = absurd (omega arith)

nested_leads : (n : ℕ) → Leads nested (nested.owner n) (nested.node n)
nested_leads zero = (refl, tt)
nested_leads (suc zero) = refl
nested_leads (suc (suc zero)) = tt
nested_leads (suc (suc (suc zero))) = tt
nested_leads (suc (suc (suc (suc zero)))) = tt
nested_leads (suc (suc (suc (suc (suc zero))))) = (refl, (refl, tt))
nested_leads (suc (suc (suc (suc (suc (suc zero)))))) = tt
nested_leads (suc (suc (suc (suc (suc (suc (suc zero))))))) = refl
nested_leads (suc (suc (suc (suc (suc (suc (suc (suc n)))))))) = tt

abbrev pub outer_two : List Branch
outer_two = record { process = 1; entry = Line 2 } ∷ (record { process = 4; entry = Line 5 } ∷ [])

abbrev pub inner_two : List Branch
inner_two = record { process = 2; entry = Line 3 } ∷ (record { process = 3; entry = Line 4 } ∷ [])

nested_branches : (n : ℕ) (bs : List Branch) (to : Place) → nested.node n ≡ par bs to → All (BranchOf nested n) bs
nested_branches zero bs to e = let z : ◌≡◌ {A = ℕ} 0 1 = cc in absurd (omega arith)
nested_branches (suc zero) bs to e =
    let same : outer_two ≡ bs = cc in
    subst (All (BranchOf nested 1)) same (
      record { counted = omega arith; later = omega arith; parent_is = refl; home_is = refl; inside = refl },
      (record { counted = omega arith; later = omega arith; parent_is = refl; home_is = refl; inside = refl }, tt),
    )
nested_branches (suc (suc zero)) bs to e =
    let same : inner_two ≡ bs = cc in
    subst (All (BranchOf nested 2)) same (
      record { counted = omega arith; later = omega arith; parent_is = refl; home_is = refl; inside = refl },
      (record { counted = omega arith; later = omega arith; parent_is = refl; home_is = refl; inside = refl }, tt),
    )
nested_branches (suc (suc (suc zero))) bs to e = let z : ◌≡◌ {A = ℕ} 0 1 = cc in absurd (omega arith)
nested_branches (suc (suc (suc (suc zero)))) bs to e = let z : ◌≡◌ {A = ℕ} 0 1 = cc in absurd (omega arith)
nested_branches (suc (suc (suc (suc (suc zero))))) bs to e = let z : ◌≡◌ {A = ℕ} 0 1 = cc in absurd (omega arith)
nested_branches (suc (suc (suc (suc (suc (suc zero)))))) bs to e = let z : ◌≡◌ {A = ℕ} 0 1 = cc in absurd (omega arith)
nested_branches (suc (suc (suc (suc (suc (suc (suc zero))))))) bs to e = let z : ◌≡◌ {A = ℕ} 0 1 = cc in absurd (omega arith)
nested_branches (suc (suc (suc (suc (suc (suc (suc (suc n)))))))) bs to e = let z : ◌≡◌ {A = ℕ} 0 1 = cc in absurd (omega arith)

nested_listed : (q : ℕ) → 0 < q → q < 5 → (bs : List Branch) (to : Place) → nested.node (nested.home q) ≡ par bs to → (b : Branch) × In b bs × (q ≡ b.process)
nested_listed zero lt l bs to e = absurd (omega arith)
nested_listed (suc zero) lt l bs to e = let same : outer_two ≡ bs = cc in subst (λ x. (b : Branch) × In b x × (◌≡◌ {A = ℕ} 1 b.process)) same (record { process = 1; entry = Line 2 }, inl refl, refl)
nested_listed (suc (suc zero)) lt l bs to e = let same : inner_two ≡ bs = cc in subst (λ x. (b : Branch) × In b x × (◌≡◌ {A = ℕ} 2 b.process)) same (record { process = 2; entry = Line 3 }, inl refl, refl)
nested_listed (suc (suc (suc zero))) lt l bs to e = let same : inner_two ≡ bs = cc in subst (λ x. (b : Branch) × In b x × (◌≡◌ {A = ℕ} 3 b.process)) same (record { process = 3; entry = Line 4 }, inr (inl refl), refl)
nested_listed (suc (suc (suc (suc zero)))) lt l bs to e = let same : outer_two ≡ bs = cc in subst (λ x. (b : Branch) × In b x × (◌≡◌ {A = ℕ} 4 b.process)) same (record { process = 4; entry = Line 5 }, inr (inl refl), refl)
nested_listed (suc (suc (suc (suc (suc q))))) lt l bs to e = absurd (omega arith)

-- only n is read
n_read : (k x : ℕ) → Reads (n_is k) x → x ≡ 2
n_read k x (inl h) = h
n_read k x (inr h) = elim h [ ]

nested_reads : (n x : ℕ) → NodeReads (nested.node n) x → x ≡ 2
nested_reads zero x (inl h) = h
nested_reads zero x (inr h) = elim h [ ]
nested_reads (suc zero) x h = elim h [ ]
nested_reads (suc (suc zero)) x h = elim h [ ]
nested_reads (suc (suc (suc zero))) x h = h
nested_reads (suc (suc (suc (suc zero)))) x h = elim h [ ]
nested_reads (suc (suc (suc (suc (suc zero))))) x (inl h) = n_read 1 x h
nested_reads (suc (suc (suc (suc (suc zero))))) x (inr (inl h)) = n_read 0 x h
nested_reads (suc (suc (suc (suc (suc zero))))) x (inr (inr h)) = elim h [ ]
nested_reads (suc (suc (suc (suc (suc (suc zero)))))) x h = elim h [ ]
nested_reads (suc (suc (suc (suc (suc (suc (suc zero))))))) x (inl h) = h
nested_reads (suc (suc (suc (suc (suc (suc (suc zero))))))) x (inr h) = elim h [ ]
nested_reads (suc (suc (suc (suc (suc (suc (suc (suc n)))))))) x h = elim h [ ]

-- each channel has one receiver, which receives into x or y
abbrev receiver : ℕ → ℕ
receiver c = get_or (4 ∷ (4 ∷ (3 ∷ []))) c 0

nested_inputs : (n c x : ℕ) → NodeInputs (nested.node n) c x → (nested.owner n ≡ receiver c) × (x < 2)
nested_inputs zero c x h = elim h [ ]
nested_inputs (suc zero) c x h = elim h [ ]
nested_inputs (suc (suc zero)) c x h = elim h [ ]
nested_inputs (suc (suc (suc zero))) c x h = elim h [ ]
nested_inputs (suc (suc (suc (suc zero)))) c x h = (sym (ap receiver h.0), let i = h.1 in omega arith)
nested_inputs (suc (suc (suc (suc (suc zero))))) c x (inl h) = (sym (ap receiver h.0), let i = h.1 in omega arith)
nested_inputs (suc (suc (suc (suc (suc zero))))) c x (inr (inl h)) = (sym (ap receiver h.0), let i = h.1 in omega arith)
nested_inputs (suc (suc (suc (suc (suc zero))))) c x (inr (inr h)) = elim h [ ]
nested_inputs (suc (suc (suc (suc (suc (suc zero)))))) c x h = elim h [ ]
nested_inputs (suc (suc (suc (suc (suc (suc (suc zero))))))) c x h = elim h [ ]
nested_inputs (suc (suc (suc (suc (suc (suc (suc (suc n)))))))) c x h = elim h [ ]

-- and one sender; none sends to the link
abbrev sender : ℕ → ℕ
sender c = get_or (0 ∷ (2 ∷ (4 ∷ []))) c 0

nested_outputs : (n c : ℕ) → NodeOutputs (nested.node n) c → (nested.owner n ≡ sender c) × (0 < c)
nested_outputs zero c h = elim h [ ]
nested_outputs (suc zero) c h = elim h [ ]
nested_outputs (suc (suc zero)) c h = elim h [ ]
nested_outputs (suc (suc (suc zero))) c h = (sym (ap sender h), omega arith)
nested_outputs (suc (suc (suc (suc zero)))) c h = elim h [ ]
nested_outputs (suc (suc (suc (suc (suc zero))))) c h = elim h [ ]
nested_outputs (suc (suc (suc (suc (suc (suc zero)))))) c h = (sym (ap sender h), omega arith)
nested_outputs (suc (suc (suc (suc (suc (suc (suc zero))))))) c h = elim h [ ]
nested_outputs (suc (suc (suc (suc (suc (suc (suc (suc n)))))))) c h = elim h [ ]

-- n is written by process 0 alone
nested_assigns : (n x : ℕ) (e : Expression) (to : Place) → nested.node n ≡ assignment x e to → nested.owner n ≡ 0
nested_assigns zero x e to i = refl
nested_assigns (suc zero) x e to i = refl
nested_assigns (suc (suc zero)) x e to i = let z : ◌≡◌ {A = ℕ} 0 1 = cc in absurd (omega arith)
nested_assigns (suc (suc (suc zero))) x e to i = let z : ◌≡◌ {A = ℕ} 0 1 = cc in absurd (omega arith)
nested_assigns (suc (suc (suc (suc zero)))) x e to i = let z : ◌≡◌ {A = ℕ} 0 1 = cc in absurd (omega arith)
nested_assigns (suc (suc (suc (suc (suc zero))))) x e to i = let z : ◌≡◌ {A = ℕ} 0 1 = cc in absurd (omega arith)
nested_assigns (suc (suc (suc (suc (suc (suc zero)))))) x e to i = let z : ◌≡◌ {A = ℕ} 0 1 = cc in absurd (omega arith)
nested_assigns (suc (suc (suc (suc (suc (suc (suc zero))))))) x e to i = refl
nested_assigns (suc (suc (suc (suc (suc (suc (suc (suc n)))))))) x e to i = refl

nested_writes : (n x : ℕ) → LineWrites (nested.node n) x → x ≡ 2 → nested.owner n ≡ 0
nested_writes n x (by_assignment e to i) two = nested_assigns n x e to i
nested_writes n x (by_receiving c h) two = let w = (nested_inputs n c x (line_inputs (nested.node n) c x h)).1 in absurd (omega arith)

nested_kind : (c a : ℕ) → nested.kind c ≡ Incoming a → c ≡ 0
nested_kind zero a e = refl
nested_kind (suc c) a e = let z : ◌≡◌ {A = ℕ} 0 1 = cc in absurd (omega arith)

nested_inner : (c a : ℕ) → nested.kind c ≡ Outgoing a → ⊥
nested_inner zero a e = let z : ◌≡◌ {A = ℕ} 0 1 = cc in omega arith
nested_inner (suc c) a e = let z : ◌≡◌ {A = ℕ} 0 1 = cc in omega arith

nested_apart : (a b m n : ℕ) → 0 < a → 0 < b → a ≢ b → nested.parent a ≡ nested.parent b → nested.home a ≡ nested.home b → Under nested a (nested.owner m) → Under nested b (nested.owner n) → Apart (nested.node m) (nested.node n)
nested_apart a b m n pa pb ne e1 e2 ua ub = record {
  none_reads = λ x w h. let z = above_root nested a (nested.owner m) ua (nested_writes m x w (nested_reads n x (line_reads (nested.node n) x h))) in omega arith;
  one_inputs = λ c x y h i. same_owner ((nested_inputs m c x (line_inputs (nested.node m) c x h)).0 ∙ sym (nested_inputs n c y (line_inputs (nested.node n) c y i)).0);
  one_outputs = λ c h i. same_owner ((nested_outputs m c (line_outputs (nested.node m) c h)).0 ∙ sym (nested_outputs n c (line_outputs (nested.node n) c i)).0);
}
  where
    same_owner : nested.owner m ≡ nested.owner n → ⊥
    same_owner o =
        ne (chain_apart (nested.owner n) a b (subst (λ q. In a (chain q)) o (nested_under a (nested.owner m) (nested_owner m) pa ua)) (nested_under b (nested.owner n) (nested_owner n) pb ub) e1)

pub nested_formed : WellFormed nested
nested_formed = record {
  root = omega arith;
  few = omega arith;
  older = nested_older;
  entry_inside = refl;
  leads = nested_leads;
  branches = nested_branches;
  listed = nested_listed;
  apart = nested_apart;
  inputs_in = λ n c x a h e. nested_inner c a e;
  outputs_out = λ n c a h e. let i = (nested_outputs n c (line_outputs (nested.node n) c h)).1 in let j = nested_kind c a e in omega arith;
  one_outgoing = λ c d a i j. absurd (nested_inner c a i);
  one_incoming = λ c d a i j. nested_kind c a i ∙ sym (nested_kind d a j);
}
