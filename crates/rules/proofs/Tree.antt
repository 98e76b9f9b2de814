-- Two processes that stand at lines stand in two branches of one PAR.
use Rattle.std.proofs.Common.{sym, refl, ap, subst, arith, Bool, ◌<◌, ◌≡◌, ◌≢◌, ◌≤◌, ◌⊎◌, suc, zero, ℕ, inl, inr}
use Rattle.std.proofs.lemmas.Bool.{cases_eq}
use Rattle.rules.specs.Types.{At, Holding, Line, Place}
use Rattle.rules.specs.Flowchart.{Node, Program}
use Rattle.rules.specs.Turns.{Tables}
use Rattle.rules.specs.WellFormed.{Apart, Under, WellFormed, below, itself}
use Rattle.rules.proofs.Sound.{Present, Sound}
use Rattle.rules.proofs.Uses.{NodeInputs, NodeOutputs, NodeReads, NodeWrites, inputs_line, outputs_line, reads_line, writes_line}

-- two lines that use nothing of each other's, computed
pub record NodesApart (m n : Node) : Type 0 where
  pub none_reads : (x : ℕ) → NodeWrites m x → NodeReads n x → ⊥
  pub one_inputs_lem : (c x y : ℕ) → NodeInputs m c x → NodeInputs n c y → ⊥
  pub one_outputs_lem : (c : ℕ) → NodeOutputs m c → NodeOutputs n c → ⊥

nodes_apart : (m n : Node) → Apart m n → NodesApart m n
nodes_apart m n ap = record {
  none_reads = λ x w h. ap.none_reads x (writes_line m x w) (reads_line n x h);
  one_inputs_lem = λ c x y h i. ap.one_inputs c x y (inputs_line m c x h) (inputs_line n c y i);
  one_outputs_lem = λ c h i. ap.one_outputs c (outputs_line m c h) (outputs_line n c i);
}

-- two processes below two branches of one PAR
pub record Split (pg : Program) (p q : ℕ) : Type 0 where
  pub left : ℕ
  pub right : ℕ
  pub left_pos : 0 < left
  pub right_pos : 0 < right
  pub differ : left ≢ right
  pub parents : pg.parent left ≡ pg.parent right
  pub homes : pg.home left ≡ pg.home right
  pub under_left : Under pg left p
  pub under_right : Under pg right q

-- the child of a on the way down to q
first_child : {pg : Program} {a q : ℕ} → Under pg a q → (q ≡ a) ⊎ ((b : ℕ) × (0 < b) × (pg.parent b ≡ a) × Under pg b q)
first_child itself = inl refl
first_child {pg} {a} {q} (below pos u) = go (first_child u)
  where
    go : ((pg.parent q ≡ a) ⊎ ((b : ℕ) × (0 < b) × (pg.parent b ≡ a) × Under pg b (pg.parent q))) → (q ≡ a) ⊎ ((b : ℕ) × (0 < b) × (pg.parent b ≡ a) × Under pg b q)
    go (inl e) = inr (q, pos, e, itself)
    go (inr w) = inr (w.0, w.1, w.2, below pos w.3)

module _ (pg : Program) (wf : WellFormed pg) (t : Tables) (r : ℕ → Bool) (so : Sound pg t r) where
  held_present : (p n : ℕ) → t.place p ≡ Holding n → Present (t.place p)
  held_present p n e = subst Present (sym e) tt

  up_present : (p : ℕ) → 0 < p → Present (t.place p) → Present (t.place (pg.parent p))
  up_present p h pr = held_present (pg.parent p) (pg.home p) (so.up p pr h)

  under_present : {a q : ℕ} → Under pg a q → Present (t.place q) → Present (t.place a)
  under_present itself pr = pr
  under_present {a} {q} (below pos u) pr = under_present u (up_present q pos pr)

  same_home : (p b : ℕ) → 0 < p → 0 < b → Present (t.place p) → Present (t.place b) → pg.parent p ≡ pg.parent b → pg.home p ≡ pg.home b
  same_home p b hp hb pp pb e = let e1 = so.up p pp hp in let e2 = so.up b pb hb in cc

  under_root : (k q : ℕ) → q ≤ k → Present (t.place q) → Under pg 0 q
  under_root zero q h pr = subst (λ n. Under pg 0 n) (let e : 0 ≡ q = omega arith in e) itself
  under_root (suc k) q h pr = go (λ n l u. under_root k n l u) (cases_eq q 0)
    where
      go : ((n : ℕ) → n ≤ k → Present (t.place n) → Under pg 0 n) → (q ≡ 0) ⊎ (q ≡ 0 → ⊥) → Under pg 0 q
      go again (inl e) = subst (λ n. Under pg 0 n) (sym e) itself
      go again (inr ne) =
          let pos : 0 < q = omega arith in
          let older = wf.older q pos (so.small q pr) in
          below pos (again (pg.parent q) (omega arith) (up_present q pos pr))

  Related : ℕ → ℕ → Type 0
  Related p q = Under pg p q ⊎ (Under pg q p ⊎ Split pg p q)

  related : (k p q : ℕ) → p ≤ k → Present (t.place p) → Present (t.place q) → Related p q
  unfolding Related
  related zero p q h pp pq = inl (subst (λ n. Under pg n q) (let e : 0 ≡ p = omega arith in e) (under_root q q (omega arith) pq))
  related (suc k) p q h pp pq = go (λ n l u. related k n q l u pq) (cases_eq p 0)
    where
      by_parent : (pos : 0 < p) → Related (pg.parent p) q → Related p q
      by_parent pos (inl u) = child (first_child u)
        where
          child : (q ≡ pg.parent p) ⊎ ((b : ℕ) × (0 < b) × (pg.parent b ≡ pg.parent p) × Under pg b q) → Related p q
          child (inl e) = inr (inl (below pos (subst (λ n. Under pg n (pg.parent p)) (sym e) itself)))
          child (inr w) = same (cases_eq p w.0)
            where
              same : (p ≡ w.0) ⊎ (p ≡ w.0 → ⊥) → Related p q
              same (inl e) = inl (subst (λ n. Under pg n q) (sym e) w.3)
              same (inr ne) =
                  let pb = under_present w.3 pq in
                  inr (inr (record { left = p; right = w.0; left_pos = pos; right_pos = w.1; differ = ne; parents = sym w.2; homes = same_home p w.0 pos w.1 pp pb (sym w.2); under_left = itself; under_right = w.3 }))
      by_parent pos (inr (inl u)) = inr (inl (below pos u))
      by_parent pos (inr (inr s)) =
          inr (inr (record { left = s.left; right = s.right; left_pos = s.left_pos; right_pos = s.right_pos; differ = s.differ; parents = s.parents; homes = s.homes; under_left = below pos s.under_left; under_right = s.under_right }))

      go : ((n : ℕ) → n ≤ k → Present (t.place n) → Related n q) → (p ≡ 0) ⊎ (p ≡ 0 → ⊥) → Related p q
      go again (inl e) = inl (subst (λ n. Under pg n q) (sym e) (under_root q q (omega arith) pq))
      go again (inr ne) =
          let pos : 0 < p = omega arith in
          let older = wf.older p pos (so.small p pp) in
          by_parent pos (again (pg.parent p) (omega arith) (up_present p pos pp))

  -- who has a present process below it holds
  not_above : (p q : ℕ) (s : Place) → p ≢ q → t.place p ≡ At s → Present (t.place q) → Under pg p q → ⊥
  not_above p q s ne e pq u = go (first_child u)
    where
      go : (q ≡ p) ⊎ ((b : ℕ) × (0 < b) × (pg.parent b ≡ p) × Under pg b q) → ⊥
      go (inl h) = ne (sym h)
      go (inr w) =
          let hb = so.up w.0 (under_present w.3 pq) w.1 in
          let f = w.2 in
          let z : ◌≡◌ {A = ℕ} 0 1 = cc in omega arith

  pub active_apart : (p q m n : ℕ) → p ≢ q → t.place p ≡ At (Line m) → t.place q ≡ At (Line n) → NodesApart (pg.node m) (pg.node n)
  unfolding Related
  active_apart p q m n ne ep eq = go (related p p q (omega arith) pp pq)
    where
      pp : Present (t.place p)
      pp = subst Present (sym ep) tt

      pq : Present (t.place q)
      pq = subst Present (sym eq) tt

      go : Related p q → NodesApart (pg.node m) (pg.node n)
      go (inl u) = absurd (not_above p q (Line m) ne ep pq u)
      go (inr (inl u)) = absurd (not_above q p (Line n) (λ e. ne (sym e)) eq pp u)
      go (inr (inr s)) =
          nodes_apart (pg.node m) (pg.node n) (wf.apart s.left s.right m n s.left_pos s.right_pos s.differ s.parents s.homes
          (subst (λ k. Under pg s.left k) (sym (so.owned p m ep)) s.under_left)
          (subst (λ k. Under pg s.right k) (sym (so.owned q n eq)) s.under_right))
