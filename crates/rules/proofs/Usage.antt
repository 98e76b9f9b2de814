-- From what each process uses, its descendants' uses with it, to lines that are apart.
use Rattle.std.proofs.Common.{◌<◌, ◌≡◌, ◌≢◌, ℕ}
use Rattle.rules.specs.Flowchart.{Program}
use Rattle.rules.specs.WellFormed.{Apart, LineInputs, LineOutputs, LineReads, LineWrites, Under, below, itself}

-- W p x: a line of p, or of a process below p, writes x; and so on
module _ (pg : Program) (W R I O : ℕ → ℕ → Type 0)
    (own_w : (n x : ℕ) → LineWrites (pg.node n) x → W (pg.owner n) x) (own_r : (n x : ℕ) → LineReads (pg.node n) x → R (pg.owner n) x)
    (own_i : (n c x : ℕ) → LineInputs (pg.node n) c x → I (pg.owner n) c) (own_o : (n c : ℕ) → LineOutputs (pg.node n) c → O (pg.owner n) c)
    (up : (p x : ℕ) → 0 < p → (W p x → W (pg.parent p) x) × (R p x → R (pg.parent p) x) × (I p x → I (pg.parent p) x) × (O p x → O (pg.parent p) x))
    (check : (a b x : ℕ) → 0 < a → 0 < b → a ≢ b → pg.parent a ≡ pg.parent b → pg.home a ≡ pg.home b → (W a x → R b x → ⊥) × (I a x → I b x → ⊥) × (O a x → O b x → ⊥)) where
  rises : (U : ℕ → ℕ → Type 0) → ((p x : ℕ) → 0 < p → U p x → U (pg.parent p) x) → {a p : ℕ} → Under pg a p → (x : ℕ) → U p x → U a x
  rises U f itself x h = h
  rises U f {a} {p} (below pos u) x h = rises U f u x (f p x pos h)

  pub apart_by_usage : (a b m n : ℕ) → 0 < a → 0 < b → a ≢ b → pg.parent a ≡ pg.parent b → pg.home a ≡ pg.home b → Under pg a (pg.owner m) → Under pg b (pg.owner n) → Apart (pg.node m) (pg.node n)
  apart_by_usage a b m n pa pb ne e1 e2 ua ub = record {
    none_reads = λ x w h. (check a b x pa pb ne e1 e2).0 (rises W (λ p y l. (up p y l).0) ua x (own_w m x w)) (rises R (λ p y l. (up p y l).1) ub x (own_r n x h));
    one_inputs = λ c x y h i. (check a b c pa pb ne e1 e2).1 (rises I (λ p z l. (up p z l).2) ua c (own_i m c x h)) (rises I (λ p z l. (up p z l).2) ub c (own_i n c y i));
    one_outputs = λ c h i. (check a b c pa pb ne e1 e2).2 (rises O (λ p z l. (up p z l).3) ua c (own_o m c h)) (rises O (λ p z l. (up p z l).3) ub c (own_o n c i));
  }
