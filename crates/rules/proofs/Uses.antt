-- What a line uses, computed from what stands there, and as the rules say it.
use Rattle.std.proofs.Common.{sym, refl, ap, ◌∙◌, subst, arith, List, [], ◌∷◌, ◌≡◌, ◌⊎◌, ℕ, inl, inr}
use Rattle.rules.specs.Types.{Expression, Place, Reads}
use Rattle.rules.specs.Flowchart.{Guard, Node, alt, assignment, condition_of, input, input_guard, output, par, skip, skip_guard, stop, test}
use Rattle.rules.specs.Functions.{In}
use Rattle.rules.specs.WellFormed.{LineInputs, LineOutputs, LineReads, LineWrites, at_guard, at_input, at_output, by_assignment, by_receiving, in_assignment, in_condition, in_output, in_test}

-- a condition of the guards reads x
abbrev pub GuardsRead : List Guard → ℕ → Type 0
GuardsRead [] x = ⊥
GuardsRead (g ∷ gs) x = Reads (condition_of g) x ⊎ GuardsRead gs x

-- the line reads the variable x
abbrev pub NodeReads : Node → ℕ → Type 0
NodeReads (assignment y e to) x = Reads e x
NodeReads (skip to) x = ⊥
NodeReads stop x = ⊥
NodeReads (input c y to) x = ⊥
NodeReads (output c e to) x = Reads e x
NodeReads (test e a b) x = Reads e x
NodeReads (par bs to) x = ⊥
NodeReads (alt gs) x = GuardsRead gs x

-- a guard inputs from c into x
abbrev pub GuardsInput : List Guard → ℕ → ℕ → Type 0
GuardsInput [] c x = ⊥
GuardsInput (skip_guard e to ∷ gs) c x = GuardsInput gs c x
GuardsInput (input_guard e d y to ∷ gs) c x = ((c ≡ d) × (x ≡ y)) ⊎ GuardsInput gs c x

-- the line inputs from the channel c into the variable x
abbrev pub NodeInputs : Node → ℕ → ℕ → Type 0
NodeInputs (assignment y e to) c x = ⊥
NodeInputs (skip to) c x = ⊥
NodeInputs stop c x = ⊥
NodeInputs (input d y to) c x = (c ≡ d) × (x ≡ y)
NodeInputs (output d e to) c x = ⊥
NodeInputs (test e a b) c x = ⊥
NodeInputs (par bs to) c x = ⊥
NodeInputs (alt gs) c x = GuardsInput gs c x

-- the line outputs to the channel c
abbrev pub NodeOutputs : Node → ℕ → Type 0
NodeOutputs (assignment y e to) c = ⊥
NodeOutputs (skip to) c = ⊥
NodeOutputs stop c = ⊥
NodeOutputs (input d y to) c = ⊥
NodeOutputs (output d e to) c = c ≡ d
NodeOutputs (test e a b) c = ⊥
NodeOutputs (par bs to) c = ⊥
NodeOutputs (alt gs) c = ⊥

-- the line writes x, computed
pub data NodeWrites (m : Node) (x : ℕ) : Type 0 where
  assigned : (e : Expression) (to : Place) → m ≡ assignment x e to → NodeWrites m x
  received : (c : ℕ) → NodeInputs m c x → NodeWrites m x

guards_read : (gs : List Guard) (x : ℕ) → GuardsRead gs x → (g : Guard) × In g gs × Reads (condition_of g) x
guards_read [] x h = elim h [ ]
guards_read (g ∷ gs) x (inl h) = (g, inl refl, h)
guards_read (g ∷ gs) x (inr h) = let w = guards_read gs x h in (w.0, inr w.1, w.2)

guards_input : (gs : List Guard) (c x : ℕ) → GuardsInput gs c x → (e : Expression) × (to : Place) × In (input_guard e c x to) gs
guards_input [] c x h = elim h [ ]
guards_input (skip_guard e to ∷ gs) c x h = let w = guards_input gs c x h in (w.0, w.1, inr w.2)
guards_input (input_guard e d y to ∷ gs) c x (inl h) = (e, to, inl (ap (λ k. input_guard e k x to) h.0 ∙ ap (λ k. input_guard e d k to) h.1))
guards_input (input_guard e d y to ∷ gs) c x (inr h) = let w = guards_input gs c x h in (w.0, w.1, inr w.2)

-- from the computed to the rules

pub reads_line : (m : Node) (x : ℕ) → NodeReads m x → LineReads m x
reads_line (assignment y e to) x h = in_assignment y e to refl h
reads_line (skip to) x h = elim h [ ]
reads_line stop x h = elim h [ ]
reads_line (input c y to) x h = elim h [ ]
reads_line (output c e to) x h = in_output c e to refl h
reads_line (test e a b) x h = in_test e a b refl h
reads_line (par bs to) x h = elim h [ ]
reads_line (alt gs) x h = let w = guards_read gs x h in in_condition gs w.0 refl w.1 w.2

pub inputs_line : (m : Node) (c x : ℕ) → NodeInputs m c x → LineInputs m c x
inputs_line (assignment y e to) c x h = elim h [ ]
inputs_line (skip to) c x h = elim h [ ]
inputs_line stop c x h = elim h [ ]
inputs_line (input d y to) c x h = at_input to (ap (λ k. input k y to) (sym h.0) ∙ ap (λ k. input c k to) (sym h.1))
inputs_line (output d e to) c x h = elim h [ ]
inputs_line (test e a b) c x h = elim h [ ]
inputs_line (par bs to) c x h = elim h [ ]
inputs_line (alt gs) c x h = let w = guards_input gs c x h in at_guard gs w.0 w.1 refl w.2

pub outputs_line : (m : Node) (c : ℕ) → NodeOutputs m c → LineOutputs m c
outputs_line (assignment y e to) c h = elim h [ ]
outputs_line (skip to) c h = elim h [ ]
outputs_line stop c h = elim h [ ]
outputs_line (input d y to) c h = elim h [ ]
outputs_line (output d e to) c h = at_output e to (ap (λ k. output k e to) (sym h))
outputs_line (test e a b) c h = elim h [ ]
outputs_line (par bs to) c h = elim h [ ]
outputs_line (alt gs) c h = elim h [ ]

pub writes_line : (m : Node) (x : ℕ) → NodeWrites m x → LineWrites m x
writes_line m x (assigned e to i) = by_assignment e to i
writes_line m x (received c h) = by_receiving c (inputs_line m c x h)

-- and back

in_guards_read : (gs : List Guard) (g : Guard) (x : ℕ) → In g gs → Reads (condition_of g) x → GuardsRead gs x
in_guards_read [] g x i h = i
in_guards_read (k ∷ gs) g x (inl e) h = inl (subst (λ a. Reads (condition_of a) x) e h)
in_guards_read (k ∷ gs) g x (inr i) h = inr (in_guards_read gs g x i h)

pub in_guards_input : (gs : List Guard) (e : Expression) (c x : ℕ) (to : Place) → In (input_guard e c x to) gs → GuardsInput gs c x
in_guards_input [] e c x to i = i
in_guards_input (skip_guard e' to' ∷ gs) e c x to (inl i) = let z : ◌≡◌ {A = ℕ} 0 1 = cc in absurd (omega arith)
in_guards_input (skip_guard e' to' ∷ gs) e c x to (inr i) = in_guards_input gs e c x to i
in_guards_input (input_guard e' c' x' to' ∷ gs) e c x to (inl i) = inl (cc, cc)
in_guards_input (input_guard e' c' x' to' ∷ gs) e c x to (inr i) = inr (in_guards_input gs e c x to i)

pub line_reads : (m : Node) (x : ℕ) → LineReads m x → NodeReads m x
line_reads m x (in_assignment y e to i h) = subst (λ n. NodeReads n x) (sym i) h
line_reads m x (in_output c e to i h) = subst (λ n. NodeReads n x) (sym i) h
line_reads m x (in_test e a b i h) = subst (λ n. NodeReads n x) (sym i) h
line_reads m x (in_condition gs g i j h) = subst (λ n. NodeReads n x) (sym i) (in_guards_read gs g x j h)

pub line_inputs : (m : Node) (c x : ℕ) → LineInputs m c x → NodeInputs m c x
line_inputs m c x (at_input to i) = subst (λ n. NodeInputs n c x) (sym i) (refl, refl)
line_inputs m c x (at_guard gs e to i j) = subst (λ n. NodeInputs n c x) (sym i) (in_guards_input gs e c x to j)

pub line_outputs : (m : Node) (c : ℕ) → LineOutputs m c → NodeOutputs m c
line_outputs m c (at_output e to i) = subst (λ n. NodeOutputs n c) (sym i) refl
