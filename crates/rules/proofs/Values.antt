-- A value stays where none of the variables that it is made of changes.
use Rattle.std.proofs.Common.{sym, refl, ap, ◌∙◌, subst, ap₂, List, [], ◌&&◌, ◌∷◌, ◌≡◌, ℕ, ℤ, inl, inr}
use Rattle.expressions.proofs.Same.{int_same, truth_same}
use Rattle.rules.specs.Types.{Expression, Place, Reads, Store, int_value, option_is_some, truth_value}
use Rattle.rules.specs.Flowchart.{Guard, Node, alt, assignment, condition_of, input, input_guard, output, par, skip, skip_guard, stop, test}
use Rattle.rules.specs.Functions.{In, changed}
use Rattle.rules.specs.Turns.{Record, all_valued, chooser, reader, writer}
use Rattle.rules.proofs.Changes.{changed_case, changed_there}
use Rattle.rules.proofs.Sound.{Chosen, Names, Rests}
use Rattle.rules.proofs.Uses.{GuardsRead, NodeReads}

module _ (s : Store) (x : ℕ) (v : ℤ) where
  -- the two stores agree on every other variable
  elsewhere : (e : Expression) → (Reads e x → ⊥) → (y : ℕ) → Reads e y → changed s x v y ≡ s y
  elsewhere e unread y r = changed_there s x v y (λ i. unread (subst (Reads e) i r))

  pub int_same_at : (e : Expression) → (Reads e x → ⊥) → int_value (changed s x v) e ≡ int_value s e
  int_same_at e unread = int_same e (changed s x v) s (elsewhere e unread)

  pub truth_same_at : (e : Expression) → (Reads e x → ⊥) → truth_value (changed s x v) e ≡ truth_value s e
  truth_same_at e unread = truth_same e (changed s x v) s (elsewhere e unread)

  pub valued_same : (gs : List Guard) → (GuardsRead gs x → ⊥) → all_valued (changed s x v) gs ≡ all_valued s gs
  valued_same [] unread = refl
  valued_same (g ∷ gs) unread = ap₂ (λ a b. option_is_some a && b) (truth_same_at (condition_of g) (λ h. unread (inl h))) (valued_same gs (λ h. unread (inr h)))

  pub chosen_same : (f : ℕ → Record) (p : ℕ) (gs : List Guard) → (GuardsRead gs x → ⊥) → Chosen s f p gs → Chosen (changed s x v) f p gs
  chosen_same f p [] unread h = tt
  chosen_same f p (skip_guard b to ∷ gs) unread h = ((λ e. h.0 (sym (truth_same_at b (λ k. unread (inl k))) ∙ e)), chosen_same f p gs (λ k. unread (inr k)) h.1)
  chosen_same f p (input_guard b c y to ∷ gs) unread h = ((λ e. h.0 (sym (truth_same_at b (λ k. unread (inl k))) ∙ e)), chosen_same f p gs (λ k. unread (inr k)) h.1)

  pub rests_write : (f : ℕ → Record) (p : ℕ) (m : Node) → (NodeReads m x → ⊥) → Rests s f p m → Rests (changed s x v) f p m
  rests_write f p (assignment y e to) unread h = int_same_at e unread ∙ h
  rests_write f p (skip to) unread h = h
  rests_write f p stop unread h = tt
  rests_write f p (input c y to) unread h = h
  rests_write f p (output c e to) unread (inl h) = inl (int_same_at e unread ∙ h)
  rests_write f p (output c e to) unread (inr h) = inr h
  rests_write f p (test e a b) unread h = truth_same_at e unread ∙ h
  rests_write f p (par bs to) unread h = h
  rests_write f p (alt gs) unread (inl h) = inl (valued_same gs unread ∙ h)
  rests_write f p (alt gs) unread (inr h) = inr (chosen_same f p gs unread h)

  pub condition_read : (b : Expression) (c y : ℕ) (to : Place) (gs : List Guard) → In (input_guard b c y to) gs → Reads b x → GuardsRead gs x
  condition_read b c y to [] i h = i
  condition_read b c y to (g ∷ gs) (inl e) h = inl (subst (λ a. Reads (condition_of a) x) e h)
  condition_read b c y to (g ∷ gs) (inr i) h = inr (condition_read b c y to gs i h)

-- a changed record of another
module _ (s : Store) (f : ℕ → Record) (c : ℕ) (k : Record) (p : ℕ) (other : Names (f c) p → ⊥) where
  kept : (d : ℕ) (l : Record) → Names l p → f d ≡ l → changed f c k d ≡ l
  kept d l nl e =
      changed_case f c k d (λ a. a ≡ l)
      (λ h. absurd (other (subst (λ a. Names a p) (sym (ap f (sym h) ∙ e)) nl)))
      (λ h. e)

  chosen_mark : (gs : List Guard) → Chosen s f p gs → Chosen s (changed f c k) p gs
  chosen_mark [] h = tt
  chosen_mark (skip_guard b to ∷ gs) h = (h.0, chosen_mark gs h.1)
  chosen_mark (input_guard b d y to ∷ gs) h = ((λ e. kept d (chooser p) refl (h.0 e)), chosen_mark gs h.1)

  pub rests_mark : (m : Node) → Rests s f p m → Rests s (changed f c k) p m
  rests_mark (assignment y e to) h = h
  rests_mark (skip to) h = h
  rests_mark stop h = tt
  rests_mark (input d y to) h = kept d (reader p) refl h
  rests_mark (output d e to) (inl h) = inl h
  rests_mark (output d e to) (inr h) = inr (h.0, kept d (writer p h.0) refl h.1)
  rests_mark (test e a b) h = h
  rests_mark (par bs to) h = h
  rests_mark (alt gs) (inl h) = inl h
  rests_mark (alt gs) (inr h) = inr (chosen_mark gs h)
