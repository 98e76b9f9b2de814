-- Laws of a function changed at one place.
use Rattle.std.proofs.Common.{sym, refl, ap, ◌∙◌, subst, ◌≡◌, ◌≢◌, eqb, ℕ}
use Rattle.std.proofs.lemmas.Bool.{cond_both, cond-false, cond-true, eq-eqb, eqb-false, eqb-true, ne_eqb}
use Rattle.rules.specs.Functions.{changed}

pub changed_case : {A : Type 0} (f : ℕ → A) (i : ℕ) (v : A) (j : ℕ) (P : A → Type 0) → (j ≡ i → P v) → (j ≢ i → P (f j)) → P (changed f i v j)
unfolding changed
changed_case f i v j P here there = cond_both (eqb j i) v (f j) P (λ e. here (eqb-true j i e)) (λ e. there (eqb-false j i e))

pub changed_here : {A : Type 0} (f : ℕ → A) (i : ℕ) (v : A) → changed f i v i ≡ v
unfolding changed
changed_here f i v = cond-true (eqb i i) v (f i) (eq-eqb i i refl)

pub changed_there : {A : Type 0} (f : ℕ → A) (i : ℕ) (v : A) (j : ℕ) → j ≢ i → changed f i v j ≡ f j
unfolding changed
changed_there f i v j ne = cond-false (eqb j i) v (f j) (ne_eqb j i ne)

-- what a change does not show through a function
pub changed_hidden : {A B : Type 0} (g : A → B) (f : ℕ → A) (i : ℕ) (v : A) → g v ≡ g (f i) → (j : ℕ) → g (changed f i v j) ≡ g (f j)
changed_hidden g f i v e j = changed_case f i v j (λ a. g a ≡ g (f j)) (λ h. e ∙ ap (λ k. g (f k)) (sym h)) (λ h. refl)

-- what a change shows through a function
pub changed_shown : {A B : Type 0} (g : A → B) (f : ℕ → A) (i : ℕ) (v : A) (j : ℕ) → g (changed f i v j) ≡ changed (λ k. g (f k)) i (g v) j
changed_shown g f i v j =
    changed_case f i v j (λ a. g a ≡ changed (λ k. g (f k)) i (g v) j)
    (λ h. subst (λ k. g v ≡ changed (λ m. g (f m)) i (g v) k) (sym h) (sym (changed_here (λ k. g (f k)) i (g v))))
    (λ h. sym (changed_there (λ k. g (f k)) i (g v) j h))
