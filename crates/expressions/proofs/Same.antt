-- The value of an expression depends on no variable but those it reads.
use Rattle.std.proofs.Common.{◌≡◌, ℕ, Some, refl, ap, ◌∙◌, inl, inr}
use Rattle.expressions.specs.declared.Value.TheVariants.{Int}
use Rattle.expressions.specs.Expression.{Expression, number, truth, variable, negative, negation, dyadic}
use Rattle.expressions.specs.Value.{Store, value, int_value, truth_value, int_of, truth_of, combined, negative_of, negation_of}
use Rattle.expressions.specs.Reads.{Reads}

pub value_same : (e : Expression) (s s' : Store) → ((x : ℕ) → Reads e x → s x ≡ s' x) → value s e ≡ value s' e
unfolding value
value_same (number n) s s' h = refl
value_same (truth b) s s' h = refl
value_same (variable y) s s' h = ap (λ z. Some (Int z)) (h y refl)
value_same (negative e) s s' h = ap negative_of (value_same e s s' h)
value_same (negation e) s s' h = ap negation_of (value_same e s s' h)
value_same (dyadic op a b) s s' h =
    ap (λ v. combined op v (value s b)) (value_same a s s' (λ x r. h x (inl r)))
    ∙ ap (combined op (value s' a)) (value_same b s s' (λ x r. h x (inr r)))

pub int_same : (e : Expression) (s s' : Store) → ((x : ℕ) → Reads e x → s x ≡ s' x) → int_value s e ≡ int_value s' e
unfolding int_value
int_same e s s' h = ap int_of (value_same e s s' h)

pub truth_same : (e : Expression) (s s' : Store) → ((x : ℕ) → Reads e x → s x ≡ s' x) → truth_value s e ≡ truth_value s' e
unfolding truth_value
truth_same e s s' h = ap truth_of (value_same e s s' h)
