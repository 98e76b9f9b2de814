-- The value of an expression is the one that the rules of evaluation give.
use Rattle.std.proofs.Common.{◌≡◌, true, false, ℤ, Some, None, Option, sym, refl, ap, ◌∙◌, subst}
use Rattle.integers.specs.Int.{applied, negated}
use Rattle.expressions.specs.declared.Value.{Value}
use Rattle.expressions.specs.declared.Value.TheVariants.{Int, Truth}
use Rattle.expressions.specs.declared.Dyadic.{Dyadic}
use Rattle.expressions.specs.declared.Dyadic.TheVariants.{Arithmetic, Compare, And, Or}
use Rattle.expressions.specs.Expression.{Expression, number, truth, variable, negative, negation, dyadic}
use Rattle.expressions.specs.Value.{Store, value, combined, negative_of, negation_of, as_int}
use Rattle.expressions.specs.Evaluation.{Has, of_number, of_truth, of_variable, of_negative, of_negation, of_arithmetic, of_comparison, of_false_and, of_true_and, of_true_or, of_false_or, Tells}

-- The values of both operands put into an operator.
at_both : (op : Dyadic) {l l' r r' : Option Value} → l ≡ l' → r ≡ r' → combined op l r ≡ combined op l' r'
at_both op p q = cc

-- Each value that the rules give is the value.
complete : (s : Store) {e : Expression} {v : Value} → Has s e v → value s e ≡ Some v
unfolding value
complete s of_number = refl
complete s of_truth = refl
complete s of_variable = refl
complete s (of_negative h p) = ap negative_of (complete s h) ∙ ap as_int p
complete s (of_negation h) = ap negation_of (complete s h)
complete s (of_arithmetic {op} h k p) = at_both (Arithmetic op) (complete s h) (complete s k) ∙ ap as_int p
complete s (of_comparison {c} h k) = at_both (Compare c) (complete s h) (complete s k)
complete s (of_false_and {e} {f} h) = ap (λ l. combined And l (value s f)) (complete s h)
complete s (of_true_and h k) = at_both And (complete s h) (complete s k)
complete s (of_true_or {e} {f} h) = ap (λ l. combined Or l (value s f)) (complete s h)
complete s (of_false_or h k) = at_both Or (complete s h) (complete s k)

-- An answer is one value, and none is not a value.
one : {a b : Value} → ◌≡◌ {A = Option Value} (Some a) (Some b) → a ≡ b
one p = cc

never : {A : Type 0} {a : Value} → ◌≡◌ {A = Option Value} None (Some a) → A
never p = cc

-- An operand whose value, if it has one, the rules give.
Given : Store → Expression → Option Value → Type 0
Given s e o = (w : Value) → o ≡ Some w → Has s e w

negative_sound : (s : Store) (e : Expression) (v : Value) (o : Option Value) → Given s e o → negative_of o ≡ Some v → Has s (negative e) v
unfolding Given
negative_sound s e v (Some (Int a)) g p = by (negated a) refl p
  where
    by : (n : Option ℤ) → negated a ≡ n → as_int n ≡ Some v → Has s (negative e) v
    by None q p = never p
    by (Some w) q p = subst (Has s (negative e)) (one p) (of_negative (g (Int a) refl) q)
negative_sound s e v o g p = never p

negation_sound : (s : Store) (e : Expression) (v : Value) (o : Option Value) → Given s e o → negation_of o ≡ Some v → Has s (negation e) v
unfolding Given
negation_sound s e v (Some (Truth b)) g p = subst (Has s (negation e)) (one p) (of_negation (g (Truth b) refl))
negation_sound s e v o g p = never p

dyadic_sound : (s : Store) (op : Dyadic) (e f : Expression) (v : Value) (l r : Option Value) → Given s e l → Given s f r → combined op l r ≡ Some v → Has s (dyadic op e f) v
unfolding Given
dyadic_sound s (Arithmetic op) e f v (Some (Int a)) (Some (Int b)) g h p = by (applied op a b) refl p
  where
    by : (n : Option ℤ) → applied op a b ≡ n → as_int n ≡ Some v → Has s (dyadic (Arithmetic op) e f) v
    by None q p = never p
    by (Some w) q p = subst (Has s (dyadic (Arithmetic op) e f)) (one p) (of_arithmetic (g (Int a) refl) (h (Int b) refl) q)
dyadic_sound s (Compare c) e f v (Some (Int a)) (Some (Int b)) g h p = subst (Has s (dyadic (Compare c) e f)) (one p) (of_comparison (g (Int a) refl) (h (Int b) refl))
dyadic_sound s And e f v (Some (Truth false)) r g h p = subst (Has s (dyadic And e f)) (one p) (of_false_and (g (Truth false) refl))
dyadic_sound s And e f v (Some (Truth true)) (Some (Truth b)) g h p = subst (Has s (dyadic And e f)) (one p) (of_true_and (g (Truth true) refl) (h (Truth b) refl))
dyadic_sound s Or e f v (Some (Truth true)) r g h p = subst (Has s (dyadic Or e f)) (one p) (of_true_or (g (Truth true) refl))
dyadic_sound s Or e f v (Some (Truth false)) (Some (Truth b)) g h p = subst (Has s (dyadic Or e f)) (one p) (of_false_or (g (Truth false) refl) (h (Truth b) refl))
dyadic_sound s op e f v l r g h p = never p

-- The value is one that the rules give.
sound : (s : Store) (e : Expression) → Given s e (value s e)
unfolding Given value
sound s (number n) = λ v p. subst (Has s (number n)) (one p) of_number
sound s (truth b) = λ v p. subst (Has s (truth b)) (one p) of_truth
sound s (variable x) = λ v p. subst (Has s (variable x)) (one p) of_variable
sound s (negative e) = λ v p. negative_sound s e v (value s e) (sound s e) p
sound s (negation e) = λ v p. negation_sound s e v (value s e) (sound s e) p
sound s (dyadic op a b) = λ v p. dyadic_sound s op a b v (value s a) (value s b) (sound s a) (sound s b) p

pub value_tells : (s : Store) (e : Expression) {r : Option Value} → r ≡ value s e → Tells s e r
unfolding Given
value_tells s e q = record { only = λ v p. sound s e v (sym q ∙ p); every = λ v h. q ∙ complete s h }
