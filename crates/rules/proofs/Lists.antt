-- From rows in lists to functions of numbers.
use Rattle.std.proofs.Common.{set, ap, ◌∙◌, get_or-set_other, get_or-set_same, List, ◌<◌, ◌≡◌, get_or, length, ℕ}
use mathlib.Core.Path.{fun_ext}
use Rattle.rules.specs.Functions.{changed}
use Rattle.rules.proofs.Changes.{changed_case}

-- a row set is a change of the function that the rows are, through what a row means
pub rows_set : {A B : Type 0} (g : A → B) (xs : List A) (i : ℕ) (v d : A) → i < length xs → (λ j. g (get_or (set xs i v) j d)) ≡ changed (λ j. g (get_or xs j d)) i (g v)
rows_set g xs i v d lt =
    fun_ext (λ j. changed_case (λ k. g (get_or xs k d)) i (g v) j (λ a. g (get_or (set xs i v) j d) ≡ a)
    (λ e. ap g (ap (λ k. get_or (set xs i v) k d) e ∙ rw get_or-set_same))
    (λ ne. ap g (rw get_or-set_other)))
