-- One piece after another at the end of a list.
use Rattle.std.proofs.Common.{◌≡◌, ℕ, ◌+◌, ◌<◌, ◌≤◌, List, [], ◌∷◌, ◌++◌, length, get_or, drop, sym, ap, ◌∙◌}
use Rattle.std.proofs.lemmas.List.{append_assoc, append-nil, at_drop_more, at_drop_all}

-- the pieces that a list gives from i on, one piece further and at the end
module _ {X : Type 0} (f : X → List ℕ) (F : List X → List ℕ) (none : F [] ≡ []) (some : (x : X) (xs : List X) → F (x ∷ xs) ≡ f x ++ F xs) (xs : List X) (i : ℕ) (o : List ℕ)
    {whole : List ℕ} (inv : whole ≡ o ++ F (drop i xs)) where
  pub piece_more : (d : X) {p : List ℕ} → i < length xs → p ≡ o ++ f (get_or xs i d) → whole ≡ p ++ F (drop (i + 1) xs)
  piece_more d {p} within e =
      inv ∙ at_drop_more (λ l. o ++ F l) xs i d within ∙ ap (λ l. o ++ l) (some (get_or xs i d) (drop (i + 1) xs)) ∙ sym (append_assoc o (f (get_or xs i d)) (F (drop (i + 1) xs)))
      ∙ ap (λ l. l ++ F (drop (i + 1) xs)) (sym e)

  pub pieces_all : length xs ≤ i → o ≡ whole
  pieces_all end = sym (inv ∙ at_drop_all (λ l. o ++ F l) xs i end ∙ ap (λ l. o ++ l) none ∙ append-nil o)
