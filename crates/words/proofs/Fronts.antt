-- The longest front of a class.
use Rattle.std.proofs.Common.{◌≡◌, ℕ, ◌+◌, ◌<◌, ◌≤◌, Bool, true, false, List, [], ◌∷◌, ◌++◌, length, get_or, take, drop, sym, refl, ap, ◌∙◌, subst, one-add}
use Rattle.std.proofs.lemmas.List.{take_all, drop_more, take-append-drop}
use Rattle.std.proofs.lemmas.Bool.{cond-true, cond-false, cond_both}
use Rattle.std.specs.List.{prefix_len}
use Rattle.words.specs.Spelling.{Every}

-- nothing, or something whose first byte is of another class
abbrev pub StopsAt : (ℕ → Bool) → List ℕ → Type 0
StopsAt p [] = Unit {0}
StopsAt p (c ∷ r) = p c ≡ false

module _ (p : ℕ → Bool) where
  pub every_front : (s : List ℕ) → Every p (take (prefix_len p s) s)
  every_front [] = tt
  every_front (b ∷ s) =
      cond_both (p b) (1 + prefix_len p s) 0 (λ k. Every p (take k (b ∷ s)))
      (λ e. subst (λ k. Every p (take k (b ∷ s))) (sym (one-add (prefix_len p s))) (e, every_front s))
      (λ _. tt)

  pub front_stops : (s : List ℕ) → StopsAt p (drop (prefix_len p s) s)
  front_stops [] = tt
  front_stops (b ∷ s) =
      cond_both (p b) (1 + prefix_len p s) 0 (λ k. StopsAt p (drop k (b ∷ s)))
      (λ e. subst (λ k. StopsAt p (drop k (b ∷ s))) (sym (one-add (prefix_len p s))) (front_stops s))
      (λ e. e)

  pub front_is : (xs ys : List ℕ) → Every p xs → StopsAt p ys → prefix_len p (xs ++ ys) ≡ length xs
  front_is [] [] all stops = refl
  front_is [] (c ∷ r) all stops = cond-false _ _ _ stops
  front_is (x ∷ xs) ys all stops = cond-true _ _ _ all.0 ∙ ap (λ k. 1 + k) (front_is xs ys all.1 stops) ∙ one-add (length xs)

  pub every_at : (xs : List ℕ) (c : ℕ) (ys : List ℕ) → Every p (xs ++ (c ∷ ys)) → p c ≡ true
  every_at [] c ys all = all.0
  every_at (x ∷ xs) c ys all = every_at xs c ys all.1

  pub every_more : (xs : List ℕ) (c : ℕ) → Every p xs → p c ≡ true → Every p (xs ++ (c ∷ []))
  every_more [] c all e = (e, tt)
  every_more (x ∷ xs) c all e = (all.0, every_more xs c all.1 e)

  pub every_whole : (s : List ℕ) → length s ≤ prefix_len p s → Every p s
  every_whole s h = subst (Every p) (take_all (prefix_len p s) s h) (every_front s)

  -- what stands at the first byte of another class
  pub first_other : (s : List ℕ) → prefix_len p s < length s
      → (s ≡ take (prefix_len p s) s ++ (get_or s (prefix_len p s) 0 ∷ drop (prefix_len p s + 1) s)) × (p (get_or s (prefix_len p s) 0) ≡ false)
  first_other s h =
      let at = drop_more s (prefix_len p s) 0 h in
      (sym (take-append-drop (prefix_len p s) s) ∙ ap (λ r. take (prefix_len p s) s ++ r) at, subst (StopsAt p) at (front_stops s))
