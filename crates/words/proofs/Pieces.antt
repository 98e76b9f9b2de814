-- What `split_inclusive` makes of a text: its lines, each with its end.
use Rattle.std.proofs.Common.{◌≡◌, ◌≢◌, ℕ, ◌+◌, ◌<◌, ◌≤◌, min, Bool, true, cond, eqb, ◌⊎◌, List, [], ◌∷◌, ◌++◌, length, get_or, take, drop, Some, None, Option, Bor, unwrap_or, MatchOption, sym, refl, ap, ◌∙◌, subst, inl, inr, ⊎_elim, arith}
use Rattle.std.proofs.lemmas.List.{take_at, drop_at, take_more, drop_more, take-append-drop, nil_from_length, append-nil, length-append}
use Rattle.std.proofs.lemmas.List.Sums.{position_or_len_is}
use Rattle.std.proofs.lemmas.Bool.{cases_lt, cond_both, cond-true, not-false, eqb-true}
use Rattle.std.specs.List.{prefix_len, IsFirstMatchOrLen}
use Rattle.std.proofs.lemmas.Iterator.{YieldsList}
use Rattle.std.proofs.lemmas.Iterator.Splits.{YieldsList-from_shown_while}
use Rattle.std.proofs.lemmas.Iterator.Consumers.{YieldsList-turn, YieldsList-end}
use Rattle.std.proofs.lemmas.Fn.{always_returns_same}
use Rattle.std.specs.Fn.{ComputesKey, CalledAt}
use Rattle.std.specs.Iterator.{Yields}
use Rattle.std.specs.Slice.Iter.{split_inclusive_rest, split_inclusive_callee}
use Rattle.std.specs.declared.slice.SplitInclusive.{SplitInclusive}
use denote.Param.Members.{Mut}
use Rattle.words.specs.Bytes.{in_line}
use Rattle.words.specs.Division.{divided}
use Rattle.words.specs.Spelling.{Every}
use Rattle.words.proofs.Fronts.{every_front, every_whole}
use Rattle.words.proofs.Limited.{line_ends, line_whole}

-- a piece without the end of its line
abbrev pub without_end : List ℕ → List ℕ
without_end [] = []
without_end (b ∷ []) = cond (in_line b) (b ∷ []) []
without_end (b ∷ (c ∷ s)) = b ∷ without_end (c ∷ s)

ended : (line : List ℕ) → without_end (line ++ (10 ∷ [])) ≡ line
ended [] = refl
ended (b ∷ []) = refl
ended (b ∷ (c ∷ line)) = ap (λ l. b ∷ l) (ended (c ∷ line))

unended : (line : List ℕ) → Every in_line line → without_end line ≡ line
unended [] all = refl
unended (b ∷ []) all = cond-true _ _ _ all.0
unended (b ∷ (c ∷ line)) all = ap (λ l. b ∷ l) (unended (c ∷ line) all.1)

either : (x : List ℕ) → (without_end x ≡ x) ⊎ (x ≡ without_end x ++ (10 ∷ []))
either [] = inl refl
either (b ∷ []) =
    cond_both (in_line b) (b ∷ []) [] (λ l. (l ≡ b ∷ []) ⊎ (b ∷ [] ≡ l ++ (10 ∷ [])))
    (λ _. inl refl) (λ e. inr (ap (λ c. c ∷ []) (eqb-true b 10 (not-false (eqb b 10) e))))
either (b ∷ (c ∷ x)) = ⊎_elim (λ e. inl (ap (λ l. b ∷ l) e)) (λ e. inr (ap (λ l. b ∷ l) e)) (either (c ∷ x))

-- what `strip_suffix` and `unwrap_or` leave of a piece
pub stripped : (x : Bor (List ℕ)) (r : Option (Bor (List ℕ))) → MatchOption r ((front : List ℕ) → x.now ≢ front ++ (10 ∷ [])) (λ y. x.now ≡ y.now ++ (10 ∷ [])) → (unwrap_or r x).now ≡ without_end x.now
stripped x None h = ⊎_elim sym (λ e. absurd (h _ e)) (either x.now)
stripped x (Some y) h = sym (ap without_end h ∙ ended y.now)

whole : (s : List ℕ) → 0 < length s → Every in_line s → divided s ≡ s ∷ []
whole [] some all = absurd (omega arith)
whole (b ∷ s) some all = line_whole b s all

-- a text s begins with the piece x, which byte i ends
module _ (s x rest : List ℕ) (i : ℕ) (joined : s ≡ x ++ rest) (long : length x ≡ min (i + 1) (length s)) (first : IsFirstMatchOrLen (λ b. eqb b 10) s i) where
  front_long : (n : ℕ) → n ≤ i → n ≤ length s → (n < length s → n ≡ i) → prefix_len in_line s ≡ n
  front_long n below within last =
      position_or_len_is (λ b. eqb b 10) s n 0 within (λ k l. first.0 k 0 (omega arith) (omega arith)) (λ l. subst (λ m. eqb (get_or s m 0) 10 ≡ true) (sym (last l)) (first.1 (omega (arith, last l)) 0))

  ends_here : i < length s → divided s ≡ without_end x ∷ divided rest
  ends_here here =
      let n : length x ≡ i + 1 = omega arith in
      let ten : get_or s i 0 ≡ 10 = eqb-true _ _ (first.1 here 0) in
      let line : x ≡ take i s ++ (10 ∷ []) = sym (take_at x rest (i + 1) n) ∙ ap (take (i + 1)) (sym joined) ∙ take_more s i 0 here ∙ ap (λ b. take i s ++ (b ∷ [])) ten in
      let back : drop i s ≡ 10 ∷ rest = drop_more s i 0 here ∙ ap (λ b. b ∷ drop (i + 1) s) ten ∙ ap (λ r. 10 ∷ r) (ap (drop (i + 1)) joined ∙ drop_at x rest (i + 1) n) in
      let all = subst (λ k. Every in_line (take k s)) (front_long i (omega arith) (omega arith) (λ _. refl)) (every_front in_line s) in
      ap divided (sym (take-append-drop i s) ∙ ap (λ r. take i s ++ r) back)
      ∙ line_ends (take i s) rest all
      ∙ ap (λ l. l ∷ divided rest) (sym (ap without_end line ∙ ended (take i s)))

  ends_text : 0 < length s → length s ≤ i → divided s ≡ without_end x ∷ divided rest
  ends_text some end =
      let none = nil_from_length rest (omega (arith, ap length joined, length-append x rest)) in
      let same : s ≡ x = joined ∙ ap (λ r. x ++ r) none ∙ append-nil x in
      let all = every_whole in_line s (omega (arith, front_long (length s) end (omega arith) (λ l. absurd (omega arith)))) in
      whole s some all ∙ rw (none, ← same, unended s all)

  pub piece : 0 < length s → divided s ≡ without_end x ∷ divided rest
  piece some = ⊎_elim ends_here (ends_text some) (cases_lt i (length s))

-- a call of `next` on what `split_inclusive` made, as the library states it
abbrev pub cuts : {F : Type 0} → Mut F (Bor ℕ × Unit {0}) Bool → SplitInclusive ℕ F → Option (Bor (List ℕ)) → SplitInclusive ℕ F → Type 0
cuts g s r t =
    MatchOption r ((length (split_inclusive_rest s) ≡ 0) × (t ≡ s))
    (λ x. (split_inclusive_rest s ≡ x.now ++ split_inclusive_rest t)
    × ((i : ℕ) × (length x.now ≡ min (i + 1) (length (split_inclusive_rest s))) × ((p : ℕ → Bool) → ComputesKey g p (split_inclusive_callee s) → ComputesKey g p (split_inclusive_callee t) × IsFirstMatchOrLen p (split_inclusive_rest s) i))
    × (0 < length (split_inclusive_rest s)))

-- the lines of a text, as `split_inclusive` gives them where its closure f tells an end of line
pub lines_shown : {F : Type 0} {s : SplitInclusive ℕ F} (g : Mut F (Bor ℕ × Unit {0}) Bool) {f : F} (text : List ℕ) → split_inclusive_rest s ≡ text → split_inclusive_callee s ≡ f
    → ((x : ℕ) (b : Bool) (q : F) → CalledAt g f x b q → (q ≡ f) × (b ≡ eqb x 10)) → YieldsList (cuts g) (λ x. without_end x.now) s (divided text)
lines_shown {s = s} g {f} text rest closure calls =
    subst (λ l. YieldsList (cuts g) (λ x. without_end x.now) s (divided l)) rest
    (YieldsList-from_shown_while (cuts g) (λ x. without_end x.now) (λ t. divided (split_inclusive_rest t)) (λ t. ComputesKey g (λ b. eqb b 10) (split_inclusive_callee t))
    (λ s t h k. ap (λ l. length (divided l)) (nil_from_length (split_inclusive_rest s) k.0))
    (λ s x t h k. let m = k.1.2 (λ b. eqb b 10) h in (m.0, piece (split_inclusive_rest s) x.now (split_inclusive_rest t) k.1.0 k.0 k.1.1 m.1 k.2))
    s (subst (ComputesKey g (λ b. eqb b 10)) (sym closure) (always_returns_same g (λ a r. r ≡ eqb a.0.now 10) f (λ a r q k. let m = calls a.0.now r q (record { shown = a.0; shows = refl; called = k }) in (m.1, m.0)))))

-- `YieldsList-turn` and `YieldsList-end`, with the chain last
module _ {S A B : Type 0} {steps : S → Option A → S → Type 0} {v : A → B} {s : S} {all : List B} (xs : List A) (t : S) (y : Yields steps s xs t) (r : Option A) (u : S) where
  pub next_of : (x : A) → r ≡ Some x → steps t r u → YieldsList steps v s all → (length xs < length all) × (v x ≡ get_or all (length xs) (v x))
  next_of x is k e = YieldsList-turn e xs t y r u x is k

  pub end_of : r ≡ None → steps t r u → YieldsList steps v s all → length xs ≡ length all
  end_of is k e = (YieldsList-end e xs t y r u is k).1
