-- A call has one answer and leaves one state, but for the number that a queue hands over.
use Rattle.std.proofs.Common.{sym, refl, ◌∙◌, subst, arith, Err, Ok, Result, Some, ◌≡◌, ◌⊎◌, ℕ, ℤ, inl, inr}
use Rattle.std.proofs.lemmas.Bool.{cases_eq}
use Rattle.rules.specs.Types.{Answer, Incoming, NoLink, Outgoing, Refusal}
use Rattle.rules.specs.Calls.{Gives, IdleAnswer, Machine, Offer, Outcome, StepBy, Take, after_turn, at_link, awaits, finishes, idles, no_link, no_program, offer_to, sticks, take_from, turns}
use Rattle.rules.specs.Flowchart.{Program}
use Rattle.rules.specs.Promise.{Pinned, TwoHeld}
use Rattle.rules.specs.Turns.{Tables, turn}
use Rattle.rules.specs.WellFormed.{WellFormed}

-- one outcome, one answer and state
one_outcome : (o : Outcome) (r r' : Result Answer Refusal) (m₁ m₂ : Machine) → Gives o r m₁ → Gives o r' m₂ → (r ≡ r') × (m₁ ≡ m₂)
one_outcome o r r' m₁ m₂ g g' = (g.0 ∙ sym g'.0, g.1 ∙ sym g'.1)

-- one answer of an empty queue
idle_one : (pg : Program) (t : Tables) (a b : Answer) → IdleAnswer pg t a → IdleAnswer pg t b → a ≡ b
idle_one pg t a b (finishes e) (finishes e') = refl
idle_one pg t a b (finishes e) (awaits n o) = absurd (n e)
idle_one pg t a b (finishes e) (sticks n o) = absurd (n e)
idle_one pg t a b (awaits n o) (finishes e) = absurd (n e)
idle_one pg t a b (awaits n o) (awaits n' o') = refl
idle_one pg t a b (awaits n o) (sticks n' o') = absurd (o' o)
idle_one pg t a b (sticks n o) (finishes e) = absurd (n e)
idle_one pg t a b (sticks n o) (awaits n' o') = absurd (o o')
idle_one pg t a b (sticks n o) (sticks n' o') = refl

module _ (pg : Program) (m : Machine) (wf : WellFormed pg) (is : m.program ≡ Some pg) (r r' : Result Answer Refusal) (m₁ m₂ : Machine) where
  step_pinned : StepBy turn m r m₁ → StepBy turn m r' m₂ → ((r ≡ r') × (m₁ ≡ m₂)) ⊎ TwoHeld m
  step_pinned (no_program e g) u = let z : ◌≡◌ {A = ℕ} 0 1 = cc in absurd (omega arith)
  step_pinned (turns p₁ p e lt g) (no_program e' g') = let z : ◌≡◌ {A = ℕ} 0 1 = cc in absurd (omega arith)
  step_pinned (turns p₁ p e lt g) (turns p₂ q e' lt' g') = which (cases_eq p q)
    where
      which : (p ≡ q) ⊎ (p ≡ q → ⊥) → ((r ≡ r') × (m₁ ≡ m₂)) ⊎ TwoHeld m
      which (inl i) =
          let s : p₁ ≡ p₂ = cc in
          inl (one_outcome (after_turn m q (turn p₂ m.tables q)) r r' m₁ m₂
          (subst (λ k. Gives (after_turn m k (turn p₂ m.tables k)) r m₁) i (subst (λ y. Gives (after_turn m p (turn y m.tables p)) r m₁) s g)) g')
      which (inr ne) = inr (p, q, ne, lt, lt')
  step_pinned (turns p₁ p e lt g) (idles p₂ b e' z i g') = let n = z p in absurd (omega arith)
  step_pinned (idles p₁ a e z i g) (no_program e' g') = let y : ◌≡◌ {A = ℕ} 0 1 = cc in absurd (omega arith)
  step_pinned (idles p₁ a e z i g) (turns p₂ q e' lt g') = let n = z q in absurd (omega arith)
  step_pinned (idles p₁ a e z i g) (idles p₂ b e' z' i' g') =
      let s : p₁ ≡ p₂ = cc in
      let same : a ≡ b = idle_one p₂ m.tables a b (subst (λ y. IdleAnswer y m.tables a) s i) i' in
      inl (one_outcome (Ok b, m) r r' m₁ m₂ (subst (λ y. Gives (Ok y, m) r m₁) same g) g')

  offer_pinned : (a : ℕ) (v : ℤ) → Offer m a v r m₁ → Offer m a v r' m₂ → (r ≡ r') × (m₁ ≡ m₂)
  offer_pinned a v (no_program e g) u = let z : ◌≡◌ {A = ℕ} 0 1 = cc in absurd (omega arith)
  offer_pinned a v (no_link p e f g) (no_program e' g') = let z : ◌≡◌ {A = ℕ} 0 1 = cc in absurd (omega arith)
  offer_pinned a v (no_link p e f g) (no_link p' e' f' g') = one_outcome (Err NoLink, m) r r' m₁ m₂ g g'
  offer_pinned a v (no_link p e f g) (at_link p' c e' kd g') = let same : p' ≡ p = cc in absurd (f c (subst (λ y. y.kind c ≡ Incoming a) same kd))
  offer_pinned a v (at_link p c e kd g) (no_program e' g') = let z : ◌≡◌ {A = ℕ} 0 1 = cc in absurd (omega arith)
  offer_pinned a v (at_link p c e kd g) (no_link p' e' f g') = let same : p ≡ p' = cc in absurd (f c (subst (λ y. y.kind c ≡ Incoming a) same kd))
  offer_pinned a v (at_link p c e kd g) (at_link p' d e' kd' g') =
      let s : p ≡ pg = cc in
      let s' : p' ≡ pg = cc in
      let same : c ≡ d = wf.one_incoming c d a (subst (λ y. y.kind c ≡ Incoming a) s kd) (subst (λ y. y.kind d ≡ Incoming a) s' kd') in
      one_outcome (offer_to pg m d v (m.tables.channel d)) r r' m₁ m₂
      (subst (λ k. Gives (offer_to pg m k v (m.tables.channel k)) r m₁) same (subst (λ y. Gives (offer_to y m c v (m.tables.channel c)) r m₁) s g))
      (subst (λ y. Gives (offer_to y m d v (m.tables.channel d)) r' m₂) s' g')

  take_pinned : (a : ℕ) → Take m a r m₁ → Take m a r' m₂ → (r ≡ r') × (m₁ ≡ m₂)
  take_pinned a (no_program e g) u = let z : ◌≡◌ {A = ℕ} 0 1 = cc in absurd (omega arith)
  take_pinned a (no_link p e f g) (no_program e' g') = let z : ◌≡◌ {A = ℕ} 0 1 = cc in absurd (omega arith)
  take_pinned a (no_link p e f g) (no_link p' e' f' g') = one_outcome (Err NoLink, m) r r' m₁ m₂ g g'
  take_pinned a (no_link p e f g) (at_link p' c e' kd g') = let same : p' ≡ p = cc in absurd (f c (subst (λ y. y.kind c ≡ Outgoing a) same kd))
  take_pinned a (at_link p c e kd g) (no_program e' g') = let z : ◌≡◌ {A = ℕ} 0 1 = cc in absurd (omega arith)
  take_pinned a (at_link p c e kd g) (no_link p' e' f g') = let same : p ≡ p' = cc in absurd (f c (subst (λ y. y.kind c ≡ Outgoing a) same kd))
  take_pinned a (at_link p c e kd g) (at_link p' d e' kd' g') =
      let s : p ≡ pg = cc in
      let s' : p' ≡ pg = cc in
      let same : c ≡ d = wf.one_outgoing c d a (subst (λ y. y.kind c ≡ Outgoing a) s kd) (subst (λ y. y.kind d ≡ Outgoing a) s' kd') in
      one_outcome (take_from pg m d (m.tables.channel d)) r r' m₁ m₂
      (subst (λ k. Gives (take_from pg m k (m.tables.channel k)) r m₁) same (subst (λ y. Gives (take_from y m c (m.tables.channel c)) r m₁) s g))
      (subst (λ y. Gives (take_from y m d (m.tables.channel d)) r' m₂) s' g')

pub answers_pinned : Pinned
answers_pinned pg m wf is r r' m₁ m₂ = (step_pinned pg m wf is r r' m₁ m₂, offer_pinned pg m wf is r r' m₁ m₂, take_pinned pg m wf is r r' m₁ m₂)
