-- Where the outside's puts and takes let no rule fire, no offer or take of the engine's own does.
use Rattle.std.proofs.Common.{sym, ◌∙◌, subst, Err, List, Ok, Result, Some, ◌≡◌, ℕ, ℤ}
use Rattle.rules.specs.Types.{Answer, Held, Refusal, Taken}
use Rattle.rules.specs.Calls.{Machine, Offer, Take}
use Rattle.rules.specs.Flowchart.{Program}
use Rattle.rules.specs.History.{also_told, engine, offered, took}
use Rattle.rules.specs.Primary.{CanFire, CanLinkOut, Outside, Puts, State, Told, stays, then_put, then_take}
use Rattle.rules.specs.Promise.{CallHelps, Means, OfferMeans, OutsideCalls, TakeMeans, held, no_call, offer_held, offer_taken, passed_in, passed_out, take_taken, then_offered, then_took}
use Rattle.rules.specs.Turns.{view}
use Rattle.rules.specs.WellFormed.{WellFormed}
use Rattle.rules.proofs.Calls.{GoodCall, Inv, offer_good, take_good}

module _ (pg : Program) (wf : WellFormed pg) (m : Machine) (silent : (s : State) → Outside pg (view m.tables) s → (¬ CanFire pg s) × (¬ CanLinkOut pg s)) where
  -- a state that offers and takes led to
  pub record Along (k : Machine) : Type 0 where
    pub loaded_is : k.program ≡ Some pg
    pub told_so : List Told
    pub inv : Inv pg k.tables k.held told_so
    pub led : Outside pg (view m.tables) (view k.tables)

  taken_offer : {s : State} {a : ℕ} {v w : ℤ} {p c : ℕ} {s' : State} → OfferMeans pg s a v (Taken p c w) s' → (s₁ : State) × Puts pg s c v s₁ × CanFire pg s₁
  taken_offer (passed_in p c kd u f) = (_, u, (_, _, _, f))

  held_offer : {s : State} {a : ℕ} {v w : ℤ} {c : ℕ} {s' : State} → OfferMeans pg s a v (Held c w) s' → Puts pg s c v s'
  held_offer (held c kd u) = u

  taken_take : {s : State} {a p c : ℕ} {v : ℤ} {s' : State} → TakeMeans pg s a (Taken p c v) s' → CanLinkOut pg s
  taken_take (passed_out p c v kd f) = (_, _, _, f)

  offer_leads : {s : State} {a : ℕ} {v : ℤ} {x : Answer} {s' : State} → Outside pg (view m.tables) s → OfferMeans pg s a v x s' → Outside pg (view m.tables) s'
  offer_leads o (passed_in p c kd u f) = absurd ((silent _ (then_put o u)).0 (_, _, _, f))
  offer_leads o (held c kd u) = then_put o u

  take_leads : {s : State} {a : ℕ} {x : Answer} {s' : State} → Outside pg (view m.tables) s → TakeMeans pg s a x s' → Outside pg (view m.tables) s'
  take_leads o (passed_out p c v kd f) = then_take o f

  one_offer : (k k' : Machine) (a : ℕ) (v : ℤ) (r : Result Answer Refusal) → Along k → Offer k a v r k' → Along k'
  one_offer k k' a v r w d = record { loaded_is = g.same_program ∙ w.loaded_is; told_so = also_told r w.told_so; inv = g.inv; led = leads r g.means }
    where
      g : GoodCall pg k w.told_so (offered a v r) k'
      g = offer_good pg wf k w.told_so w.inv w.loaded_is a v r k' d

      leads : (x : Result Answer Refusal) → Means pg (view k.tables) (offered a v x) (view k'.tables) → Outside pg (view m.tables) (view k'.tables)
      leads (Ok x) h = offer_leads w.led h
      leads (Err e) h = subst (Outside pg (view m.tables)) (sym h.1) w.led

  one_take : (k k' : Machine) (a : ℕ) (r : Result Answer Refusal) → Along k → Take k a r k' → Along k'
  one_take k k' a r w d = record { loaded_is = g.same_program ∙ w.loaded_is; told_so = also_told r w.told_so; inv = g.inv; led = leads r g.means }
    where
      g : GoodCall pg k w.told_so (took a r) k'
      g = take_good pg wf k w.told_so w.inv w.loaded_is a r k' d

      leads : (x : Result Answer Refusal) → Means pg (view k.tables) (took a x) (view k'.tables) → Outside pg (view m.tables) (view k'.tables)
      leads (Ok x) h = take_leads w.led h
      leads (Err e) h = subst (Outside pg (view m.tables)) (sym h.1) w.led

  along : {k : Machine} → Along m → OutsideCalls engine m k → Along k
  along w no_call = w
  along w (then_offered {k = k} {k' = k'} a v r u d) = one_offer k k' a v r (along w u) d
  along w (then_took {k = k} {k' = k'} a r u d) = one_take k k' a r (along w u) d

  no_help : (k : Machine) → Along k → ¬ CallHelps engine pg k
  no_help k w (offer_taken a p c v k' d) =
      let h = taken_offer (offer_good pg wf k w.told_so w.inv w.loaded_is a v (Ok (Taken p c v)) k' d).means in
      (silent h.0 (then_put w.led h.1)).0 h.2
  no_help k w (offer_held a c v k' d f) =
      let h = held_offer (offer_good pg wf k w.told_so w.inv w.loaded_is a v (Ok (Held c v)) k' d).means in
      (silent (view k'.tables) (then_put w.led h)).0 f
  no_help k w (take_taken a p c v k' d) =
      let h = taken_take (take_good pg wf k w.told_so w.inv w.loaded_is a (Ok (Taken p c v)) k' d).means in
      (silent (view k.tables) w.led).1 h

  pub nothing_helps : (ts : List Told) → m.program ≡ Some pg → Inv pg m.tables m.held ts → (k : Machine) → OutsideCalls engine m k → (¬ CanFire pg (view k.tables)) × (¬ CallHelps engine pg k)
  nothing_helps ts is v k u =
      let w = along (record { loaded_is = is; told_so = ts; inv = v; led = stays }) u in
      ((silent (view k.tables) w.led).0, no_help k w)
