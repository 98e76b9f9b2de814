-- Every history of the engine is kept the promise.
use Rattle.std.proofs.Common.{sym, refl, ap, ◌∙◌, subst, arith, Bool, List, None, Ok, Option, Result, Some, [], ◌++◌, ◌∷◌, ◌≡◌, ◌≤◌, ◌⊎◌, false, true, ℕ, ℤ, inl, inr}
use Rattle.rules.specs.Types.{Answer, Fault, Refusal, Stuck, Waits}
use Rattle.rules.specs.Calls.{IdleAnswer, Machine, Offer, StepBy, Take, after_turn, at_link, awaits, idles, no_link, no_program, sticks, turns}
use Rattle.rules.specs.Flowchart.{Program}
use Rattle.rules.specs.History.{Call, Reached, also, also_told, engine, fresh, last_accepted, load_refused, loaded, new, offered, stepped, told, took, with_call, with_calls}
use Rattle.rules.specs.Primary.{CanFire, CanLinkOut, HasEnded, Outside, State, Told}
use Rattle.rules.specs.Promise.{CallHelps, Carries, KeepsPromise, Kept, Means, OneHelps, OutsideCalls}
use Rattle.rules.specs.Turns.{Turn, did, no_rule, turn, view}
use Rattle.rules.specs.WellFormed.{WellFormed}
use Rattle.rules.proofs.Calls.{Inv, load_inv, offer_good, step_good, take_good}
use Rattle.rules.proofs.Counts.{count_of, held_none, held_ready}
use Rattle.rules.proofs.Idle.{call_helps, nothing_ever, nothing_fires, one_helps}
use Rattle.rules.proofs.Progress.{soon_settles}
use Rattle.rules.proofs.Silence.{nothing_helps}
use Rattle.rules.proofs.Sound.{Present}
use Rattle.rules.proofs.Turns.{Effect, Good, turn_good}

-- a call more
with_snoc : (o : Option Program × List Told) (calls : List Call) (c : Call) → with_calls o (calls ++ (c ∷ [])) ≡ with_call c (with_calls o calls)
with_snoc o [] c = refl
with_snoc o (d ∷ calls) c = with_snoc (with_call d o) calls c

-- what a history keeps: the program in force, and, if there is one, that it is well formed and its tables and queue are sound
record Sure (o : Option Program) (ts : List Told) (m : Machine) : Type 0 where
  in_force_lem : m.program ≡ o
  sure : (pg : Program) → o ≡ Some pg → WellFormed pg × Inv pg m.tables m.held ts

-- a call to an engine without a program does nothing
no_step_lem : (m m' : Machine) (r : Result Answer Refusal) → m.program ≡ None → StepBy turn m r m' → m' ≡ m
no_step_lem m m' r n (no_program e g) = g.1
no_step_lem m m' r n (turns pg p e lt g) = let z : ◌≡◌ {A = ℕ} 0 1 = cc in absurd (omega arith)
no_step_lem m m' r n (idles pg a e z i g) = g.1

no_offer : (m m' : Machine) (a : ℕ) (v : ℤ) (r : Result Answer Refusal) → m.program ≡ None → Offer m a v r m' → m' ≡ m
no_offer m m' a v r n (no_program e g) = g.1
no_offer m m' a v r n (no_link pg e f g) = g.1
no_offer m m' a v r n (at_link pg c e kd g) = let z : ◌≡◌ {A = ℕ} 0 1 = cc in absurd (omega arith)

no_take : (m m' : Machine) (a : ℕ) (r : Result Answer Refusal) → m.program ≡ None → Take m a r m' → m' ≡ m
no_take m m' a r n (no_program e g) = g.1
no_take m m' a r n (no_link pg e f g) = g.1
no_take m m' a r n (at_link pg c e kd g) = let z : ◌≡◌ {A = ℕ} 0 1 = cc in absurd (omega arith)

-- a call that is no load, to an engine with or without a program
by_program : (o : Option Program) (ts ts' : List Told) (m m' : Machine) → Sure o ts m → (m.program ≡ None → m' ≡ m) →
    ((pg : Program) → WellFormed pg → m.program ≡ Some pg → Inv pg m.tables m.held ts → (m'.program ≡ m.program) × Inv pg m'.tables m'.held ts') → Sure o ts' m'
by_program None ts ts' m m' s idle good = record { in_force_lem = ap (λ k. k.program) (idle s.in_force_lem) ∙ s.in_force_lem; sure = λ pg e. let z : ◌≡◌ {A = ℕ} 0 1 = cc in absurd (omega arith) }
by_program (Some pg) ts ts' m m' s idle good =
    let w = s.sure pg refl in
    let g = good pg w.0 s.in_force_lem w.1 in
    record { in_force_lem = g.0 ∙ s.in_force_lem; sure = λ pg' e. let same : pg ≡ pg' = cc in subst (λ x. WellFormed x × Inv x m'.tables m'.held ts') same (w.0, g.1) }

one_call : (o : Option Program) (ts : List Told) (m m' : Machine) (c : Call) → Sure o ts m → engine m c m' → Sure (with_call c (o, ts)).0 (with_call c (o, ts)).1 m'
one_call o ts m m' (loaded pg n) s d =
    record {
      in_force_lem = ap (λ k. k.program) d.2;
      sure = λ pg' e. let same : pg ≡ pg' = cc in
          subst (λ x. WellFormed x × Inv x m'.tables m'.held []) same (d.0, subst (λ k. Inv pg k.tables k.held []) (sym d.2) (load_inv pg d.0));
    }
one_call o ts m m' (load_refused f) s d = subst (Sure o ts) (sym d) s
one_call o ts m m' (stepped r) s d =
    by_program o ts (also_told r ts) m m' s (λ n. no_step_lem m m' r n d) (λ pg wf is v. let g = step_good pg wf m ts v is r m' d in (g.same_program, g.inv))
one_call o ts m m' (offered a v r) s d =
    by_program o ts (also_told r ts) m m' s (λ n. no_offer m m' a v r n d) (λ pg wf is w. let g = offer_good pg wf m ts w is a v r m' d in (g.same_program, g.inv))
one_call o ts m m' (took a r) s d =
    by_program o ts (also_told r ts) m m' s (λ n. no_take m m' a r n d) (λ pg wf is w. let g = take_good pg wf m ts w is a r m' d in (g.same_program, g.inv))

surely : {calls : List Call} {m : Machine} → Reached engine calls m → Sure (last_accepted calls) (told calls) m
surely (new t) = record { in_force_lem = refl; sure = λ pg e. let z : ◌≡◌ {A = ℕ} 0 1 = cc in absurd (omega arith) }
surely (also {calls = calls} {m = m} {m' = m'} c u d) =
    subst (λ o. Sure o.0 o.1 m') (sym (with_snoc (None, []) calls c)) (one_call (last_accepted calls) (told calls) m m' c (surely u) d)

module _ (pg : Program) (wf : WellFormed pg) (ts : List Told) (m : Machine) (is : m.program ≡ Some pg) (v : Inv pg m.tables m.held ts) where
  meant_now : (c : Call) (m' : Machine) → engine m c m' → Means pg (view m.tables) c (view m'.tables)
  meant_now (loaded pg' n) m' d = ap (λ k. view k.tables) d.2
  meant_now (load_refused f) m' d = ap (λ k. view k.tables) d
  meant_now (stepped r) m' d = (step_good pg wf m ts v is r m' d).means
  meant_now (offered a x r) m' d = (offer_good pg wf m ts v is a x r m' d).means
  meant_now (took a r) m' d = (take_good pg wf m ts v is a r m' d).means

  -- the answers of an empty queue come from an empty queue
  idle_only : (a : Answer) (m' : Machine) → (a ≡ Waits) ⊎ (a ≡ Stuck) → StepBy turn m (Ok a) m' → ((p : ℕ) → v.ready p ≡ false) × IdleAnswer pg m.tables a
  idle_only a m' w (no_program e g) = let z : ◌≡◌ {A = ℕ} 0 1 = cc in absurd (omega arith)
  idle_only a m' w (turns pg' p e lt g) =
      let same : pg' ≡ pg = cc in
      absurd (no_turn (turn pg m.tables p) (turn_good pg wf m.tables v.ready v.sound p (held_ready m.held v.ready v.agree p lt)) (subst (λ y. Ok a ≡ (after_turn m p (turn y m.tables p)).0) same g.0) w)
    where
      no_turn : (tn : Turn) → Good pg m.tables v.ready p tn → Ok a ≡ (after_turn m p tn).0 → (a ≡ Waits) ⊎ (a ≡ Stuck) → ⊥
      no_turn no_rule h i k = h
      no_turn (did b t' rs) h i (inl k) = let j : b ≡ Waits = cc in subst (λ y. Effect pg m.tables y t') j h.1
      no_turn (did b t' rs) h i (inr k) = let j : b ≡ Stuck = cc in subst (λ y. Effect pg m.tables y t') j h.1
  idle_only a m' w (idles pg' b e z i g) =
      let same : pg' ≡ pg = cc in
      let one : b ≡ a = let u = g.0 in cc in
      ((λ p. held_none m.held v.ready v.agree p (z p)), subst (λ y. IdleAnswer y m.tables a) same (subst (IdleAnswer pg' m.tables) one i))

  waiting_now : (m' : Machine) → StepBy turn m (Ok Waits) m' → (¬ CanFire pg (view m.tables)) × OneHelps pg (view m.tables) × CallHelps engine pg m
  waiting_now m' s = let w = idle_only Waits m' (inl refl) s in go w.0 w.1
    where
      go : ((p : ℕ) → v.ready p ≡ false) → IdleAnswer pg m.tables Waits → (¬ CanFire pg (view m.tables)) × OneHelps pg (view m.tables) × CallHelps engine pg m
      go idle (awaits ne o) =
          (nothing_fires pg m.tables v.ready v.sound idle, one_helps pg m.tables v.ready v.sound idle o, call_helps pg m.tables v.ready v.sound idle m.program m.held is o)

  abbrev Silent : Type 0
  Silent =
      (¬ HasEnded (view m.tables)) ×
      ((s : State) → Outside pg (view m.tables) s → (¬ CanFire pg s) × (¬ CanLinkOut pg s)) ×
      ((k : Machine) → OutsideCalls engine m k → (¬ CanFire pg (view k.tables)) × (¬ CallHelps engine pg k))

  sticking_now : (m' : Machine) → StepBy turn m (Ok Stuck) m' → Silent
  sticking_now m' s = let w = idle_only Stuck m' (inr refl) s in go w.0 w.1
    where
      go : ((p : ℕ) → v.ready p ≡ false) → IdleAnswer pg m.tables Stuck → Silent
      go idle (sticks ne o) =
          let never = nothing_ever pg m.tables v.ready v.sound idle o in
          (ne, never, nothing_helps pg wf m never ts is v)

  kept_now : Kept engine pg ts m
  kept_now = record {
    fits = v.run;
    waiting = waiting_now;
    sticking = sticking_now;
    moving = soon_settles pg wf m is v.ready v.agree v.sound;
    meant = meant_now;
  }

-- the theorem
pub keeps_promise : KeepsPromise engine
keeps_promise calls m u =
    let s = surely u in
    record { in_force = s.in_force_lem; kept = λ pg e. let w = s.sure pg e in kept_now pg w.0 (told calls) m (s.in_force_lem ∙ e) w.1 }

-- no number from the count of processes on is held
pub few_held : (pg : Program) (calls : List Call) (m : Machine) → Reached engine calls m → last_accepted calls ≡ Some pg → (k : ℕ) → pg.processes ≤ k → m.held k ≡ 0
few_held pg calls m u e k le = which (w.1.ready k) refl (w.1.agree k)
  where
    w : WellFormed pg × Inv pg m.tables m.held (told calls)
    w = (surely u).sure pg e

    which : (b : Bool) → w.1.ready k ≡ b → m.held k ≡ count_of b → m.held k ≡ 0
    which true i h =
        let a = w.1.sound.ready_at k i in
        let small = w.1.sound.small k (subst Present (sym a.1) tt) in
        absurd (omega arith)
    which false i h = h

-- each call carries the promise on
pub call_carries : (m m' : Machine) (c : Call) → engine m c m' → Carries engine m c m'
call_carries m m' c d calls u = let w = also c u d in (w, keeps_promise (calls ++ (c ∷ [])) m' w)

pub load_carries : (m m' : Machine) (pg : Program) → WellFormed pg → m' ≡ fresh pg → Carries engine m (loaded pg pg.processes) m'
load_carries m m' pg wf e = call_carries m m' (loaded pg pg.processes) (wf, refl, e)

pub refused_load_carries : (m m' : Machine) (f : Fault) → m' ≡ m → Carries engine m (load_refused f) m'
refused_load_carries m m' f e = call_carries m m' (load_refused f) e

pub step_carries : (m m' : Machine) (r : Result Answer Refusal) → StepBy turn m r m' → Carries engine m (stepped r) m'
step_carries m m' r s = call_carries m m' (stepped r) s

pub offer_carries : (m m' : Machine) (a : ℕ) (v : ℤ) (r : Result Answer Refusal) → Offer m a v r m' → Carries engine m (offered a v r) m'
offer_carries m m' a v r s = call_carries m m' (offered a v r) s

pub take_carries : (m m' : Machine) (a : ℕ) (r : Result Answer Refusal) → Take m a r m' → Carries engine m (took a r) m'
take_carries m m' a r s = call_carries m m' (took a r) s
