-- What an empty queue means: no rule can fire.
use Rattle.std.proofs.Common.{sym, refl, ap, ◌∙◌, subst, arith, Bool, List, None, Option, Some, [], ◌∷◌, ◌≡◌, ◌≢◌, ◌⊎◌, false, pos, true, ℕ, ℤ, inl, inr}
use Rattle.std.proofs.lemmas.Bool.{and_from}
use Rattle.rules.specs.Types.{At, End, Expression, Holding, Incoming, Line, Place, Standing, Store, int_value, option_is_some, truth_value}
use Rattle.rules.specs.Calls.{Counts, SleepsOnLink, at_link, choosing, offer_to, reading, take_from, writing}
use Rattle.rules.specs.Flowchart.{Guard, Node, Program, alt, assignment, condition_of, input, input_guard, output, par, skip, skip_guard, test}
use Rattle.rules.specs.Functions.{In, changed}
use Rattle.rules.specs.History.{engine}
use Rattle.rules.specs.Primary.{CanFire, CanLinkOut, Fires, LinkOut, Outside, Puts, Receives, Sends, State, Told, Valued, assigns, by_guard, by_input, communicates, fills, joins, links_in, links_out, passes_par, puts, skips, starts_par, stays, takes_skip, tests, then_put, then_take}
use Rattle.rules.specs.Promise.{CallHelps, OneHelps, offer_held, offer_taken, take_taken}
use Rattle.rules.specs.Turns.{Record, Tables, all_valued, chooser, empty, held_value, outside, reader, view, writer}
use Rattle.rules.proofs.Changes.{changed_case, changed_here}
use Rattle.rules.proofs.Choices.{valued_is}
use Rattle.rules.proofs.Ops.{all_map}
use Rattle.rules.proofs.Sound.{ChoosesAt, Chosen, ReadsAt, RecordOk, Rests, Sound, WritesAt}

some_is : (m : Option Bool) (b : Bool) → m ≡ Some b → option_is_some m ≡ true
some_is m b e = ap option_is_some e

pub valued_from : (s : Store) (gs : List Guard) → Valued gs s → all_valued s gs ≡ true
valued_from s [] h = refl
valued_from s (g ∷ gs) h = and_from (option_is_some (truth_value s (condition_of g))) (all_valued s gs) (some_is (truth_value s (condition_of g)) h.0.0 h.0.1) (valued_from s gs h.1)

chosen_inputs : (s : Store) (f : ℕ → Record) (p : ℕ) (gs : List Guard) (b : Expression) (c x : ℕ) (to : Place) → Chosen s f p gs → In (input_guard b c x to) gs → truth_value s b ≡ Some true → f c ≡ chooser p
chosen_inputs s f p [] b c x to h i e = elim i [ ]
chosen_inputs s f p (skip_guard b' to' ∷ gs) b c x to h (inl i) e = cc
chosen_inputs s f p (skip_guard b' to' ∷ gs) b c x to h (inr i) e = chosen_inputs s f p gs b c x to h.1 i e
chosen_inputs s f p (input_guard b' c' x' to' ∷ gs) b c x to h (inl i) e =
    let eb : b ≡ b' = cc in let ec : c ≡ c' = cc in ap f ec ∙ h.0 (ap (λ a. truth_value s a) (sym eb) ∙ e)
chosen_inputs s f p (input_guard b' c' x' to' ∷ gs) b c x to h (inr i) e = chosen_inputs s f p gs b c x to h.1 i e

chosen_skips : (s : Store) (f : ℕ → Record) (p : ℕ) (gs : List Guard) (b : Expression) (to : Place) → Chosen s f p gs → In (skip_guard b to) gs → truth_value s b ≢ Some true
chosen_skips s f p [] b to h i e = elim i [ ]
chosen_skips s f p (skip_guard b' to' ∷ gs) b to h (inl i) e = let eb : b ≡ b' = cc in h.0 (ap (λ a. truth_value s a) (sym eb) ∙ e)
chosen_skips s f p (skip_guard b' to' ∷ gs) b to h (inr i) e = chosen_skips s f p gs b to h.1 i e
chosen_skips s f p (input_guard b' c' x' to' ∷ gs) b to h (inl i) e = let z : ◌≡◌ {A = ℕ} 0 1 = cc in omega arith
chosen_skips s f p (input_guard b' c' x' to' ∷ gs) b to h (inr i) e = chosen_skips s f p gs b to h.1 i e

module _ (pg : Program) (t : Tables) (r : ℕ → Bool) (so : Sound pg t r) (idle : (p : ℕ) → r p ≡ false) where
  rests_as : (p n : ℕ) (m : Node) → t.place p ≡ At (Line n) → pg.node n ≡ m → Rests t.variables t.channel p m
  rests_as p n m e i = subst (Rests t.variables t.channel p) i (so.asleep p n (idle p) e)

  -- a state with the tables' variables and places, and any links
  module _ (s : State) (ev : s.variables ≡ t.variables) (ep : s.place ≡ t.place) where
    here : (p : ℕ) (a : Standing) → s.place p ≡ a → t.place p ≡ a
    here p a e = ap (λ f. f p) (sym ep) ∙ e

    pub receives_named : (p c x : ℕ) (to : Place) → Receives pg s p c x to → (t.channel c ≡ reader p) ⊎ (t.channel c ≡ chooser p)
    receives_named p c x to (by_input n e nd) = inl (rests_as p n (input c x to) (here p (At (Line n)) e) nd)
    receives_named p c x to (by_guard n gs b e nd vd i tr) = inr (which (rests_as p n (alt gs) (here p (At (Line n)) e) nd))
      where
        which : (all_valued t.variables gs ≡ false) ⊎ Chosen t.variables t.channel p gs → t.channel c ≡ chooser p
        which (inl f) = let g : all_valued t.variables gs ≡ true = valued_from t.variables gs (subst (Valued gs) ev vd) in cc
        which (inr ch) = chosen_inputs t.variables t.channel p gs b c x to ch i (ap (λ z. truth_value z b) (sym ev) ∙ tr)

    pub sends_named : (q c : ℕ) (v : ℤ) (to : Place) → Sends pg s q c v to → (w : ℤ) × (t.channel c ≡ writer q w)
    sends_named q c v to a = which (rests_as q a.line_number (output c a.expression to) (here q (At (Line a.line_number)) a.stands) a.is_output)
      where
        which : (int_value t.variables a.expression ≡ None) ⊎ ((w : ℤ) × (t.channel c ≡ writer q w)) → (w : ℤ) × (t.channel c ≡ writer q w)
        which (inl f) = let g : int_value t.variables a.expression ≡ Some v = ap (λ z. int_value z a.expression) (sym ev) ∙ a.has_value in let z : ◌≡◌ {A = ℕ} 0 1 = cc in absurd (omega arith)
        which (inr w) = w

    pub no_fire : ((c : ℕ) (v : ℤ) → s.link c ≡ Some v → (p : ℕ) → (t.channel c ≡ reader p) ⊎ (t.channel c ≡ chooser p) → ⊥) → (ps : List ℕ) (l : Option Told) (s' : State) → Fires pg s ps l s' → ⊥
    no_fire lk ps l s' (assigns p n x e to v st nd val) =
        let a : int_value t.variables e ≡ None = rests_as p n (assignment x e to) (here p (At (Line n)) st) nd in
        let b : int_value t.variables e ≡ Some v = ap (λ z. int_value z e) (sym ev) ∙ val in
        let z : ◌≡◌ {A = ℕ} 0 1 = cc in omega arith
    no_fire lk ps l s' (skips p n to st nd) = rests_as p n (skip to) (here p (At (Line n)) st) nd
    no_fire lk ps l s' (tests p n e y o b st nd val) =
        let a : truth_value t.variables e ≡ None = rests_as p n (test e y o) (here p (At (Line n)) st) nd in
        let c : truth_value t.variables e ≡ Some b = ap (λ z. truth_value z e) (sym ev) ∙ val in
        let z : ◌≡◌ {A = ℕ} 0 1 = cc in omega arith
    no_fire lk ps l s' (communicates p q c x to to' v rc sn) = which (receives_named p c x to rc)
      where
        which : (t.channel c ≡ reader p) ⊎ (t.channel c ≡ chooser p) → ⊥
        which (inl e) = let w = sends_named q c v to' sn in let u = w.1 in let z : ◌≡◌ {A = ℕ} 0 1 = cc in omega arith
        which (inr e) = let w = sends_named q c v to' sn in let u = w.1 in let z : ◌≡◌ {A = ℕ} 0 1 = cc in omega arith
    no_fire lk ps l s' (links_in p c x to v rc e) = lk c v e p (receives_named p c x to rc)
    no_fire lk ps l s' (takes_skip p n gs b to st nd vd i tr) = which (rests_as p n (alt gs) (here p (At (Line n)) st) nd)
      where
        which : (all_valued t.variables gs ≡ false) ⊎ Chosen t.variables t.channel p gs → ⊥
        which (inl f) = let g : all_valued t.variables gs ≡ true = valued_from t.variables gs (subst (Valued gs) ev vd) in let z : ◌≡◌ {A = ℕ} 0 1 = cc in omega arith
        which (inr ch) = chosen_skips t.variables t.channel p gs b to ch i (ap (λ z. truth_value z b) (sym ev) ∙ tr)
    no_fire lk ps l s' (passes_par p n to st nd) = rests_as p n (par [] to) (here p (At (Line n)) st) nd
    no_fire lk ps l s' (starts_par p n b bs to st nd) = rests_as p n (par (b ∷ bs) to) (here p (At (Line n)) st) nd
    no_fire lk ps l s' (joins p n bs to st nd al) =
        so.unjoined p n bs to (here p (Holding n) st) nd
        (all_map (λ b. s.place b.process ≡ At End) (λ b. t.ended b.process ≡ true) bs (λ b e. so.asleep_ended b.process (idle b.process) (here b.process (At End) e)) al)

  held_not : (k : Record) (v : ℤ) → held_value k ≡ Some v → (p : ℕ) → (k ≡ reader p) ⊎ (k ≡ chooser p) → ⊥
  held_not k v e p (inl i) = let j = ap held_value i in let z : ◌≡◌ {A = ℕ} 0 1 = cc in omega arith
  held_not k v e p (inr i) = let j = ap held_value i in let z : ◌≡◌ {A = ℕ} 0 1 = cc in omega arith

  pub nothing_fires : ¬ CanFire pg (view t)
  nothing_fires f = no_fire (view t) refl refl (λ c v e p h. held_not (t.channel c) v e p h) f.0 f.1 f.2 f.3

  -- what a link's record says of its process
  receives_on : (c a p : ℕ) (v : ℤ) → (t.channel c ≡ reader p) ⊎ (t.channel c ≡ chooser p) → (l : ℕ → Option ℤ) → l c ≡ Some v →
      CanFire pg (record { variables = t.variables; place = t.place; link = l })
  receives_on c a p v (inl e) l h =
      let b : ReadsAt pg t.place p c = (subst (RecordOk pg t.place t.variables r c) e (so.records c)).1 in
      (_, _, _, links_in p c b.variable_number b.to v (by_input b.line_number b.stands b.is_input) h)
  receives_on c a p v (inr e) l h =
      let b : ChoosesAt pg t.place t.variables p c = subst (RecordOk pg t.place t.variables r c) e (so.records c) in
      (_, _, _, links_in p c b.variable_number b.to v (by_guard b.line_number b.guards b.condition b.stands b.is_alt (valued_is t.variables b.guards b.all_have_values) b.guard_in b.guard_true) h)

  -- a put or a take that helps, by who sleeps on a link
  pub one_helps : SleepsOnLink pg t → OneHelps pg (view t)
  one_helps (reading c a p kd e) = inr (c, pos 0, fills (view t) c (Some (pos 0)), puts a kd (ap held_value e), receives_on c a p (pos 0) (inl e) (changed (λ d. held_value (t.channel d)) c (Some (pos 0))) (changed_here (λ d. held_value (t.channel d)) c (Some (pos 0))))
  one_helps (choosing c a p kd e) = inr (c, pos 0, fills (view t) c (Some (pos 0)), puts a kd (ap held_value e), receives_on c a p (pos 0) (inr e) (changed (λ d. held_value (t.channel d)) c (Some (pos 0))) (changed_here (λ d. held_value (t.channel d)) c (Some (pos 0))))
  one_helps (writing c a p v kd e) =
      let b : WritesAt pg t.place t.variables p c v = (subst (RecordOk pg t.place t.variables r c) e (so.records c)).1 in
      inl (_, _, _, links_out p c a b.to v kd (record { line_number = b.line_number; expression = b.expression; stands = b.stands; is_output = b.is_output; has_value = b.has_value }))

  -- and the engine's own answer to it
  pub call_helps : (prog : Option Program) (h : Counts) → prog ≡ Some pg → SleepsOnLink pg t → CallHelps engine pg (record { program = prog; tables = t; held = h })
  call_helps prog h is (reading c a p kd e) =
      offer_taken a p c (pos 0) (offer_to pg (record { program = prog; tables = t; held = h }) c (pos 0) (reader p)).1
      (at_link pg c is kd (ap (λ k. (offer_to pg (record { program = prog; tables = t; held = h }) c (pos 0) k).0) (sym e), ap (λ k. (offer_to pg (record { program = prog; tables = t; held = h }) c (pos 0) k).1) (sym e)))
  call_helps prog h is (choosing c a p kd e) =
      offer_held a c (pos 0) (offer_to pg (record { program = prog; tables = t; held = h }) c (pos 0) (chooser p)).1
      (at_link pg c is kd (ap (λ k. (offer_to pg (record { program = prog; tables = t; held = h }) c (pos 0) k).0) (sym e), ap (λ k. (offer_to pg (record { program = prog; tables = t; held = h }) c (pos 0) k).1) (sym e)))
      (receives_on c a p (pos 0) (inr e) (λ d. held_value (changed t.channel c (outside (pos 0)) d)) (ap held_value (changed_here t.channel c (outside (pos 0)))))
  call_helps prog h is (writing c a p v kd e) =
      take_taken a p c v (take_from pg (record { program = prog; tables = t; held = h }) c (writer p v)).1
      (at_link pg c is kd (ap (λ k. (take_from pg (record { program = prog; tables = t; held = h }) c k).0) (sym e), ap (λ k. (take_from pg (record { program = prog; tables = t; held = h }) c k).1) (sym e)))

  -- a state that offers alone can lead to
  record Still (s : State) : Type 0 where
    same_vars : s.variables ≡ t.variables
    same_place : s.place ≡ t.place
    from_outside : (c : ℕ) (v : ℤ) → s.link c ≡ Some v → (k : ℕ) × (pg.kind c ≡ Incoming k)

  outside_kind : (c : ℕ) (k : Record) (v : ℤ) → RecordOk pg t.place t.variables r c k → held_value k ≡ Some v → (l : ℕ) × (pg.kind c ≡ Incoming l)
  outside_kind c empty v o e = let z : ◌≡◌ {A = ℕ} 0 1 = cc in absurd (omega arith)
  outside_kind c (reader p) v o e = let z : ◌≡◌ {A = ℕ} 0 1 = cc in absurd (omega arith)
  outside_kind c (writer p w) v o e = let z : ◌≡◌ {A = ℕ} 0 1 = cc in absurd (omega arith)
  outside_kind c (chooser p) v o e = let z : ◌≡◌ {A = ℕ} 0 1 = cc in absurd (omega arith)
  outside_kind c (outside w) v o e = o

  module _ (alone : ¬ SleepsOnLink pg t) where
    still_silent : (s : State) → Still s → (¬ CanFire pg s) × (¬ CanLinkOut pg s)
    still_silent s st = (
      (λ f. no_fire s st.same_vars st.same_place (λ c v e p h. let w = st.from_outside c v e in on_link c p w.0 w.1 h) f.0 f.1 f.2 f.3),
      (λ g. gives g.0 g.1 g.2 g.3),
    )
      where
        on_link : (c p k : ℕ) → pg.kind c ≡ Incoming k → (t.channel c ≡ reader p) ⊎ (t.channel c ≡ chooser p) → ⊥
        on_link c p k kd (inl e) = alone (reading c k p kd e)
        on_link c p k kd (inr e) = alone (choosing c k p kd e)

        gives : (q : ℕ) (l : Told) (s' : State) → LinkOut pg s q l s' → ⊥
        gives q l s' (links_out p c k to v kd sn) = let w = sends_named s st.same_vars st.same_place p c v to sn in alone (writing c k p w.0 kd w.1)

    still : {s : State} → Outside pg (view t) s → Still s
    still stays = record { same_vars = refl; same_place = refl; from_outside = λ c v e. outside_kind c (t.channel c) v (so.records c) e }
    still (then_put {r = s} o u) = putting s (still o) u
      where
        putting : (s : State) → Still s → {c : ℕ} {v : ℤ} {s' : State} → Puts pg s c v s' → Still s'
        putting s st {c} {v} (puts k kd e) = record {
          same_vars = st.same_vars;
          same_place = st.same_place;
          from_outside = λ d w h. changed_case s.link c (Some v) d (λ m. m ≡ Some w → (k : ℕ) × (pg.kind d ≡ Incoming k)) (λ i j. (k, ap pg.kind i ∙ kd)) (λ i j. st.from_outside d w j) h;
        }
    still (then_take {r = s} {r' = s'} {p = q} {t = l} o u) = absurd ((still_silent s (still o)).1 (q, l, s', u))

    pub nothing_ever : (s : State) → Outside pg (view t) s → (¬ CanFire pg s) × (¬ CanLinkOut pg s)
    nothing_ever s o = still_silent s (still o)
