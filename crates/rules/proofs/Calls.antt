-- Load, step, offer and take keep the tables sound and the queue in step with them, and their answers mean what they say.
use Rattle.std.proofs.Common.{sym, refl, ap, ◌∙◌, subst, arith, Bool, Err, List, None, Ok, Result, Some, [], ◌<◌, ◌∷◌, ◌≡◌, ◌≢◌, false, true, ℕ, ℤ}
use mathlib.Core.Path.{fun_ext}
use Rattle.rules.specs.Types.{Absent, Answer, At, End, Ended, Finished, Halted, Held, Holding, Incoming, Line, LinkHolds, Moved, NoLink, NoOutput, Outgoing, Passed, Place, Refusal, Slept, Standing, Stuck, Taken, Waits}
use Rattle.rules.specs.Calls.{Counts, Gives, IdleAnswer, Machine, Offer, StepBy, Take, after_turn, all_ready, at_link, awaits, finishes, idles, lowered, no_link, no_program, offer_to, readied, sticks, take_from, turns}
use Rattle.rules.specs.Flowchart.{Program, input, output}
use Rattle.rules.specs.Functions.{changed}
use Rattle.rules.specs.History.{Call, also_told, offered, stepped, took, with_call}
use Rattle.rules.specs.Primary.{Fires, LinkOut, Puts, Run, Told, by_input, fills, fired, gave_out, links_in, links_out, put_in, puts, sent, start}
use Rattle.rules.specs.Promise.{Means, StepMeans, ended, finished, halted, held, moved, passed, passed_in, passed_out, slept, stuck, waits}
use Rattle.rules.specs.Turns.{Record, Tables, Turn, begun, chooser, did, empty, follower, go, held_value, mark, no_rule, outside, reader, turn, variable_at, view, write, writer}
use Rattle.rules.specs.WellFormed.{Inside, WellFormed, at_output}
use Rattle.rules.proofs.Branches.{marks}
use Rattle.rules.proofs.Changes.{changed_case, changed_here, changed_hidden, changed_shown}
use Rattle.rules.proofs.Counts.{Agree, agree_all, agree_lower, agree_ready, held_ready, marked}
use Rattle.rules.proofs.Ops.{go_op, write_op}
use Rattle.rules.proofs.Sleep.{fill_op, wake_op, with_records}
use Rattle.rules.proofs.Sound.{ChoosesAt, Names, Present, ReadsAt, RecordOk, Sound, WritesAt}
use Rattle.rules.proofs.Turns.{Effect, Good, changed_twice, follower_is, free_of, lead, turn_good, variable_is}
use Rattle.rules.proofs.Uses.{NodeInputs, received}

-- what holds between calls, of a program and what was told since it was loaded
pub record Inv (pg : Program) (t : Tables) (h : Counts) (ts : List Told) : Type 0 where
  pub ready : ℕ → Bool
  pub agree : Agree h ready
  pub sound : Sound pg t ready
  pub run : Run pg (view t) ts

-- what a call keeps
pub record GoodCall (pg : Program) (m : Machine) (ts : List Told) (c : Call) (m' : Machine) : Type 0 where
  pub same_program : m'.program ≡ m.program
  pub inv : Inv pg m'.tables m'.held (with_call c (Some pg, ts)).1
  pub means : Means pg (view m.tables) c (view m'.tables)

module _ (pg : Program) (wf : WellFormed pg) where
  few_present : (t : Tables) (r : ℕ → Bool) → Sound pg t r → (q : ℕ) → Present (t.place q) → q < 64
  few_present t r so q pr = let lt = so.small q pr in let fw = wf.few in omega arith

  -- the queue after a turn
  pub agree_turn : (t' : Tables) (h : Counts) (r : ℕ → Bool) (p : ℕ) (rs : List ℕ) → Agree h r → r p ≡ true → Sound pg t' (marks (changed r p false) rs) →
      Agree (all_ready (lowered h p) rs) (marks (changed r p false) rs)
  agree_turn t' h r p rs a rd so =
      agree_all rs (lowered h p) (changed r p false) (agree_lower h r a p rd)
      (marked rs (changed r p false) (λ q. q < 64) (λ q e. let w = so.ready_at q e in few_present t' (marks (changed r p false) rs) so q (subst Present (sym w.1) tt)))

  runs_on : (t t' : Tables) (ts : List Told) (a : Answer) → Run pg (view t) ts → Effect pg t a t' → Run pg (view t') (also_told (Ok a) ts)
  runs_on t t' ts (Halted p) u e = subst (λ s. Run pg s ts) (sym e) u
  runs_on t t' ts (Moved p) u e = fired u e.2
  runs_on t t' ts (Slept p) u e = subst (λ s. Run pg s ts) (sym e) u
  runs_on t t' ts (Passed p c v) u e = fired u e.2
  runs_on t t' ts (Ended p) u e = subst (λ s. Run pg s ts) (sym e) u
  runs_on t t' ts Finished u e = elim e [ ]
  runs_on t t' ts Waits u e = elim e [ ]
  runs_on t t' ts Stuck u e = elim e [ ]
  runs_on t t' ts (Taken p c v) u e = elim e [ ]
  runs_on t t' ts (Held c v) u e = elim e [ ]

  effect_means : (t t' : Tables) (a : Answer) → Effect pg t a t' → StepMeans pg (view t) a (view t')
  effect_means t t' (Halted p) e = subst (StepMeans pg (view t) (Halted p)) (sym e) (halted p)
  effect_means t t' (Moved p) e = moved p e.1 e.2
  effect_means t t' (Slept p) e = subst (StepMeans pg (view t) (Slept p)) (sym e) (slept p)
  effect_means t t' (Passed p c v) e = passed p c v e.1 e.2
  effect_means t t' (Ended p) e = subst (StepMeans pg (view t) (Ended p)) (sym e) (ended p)
  effect_means t t' Finished e = elim e [ ]
  effect_means t t' Waits e = elim e [ ]
  effect_means t t' Stuck e = elim e [ ]
  effect_means t t' (Taken p c v) e = elim e [ ]
  effect_means t t' (Held c v) e = elim e [ ]

  module _ (m : Machine) (ts : List Told) (v : Inv pg m.tables m.held ts) where
    turn_good_call : (p : ℕ) → 0 < m.held p → (tn : Turn) → Good pg m.tables v.ready p tn → GoodCall pg m ts (stepped (after_turn m p tn).0) (after_turn m p tn).1
    turn_good_call p lt no_rule g = elim g [ ]
    turn_good_call p lt (did a t' rs) g =
        record {
          same_program = refl;
          inv = record {
            ready = marks (changed v.ready p false) rs;
            agree = agree_turn t' m.held v.ready p rs v.agree (held_ready m.held v.ready v.agree p lt) g.0;
            sound = g.0;
            run = runs_on m.tables t' ts a v.run g.1;
          };
          means = effect_means m.tables t' a g.1;
        }

    idle_good_call : (a : Answer) (pg' : Program) → IdleAnswer pg' m.tables a → GoodCall pg m ts (stepped (Ok a)) m
    idle_good_call a pg' (finishes e) = record { same_program = refl; inv = v; means = finished e }
    idle_good_call a pg' (awaits e o) = record { same_program = refl; inv = v; means = waits }
    idle_good_call a pg' (sticks e o) = record { same_program = refl; inv = v; means = stuck }

    pub step_good : m.program ≡ Some pg → (r : Result Answer Refusal) (m' : Machine) → StepBy turn m r m' → GoodCall pg m ts (stepped r) m'
    step_good loaded_is r m' (no_program e g) = let z : ◌≡◌ {A = ℕ} 0 1 = cc in absurd (omega arith)
    step_good loaded_is r m' (turns pg' p e lt g) =
        let same : pg' ≡ pg = cc in
        let g' : Gives (after_turn m p (turn pg m.tables p)) r m' = subst (λ x. Gives (after_turn m p (turn x m.tables p)) r m') same g in
        let o = turn_good_call p lt (turn pg m.tables p) (turn_good pg wf m.tables v.ready v.sound p (held_ready m.held v.ready v.agree p lt)) in
        subst (λ x. GoodCall pg m ts (stepped x) m') (sym g'.0) (subst (GoodCall pg m ts (stepped (after_turn m p (turn pg m.tables p)).0)) (sym g'.1) o)
    step_good loaded_is r m' (idles pg' a e z i g) =
        subst (λ x. GoodCall pg m ts (stepped x) m') (sym g.0) (subst (GoodCall pg m ts (stepped (Ok a))) (sym g.1) (idle_good_call a pg' i))

    -- a refused call changes nothing
    refused_good : (c : Call) → (with_call c (Some pg, ts)).1 ≡ ts → Means pg (view m.tables) c (view m.tables) → GoodCall pg m ts c m
    refused_good c e means = record { same_program = refl; inv = subst (Inv pg m.tables m.held) (sym e) v; means = means }

    -- an offer of x at the incoming link c
    module _ (a c : ℕ) (x : ℤ) (kd : pg.kind c ≡ Incoming a) where
      put_shown : (λ d. held_value (changed m.tables.channel c (outside x) d)) ≡ changed (λ d. held_value (m.tables.channel d)) c (Some x)
      put_shown = fun_ext (λ d. changed_shown held_value m.tables.channel c (outside x) d)

      puts_it : held_value (m.tables.channel c) ≡ None → Puts pg (view m.tables) c x (view (mark m.tables c (outside x)))
      puts_it e = subst (λ l. Puts pg (view m.tables) c x (record { variables = m.tables.variables; place = m.tables.place; link = l })) (sym put_shown) (puts a kd e)

      to_reader : (p : ℕ) → m.tables.channel c ≡ reader p → GoodCall pg m ts (offered a x (offer_to pg m c x (reader p)).0) (offer_to pg m c x (reader p)).1
      to_reader p e =
          let o : (v.ready p ≡ false) × ReadsAt pg m.tables.place p c = subst (RecordOk pg m.tables.place m.tables.variables v.ready c) e (v.sound.records c) in
          let b = o.1 in
          let s1 : Sound pg (mark m.tables c empty) (changed v.ready p true) = wake_op pg m.tables v.ready v.sound c p (subst (λ y. Names y p) (sym e) refl) in
          let rp : changed v.ready p true p ≡ true = changed_here v.ready p true in
          let fp = free_of pg (mark m.tables c empty) (changed v.ready p true) s1 p b.line_number b.stands (λ gs i. let u = b.is_input in let z : ◌≡◌ {A = ℕ} 0 1 = cc in omega arith) in
          let x_is : variable_at pg m.tables p ≡ b.variable_number = variable_is pg wf m.tables v.ready v.sound p b.line_number (input c b.variable_number b.to) b.stands b.is_input in
          let to_is : follower pg m.tables p ≡ b.to = follower_is pg wf m.tables v.ready v.sound p b.line_number (input c b.variable_number b.to) b.stands b.is_input in
          let hp : NodeInputs (pg.node b.line_number) c (variable_at pg m.tables p) = subst (λ n. NodeInputs n c (variable_at pg m.tables p)) (sym b.is_input) (refl, x_is) in
          let s2 = write_op pg wf (mark m.tables c empty) (changed v.ready p true) s1 p b.line_number (variable_at pg m.tables p) x rp b.stands (received c hp) fp in
          let ins : Inside pg p (follower pg m.tables p) = subst (Inside pg p) (sym to_is) (lead pg wf m.tables v.ready v.sound p b.line_number (input c b.variable_number b.to) b.stands b.is_input) in
          let s3 = go_op pg wf (write (mark m.tables c empty) (variable_at pg m.tables p) x) (changed v.ready p true) s2 p (Line b.line_number) (follower pg m.tables p) rp b.stands ins fp in
          let nd : pg.node b.line_number ≡ input c (variable_at pg m.tables p) (follower pg m.tables p) = b.is_input ∙ (ap (λ y. input c y b.to) (sym x_is) ∙ ap (input c (variable_at pg m.tables p)) (sym to_is)) in
          let path : changed (changed (λ d. held_value (m.tables.channel d)) c (Some x)) c None ≡ (λ d. held_value (changed m.tables.channel c empty d)) = changed_twice (λ d. held_value (m.tables.channel d)) c (Some x) None ∙ sym (fun_ext (λ d. changed_shown held_value m.tables.channel c empty d)) in
          let put_first : Puts pg (view m.tables) c x (fills (view m.tables) c (Some x)) = puts a kd (ap held_value e) in
          let in_then : Fires pg (fills (view m.tables) c (Some x)) (p ∷ []) (Some (sent c x)) (view (go (write (mark m.tables c empty) (variable_at pg m.tables p) x) p (follower pg m.tables p))) =
          subst (λ l. Fires pg (fills (view m.tables) c (Some x)) (p ∷ []) (Some (sent c x)) (record { variables = changed m.tables.variables (variable_at pg m.tables p) x; place = changed m.tables.place p (At (follower pg m.tables p)); link = l })) path
          (links_in p c (variable_at pg m.tables p) (follower pg m.tables p) x (by_input b.line_number b.stands nd) (changed_here (λ d. held_value (m.tables.channel d)) c (Some x))) in
          record {
            same_program = refl;
            inv = record {
              ready = changed v.ready p true;
              agree = agree_ready m.held v.ready v.agree p (few_present m.tables v.ready v.sound p (subst Present (sym b.stands) tt));
              sound = s3;
              run = fired (put_in v.run put_first) in_then;
            };
            means = passed_in p c kd put_first in_then;
          }

      to_empty : m.tables.channel c ≡ empty → GoodCall pg m ts (offered a x (offer_to pg m c x empty).0) (offer_to pg m c x empty).1
      to_empty e =
          record {
            same_program = refl;
            inv = record {
              ready = v.ready;
              agree = v.agree;
              sound = fill_op pg m.tables v.ready v.sound c (outside x) (λ q i. subst (λ y. Names y q) e i) (a, kd);
              run = put_in v.run (puts_it (ap held_value e));
            };
            means = held c kd (puts_it (ap held_value e));
          }

      to_chooser : (p : ℕ) → m.tables.channel c ≡ chooser p → GoodCall pg m ts (offered a x (offer_to pg m c x (chooser p)).0) (offer_to pg m c x (chooser p)).1
      to_chooser p e =
          let b : ChoosesAt pg m.tables.place m.tables.variables p c = subst (RecordOk pg m.tables.place m.tables.variables v.ready c) e (v.sound.records c) in
          let s1 : Sound pg (mark m.tables c empty) (changed v.ready p true) = wake_op pg m.tables v.ready v.sound c p (subst (λ y. Names y p) (sym e) refl) in
          let s2 = fill_op pg (mark m.tables c empty) (changed v.ready p true) s1 c (outside x) (λ q i. subst (λ y. Names y q) (changed_here m.tables.channel c empty) i) (a, kd) in
          record {
            same_program = refl;
            inv = record {
              ready = changed v.ready p true;
              agree = agree_ready m.held v.ready v.agree p (few_present m.tables v.ready v.sound p (subst Present (sym b.stands) tt));
              sound = subst (λ f. Sound pg (with_records m.tables f) (changed v.ready p true)) (changed_twice m.tables.channel c empty (outside x)) s2;
              run = put_in v.run (puts_it (ap held_value e));
            };
            means = held c kd (puts_it (ap held_value e));
          }

      -- a writer sleeps on no incoming link
      not_writer : (p : ℕ) (w : ℤ) → m.tables.channel c ≡ writer p w → ⊥
      not_writer p w e =
          let b : WritesAt pg m.tables.place m.tables.variables p c w = (subst (RecordOk pg m.tables.place m.tables.variables v.ready c) e (v.sound.records c)).1 in
          wf.outputs_out b.line_number c a (at_output b.expression b.to b.is_output) kd

      by_record : (k : Record) → m.tables.channel c ≡ k → GoodCall pg m ts (offered a x (offer_to pg m c x k).0) (offer_to pg m c x k).1
      by_record empty e = to_empty e
      by_record (reader p) e = to_reader p e
      by_record (writer p w) e = absurd (not_writer p w e)
      by_record (chooser p) e = to_chooser p e
      by_record (outside w) e = refused_good (offered a x (Err LinkHolds)) refl ((λ i. let z : ◌≡◌ {A = ℕ} 0 1 = cc in omega arith), refl)

    pub offer_good : m.program ≡ Some pg → (a : ℕ) (x : ℤ) (r : Result Answer Refusal) (m' : Machine) → Offer m a x r m' → GoodCall pg m ts (offered a x r) m'
    offer_good loaded_is a x r m' (no_program e g) = let z : ◌≡◌ {A = ℕ} 0 1 = cc in absurd (omega arith)
    offer_good loaded_is a x r m' (no_link pg' e f g) =
        subst (λ y. GoodCall pg m ts (offered a x y) m') (sym g.0) (subst (GoodCall pg m ts (offered a x (Err NoLink))) (sym g.1)
        (refused_good (offered a x (Err NoLink)) refl ((λ i. let z : ◌≡◌ {A = ℕ} 0 1 = cc in omega arith), refl)))
    offer_good loaded_is a x r m' (at_link pg' c e kd g) =
        let same : pg' ≡ pg = cc in
        let g' : Gives (offer_to pg m c x (m.tables.channel c)) r m' = subst (λ y. Gives (offer_to y m c x (m.tables.channel c)) r m') same g in
        let kd' : pg.kind c ≡ Incoming a = subst (λ y. y.kind c ≡ Incoming a) same kd in
        subst (λ y. GoodCall pg m ts (offered a x y) m') (sym g'.0)
        (subst (GoodCall pg m ts (offered a x (offer_to pg m c x (m.tables.channel c)).0)) (sym g'.1) (by_record a c x kd' (m.tables.channel c) refl))

    -- a take at the outgoing link c
    module _ (a c : ℕ) (kd : pg.kind c ≡ Outgoing a) where
      from_writer : (p : ℕ) (x : ℤ) → m.tables.channel c ≡ writer p x → GoodCall pg m ts (took a (take_from pg m c (writer p x)).0) (take_from pg m c (writer p x)).1
      from_writer p x e =
          let o : (v.ready p ≡ false) × WritesAt pg m.tables.place m.tables.variables p c x = subst (RecordOk pg m.tables.place m.tables.variables v.ready c) e (v.sound.records c) in
          let b = o.1 in
          let s1 : Sound pg (mark m.tables c empty) (changed v.ready p true) = wake_op pg m.tables v.ready v.sound c p (subst (λ y. Names y p) (sym e) refl) in
          let fp = free_of pg (mark m.tables c empty) (changed v.ready p true) s1 p b.line_number b.stands (λ gs i. let u = b.is_output in let z : ◌≡◌ {A = ℕ} 0 1 = cc in omega arith) in
          let to_is : follower pg m.tables p ≡ b.to = follower_is pg wf m.tables v.ready v.sound p b.line_number (output c b.expression b.to) b.stands b.is_output in
          let ins : Inside pg p (follower pg m.tables p) = subst (Inside pg p) (sym to_is) (lead pg wf m.tables v.ready v.sound p b.line_number (output c b.expression b.to) b.stands b.is_output) in
          let s2 = go_op pg wf (mark m.tables c empty) (changed v.ready p true) s1 p (Line b.line_number) (follower pg m.tables p) (changed_here v.ready p true) b.stands ins fp in
          let out : LinkOut pg (view m.tables) p (sent c x) (view (go (mark m.tables c empty) p (follower pg m.tables p))) =
          subst (λ l. LinkOut pg (view m.tables) p (sent c x) (record { variables = m.tables.variables; place = changed m.tables.place p (At (follower pg m.tables p)); link = l }))
          (sym (fun_ext (changed_hidden held_value m.tables.channel c empty (sym (ap held_value e)))))
          (links_out p c a (follower pg m.tables p) x kd (record { line_number = b.line_number; expression = b.expression; stands = b.stands; is_output = b.is_output ∙ ap (output c b.expression) (sym to_is); has_value = b.has_value })) in
          record {
            same_program = refl;
            inv = record {
              ready = changed v.ready p true;
              agree = agree_ready m.held v.ready v.agree p (few_present m.tables v.ready v.sound p (subst Present (sym b.stands) tt));
              sound = s2;
              run = gave_out v.run out;
            };
            means = passed_out p c x kd out;
          }

      no_output : GoodCall pg m ts (took a (Err NoOutput)) m
      no_output = refused_good (took a (Err NoOutput)) refl ((λ i. let z : ◌≡◌ {A = ℕ} 0 1 = cc in omega arith), refl)

      from_record : (k : Record) → m.tables.channel c ≡ k → GoodCall pg m ts (took a (take_from pg m c k).0) (take_from pg m c k).1
      from_record empty e = no_output
      from_record (reader p) e = no_output
      from_record (writer p x) e = from_writer p x e
      from_record (chooser p) e = no_output
      from_record (outside x) e = no_output

    pub take_good : m.program ≡ Some pg → (a : ℕ) (r : Result Answer Refusal) (m' : Machine) → Take m a r m' → GoodCall pg m ts (took a r) m'
    take_good loaded_is a r m' (no_program e g) = let z : ◌≡◌ {A = ℕ} 0 1 = cc in absurd (omega arith)
    take_good loaded_is a r m' (no_link pg' e f g) =
        subst (λ y. GoodCall pg m ts (took a y) m') (sym g.0) (subst (GoodCall pg m ts (took a (Err NoLink))) (sym g.1)
        (refused_good (took a (Err NoLink)) refl ((λ i. let z : ◌≡◌ {A = ℕ} 0 1 = cc in omega arith), refl)))
    take_good loaded_is a r m' (at_link pg' c e kd g) =
        let same : pg' ≡ pg = cc in
        let g' : Gives (take_from pg m c (m.tables.channel c)) r m' = subst (λ y. Gives (take_from y m c (m.tables.channel c)) r m') same g in
        let kd' : pg.kind c ≡ Outgoing a = subst (λ y. y.kind c ≡ Outgoing a) same kd in
        subst (λ y. GoodCall pg m ts (took a y) m') (sym g'.0)
        (subst (GoodCall pg m ts (took a (take_from pg m c (m.tables.channel c)).0)) (sym g'.1) (from_record a c kd' (m.tables.channel c) refl))

  -- after a load
  first_place : ℕ → Standing
  first_place = changed (λ p. Absent) 0 (At pg.entry)

  first_case : (q : ℕ) (P : Standing → Type 0) → (q ≡ 0 → P (At pg.entry)) → P Absent → P (first_place q)
  unfolding first_place
  first_case q P a b = changed_case (λ p. Absent) 0 (At pg.entry) q P a (λ ne. b)

  first_at : (q : ℕ) (s : Standing) → first_place q ≡ s → s ≢ Absent → (q ≡ 0) × (s ≡ At pg.entry)
  first_at q s e ne = first_case q (λ a. a ≡ s → (q ≡ 0) × (s ≡ At pg.entry)) (λ z i. (z, sym i)) (λ i. absurd (ne (sym i))) e

  load_sound : Sound pg (begun pg) (changed (λ p. false) 0 true)
  unfolding first_place
  load_sound = record {
    rooted = subst Present (sym (changed_here (λ p. Absent) 0 (At pg.entry))) tt;
    small = λ q h. first_case q (λ a. Present a → q < pg.processes) (λ e i. let w = wf.root in omega arith) (λ i. elim i [ ]) h;
    owned = λ q n h. let w = first_at q (At (Line n)) h (λ i. let z : ◌≡◌ {A = ℕ} 0 1 = cc in omega arith) in let j : pg.entry ≡ Line n = let u = w.1 in cc in (let o : pg.owner n ≡ 0 = subst (Inside pg 0) j wf.entry_inside in o) ∙ sym w.0;
    holder = λ q n h. let w = first_at q (Holding n) h (λ i. let z : ◌≡◌ {A = ℕ} 0 1 = cc in omega arith) in let u = w.1 in let z : ◌≡◌ {A = ℕ} 0 1 = cc in absurd (omega arith);
    up = λ q h lt. first_case q (λ a. Present a → first_place (pg.parent q) ≡ Holding (pg.home q)) (λ e i. absurd (omega arith)) (λ i. elim i [ ]) h;
    unjoined = λ q n bs s h i a. let w = first_at q (Holding n) h (λ j. let z : ◌≡◌ {A = ℕ} 0 1 = cc in omega arith) in let u = w.1 in let z : ◌≡◌ {A = ℕ} 0 1 = cc in omega arith;
    ready_at = λ q h. changed_case (λ p. false) 0 true q (λ b. b ≡ true → (s : Place) × (first_place q ≡ At s)) (λ e i. (pg.entry, ap first_place e ∙ changed_here (λ p. Absent) 0 (At pg.entry))) (λ e i. let z : ◌≡◌ {A = ℕ} 0 1 = cc in absurd (omega arith)) h;
    records = λ c. tt;
    asleep = λ q n a h. let w = first_at q (At (Line n)) h (λ i. let z : ◌≡◌ {A = ℕ} 0 1 = cc in omega arith) in let e1 = w.0 in let e2 = changed_here (λ p. false) 0 true in let z : ◌≡◌ {A = ℕ} 0 1 = cc in absurd (omega arith);
    ended_is = λ q h. let z : ◌≡◌ {A = ℕ} 0 1 = cc in absurd (omega arith);
    asleep_ended = λ q a h. let w = first_at q (At End) h (λ i. let z : ◌≡◌ {A = ℕ} 0 1 = cc in omega arith) in let e1 = w.0 in let e2 = changed_here (λ p. false) 0 true in cc;
  }

  pub load_inv : Inv pg (begun pg) (readied (λ p. 0) 0) []
  load_inv = record { ready = changed (λ p. false) 0 true; agree = agree_ready (λ p. 0) (λ p. false) (λ p. refl) 0 (omega arith); sound = load_sound; run = start }
