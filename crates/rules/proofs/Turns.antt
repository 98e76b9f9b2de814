-- A turn of a ready process fires a rule or none, meets no record without a rule, and keeps the tables sound.
use Rattle.std.proofs.Common.{sym, refl, ap, ◌∙◌, subst, arith, Bool, List, None, Option, Some, [], ◌<◌, ◌∷◌, ◌≡◌, ◌≢◌, ◌⊎◌, cond, eqb, false, map, true, ℕ, ℤ, inl, inr}
use mathlib.Core.Path.{fun_ext}
use Rattle.std.proofs.lemmas.Bool.{cases_eq, cond_both, eqb-false, eqb-true}
use Rattle.rules.specs.Types.{Absent, Answer, At, End, Ended, Expression, Finished, Halted, Held, Holding, Incoming, Internal, Kind, Line, Moved, Outgoing, Passed, Place, Slept, Standing, Store, Stuck, Taken, Waits, int_value, truth_value}
use Rattle.rules.specs.Flowchart.{Branch, Guard, Node, Program, alt, assignment, input, input_guard, output, par, skip, skip_guard, stop, test}
use Rattle.rules.specs.Functions.{All, In, changed}
use Rattle.rules.specs.Primary.{Fires, Receives, Sends, State, Told, assigns, by_guard, by_input, communicates, joins, leaves, links_in, passes_par, sent, skips, starts_par, takes_skip, tests}
use Rattle.rules.specs.Turns.{Choice, Record, Tables, Turn, after_value, all_valued, alt_turn, any_true, by_outside, by_skip, by_writer, choose, chooser, did, empty, end_turn, enlist, enlisted, exchange, follower, freed, go, held_value, input_turn, internal_output, line_of, line_turn, link_output, mark, no_guard, no_rule, others_ended, output_turn, outside, par_turn, place_turn, reader, release, turn, unended, unruled, variable_at, view, write, writer}
use Rattle.rules.specs.WellFormed.{BranchOf, GuardsInside, Inside, Leads, WellFormed}
use Rattle.rules.proofs.Branches.{all_in, in_all, in_processes, marks, others_from}
use Rattle.rules.proofs.Changes.{changed_case, changed_here, changed_hidden, changed_shown, changed_there}
use Rattle.rules.proofs.Choices.{Barred, ChoiceOk, TrueGuard, choice_is, enlist_held, none_true, release_held, valued_is}
use Rattle.rules.proofs.Enlist.{calm, enlist_op}
use Rattle.rules.proofs.Join.{done, holds, join_op, p_in}
use Rattle.rules.proofs.Ops.{differ, go_op, write_op}
use Rattle.rules.proofs.Par.{ended_op, spawn_op}
use Rattle.rules.proofs.Sleep.{fill_op, free_op, freed_free, rest_op, sleep_op, wake_op, with_records}
use Rattle.rules.proofs.Sound.{ChoosesAt, Names, Present, RecordOk, Rests, Sound, WritesAt}
use Rattle.rules.proofs.Tree.{active_apart}
use Rattle.rules.proofs.Uses.{NodeInputs, NodeOutputs, assigned, in_guards_input, inputs_line, outputs_line, received}

-- what a turn's answer says of the rules: one fired, or the state stayed; no turn gives an answer of offers, takes or an empty queue
abbrev pub Effect : Program → Tables → Answer → Tables → Type 0
Effect pg t (Halted p) t' = view t' ≡ view t
Effect pg t (Moved p) t' = (ps : List ℕ) × In p ps × Fires pg (view t) ps None (view t')
Effect pg t (Slept p) t' = view t' ≡ view t
Effect pg t (Passed p c v) t' = (ps : List ℕ) × In p ps × Fires pg (view t) ps (Some (sent c v)) (view t')
Effect pg t (Ended p) t' = view t' ≡ view t
Effect pg t Finished t' = ⊥
Effect pg t Waits t' = ⊥
Effect pg t Stuck t' = ⊥
Effect pg t (Taken p c v) t' = ⊥
Effect pg t (Held c v) t' = ⊥

-- a turn has a rule, keeps the tables sound, and does what its answer says
abbrev pub Good : Program → Tables → (ℕ → Bool) → ℕ → Turn → Type 0
Good pg t r p no_rule = ⊥
Good pg t r p (did a t' rs) = Sound pg t' (marks (changed r p false) rs) × Effect pg t a t'

-- the queue after the turn
marks_one : (r : ℕ → Bool) (p : ℕ) → r p ≡ true → r ≡ marks (changed r p false) (p ∷ [])
marks_one r p h =
    fun_ext (λ j. changed_case (changed r p false) p true j (λ a. r j ≡ a) (λ e. ap r e ∙ h) (λ ne. sym (changed_there r p false j ne)))

marks_two : (r : ℕ → Bool) (p q : ℕ) → r p ≡ true → changed r q true ≡ marks (changed r p false) (q ∷ (p ∷ []))
marks_two r p q h =
    fun_ext (λ j. changed_case (changed (changed r p false) q true) p true j (λ a. changed r q true j ≡ a)
    (λ e. changed_case r q true j (λ a. a ≡ true) (λ i. refl) (λ i. ap r e ∙ h))
    (λ ne. changed_case (changed r p false) q true j (λ a. changed r q true j ≡ a) (λ e. changed_case r q true j (λ a. a ≡ true) (λ i. refl) (λ i. absurd (i e)))
    (λ nq. changed_there r q true j nq ∙ sym (changed_there r p false j ne))))

marks_other : (r : ℕ → Bool) (p q : ℕ) → q ≢ p → changed (changed r q true) p false ≡ marks (changed r p false) (q ∷ [])
marks_other r p q ne =
    fun_ext (λ j. changed_case (changed r p false) q true j (λ a. changed (changed r q true) p false j ≡ a)
    (λ e. changed_there (changed r q true) p false j (λ i. ne (sym e ∙ i)) ∙ (ap (changed r q true) e ∙ changed_here r q true))
    (λ nq. changed_case (changed r q true) p false j (λ a. a ≡ changed r p false j) (λ e. sym (ap (changed r p false) e ∙ changed_here r p false)) (λ np. changed_there r q true j nq ∙ sym (changed_there r p false j np))))

pub changed_twice : {A : Type 0} (f : ℕ → A) (c : ℕ) (a b : A) → changed (changed f c a) c b ≡ changed f c b
changed_twice f c a b =
    fun_ext (λ j. changed_case (changed f c a) c b j (λ x. x ≡ changed f c b j) (λ e. sym (ap (changed f c b) e ∙ changed_here f c b)) (λ ne. changed_there f c a j ne ∙ sym (changed_there f c b j ne)))

-- who stands at no ALT is nobody's chooser
pub free_of : (pg : Program) (t : Tables) (r : ℕ → Bool) → Sound pg t r → (p n : ℕ) → t.place p ≡ At (Line n) → ((gs : List Guard) → pg.node n ≢ alt gs) → (d : ℕ) → t.channel d ≢ chooser p
free_of pg t r so p n e na d i =
    let b : ChoosesAt pg t.place t.variables p d = subst (RecordOk pg t.place t.variables r d) i (so.records d) in
    na b.guards (let u = b.stands in let w = b.is_alt in cc)

module _ (pg : Program) (wf : WellFormed pg) (t : Tables) (r : ℕ → Bool) (so : Sound pg t r) where
  pub lead : (p n : ℕ) (m : Node) → t.place p ≡ At (Line n) → pg.node n ≡ m → Leads pg p m
  lead p n m e i = subst (λ q. Leads pg q m) (so.owned p n e) (subst (Leads pg (pg.owner n)) i (wf.leads n))

  free_at : (p n : ℕ) → t.place p ≡ At (Line n) → ((gs : List Guard) → pg.node n ≢ alt gs) → (c : ℕ) → t.channel c ≢ chooser p
  free_at p n e na = free_of pg t r so p n e na

  one_inputs_at : (p q m n c x y : ℕ) → p ≢ q → t.place p ≡ At (Line m) → t.place q ≡ At (Line n) → NodeInputs (pg.node m) c x → NodeInputs (pg.node n) c y → ⊥
  one_inputs_at p q m n c x y ne a b h i = (active_apart pg wf t r so p q m n ne a b).one_inputs_lem c x y h i

  one_outputs_at : (p q m n c : ℕ) → p ≢ q → t.place p ≡ At (Line m) → t.place q ≡ At (Line n) → NodeOutputs (pg.node m) c → NodeOutputs (pg.node n) c → ⊥
  one_outputs_at p q m n c ne a b h i = (active_apart pg wf t r so p q m n ne a b).one_outputs_lem c h i

  choice_inputs : (p c : ℕ) (a : ChoosesAt pg t.place t.variables p c) → NodeInputs (pg.node a.line_number) c a.variable_number
  choice_inputs p c a = subst (λ m. NodeInputs m c a.variable_number) (sym a.is_alt) (in_guards_input a.guards a.condition c a.variable_number a.to a.guard_in)

  pub follower_is : (q n : ℕ) (m : Node) → t.place q ≡ At (Line n) → pg.node n ≡ m → follower pg t q ≡ (exchange m).1
  follower_is q n m e i = ap (λ s. (exchange (pg.node (line_of s))).1) e ∙ ap (λ k. (exchange k).1) i

  pub variable_is : (q n : ℕ) (m : Node) → t.place q ≡ At (Line n) → pg.node n ≡ m → variable_at pg t q ≡ (exchange m).0
  variable_is q n m e i = ap (λ s. (exchange (pg.node (line_of s))).0) e ∙ ap (λ k. (exchange k).0) i

  rec_at : (c : ℕ) (k : Record) → t.channel c ≡ k → RecordOk pg t.place t.variables r c k
  rec_at c k e = subst (RecordOk pg t.place t.variables r c) e (so.records c)

  -- p's turn
  module _ (p n : ℕ) (ready : r p ≡ true) (stands : t.place p ≡ At (Line n)) where
    -- a rule that fires, or a state that stays, where links show the same
    linked : {ps : List ℕ} (l : ℕ → Option ℤ) (o : Option Told) (s : Store) (f : ℕ → Standing) → ((c : ℕ) → l c ≡ held_value (t.channel c)) → Fires pg (view t) ps o (record { variables = s; place = f; link = λ c. held_value (t.channel c) }) → Fires pg (view t) ps o (record { variables = s; place = f; link = l })
    linked {ps} l o s f h u = subst (λ k. Fires pg (view t) ps o (record { variables = s; place = f; link = k })) (sym (fun_ext h)) u

    stayed : (l : ℕ → Option ℤ) → ((c : ℕ) → l c ≡ held_value (t.channel c)) → ◌≡◌ {A = State} (record { variables = t.variables; place = t.place; link = l }) (view t)
    stayed l h = ap {B = State} (λ k. record { variables = t.variables; place = t.place; link = k }) (fun_ext h)

    emptied : {ps : List ℕ} (c : ℕ) (o : Option Told) (s : Store) (f : ℕ → Standing) → Fires pg (view t) ps o (record { variables = s; place = f; link = changed (λ d. held_value (t.channel d)) c None }) → Fires pg (view t) ps o (record { variables = s; place = f; link = λ d. held_value (changed t.channel c empty d) })
    emptied {ps} c o s f u = subst (λ k. Fires pg (view t) ps o (record { variables = s; place = f; link = k })) (sym (fun_ext (λ d. changed_shown held_value t.channel c empty d))) u

    halts : Rests t.variables t.channel p (pg.node n) → Good pg t r p (did (Halted p) t [])
    halts h = (rest_op pg t r so p n stands h, refl)

    simple : (to : Place) → Inside pg p to → ((gs : List Guard) → pg.node n ≢ alt gs) → Fires pg (view t) (p ∷ []) None (view (go t p to)) → Good pg t r p (did (Moved p) (go t p to) (p ∷ []))
    simple to ins na f =
        (subst (Sound pg (go t p to)) (marks_one r p ready) (go_op pg wf t r so p (Line n) to ready stands ins (free_at p n stands na)), (p ∷ [], inl refl, f))

    assign_good : (x : ℕ) (e : Expression) (to : Place) → pg.node n ≡ assignment x e to → (m : Option ℤ) → int_value t.variables e ≡ m → Good pg t r p (after_value m t p (λ v. did (Moved p) (go (write t x v) p to) (p ∷ [])))
    assign_good x e to nd None i = halts (subst (Rests t.variables t.channel p) (sym nd) i)
    assign_good x e to nd (Some v) i =
        let free = free_at p n stands (λ gs h. let z : ◌≡◌ {A = ℕ} 0 1 = cc in omega arith) in
        let s1 = write_op pg wf t r so p n x v ready stands (assigned e to nd) free in
        let s2 = go_op pg wf (write t x v) r s1 p (Line n) to ready stands (lead p n (assignment x e to) stands nd) free in
        (subst (Sound pg (go (write t x v) p to)) (marks_one r p ready) s2, (p ∷ [], inl refl, assigns p n x e to v stands nd i))

    test_good : (e : Expression) (a b : Place) → pg.node n ≡ test e a b → (m : Option Bool) → truth_value t.variables e ≡ m → Good pg t r p (after_value m t p (λ v. did (Moved p) (go t p (cond v a b)) (p ∷ [])))
    test_good e a b nd None i = halts (subst (Rests t.variables t.channel p) (sym nd) i)
    test_good e a b nd (Some true) i = simple a (lead p n (test e a b) stands nd).0 (λ gs h. let z : ◌≡◌ {A = ℕ} 0 1 = cc in omega arith) (tests p n e a b true stands nd i)
    test_good e a b nd (Some false) i = simple b (lead p n (test e a b) stands nd).1 (λ gs h. let z : ◌≡◌ {A = ℕ} 0 1 = cc in omega arith) (tests p n e a b false stands nd i)

    -- a value goes from q, which sleeps as writer, to p
    module _ (c x q : ℕ) (to : Place) (v : ℤ) (is_writer : t.channel c ≡ writer q v) where
      sends : WritesAt pg t.place t.variables q c v → Sends pg (view t) q c v (follower pg t q)
      sends a = record { line_number = a.line_number; expression = a.expression; stands = a.stands; is_output = a.is_output ∙ ap (output c a.expression) (sym (follower_is q a.line_number (output c a.expression a.to) a.stands a.is_output)); has_value = a.has_value }

    input_good : (c x : ℕ) (to : Place) → pg.node n ≡ input c x to → (k : Record) → t.channel c ≡ k → Good pg t r p (input_turn pg t p c x to k)
    input_good c x to nd empty e = (
      sleep_op pg t r so p n stands c (reader p) e (changed_here r p false, record { line_number = n; variable_number = x; to = to; stands = stands; is_input = nd }) (subst (Rests t.variables (changed t.channel c (reader p)) p) (sym nd) (changed_here t.channel c (reader p))),
      stayed (λ d. held_value (changed t.channel c (reader p) d)) (changed_hidden held_value t.channel c (reader p) (sym (ap held_value e))),
    )
    input_good c x to nd (reader q) e =
        let o = rec_at c (reader q) e in
        let a = o.1 in
        one_inputs_at p q n a.line_number c x a.variable_number (λ i. differ r q p o.0 ready (sym i)) stands a.stands (subst (λ m. NodeInputs m c x) (sym nd) (refl, refl)) (subst (λ m. NodeInputs m c a.variable_number) (sym a.is_input) (refl, refl))
    input_good c x to nd (chooser q) e =
        let a = rec_at c (chooser q) e in
        one_inputs_at p q n a.line_number c x a.variable_number (λ i. let u = a.stands in let w = a.is_alt in let z : ◌≡◌ {A = ℕ} 0 1 = cc in omega arith) stands a.stands (subst (λ m. NodeInputs m c x) (sym nd) (refl, refl)) (choice_inputs q c a)
    input_good c x to nd (outside v) e =
        let free = free_at p n stands (λ gs h. let z : ◌≡◌ {A = ℕ} 0 1 = cc in omega arith) in
        let free' : (d : ℕ) → changed t.channel c empty d ≢ chooser p = λ d. changed_case t.channel c empty d (λ k. k ≢ chooser p) (λ i j. let z : ◌≡◌ {A = ℕ} 0 1 = cc in omega arith) (λ i. free d) in
        let s1 = fill_op pg t r so c empty (λ q i. subst (λ k. Names k q) e i) tt in
        let s2 = write_op pg wf (mark t c empty) r s1 p n x v ready stands (received c (subst (λ m. NodeInputs m c x) (sym nd) (refl, refl))) free' in
        let s3 = go_op pg wf (write (mark t c empty) x v) r s2 p (Line n) to ready stands (lead p n (input c x to) stands nd) free' in (
          subst (Sound pg (go (write (mark t c empty) x v) p to)) (marks_one r p ready) s3,
          (p ∷ [], inl refl, emptied c (Some (sent c v)) (changed t.variables x v) (changed t.place p (At to)) (links_in p c x to v (by_input n stands nd) (ap held_value e))),
        )
    input_good c x to nd (writer q v) e =
        let o = rec_at c (writer q v) e in
        let a = o.1 in
        let ne : p ≢ q = λ i. differ r q p o.0 ready (sym i) in
        let s1 : Sound pg (mark t c empty) (changed r q true) = wake_op pg t r so c q (subst (λ k. Names k q) (sym e) refl) in
        let rp : changed r q true p ≡ true = changed_there r q true p ne ∙ ready in
        let freep = free_of pg (mark t c empty) (changed r q true) s1 p n stands (λ gs h. let z : ◌≡◌ {A = ℕ} 0 1 = cc in omega arith) in
        let freeq = free_of pg (mark t c empty) (changed r q true) s1 q a.line_number a.stands (λ gs h. let u = a.is_output in let z : ◌≡◌ {A = ℕ} 0 1 = cc in omega arith) in
        let s2 = write_op pg wf (mark t c empty) (changed r q true) s1 p n x v rp stands (received c (subst (λ m. NodeInputs m c x) (sym nd) (refl, refl))) freep in
        let insq : Inside pg q (follower pg t q) = subst (Inside pg q) (sym (follower_is q a.line_number (output c a.expression a.to) a.stands a.is_output)) (lead q a.line_number (output c a.expression a.to) a.stands a.is_output) in
        let s3 = go_op pg wf (write (mark t c empty) x v) (changed r q true) s2 q (Line a.line_number) (follower pg t q) (changed_here r q true) a.stands insq freeq in
        let s4 = go_op pg wf (go (write (mark t c empty) x v) q (follower pg t q)) (changed r q true) s3 p (Line n) to rp (changed_there t.place q (At (follower pg t q)) p ne ∙ stands) (lead p n (input c x to) stands nd) freep in (
          subst (Sound pg (go (go (write (mark t c empty) x v) q (follower pg t q)) p to)) (marks_two r p q ready) s4,
          (
            p ∷ (q ∷ []),
            inl refl,
            linked (λ d. held_value (changed t.channel c empty d)) (Some (sent c v)) (changed t.variables x v) (changed (changed t.place q (At (follower pg t q))) p (At to)) (changed_hidden held_value t.channel c empty (sym (ap held_value e)))
                (communicates p q c x to (follower pg t q) v (by_input n stands nd) (sends c x q to v e a)),
          ),
        )

    -- output of v to c
    module _ (c : ℕ) (e : Expression) (to : Place) (v : ℤ) (nd : pg.node n ≡ output c e to) (val : int_value t.variables e ≡ Some v) where
      outputs_it : NodeOutputs (pg.node n) c
      outputs_it = subst (λ m. NodeOutputs m c) (sym nd) refl

      no_alt : (gs : List Guard) → pg.node n ≢ alt gs
      no_alt gs h = let z : ◌≡◌ {A = ℕ} 0 1 = cc in omega arith

      sleeps : t.channel c ≡ empty → Good pg t r p (did (Slept p) (mark t c (writer p v)) [])
      sleeps e0 = (
        sleep_op pg t r so p n stands c (writer p v) e0 (changed_here r p false, record { line_number = n; expression = e; to = to; stands = stands; is_output = nd; has_value = val })
            (subst (Rests t.variables (changed t.channel c (writer p v)) p) (sym nd) (inr (v, changed_here t.channel c (writer p v)))),
        stayed (λ d. held_value (changed t.channel c (writer p v) d)) (changed_hidden held_value t.channel c (writer p v) (sym (ap held_value e0))),
      )

      not_two : (q : ℕ) (w : ℤ) → t.channel c ≡ writer q w → ⊥
      not_two q w i =
          let o = rec_at c (writer q w) i in
          let a = o.1 in
          one_outputs_at p q n a.line_number c (λ j. differ r q p o.0 ready (sym j)) stands a.stands outputs_it (subst (λ m. NodeOutputs m c) (sym a.is_output) refl)

      to_reader : (q : ℕ) → t.channel c ≡ reader q → Good pg t r p (internal_output pg t p c v to (reader q))
      to_reader q i =
          let o = rec_at c (reader q) i in
          let a = o.1 in
          let ne : p ≢ q = λ j. differ r q p o.0 ready (sym j) in
          let s1 : Sound pg (mark t c empty) (changed r q true) = wake_op pg t r so c q (subst (λ k. Names k q) (sym i) refl) in
          let rp : changed r q true p ≡ true = changed_there r q true p ne ∙ ready in
          let rq : changed r q true q ≡ true = changed_here r q true in
          let freep = free_of pg (mark t c empty) (changed r q true) s1 p n stands no_alt in
          let freeq = free_of pg (mark t c empty) (changed r q true) s1 q a.line_number a.stands (λ gs h. let u = a.is_input in let z : ◌≡◌ {A = ℕ} 0 1 = cc in omega arith) in
          let x_is : variable_at pg t q ≡ a.variable_number = variable_is q a.line_number (input c a.variable_number a.to) a.stands a.is_input in
          let to_is : follower pg t q ≡ a.to = follower_is q a.line_number (input c a.variable_number a.to) a.stands a.is_input in
          let hq : NodeInputs (pg.node a.line_number) c (variable_at pg t q) = subst (λ m. NodeInputs m c (variable_at pg t q)) (sym a.is_input) (refl, x_is) in
          let s2 = write_op pg wf (mark t c empty) (changed r q true) s1 q a.line_number (variable_at pg t q) v rq a.stands (received c hq) freeq in
          let insq : Inside pg q (follower pg t q) = subst (Inside pg q) (sym to_is) (lead q a.line_number (input c a.variable_number a.to) a.stands a.is_input) in
          let s3 = go_op pg wf (write (mark t c empty) (variable_at pg t q) v) (changed r q true) s2 q (Line a.line_number) (follower pg t q) rq a.stands insq freeq in
          let s4 = go_op pg wf (go (write (mark t c empty) (variable_at pg t q) v) q (follower pg t q)) (changed r q true) s3 p (Line n) to rp (changed_there t.place q (At (follower pg t q)) p ne ∙ stands) (lead p n (output c e to) stands nd) freep in
          let nodeq : pg.node a.line_number ≡ input c (variable_at pg t q) (follower pg t q) = a.is_input ∙ (ap (λ y. input c y a.to) (sym x_is) ∙ ap (input c (variable_at pg t q)) (sym to_is)) in
          let swapped = swap t.place q p (At (follower pg t q)) (At to) (λ j. ne (sym j)) in (
            subst (Sound pg (go (go (write (mark t c empty) (variable_at pg t q) v) q (follower pg t q)) p to)) (marks_two r p q ready) s4,
            (
              q ∷ (p ∷ []),
              inr (inl refl),
              linked (λ d. held_value (changed t.channel c empty d)) (Some (sent c v)) (changed t.variables (variable_at pg t q) v) (changed (changed t.place q (At (follower pg t q))) p (At to)) (changed_hidden held_value t.channel c empty (sym (ap held_value i)))
                  (subst (λ f. Fires pg (view t) (q ∷ (p ∷ [])) (Some (sent c v)) (record { variables = changed t.variables (variable_at pg t q) v; place = f; link = λ d. held_value (t.channel d) })) (sym swapped)
                  (communicates q p c (variable_at pg t q) (follower pg t q) to v (by_input a.line_number a.stands nodeq) (record { line_number = n; expression = e; stands = stands; is_output = nd; has_value = val }))),
            ),
          )
        where
          swap : (f : ℕ → Standing) (i j : ℕ) (a b : Standing) → i ≢ j → changed (changed f i a) j b ≡ changed (changed f j b) i a
          swap f i j a b ne =
              fun_ext (λ k. changed_case (changed f i a) j b k (λ x. x ≡ changed (changed f j b) i a k)
              (λ h. sym (changed_there (changed f j b) i a k (λ l. ne (sym l ∙ h)) ∙ (ap (changed f j b) h ∙ changed_here f j b)))
              (λ h. changed_case f i a k (λ x. x ≡ changed (changed f j b) i a k) (λ l. sym (ap (changed (changed f j b) i a) l ∙ changed_here (changed f j b) i a)) (λ l. sym (changed_there (changed f j b) i a k l ∙ changed_there f j b k h))))

      to_chooser : (q : ℕ) → t.channel c ≡ chooser q → Good pg t r p (internal_output pg t p c v to (chooser q))
      to_chooser q i =
          let a = rec_at c (chooser q) i in
          let ne : q ≢ p = λ j. let u = a.stands in let w = a.is_alt in let z : ◌≡◌ {A = ℕ} 0 1 = cc in omega arith in
          let s1 : Sound pg (mark t c empty) (changed r q true) = wake_op pg t r so c q (subst (λ k. Names k q) (sym i) refl) in
          let s2 = sleep_op pg (mark t c empty) (changed r q true) s1 p n stands c (writer p v) (changed_here t.channel c empty) (changed_here (changed r q true) p false, record { line_number = n; expression = e; to = to; stands = stands; is_output = nd; has_value = val })
          (subst (Rests t.variables (changed (changed t.channel c empty) c (writer p v)) p) (sym nd) (inr (v, changed_here (changed t.channel c empty) c (writer p v)))) in
          let s3 : Sound pg (mark t c (writer p v)) (changed (changed r q true) p false) = subst (λ f. Sound pg (with_records t f) (changed (changed r q true) p false)) (changed_twice t.channel c empty (writer p v)) s2 in (
            subst (Sound pg (mark t c (writer p v))) (marks_other r p q ne) s3,
            stayed (λ d. held_value (changed t.channel c (writer p v) d)) (changed_hidden held_value t.channel c (writer p v) (sym (ap held_value i))),
          )

      internal_good : pg.kind c ≡ Internal → (k : Record) → t.channel c ≡ k → Good pg t r p (internal_output pg t p c v to k)
      internal_good kd empty i = sleeps i
      internal_good kd (reader q) i = to_reader q i
      internal_good kd (writer q w) i = not_two q w i
      internal_good kd (chooser q) i = to_chooser q i
      internal_good kd (outside w) i = let o = rec_at c (outside w) i in let u = o.1 in let z : ◌≡◌ {A = ℕ} 0 1 = cc in omega arith

      link_good : (l : ℕ) → pg.kind c ≡ Outgoing l → (k : Record) → t.channel c ≡ k → Good pg t r p (link_output t p c v k)
      link_good l kd empty i = sleeps i
      link_good l kd (reader q) i = let a = (rec_at c (reader q) i).1 in wf.inputs_in a.line_number c a.variable_number l (inputs_line (pg.node a.line_number) c a.variable_number (subst (λ m. NodeInputs m c a.variable_number) (sym a.is_input) (refl, refl))) kd
      link_good l kd (writer q w) i = not_two q w i
      link_good l kd (chooser q) i = let a = rec_at c (chooser q) i in wf.inputs_in a.line_number c a.variable_number l (inputs_line (pg.node a.line_number) c a.variable_number (choice_inputs q c a)) kd
      link_good l kd (outside w) i = let o = rec_at c (outside w) i in let u = o.1 in let z : ◌≡◌ {A = ℕ} 0 1 = cc in omega arith

      kind_good : (k : Kind) → pg.kind c ≡ k → Good pg t r p (output_turn pg t p c v to k)
      kind_good Internal kd = internal_good kd (t.channel c) refl
      kind_good (Outgoing l) kd = link_good l kd (t.channel c) refl
      kind_good (Incoming l) kd = wf.outputs_out n c l (outputs_line (pg.node n) c outputs_it) kd

    output_good : (c : ℕ) (e : Expression) (to : Place) → pg.node n ≡ output c e to → (m : Option ℤ) → int_value t.variables e ≡ m → Good pg t r p (after_value m t p (λ v. output_turn pg t p c v to (pg.kind c)))
    output_good c e to nd None i = halts (subst (Rests t.variables t.channel p) (sym nd) (inl i))
    output_good c e to nd (Some v) i = kind_good c e to v nd i (pg.kind c) refl

    -- an ALT all of whose conditions have a value
    module _ (gs : List Guard) (nd : pg.node n ≡ alt gs) (vd : all_valued t.variables gs ≡ true) where
      guard_inside : (hs : List Guard) (b : Expression) (c x : ℕ) (to : Place) → GuardsInside pg p hs → In (input_guard b c x to) hs → Inside pg p to
      guard_inside [] b c x to h i = elim i [ ]
      guard_inside (skip_guard b' to' ∷ hs) b c x to h (inl e) = let z : ◌≡◌ {A = ℕ} 0 1 = cc in absurd (omega arith)
      guard_inside (skip_guard b' to' ∷ hs) b c x to h (inr i) = guard_inside hs b c x to h.1 i
      guard_inside (input_guard b' c' x' to' ∷ hs) b c x to h (inl e) = let j : to' ≡ to = cc in subst (Inside pg p) j h.0
      guard_inside (input_guard b' c' x' to' ∷ hs) b c x to h (inr i) = guard_inside hs b c x to h.1 i

      skip_inside : (hs : List Guard) (b : Expression) (to : Place) → GuardsInside pg p hs → In (skip_guard b to) hs → Inside pg p to
      skip_inside [] b to h i = elim i [ ]
      skip_inside (input_guard b' c' x' to' ∷ hs) b to h (inl e) = let z : ◌≡◌ {A = ℕ} 0 1 = cc in absurd (omega arith)
      skip_inside (input_guard b' c' x' to' ∷ hs) b to h (inr i) = skip_inside hs b to h.1 i
      skip_inside (skip_guard b' to' ∷ hs) b to h (inl e) = let j : to' ≡ to = cc in subst (Inside pg p) j h.0
      skip_inside (skip_guard b' to' ∷ hs) b to h (inr i) = skip_inside hs b to h.1 i

      targets : GuardsInside pg p gs
      targets = lead p n (alt gs) stands nd

      guard_inputs : (c x : ℕ) (to : Place) → TrueGuard t.variables gs c x to → NodeInputs (pg.node n) c x
      guard_inputs c x to g = subst (λ m. NodeInputs m c x) (sym nd) (in_guards_input gs g.condition c x to g.guard_in)

      receives : (c x : ℕ) (to : Place) → TrueGuard t.variables gs c x to → Receives pg (view t) p c x to
      receives c x to g = by_guard n gs g.condition stands nd (valued_is t.variables gs vd) g.guard_in g.guard_true

      barred : Barred t p gs → ⊥
      barred b = which b.named
        where
          which : (t.channel b.channel ≡ reader b.who) ⊎ ((t.channel b.channel ≡ chooser b.who) × (b.who ≢ p)) → ⊥
          which (inl e) =
              let o = rec_at b.channel (reader b.who) e in
              let a = o.1 in
              one_inputs_at p b.who n a.line_number b.channel b.variable_number a.variable_number (λ j. differ r b.who p o.0 ready (sym j)) stands a.stands (guard_inputs b.channel b.variable_number b.to b.guard) (subst (λ m. NodeInputs m b.channel a.variable_number) (sym a.is_input) (refl, refl))
          which (inr e) =
              let a = rec_at b.channel (chooser b.who) e.0 in
              one_inputs_at p b.who n a.line_number b.channel b.variable_number a.variable_number (λ j. e.1 (sym j)) stands a.stands (guard_inputs b.channel b.variable_number b.to b.guard) (choice_inputs b.who b.channel a)

      alt_good : (ch : Choice) → ChoiceOk t p gs ch → choose t p gs ≡ ch → Good pg t r p (alt_turn pg t p gs ch)
      alt_good no_guard h ch =
          cond_both (any_true t.variables gs) (did (Slept p) (enlisted t p gs) []) (did (Halted p) t []) (Good pg t r p)
          (λ e. (enlist_op pg t r so p n gs stands nd vd ch, stayed (λ d. held_value (enlist t.variables p gs t.channel d)) (enlist_held t.variables t.channel p gs (calm t p gs ch))))
          (λ e. halts (subst (Rests t.variables t.channel p) (sym nd) (inr (none_true t.variables t.channel p gs e))))
      alt_good unruled h ch = barred h
      alt_good (by_skip to) h ch =
          let s1 = free_op pg t r so p ready in
          let s2 = go_op pg wf (freed t p) r s1 p (Line n) to ready stands (skip_inside gs h.0 to targets h.1) (λ c. freed_free pg t r so p c (t.channel c)) in (
            subst (Sound pg (go (freed t p) p to)) (marks_one r p ready) s2,
            (p ∷ [], inl refl, linked (λ d. held_value (release p (t.channel d))) None t.variables (changed t.place p (At to)) (λ d. release_held p (t.channel d)) (takes_skip p n gs h.0 to stands nd (valued_is t.variables gs vd) h.1 h.2)),
          )
      alt_good (by_outside c x to v) h ch =
          let s1 = fill_op pg t r so c empty (λ q i. subst (λ k. Names k q) h.1 i) tt in
          let s2 = free_op pg (mark t c empty) r s1 p ready in
          let fr : (d : ℕ) → release p (changed t.channel c empty d) ≢ chooser p = λ d. freed_free pg t r so p d (changed t.channel c empty d) in
          let s3 = write_op pg wf (freed (mark t c empty) p) r s2 p n x v ready stands (received c (guard_inputs c x to h.0)) fr in
          let s4 = go_op pg wf (write (freed (mark t c empty) p) x v) r s3 p (Line n) to ready stands (guard_inside gs h.0.condition c x to targets h.0.guard_in) fr in (
            subst (Sound pg (go (write (freed (mark t c empty) p) x v) p to)) (marks_one r p ready) s4,
            (
              p ∷ [],
              inl refl,
              subst (λ k. Fires pg (view t) (p ∷ []) (Some (sent c v)) (record { variables = changed t.variables x v; place = changed t.place p (At to); link = k })) (fun_ext (λ d. sym (release_held p (changed t.channel c empty d))))
                  (emptied c (Some (sent c v)) (changed t.variables x v) (changed t.place p (At to)) (links_in p c x to v (receives c x to h.0) (ap held_value h.1))),
            ),
          )
      alt_good (by_writer c x to q v) h ch =
          let o = rec_at c (writer q v) h.1 in
          let a = o.1 in
          let ne : p ≢ q = λ i. differ r q p o.0 ready (sym i) in
          let s1 : Sound pg (mark t c empty) (changed r q true) = wake_op pg t r so c q (subst (λ k. Names k q) (sym h.1) refl) in
          let rp : changed r q true p ≡ true = changed_there r q true p ne ∙ ready in
          let rq : changed r q true q ≡ true = changed_here r q true in
          let s2 : Sound pg (freed (mark t c empty) p) (changed r q true) = free_op pg (mark t c empty) (changed r q true) s1 p rp in
          let fp : (d : ℕ) → release p (changed t.channel c empty d) ≢ chooser p = λ d. freed_free pg t r so p d (changed t.channel c empty d) in
          let fq = free_of pg (freed (mark t c empty) p) (changed r q true) s2 q a.line_number a.stands (λ hs i. let u = a.is_output in let z : ◌≡◌ {A = ℕ} 0 1 = cc in omega arith) in
          let s3 = write_op pg wf (freed (mark t c empty) p) (changed r q true) s2 p n x v rp stands (received c (guard_inputs c x to h.0)) fp in
          let insq : Inside pg q (follower pg t q) = subst (Inside pg q) (sym (follower_is q a.line_number (output c a.expression a.to) a.stands a.is_output)) (lead q a.line_number (output c a.expression a.to) a.stands a.is_output) in
          let s4 = go_op pg wf (write (freed (mark t c empty) p) x v) (changed r q true) s3 q (Line a.line_number) (follower pg t q) rq a.stands insq fq in
          let s5 = go_op pg wf (go (write (freed (mark t c empty) p) x v) q (follower pg t q)) (changed r q true) s4 p (Line n) to rp (changed_there t.place q (At (follower pg t q)) p ne ∙ stands) (guard_inside gs h.0.condition c x to targets h.0.guard_in) fp in (
            subst (Sound pg (go (go (write (freed (mark t c empty) p) x v) q (follower pg t q)) p to)) (marks_two r p q ready) s5,
            (
              p ∷ (q ∷ []),
              inl refl,
              linked (λ d. held_value (release p (changed t.channel c empty d))) (Some (sent c v)) (changed t.variables x v) (changed (changed t.place q (At (follower pg t q))) p (At to))
                  (λ d. release_held p (changed t.channel c empty d) ∙ changed_hidden held_value t.channel c empty (sym (ap held_value h.1)) d)
                  (communicates p q c x to (follower pg t q) v (receives c x to h.0) (sends c x q to v h.1 a)),
            ),
          )

    par_good : (bs : List Branch) (to : Place) → pg.node n ≡ par bs to → Good pg t r p (par_turn t p n to bs)
    par_good [] to nd = simple to (lead p n (par [] to) stands nd) (λ gs h. let z : ◌≡◌ {A = ℕ} 0 1 = cc in omega arith) (passes_par p n to stands nd)
    par_good (b ∷ bs) to nd = (spawn_op pg wf t r so p n b bs to ready stands nd, (p ∷ [], inl refl, starts_par p n b bs to stands nd))

    line_good : (m : Node) → pg.node n ≡ m → Good pg t r p (line_turn pg t p n m)
    line_good (assignment x e to) nd = assign_good x e to nd (int_value t.variables e) refl
    line_good (skip to) nd = simple to (lead p n (skip to) stands nd) (λ gs h. let z : ◌≡◌ {A = ℕ} 0 1 = cc in omega arith) (skips p n to stands nd)
    line_good stop nd = halts (subst (Rests t.variables t.channel p) (sym nd) tt)
    line_good (input c x to) nd = input_good c x to nd (t.channel c) refl
    line_good (output c e to) nd = output_good c e to nd (int_value t.variables e) refl
    line_good (test e a b) nd = test_good e a b nd (truth_value t.variables e) refl
    line_good (par bs to) nd = par_good bs to nd
    line_good (alt gs) nd =
        cond_both (all_valued t.variables gs) (alt_turn pg t p gs (choose t p gs)) (did (Halted p) t []) (Good pg t r p)
        (λ vd. alt_good gs nd vd (choose t p gs) (choice_is t p gs) refl)
        (λ vd. halts (subst (Rests t.variables t.channel p) (sym nd) (inl vd)))

  module _ (p : ℕ) (ready : r p ≡ true) (stands : t.place p ≡ At End) where
    -- no PAR has process 0 for a branch
    root_last : p ≡ 0 → (h n : ℕ) (bs : List Branch) (to : Place) → t.place h ≡ Holding n → pg.node n ≡ par bs to → ¬ All (λ b. changed t.ended p true b.process ≡ true) bs
    root_last z h n bs to e i a =
        so.unjoined h n bs to e i (in_all (λ b. t.ended b.process ≡ true) bs (λ b j.
        let o = all_in (BranchOf pg n) bs b (wf.branches n bs to i) j in
        let lt = o.later in
        sym (changed_there t.ended p true b.process (λ k. omega arith)) ∙ all_in (λ c. changed t.ended p true c.process ≡ true) bs b a j))

    branch_last : (bs : List Branch) (to : Place) → pg.node (pg.home p) ≡ par bs to → others_ended p t.ended bs ≡ false → (h n : ℕ) (cs : List Branch) (s : Place) → t.place h ≡ Holding n → pg.node n ≡ par cs s → ¬ All (λ b. changed t.ended p true b.process ≡ true) cs
    branch_last bs to nd f h n cs s e i a = which (cases_eq n (pg.home p))
      where
        which : (n ≡ pg.home p) ⊎ (n ≡ pg.home p → ⊥) → ⊥
        which (inl k) =
            let same : cs ≡ bs = cc in
            let g : others_ended p t.ended bs ≡ true = subst (λ l. others_ended p t.ended l ≡ true) same (others_from p t.ended cs a) in
            let z : ◌≡◌ {A = ℕ} 0 1 = cc in omega arith
        which (inr k) =
            so.unjoined h n cs s e i (in_all (λ b. t.ended b.process ≡ true) cs (λ b j.
            let o = all_in (BranchOf pg n) cs b (wf.branches n cs s i) j in
            sym (changed_there t.ended p true b.process (λ l. k (sym o.home_is ∙ ap pg.home l))) ∙ all_in (λ c. changed t.ended p true c.process ≡ true) cs b a j))

    -- a branch's PAR is a PAR
    home_par : 0 < p → (b : Branch) × (bs : List Branch) × (to : Place) × (pg.node (pg.home p) ≡ par (b ∷ bs) to)
    home_par pos = (so.holder (pg.parent p) (pg.home p) (so.up p (subst Present (sym stands) tt) pos)).1

    end_good : 0 < p → (m : Node) → pg.node (pg.home p) ≡ m → Good pg t r p (end_turn t p (pg.parent p) m)
    end_good pos (assignment x e to) nd = let w = (home_par pos).3 in let z : ◌≡◌ {A = ℕ} 0 1 = cc in omega arith
    end_good pos (skip to) nd = let w = (home_par pos).3 in let z : ◌≡◌ {A = ℕ} 0 1 = cc in omega arith
    end_good pos stop nd = let w = (home_par pos).3 in let z : ◌≡◌ {A = ℕ} 0 1 = cc in omega arith
    end_good pos (input c x to) nd = let w = (home_par pos).3 in let z : ◌≡◌ {A = ℕ} 0 1 = cc in omega arith
    end_good pos (output c e to) nd = let w = (home_par pos).3 in let z : ◌≡◌ {A = ℕ} 0 1 = cc in omega arith
    end_good pos (test e a b) nd = let w = (home_par pos).3 in let z : ◌≡◌ {A = ℕ} 0 1 = cc in omega arith
    end_good pos (alt gs) nd = let w = (home_par pos).3 in let z : ◌≡◌ {A = ℕ} 0 1 = cc in omega arith
    end_good pos (par bs to) nd =
        cond_both (others_ended p t.ended bs)
        (did (Moved p) (record { variables = t.variables; place = changed (leaves bs t.place) (pg.parent p) (At to); channel = t.channel; ended = unended bs t.ended }) (pg.parent p ∷ []))
        (did (Ended p) (record { variables = t.variables; place = t.place; channel = t.channel; ended = changed t.ended p true }) []) (Good pg t r p)
        (λ e. (
          join_op pg wf t r so p bs to pos ready stands nd e,
          (pg.parent p ∷ map (λ b. b.process) bs, (let w = p_in pg wf t r so p bs to pos ready stands nd e in inr (in_processes p bs w.0 w.1 w.2)), joins (pg.parent p) (pg.home p) bs to (holds pg wf t r so p bs to pos ready stands nd e) nd (in_all (λ b. t.place b.process ≡ At End) bs (λ b i. done pg wf t r so p bs to pos ready stands nd e b i))),
        ))
        (λ e. (ended_op pg wf t r so p stands (branch_last bs to nd e), refl))

    finish_good : Good pg t r p (place_turn pg t p (At End))
    finish_good =
        cond_both (eqb p 0) (did (Ended p) (record { variables = t.variables; place = t.place; channel = t.channel; ended = changed t.ended p true }) []) (end_turn t p (pg.parent p) (pg.node (pg.home p))) (Good pg t r p)
        (λ e. (ended_op pg wf t r so p stands (root_last (eqb-true p 0 e)), refl))
        (λ e. let ne = eqb-false p 0 e in let pos : 0 < p = omega arith in end_good pos (pg.node (pg.home p)) refl)

  pub turn_good : (p : ℕ) → r p ≡ true → Good pg t r p (turn pg t p)
  turn_good p ready = at_place (t.place p) refl
    where
      at_place : (s : Standing) → t.place p ≡ s → Good pg t r p (place_turn pg t p s)
      at_place Absent e = let w = (so.ready_at p ready).1 in let z : ◌≡◌ {A = ℕ} 0 1 = cc in omega arith
      at_place (Holding n) e = let w = (so.ready_at p ready).1 in let z : ◌≡◌ {A = ℕ} 0 1 = cc in omega arith
      at_place (At (Line n)) e = line_good p n ready e (pg.node n) refl
      at_place (At End) e = finish_good p ready e
