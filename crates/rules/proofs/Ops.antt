-- The small changes that turns, offers and takes are made of, each of which keeps the tables sound.
use Rattle.std.proofs.Common.{sym, refl, ap, ◌∙◌, subst, arith, Bool, List, [], ◌∷◌, ◌≡◌, ◌≢◌, false, true, ℕ, ℤ}
use Rattle.rules.specs.Types.{At, End, Holding, Line, Place, Standing}
use Rattle.rules.specs.Flowchart.{Program}
use Rattle.rules.specs.Functions.{All, changed}
use Rattle.rules.specs.Turns.{Record, Tables, chooser, empty, go, outside, reader, write, writer}
use Rattle.rules.specs.WellFormed.{Inside, WellFormed}
use Rattle.rules.proofs.Changes.{changed_case, changed_there}
use Rattle.rules.proofs.Sound.{Present, RecordOk, Sound}
use Rattle.rules.proofs.Tree.{active_apart}
use Rattle.rules.proofs.Uses.{GuardsRead, NodeReads, NodeWrites}
use Rattle.rules.proofs.Values.{condition_read, int_same_at, rests_write, truth_same_at, valued_same}

pub differ : (r : ℕ → Bool) (q p : ℕ) → r q ≡ false → r p ≡ true → q ≢ p
differ r q p a b e = let z : ◌≡◌ {A = ℕ} 0 1 = cc in omega arith

pub all_map : {A : Type 0} (P Q : A → Type 0) (l : List A) → ((a : A) → P a → Q a) → All P l → All Q l
all_map P Q [] f h = tt
all_map P Q (a ∷ l) f h = (f a h.0, all_map P Q l f h.1)

module _ (pg : Program) (wf : WellFormed pg) (t : Tables) (r : ℕ → Bool) (so : Sound pg t r) where
  -- a ready process writes a variable that its line writes
  module _ (p m x : ℕ) (v : ℤ) (ready : r p ≡ true) (stands : t.place p ≡ At (Line m)) (writes_it : NodeWrites (pg.node m) x) (free : (c : ℕ) → t.channel c ≢ chooser p) where
    unread : (q n : ℕ) → q ≢ p → t.place q ≡ At (Line n) → NodeReads (pg.node n) x → ⊥
    unread q n ne e h = (active_apart pg wf t r so p q m n (λ a. ne (sym a)) stands e).none_reads x writes_it h

    record_write : (c : ℕ) (k : Record) → t.channel c ≡ k → RecordOk pg t.place t.variables r c k → RecordOk pg t.place (changed t.variables x v) r c k
    record_write c empty e h = tt
    record_write c (reader q) e h = h
    record_write c (writer q w) e h =
        let a = h.1 in (
          h.0,
          record {
            line_number = a.line_number;
            expression = a.expression;
            to = a.to;
            stands = a.stands;
            is_output = a.is_output;
            has_value = int_same_at t.variables x v a.expression (λ i. unread q a.line_number (differ r q p h.0 ready) a.stands (subst (λ n. NodeReads n x) (sym a.is_output) i)) ∙ a.has_value;
          },
        )
    record_write c (chooser q) e a =
        let ne : q ≢ p = λ i. free c (e ∙ ap chooser i) in
        let un : GuardsRead a.guards x → ⊥ = λ i. unread q a.line_number ne a.stands (subst (λ n. NodeReads n x) (sym a.is_alt) i) in
        record {
          line_number = a.line_number;
          guards = a.guards;
          condition = a.condition;
          variable_number = a.variable_number;
          to = a.to;
          stands = a.stands;
          is_alt = a.is_alt;
          all_have_values = valued_same t.variables x v a.guards un ∙ a.all_have_values;
          guard_in = a.guard_in;
          guard_true = truth_same_at t.variables x v a.condition (λ i. un (condition_read t.variables x v a.condition c a.variable_number a.to a.guards a.guard_in i)) ∙ a.guard_true;
        }
    record_write c (outside w) e h = h

    pub write_op : Sound pg (write t x v) r
    write_op = record {
      rooted = so.rooted;
      small = so.small;
      owned = so.owned;
      holder = so.holder;
      up = so.up;
      unjoined = so.unjoined;
      ready_at = so.ready_at;
      records = λ c. record_write c (t.channel c) refl (so.records c);
      asleep = λ q n a e. rests_write t.variables x v t.channel q (pg.node n) (unread q n (differ r q p a ready) e) (so.asleep q n a e);
      ended_is = so.ended_is;
      asleep_ended = so.asleep_ended;
    }

  -- a ready process moves on
  module _ (p : ℕ) (from to : Place) (ready : r p ≡ true) (stands : t.place p ≡ At from) (inside : Inside pg p to) (free : (c : ℕ) → t.channel c ≢ chooser p) where
    back : (q : ℕ) → Present (changed t.place p (At to) q) → Present (t.place q)
    back q h = changed_case t.place p (At to) q (λ a. Present a → Present (t.place q)) (λ e i. subst Present (sym (ap t.place e ∙ stands)) tt) (λ e i. i) h

    forth : (q : ℕ) → Present (t.place q) → Present (changed t.place p (At to) q)
    forth q h = changed_case t.place p (At to) q Present (λ e. tt) (λ e. h)

    held_back : (q n : ℕ) → changed t.place p (At to) q ≡ Holding n → t.place q ≡ Holding n
    held_back q n h = changed_case t.place p (At to) q (λ a. a ≡ Holding n → t.place q ≡ Holding n) (λ e i. cc) (λ e i. i) h

    held_forth : (q n : ℕ) → t.place q ≡ Holding n → changed t.place p (At to) q ≡ Holding n
    held_forth q n h = changed_case t.place p (At to) q (λ a. a ≡ Holding n) (λ e. cc) (λ e. h)

    same : (q : ℕ) → q ≢ p → (s : Standing) → changed t.place p (At to) q ≡ s → t.place q ≡ s
    same q ne s h = sym (changed_there t.place p (At to) q ne) ∙ h

    same' : (q : ℕ) → q ≢ p → (s : Standing) → t.place q ≡ s → changed t.place p (At to) q ≡ s
    same' q ne s h = changed_there t.place p (At to) q ne ∙ h

    record_go : (c : ℕ) (k : Record) → t.channel c ≡ k → RecordOk pg t.place t.variables r c k → RecordOk pg (changed t.place p (At to)) t.variables r c k
    record_go c empty e h = tt
    record_go c (reader q) e h =
        let a = h.1 in
        (h.0, record { line_number = a.line_number; variable_number = a.variable_number; to = a.to; stands = same' q (differ r q p h.0 ready) (At (Line a.line_number)) a.stands; is_input = a.is_input })
    record_go c (writer q w) e h =
        let a = h.1 in
        (h.0, record { line_number = a.line_number; expression = a.expression; to = a.to; stands = same' q (differ r q p h.0 ready) (At (Line a.line_number)) a.stands; is_output = a.is_output; has_value = a.has_value })
    record_go c (chooser q) e a =
        let ne : q ≢ p = λ i. free c (e ∙ ap chooser i) in
        record {
          line_number = a.line_number;
          guards = a.guards;
          condition = a.condition;
          variable_number = a.variable_number;
          to = a.to;
          stands = same' q ne (At (Line a.line_number)) a.stands;
          is_alt = a.is_alt;
          all_have_values = a.all_have_values;
          guard_in = a.guard_in;
          guard_true = a.guard_true;
        }
    record_go c (outside w) e h = h

    owned_go : (q n : ℕ) → changed t.place p (At to) q ≡ At (Line n) → pg.owner n ≡ q
    owned_go q n h =
        changed_case t.place p (At to) q (λ a. a ≡ At (Line n) → pg.owner n ≡ q)
        (λ e i. let j : to ≡ Line n = cc in let o : pg.owner n ≡ p = subst (λ s. Inside pg p s) j inside in o ∙ sym e)
        (λ e i. so.owned q n i) h

    pub go_op : Sound pg (go t p to) r
    go_op = record {
      rooted = forth 0 so.rooted;
      small = λ q h. so.small q (back q h);
      owned = owned_go;
      holder = λ q n h. so.holder q n (held_back q n h);
      up = λ q h i. held_forth (pg.parent q) (pg.home q) (so.up q (back q h) i);
      unjoined = λ q n bs s h i. so.unjoined q n bs s (held_back q n h) i;
      ready_at = λ q h. changed_case t.place p (At to) q (λ a. (s : Place) × (a ≡ At s)) (λ e. (to, refl)) (λ e. so.ready_at q h);
      records = λ c. record_go c (t.channel c) refl (so.records c);
      asleep = λ q n a h. so.asleep q n a (same q (differ r q p a ready) (At (Line n)) h);
      ended_is = λ q h. let o = so.ended_is q h in (o.0, same' q (differ r q p o.0 ready) (At End) o.1);
      asleep_ended = λ q a h. so.asleep_ended q a (same q (differ r q p a ready) (At End) h);
    }
