-- The join: when the last branch ends, the holder goes on and the branches are gone.
use Rattle.std.proofs.Common.{sym, refl, ap, ◌∙◌, subst, arith, Bool, List, ◌<◌, ◌≡◌, ◌≢◌, ◌⊎◌, false, true, ℕ, inl, inr}
use Rattle.rules.specs.Types.{Absent, At, End, Holding, Line, Place, Standing}
use Rattle.rules.specs.Flowchart.{Branch, Program, par}
use Rattle.rules.specs.Functions.{In, changed}
use Rattle.rules.specs.Primary.{leaves}
use Rattle.rules.specs.Turns.{Tables, others_ended, unended}
use Rattle.rules.specs.WellFormed.{BranchOf, Inside, Leads, WellFormed}
use Rattle.rules.proofs.Branches.{NotIn, all_in, leaves_case, others_are, unended_case}
use Rattle.rules.proofs.Changes.{changed_case}
use Rattle.rules.proofs.Ops.{all_map}
use Rattle.rules.proofs.Par.{record_place, with_places}
use Rattle.rules.proofs.Sound.{Present, Sound}

module _ (pg : Program) (wf : WellFormed pg) (t : Tables) (r : ℕ → Bool) (so : Sound pg t r)
    (p : ℕ) (bs : List Branch) (to : Place) (pos : 0 < p) (ready : r p ≡ true) (stands : t.place p ≡ At End) (is_par : pg.node (pg.home p) ≡ par bs to) (rest : others_ended p t.ended bs ≡ true) where
  present_p : Present (t.place p)
  present_p = subst Present (sym stands) tt

  pub holds : t.place (pg.parent p) ≡ Holding (pg.home p)
  holds = so.up p present_p pos

  own : pg.owner (pg.home p) ≡ pg.parent p
  own = (so.holder (pg.parent p) (pg.home p) holds).0

  pub p_in : (b : Branch) × In b bs × (p ≡ b.process)
  p_in = wf.listed p pos (so.small p present_p) bs to is_par

  of : (b : Branch) → In b bs → BranchOf pg (pg.home p) b
  of b i = all_in (BranchOf pg (pg.home p)) bs b (wf.branches (pg.home p) bs to is_par) i

  pub done : (b : Branch) → In b bs → t.place b.process ≡ At End
  done b i = which (others_are p t.ended bs rest b i)
    where
      which : (b.process ≡ p) ⊎ (t.ended b.process ≡ true) → t.place b.process ≡ At End
      which (inl e) = ap t.place e ∙ stands
      which (inr e) = (so.ended_is b.process e).1

  done_r : (b : Branch) → In b bs → b.process ≢ p → r b.process ≡ false
  done_r b i ne = which (others_are p t.ended bs rest b i)
    where
      which : (b.process ≡ p) ⊎ (t.ended b.process ≡ true) → r b.process ≡ false
      which (inl e) = absurd (ne e)
      which (inr e) = (so.ended_is b.process e).0

  new : ℕ → Standing
  new = changed (leaves bs t.place) (pg.parent p) (At to)

  r' : ℕ → Bool
  r' = changed (changed r p false) (pg.parent p) true

  new_case : (q : ℕ) (P : Standing → Type 0) → (q ≡ pg.parent p → P (At to)) → ((b : Branch) → In b bs → q ≡ b.process → q ≢ pg.parent p → P Absent) → (NotIn q bs → q ≢ pg.parent p → P (t.place q)) → P (new q)
  unfolding new
  new_case q P a b c = changed_case (leaves bs t.place) (pg.parent p) (At to) q P a (λ ne. leaves_case bs t.place q P (λ x i e. b x i e ne) (λ out. c out ne))

  r_case : (q : ℕ) (P : Bool → Type 0) → (q ≡ pg.parent p → P true) → (q ≢ pg.parent p → q ≡ p → P false) → (q ≢ pg.parent p → q ≢ p → P (r q)) → P (r' q)
  unfolding r'
  r_case q P a b c = changed_case (changed r p false) (pg.parent p) true q P a (λ ne. changed_case r p false q P (b ne) (c ne))

  stays : (q : ℕ) → NotIn q bs → q ≢ pg.parent p → new q ≡ t.place q
  stays q out ne = new_case q (λ a. a ≡ t.place q) (λ e. absurd (ne e)) (λ b i e k. absurd (out b i e)) (λ u w. refl)

  not_done : (q : ℕ) (s : Standing) → t.place q ≡ s → s ≢ At End → NotIn q bs
  not_done q s e ne b i j = ne (sym e ∙ (ap t.place j ∙ done b i))

  line_out : (q m : ℕ) → t.place q ≡ At (Line m) → NotIn q bs
  line_out q m e = not_done q (At (Line m)) e (λ i. let z : ◌≡◌ {A = ℕ} 0 1 = cc in omega arith)

  line_not_h : (q : ℕ) (s : Place) → t.place q ≡ At s → q ≢ pg.parent p
  line_not_h q s e i = let w = holds in let z : ◌≡◌ {A = ℕ} 0 1 = cc in omega arith

  held_back : (q m : ℕ) → new q ≡ Holding m → (q ≢ pg.parent p) × (t.place q ≡ Holding m)
  held_back q m h =
      new_case q (λ a. a ≡ Holding m → (q ≢ pg.parent p) × (t.place q ≡ Holding m))
      (λ e k. let z : ◌≡◌ {A = ℕ} 0 1 = cc in absurd (omega arith))
      (λ b i e ne k. let z : ◌≡◌ {A = ℕ} 0 1 = cc in absurd (omega arith)) (λ out ne k. (ne, k)) h

  at_back : (q : ℕ) (s : Place) → r' q ≡ false → new q ≡ At s → (q ≢ pg.parent p) × NotIn q bs × (t.place q ≡ At s) × (r q ≡ false)
  at_back q s a h =
      r_case q (λ x. x ≡ false → (q ≢ pg.parent p) × NotIn q bs × (t.place q ≡ At s) × (r q ≡ false))
      (λ e k. let z : ◌≡◌ {A = ℕ} 0 1 = cc in absurd (omega arith))
      (λ ne e k.
      new_case q (λ x. x ≡ At s → (q ≢ pg.parent p) × NotIn q bs × (t.place q ≡ At s) × (r q ≡ false))
      (λ i j. absurd (ne i)) (λ b i j l o. let z : ◌≡◌ {A = ℕ} 0 1 = cc in absurd (omega arith)) (λ out l o. absurd (out p_in.0 p_in.1 (e ∙ p_in.2))) h)
      (λ ne e k.
      new_case q (λ x. x ≡ At s → (q ≢ pg.parent p) × NotIn q bs × (t.place q ≡ At s) × (r q ≡ false))
      (λ i j. absurd (ne i)) (λ b i j l o. let z : ◌≡◌ {A = ℕ} 0 1 = cc in absurd (omega arith)) (λ out l o. (ne, out, o, k)) h) a

  up_new : (q : ℕ) → Present (new q) → 0 < q → new (pg.parent q) ≡ Holding (pg.home q)
  up_new q h qpos =
      new_case q (λ a. Present a → new (pg.parent q) ≡ Holding (pg.home q))
      (λ e k.
      let pr : Present (t.place q) = subst (λ x. Present (t.place x)) (sym e) (subst Present (sym holds) tt) in
      let u = so.up q pr qpos in
      let lt = wf.older q qpos (so.small q pr) in
      let ne : pg.parent q ≢ pg.parent p = λ i. let j : pg.parent q ≡ q = i ∙ sym e in omega arith in
      stays (pg.parent q) (not_done (pg.parent q) (Holding (pg.home q)) u (λ i. let z : ◌≡◌ {A = ℕ} 0 1 = cc in omega arith)) ne ∙ u)
      (λ b i e ne k. elim k [ ])
      (λ out ne k.
      let u = so.up q k qpos in
      let ne' : pg.parent q ≢ pg.parent p = λ i.
      let w = holds in
      let hm : pg.home q ≡ pg.home p = cc in
      let l = wf.listed q qpos (so.small q k) bs to (ap pg.node hm ∙ is_par) in
      out l.0 l.1 l.2 in
      stays (pg.parent q) (not_done (pg.parent q) (Holding (pg.home q)) u (λ i. let z : ◌≡◌ {A = ℕ} 0 1 = cc in omega arith)) ne' ∙ u) h

  r_stays : (q : ℕ) → r q ≡ false → q ≢ pg.parent p → r' q ≡ false
  r_stays q h ne = r_case q (λ a. a ≡ false) (λ e. absurd (ne e)) (λ i e. refl) (λ i j. h)

  owned_new : (q m : ℕ) → new q ≡ At (Line m) → pg.owner m ≡ q
  owned_new q m h =
      new_case q (λ a. a ≡ At (Line m) → pg.owner m ≡ q)
      (λ e k.
      let j : to ≡ Line m = cc in
      let lead : Leads pg (pg.owner (pg.home p)) (par bs to) = subst (Leads pg (pg.owner (pg.home p))) is_par (wf.leads (pg.home p)) in
      let o : pg.owner m ≡ pg.owner (pg.home p) = subst (Inside pg (pg.owner (pg.home p))) j lead in
      o ∙ (own ∙ sym e))
      (λ b i e ne k. let z : ◌≡◌ {A = ℕ} 0 1 = cc in absurd (omega arith)) (λ out ne k. so.owned q m k) h

  ended_back : (q : ℕ) → unended bs t.ended q ≡ true → (t.ended q ≡ true) × NotIn q bs
  ended_back q h = unended_case bs t.ended q (λ a. a ≡ true → (t.ended q ≡ true) × NotIn q bs) (λ b i e k. let z : ◌≡◌ {A = ℕ} 0 1 = cc in absurd (omega arith)) (λ out k. (k, out)) h

  pub join_op : Sound pg (with_places t (changed (leaves bs t.place) (pg.parent p) (At to)) (unended bs t.ended)) (changed (changed r p false) (pg.parent p) true)
  unfolding new r'
  join_op = record {
    rooted = new_case 0 Present (λ e. tt) (λ b i e ne. let lt = (of b i).later in absurd (omega arith)) (λ out ne. so.rooted);
    small = λ q h. new_case q (λ a. Present a → q < pg.processes) (λ e k. so.small q (subst (λ x. Present (t.place x)) (sym e) (subst Present (sym holds) tt))) (λ b i e ne k. elim k [ ]) (λ out ne k. so.small q k) h;
    owned = owned_new;
    holder = λ q m h. so.holder q m (held_back q m h).1;
    up = up_new;
    unjoined = λ q m cs s h i a. so.unjoined q m cs s (held_back q m h).1 i (all_map (λ b. unended bs t.ended b.process ≡ true) (λ b. t.ended b.process ≡ true) cs (λ b k. (ended_back b.process k).0) a);
    ready_at = λ q h.
        r_case q (λ a. a ≡ true → (s : Place) × (new q ≡ At s))
        (λ e k. new_case q (λ a. (s : Place) × (a ≡ At s)) (λ i. (to, refl)) (λ b i j ne. absurd (ne e)) (λ out ne. absurd (ne e)))
        (λ ne e k. let z : ◌≡◌ {A = ℕ} 0 1 = cc in absurd (omega arith))
        (λ ne e k. let w = so.ready_at q k in
        (w.0, stays q (λ b i j. e (j ∙ (let x : b.process ≡ p = two b i j e k in x))) ne ∙ w.1)) h;
    records = λ c. record_place pg t.place new t.variables r r' c (t.channel c) (λ q n e. stays q (line_out q n e) (line_not_h q (Line n) e)) (λ q n a e. r_stays q a (line_not_h q (Line n) e)) (so.records c);
    asleep = λ q m a e. let w = at_back q (Line m) a e in so.asleep q m w.3 w.2;
    ended_is = λ q h. let k = ended_back q h in let o = so.ended_is q k.0 in (r_stays q o.0 (line_not_h q End o.1), stays q k.1 (line_not_h q End o.1) ∙ o.1);
    asleep_ended = λ q a e. let w = at_back q End a e in
        unended_case bs t.ended q (λ x. x ≡ true) (λ b i j. absurd (w.1 b i j)) (λ out. so.asleep_ended q w.3 w.2);
  }
    where
      two : {q : ℕ} (b : Branch) → In b bs → q ≡ b.process → q ≢ p → r q ≡ true → b.process ≡ p
      two {q} b i j ne k = let f = done_r b i (λ e. ne (j ∙ e)) in cc
