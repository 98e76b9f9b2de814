-- What PAR and join change of places, flags and the queue, at one process.
use Rattle.std.proofs.Common.{sym, refl, ap, ◌∙◌, subst, Bool, List, [], ◌||◌, ◌∷◌, ◌≡◌, ◌≢◌, ◌⊎◌, eqb, false, map, true, ℕ, inl, inr}
use Rattle.std.proofs.lemmas.Bool.{and_from, and_parts, eq-eqb, eqb-true, or_cases, or_left, or_right}
use Rattle.rules.specs.Types.{Absent, At, Standing}
use Rattle.rules.specs.Flowchart.{Branch}
use Rattle.rules.specs.Functions.{All, In, changed}
use Rattle.rules.specs.Primary.{leaves, starts}
use Rattle.rules.specs.Turns.{others_ended, unended}
use Rattle.rules.proofs.Changes.{changed_case}

abbrev pub NotIn : ℕ → List Branch → Type 0
NotIn q bs = (b : Branch) → In b bs → q ≢ b.process

pub all_in : {A : Type 0} (P : A → Type 0) (l : List A) (a : A) → All P l → In a l → P a
all_in P [] a h i = elim i [ ]
all_in P (b ∷ l) a h (inl e) = subst P (sym e) h.0
all_in P (b ∷ l) a h (inr i) = all_in P l a h.1 i

pub in_all : {A : Type 0} (P : A → Type 0) (l : List A) → ((a : A) → In a l → P a) → All P l
in_all P [] f = tt
in_all P (b ∷ l) f = (f b (inl refl), in_all P l (λ a i. f a (inr i)))

not_in_cons : (q : ℕ) (b : Branch) (bs : List Branch) → q ≢ b.process → NotIn q bs → NotIn q (b ∷ bs)
not_in_cons q b bs ne out a (inl e) i = ne (i ∙ ap (λ x. x.process) e)
not_in_cons q b bs ne out a (inr h) i = out a h i

pub starts_case : (bs : List Branch) (f : ℕ → Standing) (q : ℕ) (P : Standing → Type 0) → ((b : Branch) → In b bs → q ≡ b.process → P (At b.entry)) → (NotIn q bs → P (f q)) → P (starts bs f q)
starts_case [] f q P new old = old (λ b i e. i)
starts_case (b ∷ bs) f q P new old =
    changed_case (starts bs f) b.process (At b.entry) q P (λ e. new b (inl refl) e)
    (λ ne. starts_case bs f q P (λ a i e. new a (inr i) e) (λ out. old (not_in_cons q b bs ne out)))

pub leaves_case : (bs : List Branch) (f : ℕ → Standing) (q : ℕ) (P : Standing → Type 0) → ((b : Branch) → In b bs → q ≡ b.process → P Absent) → (NotIn q bs → P (f q)) → P (leaves bs f q)
leaves_case [] f q P new old = old (λ b i e. i)
leaves_case (b ∷ bs) f q P new old =
    changed_case (leaves bs f) b.process Absent q P (λ e. new b (inl refl) e)
    (λ ne. leaves_case bs f q P (λ a i e. new a (inr i) e) (λ out. old (not_in_cons q b bs ne out)))

pub unended_case : (bs : List Branch) (f : ℕ → Bool) (q : ℕ) (P : Bool → Type 0) → ((b : Branch) → In b bs → q ≡ b.process → P false) → (NotIn q bs → P (f q)) → P (unended bs f q)
unended_case [] f q P new old = old (λ b i e. i)
unended_case (b ∷ bs) f q P new old =
    changed_case (unended bs f) b.process false q P (λ e. new b (inl refl) e)
    (λ ne. unended_case bs f q P (λ a i e. new a (inr i) e) (λ out. old (not_in_cons q b bs ne out)))

-- a list of numbers put into the queue
abbrev pub marks : (ℕ → Bool) → List ℕ → ℕ → Bool
marks r [] = r
marks r (q ∷ qs) = marks (changed r q true) qs

pub marks_case : (bs : List Branch) (r : ℕ → Bool) (q : ℕ) (P : Bool → Type 0) → ((b : Branch) → In b bs → q ≡ b.process → P true) → (NotIn q bs → P (r q)) → P (marks r (map (λ b. b.process) bs) q)
marks_case [] r q P new old = old (λ b i e. i)
marks_case (b ∷ bs) r q P new old =
    marks_case bs (changed r b.process true) q P (λ a i e. new a (inr i) e)
    (λ out. changed_case r b.process true q P (λ e. new b (inl refl) e) (λ ne. old (not_in_cons q b bs ne out)))

-- the other branches have all ended
pub others_are : (p : ℕ) (e : ℕ → Bool) (bs : List Branch) → others_ended p e bs ≡ true → (b : Branch) → In b bs → (b.process ≡ p) ⊎ (e b.process ≡ true)
others_are p e [] h b i = elim i [ ]
others_are p e (a ∷ bs) h b (inl j) = go (or_cases (eqb a.process p) (e a.process) (and_parts (eqb a.process p || e a.process) (others_ended p e bs) h).0)
  where
    go : (eqb a.process p ≡ true) ⊎ (e a.process ≡ true) → (b.process ≡ p) ⊎ (e b.process ≡ true)
    go (inl k) = inl (ap (λ x. x.process) j ∙ eqb-true a.process p k)
    go (inr k) = inr (ap (λ x. e x.process) j ∙ k)
others_are p e (a ∷ bs) h b (inr j) = others_are p e bs (and_parts (eqb a.process p || e a.process) (others_ended p e bs) h).1 b j

pub others_from : (p : ℕ) (e : ℕ → Bool) (bs : List Branch) → All (λ b. changed e p true b.process ≡ true) bs → others_ended p e bs ≡ true
others_from p e [] h = refl
others_from p e (a ∷ bs) h =
    and_from (eqb a.process p || e a.process) (others_ended p e bs)
    (changed_case e p true a.process (λ v. v ≡ true → (eqb a.process p || e a.process) ≡ true) (λ i j. or_left (eqb a.process p) (e a.process) (eq-eqb a.process p i)) (λ i j. or_right (eqb a.process p) (e a.process) j) h.0)
    (others_from p e bs h.1)

-- a branch of a PAR is among its processes
pub in_processes : (p : ℕ) (bs : List Branch) (b : Branch) → In b bs → p ≡ b.process → In p (map (λ a. a.process) bs)
in_processes p [] b i e = i
in_processes p (a ∷ bs) b (inl j) e = inl (e ∙ ap (λ x. x.process) j)
in_processes p (a ∷ bs) b (inr j) e = inr (in_processes p bs b j e)
