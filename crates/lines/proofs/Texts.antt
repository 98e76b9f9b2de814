-- The forms of one line after another.
use Rattle.std.proofs.Common.{◌≡◌, ℕ, ◌+◌, ◌<◌, ◌≤◌, List, [], ◌∷◌, ◌++◌, map, length, get_or, drop, Some, None, Ok, Err, Option, Result, sym, refl, ap, ◌∙◌, subst, inl, inr}
use Rattle.std.proofs.lemmas.List.{append_assoc, append-nil, at_drop_more, at_drop_all}
use Rattle.words.specs.Division.{numbered_line}
use Rattle.words.specs.declared.reading.Line.{Line}
use Rattle.lines.specs.Lines.{Stated, line_form_of, UnlessStarved}
use Rattle.lines.specs.Table.{Table}
use Rattle.lines.specs.Text.{Entered, ahead, onto, forms_from}
use Rattle.lines.specs.declared.refusal.LineFault.{LineFault}

-- some entries, and then what the rest of the lines gives
abbrev pub behind : List Entered → Result (List Entered × Table) LineFault → Result (List Entered × Table) LineFault
behind es (Ok p) = Ok (es ++ p.0, p.1)
behind es (Err e) = Err e

ahead_none : (n : ℕ) (r : Result (List Entered × Table) LineFault) → ahead n None r ≡ r
ahead_none n (Ok p) = refl
ahead_none n (Err e) = refl

behind_ahead : (es : List Entered) (n : ℕ) (s : Stated) (r : Result (List Entered × Table) LineFault)
    → behind es (ahead n (Some s) r) ≡ behind (es ++ record { line = n; level = s.level; form = s.form } ∷ []) r
behind_ahead es n s (Ok p) = ap (λ l. Ok (l, p.1)) (sym (append_assoc es (record { line = n; level = s.level; form = s.form } ∷ []) p.0))
behind_ahead es n s (Err e) = refl

-- the forms of the lines from i on, under the names of t
abbrev rest : Table → List Line → ℕ → Result (List Entered × Table) LineFault
rest t ls i = forms_from t (map numbered_line (drop i ls))

-- what the loop keeps: the lines before i have the entries es, and after them the names are those of t
pub record Sofar (start : Table) (ls : List Line) (i : ℕ) (es : List Entered) (t : Table) : Type 0 where
  pub left : forms_from start (map numbered_line ls) ≡ behind es (rest t ls i)

module _ {start : Table} {ls : List Line} {i : ℕ} {es : List Entered} {t : Table} (sofar : Sofar start ls i es t) where
  turned : (d : Line) (r : Result (Option Stated × Table) LineFault) → i < length ls → line_form_of t (get_or ls i d).number (get_or ls i d).bytes.now ≡ r
      → forms_from start (map numbered_line ls) ≡ behind es (onto r (λ s. ahead (get_or ls i d).number s.0 (rest s.1 ls (i + 1))))
  turned d r within is =
      sofar.left
      ∙ ap (behind es) (at_drop_more (λ l. forms_from t (map numbered_line l)) ls i d within ∙ ap (λ x. onto x (λ s. ahead (get_or ls i d).number s.0 (rest s.1 ls (i + 1)))) is)

  pub line_fault : (d : Line) (e : LineFault) → i < length ls → UnlessStarved {A = Option Stated × Table} (Err e) (line_form_of t (get_or ls i d).number (get_or ls i d).bytes.now)
      → UnlessStarved {A = List Entered × Table} (Err e) (forms_from start (map numbered_line ls))
  line_fault d e within (inl memory) = inl memory
  line_fault d e within (inr is) = inr (turned d (Err e) within is)

  pub line_blank : (d : Line) (t' : Table) → i < length ls → line_form_of t (get_or ls i d).number (get_or ls i d).bytes.now ≡ Ok (None, t') → Sofar start ls (i + 1) es t'
  line_blank d t' within is = record { left = turned d (Ok (None, t')) within is ∙ ap (behind es) (ahead_none (get_or ls i d).number (rest t' ls (i + 1))) }

  pub line_more : (d : Line) (s : Stated) (t' : Table) → i < length ls → line_form_of t (get_or ls i d).number (get_or ls i d).bytes.now ≡ Ok (Some s, t')
      → Sofar start ls (i + 1) (es ++ record { line = (get_or ls i d).number; level = s.level; form = s.form } ∷ []) t'
  line_more d s t' within is = record { left = turned d (Ok (Some s, t')) within is ∙ behind_ahead es (get_or ls i d).number s (rest t' ls (i + 1)) }

  pub lines_done : length ls ≤ i → forms_from start (map numbered_line ls) ≡ Ok (es, t)
  lines_done end = sofar.left ∙ ap (behind es) (at_drop_all (λ l. forms_from t (map numbered_line l)) ls i end) ∙ ap (λ l. Ok (l, t)) (append-nil es)

  pub entered_as : {es' : List Entered} → es' ≡ es → Sofar start ls i es' t
  entered_as e = subst (λ l. Sofar start ls i l t) (sym e) sofar
