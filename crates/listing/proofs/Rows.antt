-- The rows of one line after another.
use Rattle.std.proofs.Common.{◌≡◌, ℕ, ◌+◌, ◌<◌, ◌≤◌, ◌⊎◌, List, [], ◌++◌, map, length, get_or, drop, Ok, Err, Result, sym, refl, ap, ◌∙◌, inl, inr, add-zero, add_assoc, zero-add, arith}
use Rattle.std.proofs.lemmas.List.{append_assoc, append-nil, at_drop_more, at_drop_all}
use Rattle.listing.specs.Listing.{Rows, rows_of, above, onward, lines_rows, Shows, heading, closing, listing_of}
use Rattle.words.specs.Division.{lines_of, numbered_line}
use Rattle.words.specs.Reading.{Reading, line_of, UnlessMemory}
use Rattle.words.specs.Token.{Token}
use Rattle.words.specs.declared.reading.Line.{Line}
use Rattle.words.specs.declared.refusal.WordFault.{WordFault}
use Rattle.words.specs.declared.refusal.WordFault.TheVariants.{Memory}

-- some rows before others
abbrev pub atop : List ℕ → ℕ → Result Rows WordFault → Result Rows WordFault
atop b n (Ok rs) = Ok (record { bytes = b ++ rs.bytes; words = n + rs.words })
atop b n (Err e) = Err e

same : {b b' : List ℕ} {n n' : ℕ} → b ≡ b' → n ≡ n' → ◌≡◌ {A = Result Rows WordFault} (Ok (record { bytes = b; words = n })) (Ok (record { bytes = b'; words = n' }))
same e f i = Ok (record { bytes = e i; words = f i })

atop_none : (r : Result Rows WordFault) → atop [] 0 r ≡ r
atop_none (Ok rs) = same refl (zero-add rs.words)
atop_none (Err e) = refl

atop_above : (b : List ℕ) (n line : ℕ) (r : Reading) (rs : Result Rows WordFault) → atop b n (above line r rs) ≡ atop (b ++ rows_of line r.level r.words) (n + length r.words) rs
atop_above b n line r (Ok rs) = same (sym (append_assoc b (rows_of line r.level r.words) rs.bytes)) (sym (add_assoc n (length r.words) rs.words))
atop_above b n line r (Err e) = refl

-- the rows of the lines from i on
abbrev rest : List Line → ℕ → Result Rows WordFault
rest ls i = lines_rows (map numbered_line (drop i ls))

-- what the loop keeps: n words are shown, and `seen` was put behind `old`
pub record Sofar (old new : List ℕ) (ls : List Line) (i n : ℕ) : Type 0 where
  pub seen : List ℕ
  pub put : new ≡ old ++ seen
  pub left : lines_rows (map numbered_line ls) ≡ atop seen n (rest ls i)

module _ {old new : List ℕ} {ls : List Line} {i n : ℕ} (sofar : Sofar old new ls i n) where
  pub line_fault : (d : Line) (e : WordFault) → i < length ls → UnlessMemory (Err e) (line_of (get_or ls i d).number (get_or ls i d).bytes.now) → (e ≡ Memory) ⊎ (lines_rows (map numbered_line ls) ≡ Err e)
  line_fault d e within (inl is) = inl (cc)
  line_fault d e within (inr is) = inr (
      sofar.left ∙ ap (atop sofar.seen n) (at_drop_more (λ l. lines_rows (map numbered_line l)) ls i d within ∙ ap (λ x. onward x (λ r. above (get_or ls i d).number r (rest ls (i + 1)))) (sym is)))

  pub line_more : (d : Line) (r : Reading) (new' : List ℕ) {ws : List Token} {m : ℕ} → i < length ls
      → UnlessMemory (Ok r) (line_of (get_or ls i d).number (get_or ls i d).bytes.now)
      → ws ≡ r.words → m ≡ length r.words → new' ≡ new ++ rows_of (get_or ls i d).number r.level ws → Sofar old new' ls (i + 1) (n + m)
  line_more d r new' within (inl is) words many e = let z : ◌≡◌ {A = ℕ} 0 1 = cc in absurd (omega arith)
  line_more d r new' within (inr is) words many e =
      let line = (get_or ls i d).number in
      record {
        seen = sofar.seen ++ rows_of line r.level r.words;
        put =
            e ∙ ap (λ l. new ++ rows_of line r.level l) words ∙ ap (λ l. l ++ rows_of line r.level r.words) sofar.put
            ∙ append_assoc old sofar.seen _;
        left =
            sofar.left
            ∙ ap (atop sofar.seen n) (at_drop_more (λ l. lines_rows (map numbered_line l)) ls i d within ∙ ap (λ x. onward x (λ q. above line q (rest ls (i + 1)))) (sym is))
            ∙ atop_above sofar.seen n line r (rest ls (i + 1))
            ∙ ap (λ k. atop (sofar.seen ++ rows_of line r.level r.words) (n + k) (rest ls (i + 1))) (sym many);
      }

  pub lines_done : length ls ≤ i → Shows old new (lines_rows (map numbered_line ls)) (Ok n)
  lines_done end = (sofar.seen, sofar.left ∙ ap (atop sofar.seen n) (at_drop_all (λ l. lines_rows (map numbered_line l)) ls i end) ∙ same (append-nil sofar.seen) (add-zero n), sofar.put)

-- the whole listing
pub listed : (s : List ℕ) (ls : List (ℕ × List ℕ)) (head out end whole : List ℕ) (k n : ℕ) → UnlessMemory (Ok ls) (lines_of s) → head ≡ heading
    → Shows head out (lines_rows ls) (Ok n) → k ≡ length ls → end ≡ closing k n → whole ≡ out ++ end → UnlessMemory (Ok whole) (listing_of s)
listed s ls head out end whole k n (inl is) h shows many e f = let z : ◌≡◌ {A = ℕ} 0 1 = cc in absurd (omega arith)
listed s ls head out end whole k n (inr is) h shows many e f =
    inr
    (ap Ok (f ∙ ap (λ l. l ++ end) (shows.2 ∙ ap (λ l. l ++ shows.0) h) ∙ append_assoc heading shows.0 end ∙ ap (λ l. heading ++ (shows.0 ++ l)) (e ∙ ap (λ j. closing j n) many))
    ∙ sym (ap (λ x. onward x (λ q. onward (lines_rows q) (λ rs. Ok (heading ++ (rs.bytes ++ closing (length q) rs.words))))) (sym is)
    ∙ ap (λ x. onward x (λ rs. Ok (heading ++ (rs.bytes ++ closing (length ls) rs.words)))) shows.1))
