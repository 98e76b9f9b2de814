use Rattle.std.proofs.Common.{ℕ, List, map, is_ok, Ok, Err, vec_items, Result, ap, ◌∙◌, inr, arith, rules, tests, [], ◌∷◌}
use Rattle.std.proofs.ResultArms.{chosen}
use Rattle.std.proofs.lemmas.List.{map_push, length_push}
use Rattle.std.proofs.lemmas.Slice.Eq.{strip_suffix_is}
use Rattle.std.proofs.lemmas.Bool.{eqb-true, eq-eqb}
use Rattle.words.specs.Division.{lines_of, numbered_line}
use Rattle.words.specs.Reading.{UnlessMemory}
use Rattle.words.specs.declared.refusal.WordFault.{WordFault}
use Rattle.words.specs.declared.refusal.WordFault.TheVariants.{TooManyLines}
use Rattle.words.proofs.Divided.{one_more, too_many, all_lines}
use Rattle.words.proofs.Limited.{limited}
use Rattle.words.proofs.Pieces.{without_end, stripped, lines_shown, next_of, end_of}
use Rattle.words.proofs.division.split.Goals as goal

-- an answer for the text s
abbrev Divided : List ℕ → Result (List (ℕ × List ℕ)) WordFault → Type 0
Divided s r = UnlessMemory r (lines_of s)

pub returns-then-count-eq-TEXT_LINES : goal.returns-then-count-eq-TEXT_LINES
returns-then-count-eq-TEXT_LINES c =
    let t = next_of c.loop-piece.yielded _ c.loop-piece.yielded_by _ _ c.in-Some.piece c.in-Some.is c.next.ensures.steps (lines_shown _ c.args.text.now (cc) (cc) (λ x b q k. search (rules, tests))) in
    let splits : Divided c.args.text.now (Err TooManyLines) = inr (too_many c.loop-piece.invariant c.if-text-gt-TEXT_BYTES.false (omega (arith, c.len-count.ensures, c.if-count-eq-TEXT_LINES.true)) t.0) in
    record { splits = splits; right = limited _ _ splits; few = tt }

pub loop-piece-preserved : goal.loop-piece-preserved
loop-piece-preserved c =
    let t = next_of c.loop-piece.yielded _ c.loop-piece.yielded_by _ _ c.in-Some.piece c.in-Some.is c.next.ensures.steps (lines_shown _ c.args.text.now (cc) (cc) (λ x b q k. search (rules, tests))) in
    let bytes = stripped c.in-Some.piece c.strip_suffix.result (strip_suffix_is (λ a b. (eqb-true a b, eq-eqb a b)) c.in-Some.piece.now (10 ∷ []) c.strip_suffix.result c.strip_suffix.ensures.cases) in
    let ok = ap is_ok c.in_ok-push.was in
    let items = chosen _ _ _ _ c.push.ensures.items ok in
    let len = chosen _ _ _ _ c.push.ensures.len ok in
    let more = one_more c.loop-piece.invariant (without_end c.in-Some.piece.now) (λ e. c.if-count-eq-TEXT_LINES.false (c.len-count.ensures ∙ e)) t in
    rw (items, len, c.len-count.ensures) (rw (map_push numbered_line _ _, length_push _ _, c.unwrap_or.ensures, bytes) more)

pub returns : goal.returns
returns c =
    let end = end_of c.loop-piece.yielded _ c.loop-piece.yielded_by _ _ c.in-None.is c.next.ensures.steps (lines_shown _ c.args.text.now (cc) (cc) (λ x b q k. search (rules, tests))) in
    let splits : Divided c.args.text.now (Ok (map numbered_line (vec_items c.loop-piece.lines))) = inr (all_lines c.loop-piece.invariant c.if-text-gt-TEXT_BYTES.false end) in
    record { splits = splits; right = limited _ _ splits; few = c.loop-piece.invariant.few }
