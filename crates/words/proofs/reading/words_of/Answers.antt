use Rattle.std.proofs.Common.{map, length, is_ok, length-drop, refl, sym, ap, ◌∙◌, inr, arith}
use Rattle.std.proofs.lemmas.List.{map_push, take_rest}
use Rattle.std.proofs.lemmas.Result.{err_from_is_err_and}
use Rattle.std.proofs.ResultArms.{chosen}
use Rattle.words.specs.Token.{token}
use Rattle.words.proofs.Turns.{fault_turn, word_size, word_turn, line_done}
use Rattle.words.proofs.reading.words_of.Goals as goal

pub returns-in_err-word-clause-reads : goal.returns-in_err-word-clause-reads
returns-in_err-word-clause-reads c =
    let p = err_from_is_err_and c.from_residual.result c.from_residual.ensures.1 in
    rw (p.1, p.2, fault_turn c.in-len1-up.len_at_least c.loop-rest.invariant _ c.if-first-eq32.false c.in_err-word.ensures) (inr refl)

pub slice_bounds-rest-count : goal.slice_bounds-rest-count
slice_bounds-rest-count c =
    let sized = word_size c.in-len1-up.len_at_least c.loop-rest.invariant (token c.in_ok-word.word) c.in_ok-word.ensures in
    omega (arith, sized.1, ap length c.text.ensures)

pub slice_bounds-rest-start : goal.slice_bounds-rest-start
slice_bounds-rest-start c =
    let sized = word_size c.in-len1-up.len_at_least c.loop-rest.invariant (token c.in_ok-word.word) c.in_ok-word.ensures in
    omega (arith, sized.1, ap length c.text.ensures)

pub loop-rest-smaller : goal.loop-rest-smaller
loop-rest-smaller c =
    let sized = word_size c.in-len1-up.len_at_least c.loop-rest.invariant (token c.in_ok-word.word) c.in_ok-word.ensures in
    let m = length c.text.result.now in
    omega (arith, sized.0, sized.1, ap length c.text.ensures, ap length (take_rest c.loop-rest.rest.now m), length-drop m c.loop-rest.rest.now)

pub loop-rest-preserved : goal.loop-rest-preserved
loop-rest-preserved c =
    let ok = ap is_ok c.in_ok-push.was in
    let pushed = chosen _ _ _ _ c.push.ensures.items ok in
    let more = chosen _ _ _ _ c.push.ensures.len ok in
    rw more (word_turn c.in-len1-up.len_at_least c.loop-rest.invariant (token c.in_ok-word.word) _ (ap length c.text.ensures) (ap (map token) pushed ∙ map_push token _ _) c.if-first-eq32.false c.in_ok-word.ensures)

pub returns-clause-reads : goal.returns-clause-reads
returns-clause-reads c = inr (sym (line_done c.in_default.len_below c.loop-rest.invariant))
