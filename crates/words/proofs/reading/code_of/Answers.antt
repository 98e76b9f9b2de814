use Rattle.std.proofs.Common.{length, take, unwrap_or, ap, ◌∙◌, rules, tests}
use Rattle.std.proofs.lemmas.Iterator.Search.{position_from_yields_List}
use Rattle.words.proofs.Comments.{dashes, pairs_shown, comment_at}
use Rattle.words.proofs.reading.code_of.Goals as goal

pub returns : goal.returns
returns c =
    let s = c.args.bytes.now in
    let at = position_from_yields_List dashes _ _ c.position.result c.position.ensures.ran (pairs_shown s c.windows.result c.windows.ensures.rest c.windows.ensures.size) (λ x b q k. search (rules, tests)) in
    ap (λ n. take n s) (c.unwrap_or-length.ensures ∙ ap (λ o. unwrap_or o (length s)) at ∙ comment_at s)
