use Rattle.std.proofs.Common.{◌≡◌, ℕ, ◌+◌, ◌<◌, cond, List, [], map, length, get_or, take, drop, Some, sym, ap, ◌∙◌}
use Rattle.std.proofs.lemmas.Bool.{cond-false}
use Rattle.std.proofs.lemmas.List.{at_drop_more, map_more}
use Rattle.lines.specs.Syntax.{mention_text, naming}
use Rattle.lines.specs.Table.{Table, clash_from, clashing, table}
use Rattle.lines.specs.declared.syntax.Mention.{Mention}
use Rattle.lines.proofs.resolution.unclashed.Goals as goal

-- the name at place i, and those after it
turn : (t : Table) (xs : List Mention) (i : ℕ) (d : Mention) → i < length xs
    → clash_from t (map mention_text (take i xs)) (map naming (drop i xs))
    ≡ cond (clashing t (map mention_text (take i xs)) (mention_text (get_or xs i d))) (Some (get_or xs i d).byte) (clash_from t (map mention_text (take (i + 1) xs)) (map naming (drop (i + 1) xs)))
turn t xs i d within =
    at_drop_more (λ l. clash_from t (map mention_text (take i xs)) (map naming l)) xs i d within
    ∙ ap (λ l. cond (clashing t (map mention_text (take i xs)) (mention_text (get_or xs i d))) (Some (get_or xs i d).byte) (clash_from t l (map naming (drop (i + 1) xs)))) (sym (map_more mention_text xs i d within))

pub loop-i-preserved : goal.loop-i-preserved
loop-i-preserved c =
    c.loop-i.invariant
    ∙ turn (table c.args.names.now) _ _ (record { text = record { ref_ptr = (0, 0); now = [] }; byte = 0 }) c.loop-i-test.true
    ∙ cond-false _ _ _ (sym c.if-clashes.ensures)
