use Rattle.std.proofs.Common.{◌≡◌, ℕ, List, [], ◌∷◌, option_map, Option, Some, None, Bor, refl, ap, sym, ◌∙◌, rules, tests}
use Rattle.std.proofs.lemmas.Bool.{cond_both, cond-true, cond-false}
use Rattle.std.proofs.lemmas.Iterator.{YieldsList-from_slice}
use Rattle.std.proofs.lemmas.Iterator.Search.{find_from_yields_List}
use Rattle.std.specs.List.{find}
use Rattle.std.specs.Str.{bytes_eq}
use Rattle.words.specs.Scan.{listed, rows}
use Rattle.words.specs.declared.vocabulary.Keyword.{Keyword}
use Rattle.words.proofs.scan.listed_in.Goals as goal

abbrev Row : Type 0
Row = Bor (List ℕ) × Keyword

-- the keyword of the row that is found
found_listed : (t : List Row) (s : List ℕ) → option_map (λ e. e.1) (find (λ e. bytes_eq e.0.now s) t) ≡ listed (rows t) s
found_listed [] s = refl
found_listed (e ∷ t) s =
    cond_both (bytes_eq e.0.now s) (Some e) (find (λ e. bytes_eq e.0.now s) t) (λ o. option_map (λ e. e.1) o ≡ listed (rows (e ∷ t)) s)
    (λ is. sym (cond-true _ _ _ is)) (λ is. found_listed t s ∙ sym (cond-false _ _ _ is))

keyword_at : (r : Option (Bor Row)) → option_map (λ r. r.now.1) r ≡ option_map (λ e. e.1) (option_map (λ r. r.now) r)
keyword_at None = refl
keyword_at (Some r) = refl

pub returns : goal.returns
returns c =
    let found = find_from_yields_List (λ e. bytes_eq e.0.now c.args.name.now) _ _ c.find.result c.find.ensures.ran (YieldsList-from_slice c.args.table.now cc) (λ x b q k. search (rules, tests)) in
    let told : c.map.result ≡ option_map (λ r. r.now.1) c.find.result = search rules in
    told ∙ keyword_at c.find.result ∙ ap (option_map (λ e. e.1)) found ∙ found_listed c.args.table.now c.args.name.now
