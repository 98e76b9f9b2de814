use Rattle.std.proofs.Common.{◌≡◌, ◌*◌, ◌%◌, ◌^◌, sym, ap, ◌∙◌, subst, rules}
use Rattle.std.proofs.lemmas.Nat.{one_shl}
use Rattle.expressions.specs.Expression.{shape}
use Rattle.expressions.specs.Reads.{Masks}
use Rattle.expressions.proofs.Masks.{mask_one, mask_both, mask_at, mask_suffices}
use Rattle.expressions.proofs.Expr+Variable.+reads.Goals as goal

pub returns-in-Number-clause-suffices : goal.returns-in-Number-clause-suffices
returns-in-Number-clause-suffices t c = mask_suffices 0 (shape c.args.self.now) (search rules)

pub returns-in-Number-2-clause-suffices : goal.returns-in-Number-2-clause-suffices
returns-in-Number-2-clause-suffices t c = mask_suffices 0 (shape c.args.self.now) (search rules)

pub returns-in-Name : goal.returns-in-Name
returns-in-Name t c =
    let k = c.in-Name.x.number in
    let is : (1 * 2 ^ c.number.result) % 2 ^ 64 ≡ 2 ^ k = ap (λ n. (1 * 2 ^ n) % 2 ^ 64) c.number.ensures ∙ one_shl k 64 c.in-Name.x.below in
    let m = mask_at (ap shape c.in-Name.is) (subst (λ n. Masks n (λ x. x ≡ k)) (sym is) (mask_one k)) in
    record { variables = m; suffices = mask_suffices _ _ m }

pub returns-in-Negative-clause-suffices : goal.returns-in-Negative-clause-suffices
returns-in-Negative-clause-suffices t c = mask_suffices c.reads-in-Negative.result (shape c.args.self.now) (search rules)

pub returns-in-Dyadic : goal.returns-in-Dyadic
returns-in-Dyadic t c =
    let a = mask_at (sym (ap shape c.deref.ensures)) c.reads.ensures.variables in
    let b = mask_at (sym (ap shape c.deref-in-Dyadic.ensures)) c.reads-in-Dyadic.ensures.variables in
    let m = mask_at (ap shape c.in-Dyadic.is) (mask_both _ _ a b) in
    record { variables = m; suffices = mask_suffices _ _ m }
