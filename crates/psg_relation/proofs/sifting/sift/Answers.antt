use Rattle.std.proofs.Common.{◌≡◌, ◌≤◌, ap, length, arith}
use Rattle.std.proofs.lemmas.Option.{IfSome_then}
use Rattle.psg_terms.specs.Text.{IsInTextOrder}
use Rattle.psg_relation.proofs.Splitting.{alone_ordered}
use Rattle.psg_relation.proofs.sifting.sift.Goals as goal

pub returns-then-len-le1-clause-order : goal.returns-then-len-le1-clause-order
returns-then-len-le1-clause-order c =
    let few : length c.args.rows.items ≤ 1 = let n = c.len.ensures in let t = c.if-len-le1.true in grind arith in
    IfSome_then c.alone.result {P = (λ kept. kept.items ≡ c.args.rows.items)} {Q = (λ kept. IsInTextOrder c.args.sig.now kept.items)} c.alone.ensures.same (λ kept e. alone_ordered c.args.sig.now kept.items (let same = ap length e in omega arith))
