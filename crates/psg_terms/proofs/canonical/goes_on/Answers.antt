use Rattle.std.proofs.Common.{◌≡◌, ◌+◌, ◌-◌, ◌<◌, length, get_or, ap, sym, ◌∙◌, arith}
use Rattle.std.proofs.lemmas.Bool.Decides.{nat_tests}
use Rattle.psg_terms.specs.declared.sorts.SortId.{SortId}
use Rattle.psg_terms.proofs.Recognising.{noted_next, noted_known}
use Rattle.psg_terms.proofs.canonical.goes_on.Goals as goal

pub returns-then-number-count : goal.returns-then-number-count
returns-then-number-count c = λ _.
    let n : c.args.number ≡ length c.args.known.now.items + 1 = let l = c.len-count.ensures in let t = c.if-number-count.true in grind arith in
    noted_next c.args.known.now.items c.push.new.self.items c.args.sort c.args.number n c.in_ok-push.ensures.items

pub returns : goal.returns
returns c = λ h.
    let same : c.index.result.now.0 ≡ c.args.sort.0 = grind (arith, nat_tests) in
    let at : (get_or c.args.known.now.items (c.args.number - 1) c.index.result.now).0 ≡ c.args.sort.0 = ap (λ (s : SortId). s.0) (sym c.index.ensures) ∙ same in
    let some : c.args.number ≡ c.args.number - 1 + 1 = let z = c.if-number-eq0.false in grind arith in
    let within : c.args.number - 1 < length c.args.known.now.items = let l = c.len-count.ensures in let z = c.if-number-eq0.false in let b = c.if-number-count-2.false in grind arith in
    noted_known c.args.known.now.items c.args.sort c.index.result.now c.args.number (c.args.number - 1) some within at
