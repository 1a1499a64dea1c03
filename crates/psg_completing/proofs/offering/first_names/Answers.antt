use Rattle.std.proofs.Common.{sym, arith}
use Rattle.std.proofs.lemmas.List.{length-take-le, take_all}
use Rattle.psg_completing.proofs.offering.first_names.Goals as goal

pub slice_bounds-result-end : goal.slice_bounds-result-end
slice_bounds-result-end c =
    let lt = c.if-names-gt-MOST_NAMES.true in sym (length-take-le 100 c.args.names.now (omega (arith, lt)))

pub returns-else-names-gt-MOST_NAMES : goal.returns-else-names-gt-MOST_NAMES
returns-else-names-gt-MOST_NAMES c =
    let le = c.if-names-gt-MOST_NAMES.false in sym (take_all 100 c.args.names.now (omega (arith, le)))
