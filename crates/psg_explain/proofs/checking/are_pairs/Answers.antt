use Rattle.std.proofs.Common.{◌*◌}
use Rattle.psg_explain.proofs.CheckLaws.{capped}
use Rattle.psg_explain.proofs.checking.are_pairs.Goals as goal

pub returns : goal.returns
returns c = λ e. capped (c.args.lefts * c.args.rights) c.args.many c.saturating_mul.result c.saturating_mul.ensures c.ranges.many.fits e
