use Rattle.std.proofs.Common.{arith}
use Rattle.std.proofs.lemmas.List.Sums.{suffix_len-le-length}
use Rattle.psg_commented.specs.Printing.{is_other}
use Rattle.psg_commented.proofs.printing.own_level.Goals as goal

pub returns-clause-level : goal.returns-clause-level
returns-clause-level c =
    omega (arith, c.after_feed.ensures.feed, suffix_len-le-length is_other c.args.gap.now)
