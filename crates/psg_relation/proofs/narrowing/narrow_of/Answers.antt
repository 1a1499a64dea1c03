use Rattle.psg_relation.proofs.NarrowPlans.{narrow_made}
use Rattle.psg_relation.proofs.narrowing.narrow_of.Goals as goal

pub returns : goal.returns
returns c =
    narrow_made c.args.left.now c.args.right.now c.args.pairs.now c.args.keep.now c.in_ok-narrow.narrow c.keep_columns.new.narrow
    c.in_ok-narrow.ensures.paired c.in_ok-narrow.ensures.front c.in_ok-narrow.ensures.keep c.in_ok-narrow.ensures.places c.keep_columns.ensures.front c.in_ok-keep_columns.ensures.planned
