use Rattle.psg_relation.proofs.Pairing.{pairs_within}
use Rattle.psg_relation.proofs.joining.joined_row.Goals as goal

pub settled_pairs-requires : goal.settled_pairs-requires
settled_pairs-requires c =
    let j = c.requires.joinable in
    pairs_within c.args.sig.now c.args.left.now c.args.right.now j.left_sorts j.right_sorts c.args.pairs.now j.left_sorted j.right_sorted j.equal
