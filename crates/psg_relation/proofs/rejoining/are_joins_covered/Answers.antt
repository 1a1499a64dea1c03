use Rattle.psg_relation.specs.Rejoining.{partners}
use Rattle.psg_relation.proofs.HeldJoins.{held_all}
use Rattle.psg_relation.proofs.rejoining.are_joins_covered.Goals as goal

pub are_held-requires-clause-sound : goal.are_held-requires-clause-sound
are_held-requires-clause-sound c = c.requires.sound

pub are_held-requires-clause-compare : goal.are_held-requires-clause-compare
are_held-requires-clause-compare c = c.requires.compare

pub returns-in_ok-held-in-Err : goal.returns-in_ok-held-in-Err
returns-in_ok-held-in-Err c =
    held_all c.args.sig.now c.args.pairs.now c.args.keep.now (partners c.args.with c.args.left.now c.args.right.now) c.args.kept.now c.args.heavy.now c.requires c.in_ok-held-in-Err.held
    c.in_ok-held-in-Err.ensures
