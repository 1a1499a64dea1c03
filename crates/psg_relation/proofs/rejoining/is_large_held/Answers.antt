use Rattle.std.proofs.Common.{inl}
use Rattle.psg_terms.proofs.Lists.{IfSome_at}
use Rattle.psg_unify.specs.Unwritten.{IsUnwritten}
use Rattle.psg_unify.proofs.Composed.{none_known}
use Rattle.psg_relation.proofs.HeldJoins.{by_cells}
use Rattle.psg_relation.proofs.rejoining.is_large_held.Goals as goal

pub of-requires-clause-joinable : goal.of-requires-clause-joinable
of-requires-clause-joinable c = c.requires.joinable

pub of-requires-clause-keep : goal.of-requires-clause-keep
of-requires-clause-keep c = c.requires.within

pub returns-in_ok-held-in-Some : goal.returns-in_ok-held-in-Some
returns-in_ok-held-in-Some c =
    by_cells c.args.sig.now c.args.pairs.now c.args.keep.now c.args.kept.now (c.args.left.now, c.args.right.now) c.in_ok-held-in-Some.held
    (c.in_ok-held-in-Some.ensures (c.args.left.now, c.args.right.now) c.args.pairs.now c.args.keep.now
    (IfSome_at (λ row. IsUnwritten c.args.sig.now c.args.left.now c.args.right.now c.args.pairs.now c.args.keep.now row) c.in_ok-solved.solved c.in-Some.row c.in-Some.is c.in_ok-solved.ensures.some) c.requires)

pub returns-in-None : goal.returns-in-None
returns-in-None c = inl (λ x (full, a, e). none_known c.in_ok-solved.solved c.in-None.is c.in_ok-solved.ensures.none full a)
