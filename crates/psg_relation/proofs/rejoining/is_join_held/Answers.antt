use Rattle.std.proofs.Common.{◌↔◌, inl, IsTrue, subst}
use Rattle.psg_relation.specs.Joining.{IsJoinOf, IsJoint}
use Rattle.psg_relation.specs.Sifted.{IsCovered}
use Rattle.psg_relation.proofs.HeldJoins.{row_held, large_held}
use Rattle.psg_relation.proofs.rejoining.is_join_held.Goals as goal

pub joined_row-requires-clause-joinable : goal.joined_row-requires-clause-joinable
joined_row-requires-clause-joinable c = c.requires.compare.joinable

pub joined_row-requires-clause-keep : goal.joined_row-requires-clause-keep
joined_row-requires-clause-keep c = c.requires.compare.within

pub returns-in-None : goal.returns-in-None
returns-in-None c = inl (subst (IsJoint c.args.sig.now c.args.pairs.now c.args.keep.now c.args.left.now c.args.right.now) c.in-None.is c.in_ok-joined.ensures)

pub returns-then-is_heavy : goal.returns-then-is_heavy
returns-then-is_heavy c =
    let j : IsJoinOf c.args.sig.now c.args.pairs.now c.args.keep.now c.args.left.now c.args.right.now c.in-Some.row =
    subst (IsJoint c.args.sig.now c.args.pairs.now c.args.keep.now c.args.left.now c.args.right.now) c.in-Some.is c.in_ok-joined.ensures in
    large_held c.args.sig.now c.args.pairs.now c.args.keep.now c.requires.sound c.args.kept.now (c.args.left.now, c.args.right.now) c.requires.compare c.in-Some.row j c.in_ok-large-in-Some.large
    c.in_ok-large-in-Some.ensures

pub returns-in_ok-held-in-Some : goal.returns-in_ok-held-in-Some
returns-in_ok-held-in-Some c =
    let j : IsJoinOf c.args.sig.now c.args.pairs.now c.args.keep.now c.args.left.now c.args.right.now c.in-Some.row =
    subst (IsJoint c.args.sig.now c.args.pairs.now c.args.keep.now c.args.left.now c.args.right.now) c.in-Some.is c.in_ok-joined.ensures in
    row_held c.args.sig.now c.args.pairs.now c.args.keep.now c.requires.sound c.args.kept.now (c.args.left.now, c.args.right.now) c.requires.compare c.in-Some.row j c.in_ok-held-in-Some.held
    (subst (λ r. IsTrue c.in_ok-held-in-Some.held ↔ IsCovered c.args.kept.now r) c.terms.ensures c.in_ok-held-in-Some.ensures)
