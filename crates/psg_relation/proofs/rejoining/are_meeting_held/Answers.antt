use Rattle.std.proofs.Common.{true, false, subst}
use Rattle.psg_relation.specs.Choices.{picked}
use Rattle.psg_relation.specs.Heads.{places_at}
use Rattle.psg_relation.specs.Joining.{with_each}
use Rattle.psg_relation.specs.Rejoining.{AreHeld}
use Rattle.psg_relation.proofs.HeldJoins.{meeting_held, some_unheld}
use Rattle.psg_relation.proofs.rejoining.are_meeting_held.Goals as goal

pub returns-then-not-some : goal.returns-then-not-some
returns-then-not-some c =
    some_unheld c.args.sig.now c.args.pairs.now c.args.keep.now c.args.kept.now c.args.one.now c.args.right.now c.args.index.now.free.items
    (subst (λ ps. AreHeld false c.args.sig.now c.args.pairs.now c.args.keep.now c.args.kept.now (with_each c.args.one.now (picked c.args.right.now ps))) c.as_slice-free.ensures.value
    (subst (λ b. AreHeld b c.args.sig.now c.args.pairs.now c.args.keep.now c.args.kept.now (with_each c.args.one.now (picked c.args.right.now c.as_slice-free.result.now))) c.if-not-some.true c.in_ok-some-in-Some.ensures))

pub returns-in_ok-same-in-Some : goal.returns-in_ok-same-in-Some
returns-in_ok-same-in-Some c =
    meeting_held c.args.sig.now c.args.pairs.now c.args.keep.now c.args.kept.now c.args.one.now c.args.right.now c.args.first c.in-Some.head c.args.index.now.free.items (places_at c.args.index.now.places)
    c.requires.pair c.in-Some.ensures.some c.requires.others
    (subst (λ ps. AreHeld true c.args.sig.now c.args.pairs.now c.args.keep.now c.args.kept.now (with_each c.args.one.now (picked c.args.right.now ps))) c.as_slice-free.ensures.value
    (subst (λ b. AreHeld b c.args.sig.now c.args.pairs.now c.args.keep.now c.args.kept.now (with_each c.args.one.now (picked c.args.right.now c.as_slice-free.result.now))) c.if-not-some.false c.in_ok-some-in-Some.ensures))
    c.in_ok-same-in-Some.same
    (subst (λ ps. AreHeld c.in_ok-same-in-Some.same c.args.sig.now c.args.pairs.now c.args.keep.now c.args.kept.now (with_each c.args.one.now (picked c.args.right.now ps))) c.places_of-own.ensures c.in_ok-same-in-Some.ensures)
