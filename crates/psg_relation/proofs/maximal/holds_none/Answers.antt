use Rattle.std.proofs.Common.{subst}
use Rattle.psg_relation.specs.Choices.{picked}
use Rattle.psg_relation.specs.Heads.{places_at}
use Rattle.psg_relation.specs.Sifted.{HoldsNone}
use Rattle.psg_relation.proofs.Indexing.{held_by}
use Rattle.psg_relation.proofs.maximal.holds_none.Goals as goal

pub returns-in_ok-none-in-Some : goal.returns-in_ok-none-in-Some
returns-in_ok-none-in-Some c = λ t.
    let kept = c.args.kept.now in
    let row = c.args.row.now in
    held_by kept row c.args.column c.in-Some.head c.args.heads.now.free.items (places_at c.args.heads.now.places) c.requires c.in-Some.ensures.some
    (subst (λ ps. HoldsNone row (picked kept ps)) c.as_slice-free.ensures.value (c.in_ok-holds_none_at-in-Some.ensures c.if-not-branch.false))
    (subst (λ ps. HoldsNone row (picked kept ps)) c.places_of-own.ensures (c.in_ok-none-in-Some.ensures t))
