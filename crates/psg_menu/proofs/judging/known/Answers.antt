use Rattle.std.proofs.Common.{get_or, refl, arith}
use Rattle.psg_relation.proofs.Members.{in-at}
use Rattle.psg_menu.proofs.judging.known.Goals as goal

pub returns-then-same : goal.returns-then-same
returns-then-same c =
    let place = get_or c.args.places.now c.loop-i.i 0 in
    (c.index-classes-place.result, in-at c.index-classes-place.result c.args.classes.now place (omega (arith, c.if-place-classes.false)) c.index-classes-place.is, c.same.ensures.0 c.if-same.true, refl)
