use Rattle.std.proofs.Common.{refl}
use Rattle.psg_terms.proofs.Lists.{got_none, got_some}
use Rattle.psg_scope.specs.Headers.{keys}
use Rattle.psg_explain.proofs.DeclaredLaws.{position_none, position_pushed, position_skipped}
use Rattle.psg_explain.proofs.regions.add_position.Goals as goal

pub returns-then-position : goal.returns-then-position
returns-then-position c =
    position_pushed c.args.positions.now c.args.number (keys c.args.found.now.items) c.in-Some.position.now c.in_ok-key-in-Some.key c.args.found.now.items c.push.new.self.items
    (got_some c.args.positions.now c.args.number c.get.result c.in-Some.position c.get.ensures.lookup c.in-Some.is) c.if-position.true c.in_ok-key-in-Some.ensures refl c.in_ok-push-in-Some.ensures.items

pub returns-else-position : goal.returns-else-position
returns-else-position c =
    position_skipped c.args.positions.now c.args.number (keys c.args.found.now.items) c.in-Some.position.now
    (got_some c.args.positions.now c.args.number c.get.result c.in-Some.position c.get.ensures.lookup c.in-Some.is) c.if-position.false

pub returns-in-None : goal.returns-in-None
returns-in-None c = position_none c.args.positions.now c.args.number (keys c.args.found.now.items) (got_none c.args.positions.now c.args.number c.get.result c.get.ensures.lookup c.in-None.is)
