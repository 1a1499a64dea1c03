use Rattle.std.proofs.Common.{rules, true, false, get_or, ◌≡◌, ◌<◌, length}
use Rattle.psg_menu.proofs.BlankLaws.{fixed}
use Rattle.psg_menu.proofs.MenuLaws.{CanStand, each_op}
use Rattle.psg_wanted.proofs.ListedLaws.{lists_none, lists_passed, lists_taken, lists_whole}
use Rattle.psg_wanted.proofs.menus.listed.Goals as goal

pub loop-place-init : goal.loop-place-init
loop-place-init g c =
    lists_none c.args.definition.now c.args.frames.now c.args.used.now c.args.ops.now c.new-found.result.items c.new-found.ensures.items

pub is_listed-requires-clause-operator : goal.is_listed-requires-clause-operator
is_listed-requires-clause-operator g c =
    let def = c.args.definition.now in
    let within : c.loop-place.place < length c.args.ops.now = search rules in
    each_op def (CanStand def c.args.frames.now) c.args.ops.now c.loop-place.place (get_or c.args.ops.now c.loop-place.place 0) c.requires.operators within (fixed c.args.ops.now c.loop-place.place within)

pub loop-place-preserved-then-not-good : goal.loop-place-preserved-then-not-good
loop-place-preserved-then-not-good g c =
    let within : c.loop-place.place < length c.args.ops.now = search rules in
    let is : c.in_ok-good.good ≡ false = search rules in
    lists_passed c.args.definition.now c.args.frames.now c.args.used.now c.args.ops.now c.loop-place.place (get_or c.args.ops.now c.loop-place.place 0)
    c.loop-place.found.items c.in_ok-good.good within (fixed c.args.ops.now c.loop-place.place within) is c.loop-place.invariant c.in_ok-good.ensures

pub loop-place-preserved : goal.loop-place-preserved
loop-place-preserved g c =
    let within : c.loop-place.place < length c.args.ops.now = search rules in
    let is : c.in_ok-good.good ≡ true = search rules in
    lists_taken c.args.definition.now c.args.frames.now c.args.used.now c.args.ops.now c.loop-place.place (get_or c.args.ops.now c.loop-place.place 0)
    c.loop-place.found.items c.push.new.self.items c.in_ok-good.good within (fixed c.args.ops.now c.loop-place.place within) is c.loop-place.invariant
    c.in_ok-good.ensures c.in_ok-push.ensures.items

pub returns : goal.returns
returns g c =
    let end : c.loop-place.place ≡ length c.args.ops.now = search rules in
    lists_whole c.args.definition.now c.args.frames.now c.args.used.now c.args.ops.now c.loop-place.found.items c.loop-place.place end c.loop-place.invariant
