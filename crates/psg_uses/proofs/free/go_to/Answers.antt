use Rattle.std.proofs.Common.{◌≤◌, ◌+◌, length, ap, subst, sym, ◌∙◌}
use Rattle.psg_uses.specs.Linked.{regions_upto}
use Rattle.psg_uses.specs.Linked as linked
use Rattle.psg_uses.proofs.FreeLaws.{looked}
use Rattle.psg_uses.proofs.free.go_to.Goals as goal

pub enter-requires-clause-within : goal.enter-requires-clause-within
enter-requires-clause-within c =
    let def = c.args.linking.known.definition.now in
    let f = c.args.linking.tree.now in
    let is = looked def f c.leave.new.regions.items c.args.path.now (c.leave.ensures.way def f c.requires.way) c.leave.ensures.around in
    subst (λ n. n ≤ length c.args.path.now + 1) (sym (c.looked_at-from.ensures ∙ ap linked.looked_at c.as_slice-left.ensures.value)) is.0

pub enter-requires-clause-regions : goal.enter-requires-clause-regions
enter-requires-clause-regions c =
    let def = c.args.linking.known.definition.now in
    let f = c.args.linking.tree.now in
    let is = looked def f c.leave.new.regions.items c.args.path.now (c.leave.ensures.way def f c.requires.way) c.leave.ensures.around in
    is.1 ∙ ap (regions_upto def f c.args.path.now) (sym (c.looked_at-from.ensures ∙ ap linked.looked_at c.as_slice-left.ensures.value))
