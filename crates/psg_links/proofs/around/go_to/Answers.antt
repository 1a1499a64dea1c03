use Rattle.std.proofs.Common.{◌≤◌, ◌+◌, length, ap, subst, sym, ◌∙◌}
use Rattle.psg_links.specs.Around.{regions_upto}
use Rattle.psg_links.specs.Around as around
use Rattle.psg_links.proofs.AroundLaws.{looked}
use Rattle.psg_links.proofs.around.go_to.Goals as goal

pub enter-requires-clause-within : goal.enter-requires-clause-within
enter-requires-clause-within c =
    let def = c.args.definition.now in
    let f = c.args.tree.now in
    let is = looked def f c.leave.new.regions.items c.args.path.now (c.leave.ensures.way def f c.requires.way) c.leave.ensures.around in
    subst (λ n. n ≤ length c.args.path.now + 1) (sym (c.looked_at-from.ensures ∙ ap around.looked_at c.as_slice-left.ensures.value)) is.0

pub enter-requires-clause-regions : goal.enter-requires-clause-regions
enter-requires-clause-regions c =
    let def = c.args.definition.now in
    let f = c.args.tree.now in
    let is = looked def f c.leave.new.regions.items c.args.path.now (c.leave.ensures.way def f c.requires.way) c.leave.ensures.around in
    is.1 ∙ ap (regions_upto def f c.args.path.now) (sym (c.looked_at-from.ensures ∙ ap around.looked_at c.as_slice-left.ensures.value))
