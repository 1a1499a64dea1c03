use Rattle.std.proofs.Common.{◌-◌, List, drop, length}
use Rattle.std.specs.List.{AllByRecursion}
use Rattle.psg_explain.specs.declared.stages.Site.TheVariants as sites
use Rattle.psg_explain.specs.declared.stages.Stage.{Stage}
use Rattle.psg_explain.specs.Added.{AddsPairs, HasStage}
use Rattle.psg_explain.proofs.adding.add_children.Given as goal

abbrev pub invariant-loop-i : goal.invariant-loop-i
invariant-loop-i l =
    HasStage l.stages.items (length l.stages.items - 1) × AllByRecursion (HasStage l.stages.items) l.children
    × ((fin : List Stage) → AddsPairs l.place.path.now l.place.cell (sites.Node l.tree) l.i l.stages.items fin (drop l.i l.children)
    → AddsPairs l.place.path.now l.place.cell (sites.Node l.tree) 0 l.fn.stages.items fin l.children)
