use Rattle.std.proofs.Common.{ap}
use Rattle.psg_lint.specs.Judged.{def_of, tree_in}
use Rattle.psg_lint.proofs.HintLaws.{is_name_place, no_use_here, use_here}
use Rattle.psg_lint.proofs.hints.loose_use.Goals as goal

pub returns-in-Node : goal.returns-in-Node
returns-in-Node c =
    no_use_here (def_of c.args.wrong) (tree_in c.args.wrong) c.args.region.now c.args.place.now (ap is_name_place c.in-Node.is)

pub returns-in-Element : goal.returns-in-Element
returns-in-Element c =
    no_use_here (def_of c.args.wrong) (tree_in c.args.wrong) c.args.region.now c.args.place.now (ap is_name_place c.in-Element.is)

pub returns-in-End : goal.returns-in-End
returns-in-End c =
    no_use_here (def_of c.args.wrong) (tree_in c.args.wrong) c.args.region.now c.args.place.now (ap is_name_place c.in-End.is)

pub returns-in_ok-found-in-Name : goal.returns-in_ok-found-in-Name
returns-in_ok-found-in-Name c =
    use_here (def_of c.args.wrong) (tree_in c.args.wrong) c.args.region.now c.args.place.now _ c.in_ok-found-in-Name.found c.in-Name.is
    c.in_ok-found-in-Name.ensures
