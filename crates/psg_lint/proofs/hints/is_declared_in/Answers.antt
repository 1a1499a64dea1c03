use Rattle.psg_lint.specs.Judged.{def_of, tree_in}
use Rattle.psg_lint.proofs.HintLaws.{none_other, other_found}
use Rattle.psg_lint.proofs.hints.is_declared_in.Goals as goal

pub returns-in-Some : goal.returns-in-Some
returns-in-Some c =
    other_found (def_of c.args.wrong) (tree_in c.args.wrong) c.args.region.now c.args.name.now c.in-Some.other c.in_ok-found.found
    c.is_in-inside.result c.in_ok-found.ensures c.in-Some.is c.is_in-inside.ensures

pub returns-in-None : goal.returns-in-None
returns-in-None c =
    none_other (def_of c.args.wrong) (tree_in c.args.wrong) c.args.region.now c.args.name.now c.in_ok-found.found c.in_ok-found.ensures c.in-None.is
