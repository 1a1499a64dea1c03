use Rattle.std.proofs.Common.{ap}
use Rattle.psg_lint.specs.Judged.{def_of, tree_in}
use Rattle.psg_lint.proofs.SuspectLaws.{is_name, named_so, no_declaration, none_named}
use Rattle.psg_lint.proofs.suspects.is_declared.Goals as goal

pub returns-in-Some : goal.returns-in-Some
returns-in-Some c =
    named_so (def_of c.args.wrong) (tree_in c.args.wrong) c.args.place.now _ _ c.in_ok-found-in-Name.found
    c.in-Some.own c.in-Name.is c.in_ok-found-in-Name.ensures c.in-Some.is

pub returns-in-None : goal.returns-in-None
returns-in-None c =
    none_named (def_of c.args.wrong) (tree_in c.args.wrong) c.args.place.now _ _ c.in_ok-found-in-Name.found
    c.in-Name.is c.in_ok-found-in-Name.ensures c.in-None.is

pub returns-in-Node : goal.returns-in-Node
returns-in-Node c = no_declaration (def_of c.args.wrong) (tree_in c.args.wrong) c.args.place.now (ap is_name c.in-Node.is)

pub returns-in-Element : goal.returns-in-Element
returns-in-Element c = no_declaration (def_of c.args.wrong) (tree_in c.args.wrong) c.args.place.now (ap is_name c.in-Element.is)

pub returns-in-End : goal.returns-in-End
returns-in-End c = no_declaration (def_of c.args.wrong) (tree_in c.args.wrong) c.args.place.now (ap is_name c.in-End.is)
