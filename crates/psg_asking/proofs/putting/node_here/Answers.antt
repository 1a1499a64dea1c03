use Rattle.psg_asking.proofs.PutLaws.{node_opened, none_opened}
use Rattle.psg_asking.proofs.putting.node_here.Goals as goal

pub returns-in-Some : goal.returns-in-Some
returns-in-Some c =
    node_opened c.args.editor.now c.in-Some.held c.in-Some.is c.tree.result.now c.tree.ensures c.at.result c.at.ensures

pub returns-in-None : goal.returns-in-None
returns-in-None c = none_opened c.args.editor.now c.in-None.is
