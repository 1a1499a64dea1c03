use Rattle.psg_session.proofs.LeafNames.{name_leaf}
use Rattle.psg_session.proofs.leaves.is_name_leaf.Goals as goal

pub returns-in-Name : goal.returns-in-Name
returns-in-Name c =
    name_leaf c.args.language.now c.requires.language c.args.leaf.now c.in-Name.name c.as_str.result.now
    c.reserved.result c.in-Name.is c.as_str.ensures c.as_str.utf8
    c.requires.word c.reserved.ensures.exact
