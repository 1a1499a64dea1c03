use Rattle.psg_lint.specs.Judged.{def_of, tree_in}
use Rattle.psg_lint.proofs.HintLaws.{members_found, no_members}
use Rattle.psg_lint.proofs.hints.members_at.Goals as goal

pub add_members-requires : goal.add_members-requires
add_members-requires c = record { known = c.requires.wrong.judged.known }

pub returns-in_ok-add_members-in-Some : goal.returns-in_ok-add_members-in-Some
returns-in_ok-add_members-in-Some c =
    let j = c.args.wrong.judged in
    members_found j.spots.known.definition.now j.definition.now j.tree.now c.args.path.now c.steps.result.now c.at.result c.in-Some.node
    c.new-found.result.items c.add_members.new.found.items c.requires.wrong.judged.same c.at.ensures c.in-Some.is c.steps.ensures
    c.new-found.ensures.items c.in_ok-add_members-in-Some.ensures

pub returns-in-None : goal.returns-in-None
returns-in-None c =
    no_members (def_of c.args.wrong) (tree_in c.args.wrong) c.args.path.now c.at.result c.new-found.result.items c.at.ensures
    c.in-None.is c.new-found.ensures.items
