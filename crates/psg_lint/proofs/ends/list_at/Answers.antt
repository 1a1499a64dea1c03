use Rattle.std.proofs.Common.{sym, subst}
use Rattle.psg_grammar.specs.Paths.{IsList}
use Rattle.psg_lint.proofs.EndLaws.{list_formed, list_there, listed_is}
use Rattle.psg_lint.proofs.MessageLaws.{found_node, no_node, same_found}
use Rattle.psg_lint.proofs.ends.list_at.Goals as goal

pub unreachable-requires : goal.unreachable-requires
unreachable-requires c =
    let (list, at, is_list) = c.requires.there in
    no_node c.args.tree.now c.args.path.now c.at-place.result c.at-place.ensures c.in_default.is (list, at)

pub as_list-found-requires-clause-formed : goal.as_list-found-requires-clause-formed
as_list-found-requires-clause-formed c =
    list_formed c.args.judged.definition.now c.args.tree.now c.args.path.now c.in-Some.node.now
    (found_node c.args.tree.now c.args.path.now c.at-place.result c.in-Some.node c.at-place.ensures c.in-Some.is) c.requires.formed

pub unreachable-requires-in_default-found : goal.unreachable-requires-in_default-found
unreachable-requires-in_default-found c =
    let (list, at, is_list) = c.requires.there in
    c.as_list-found.ensures.none c.in_default-found.is
    (subst IsList (sym (same_found c.args.tree.now c.args.path.now c.at-place.result c.in-Some.node list c.at-place.ensures c.in-Some.is at)) is_list)

pub returns : goal.returns
returns c =
    list_there c.args.judged.definition.now c.args.tree.now c.args.path.now c.in-Some.node.now
    (found_node c.args.tree.now c.args.path.now c.at-place.result c.in-Some.node c.at-place.ensures c.in-Some.is) c.in-Some-found.list
    (listed_is c.args.judged.definition.now c.in-Some.node.now c.as_list-found.result c.in-Some-found.list c.in-Some-found.is c.as_list-found.ensures.some)
