use Rattle.std.proofs.Common.{◌≡◌, [], ap, subst, ◌∙◌}
use Rattle.psg_grammar.specs.Fragments.{Fragment}
use Rattle.psg_grammar.specs.Paths.{Path, node_at}
use Rattle.psg_places.specs.Opened.{opened}
use Rattle.psg_wanted.specs.Fronts.{AreValues, is_first}
use Rattle.psg_lint.specs.Judged.{fresh_of}
use Rattle.psg_lint.proofs.MessageLaws.{alone_formed, found_node, no_node, only_first, same_found, wrong_sound}
use Rattle.psg_lint.proofs.messages.found_at.Goals as goal

pub unreachable-requires : goal.unreachable-requires
unreachable-requires g c = no_node c.args.wrong.judged.tree.now c.args.path.now c.at-place.result c.at-place.ensures c.in_default.is c.requires.there

pub values_at-requires-clause-sound : goal.values_at-requires-clause-sound
values_at-requires-clause-sound g c = wrong_sound c.args.wrong c.requires.wrong

pub values_at-requires-clause-formed : goal.values_at-requires-clause-formed
values_at-requires-clause-formed g c =
    alone_formed c.args.wrong c.requires.wrong c.args.path.now c.in-Some.node.now c.in_ok-alone.alone
    (found_node c.args.wrong.judged.tree.now c.args.path.now c.at-place.result c.in-Some.node c.at-place.ensures c.in-Some.is) c.in_ok-alone.ensures

pub values_at-requires-clause-there : goal.values_at-requires-clause-there
values_at-requires-clause-there g c = (c.in_ok-alone.alone, ap (node_at c.in_ok-alone.alone) c.in_ok-top.ensures)

pub returns-clause-values : goal.returns-clause-values
returns-clause-values g c = λ node at.
    let w = c.args.wrong in
    let def = w.judged.definition.now in
    let own : c.in-Some.node.now ≡ node = same_found w.judged.tree.now c.args.path.now c.at-place.result c.in-Some.node node c.at-place.ensures c.in-Some.is at in
    let whole = c.in_ok-alone.ensures ∙ only_first def (fresh_of w) c.in-Some.node.now in
    subst (λ (n : Fragment). AreValues def (opened def is_first (fresh_of w) n) [] c.in_ok-values.values.items) own
    (subst (λ (p : Path). AreValues def (opened def is_first (fresh_of w) c.in-Some.node.now) p c.in_ok-values.values.items) c.in_ok-top.ensures
    (subst (λ (t : Fragment). AreValues def t c.in_ok-top.top c.in_ok-values.values.items) whole c.in_ok-values.ensures.values))
