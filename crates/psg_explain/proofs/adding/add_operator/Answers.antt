use Rattle.std.proofs.Common.{sym, ◌∙◌}
use Rattle.psg_grammar.specs.Fragments.{children_of}
use Rattle.psg_explain.proofs.StagingLaws.{closes_none, closes_scope, operator_comes}
use Rattle.psg_explain.proofs.StepLaws.{all_stay, ends_there, has_last}
use Rattle.psg_explain.proofs.adding.add_operator.Goals as goal

pub add_children-requires-clause-last : goal.add_children-requires-clause-last
add_children-requires-clause-last c = has_last _ _ _ c.in_ok-add.ensures c.in_ok-header.ensures.ordered

pub add_children-requires-clause-children : goal.add_children-requires-clause-children
add_children-requires-clause-children c =
    all_stay _ _ _ c.args.children.now c.in_ok-add.ensures
    (ends_there c.args.definition.now c.args.stages.now.items (children_of c.args.tree.now) c.args.children.now c.requires.count c.requires.ends)

pub add_closing-requires : goal.add_closing-requires
add_closing-requires c = c.in_ok-add_children.ensures.last

pub returns-then-is_scope : goal.returns-then-is_scope
returns-then-is_scope c =
    let def = c.args.definition.now in
    let f = c.args.tree.now in
    let path = c.args.place.path.now in
    let cell = c.args.place.cell in
    let made =
    operator_comes def f c.requires.formed c.requires.top path cell c.in_ok-header.header c.in_ok-site.site c.in_ok-site.ensures c.in_ok-header.ensures.header c.in_ok-header.ensures.ordered
    c.args.children.now c.args.stages.now.items c.add.new.stages.items c.add_children.new.stages.items c.add_closing.new.stages.items c.requires.count c.requires.ends c.in_ok-add.ensures c.in_ok-add_children.ensures.pairs
    (closes_scope def f c.requires.formed c.requires.top path cell _ c.add_children.new.stages.items c.add_closing.new.stages.items c.requires.count (sym c.is_scope.ensures ∙ c.if-is_scope.true) c.in_ok-add_closing.ensures) in
    record { steps = made.0; last = made.1 }

pub returns : goal.returns
returns c =
    let def = c.args.definition.now in
    let f = c.args.tree.now in
    let path = c.args.place.path.now in
    let cell = c.args.place.cell in
    let made =
    operator_comes def f c.requires.formed c.requires.top path cell c.in_ok-header.header c.in_ok-site.site c.in_ok-site.ensures c.in_ok-header.ensures.header c.in_ok-header.ensures.ordered
    c.args.children.now c.args.stages.now.items c.add.new.stages.items c.add_children.new.stages.items c.add_children.new.stages.items c.requires.count c.requires.ends c.in_ok-add.ensures c.in_ok-add_children.ensures.pairs
    (closes_none def f c.requires.formed c.requires.top path cell c.add_children.new.stages.items (sym c.is_scope.ensures ∙ c.if-is_scope.false)) in
    record { steps = made.0; last = made.1 }
