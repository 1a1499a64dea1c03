use Rattle.std.proofs.Common.{◌∙◌, ap, sym}
use Rattle.psg_grammar.specs.Fragments.{operator}
use Rattle.psg_tree.specs.Shapes.{list_of, tree_of, with_parts}
use Rattle.psg_cache.proofs.AlikeLaws.{told_there}
use Rattle.psg_cache.proofs.renoting.tops_alike.Goals as goal

pub returns-in-Hole : goal.returns-in-Hole
returns-in-Hole c =
    told_there c.hole_alike.result _ c.args.old.now c.args.new.now (sym (ap tree_of c.in-Hole.is) ∙ c.shape.ensures)
    c.hole_alike.ensures

pub returns-in-Op : goal.returns-in-Op
returns-in-Op c =
    told_there c.operator_alike.result _ c.args.old.now c.args.new.now
    (ap (with_parts (operator c.in-Op.op)) c.as_slice.ensures ∙ sym (ap tree_of c.in-Op.is) ∙ c.shape.ensures)
    c.operator_alike.ensures

pub returns-in-List : goal.returns-in-List
returns-in-List c =
    told_there c.list_alike.result _ c.args.old.now c.args.new.now
    (ap (λ es. list_of c.in-List.list es c.in-List.unfinished) c.as_slice-in-List.ensures
    ∙ sym (ap tree_of c.in-List.is) ∙ c.shape.ensures)
    c.list_alike.ensures
