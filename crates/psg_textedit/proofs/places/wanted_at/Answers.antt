use Rattle.std.proofs.Common.{sym, ap, ◌∙◌}
use Rattle.psg_grammar.specs.Lookups.{operator_at}
use Rattle.psg_unparse.specs.Rows.{from_part, items_in}
use Rattle.psg_tree.specs.Shapes.{tree_of}
use Rattle.psg_textedit.specs.Surroundings.{wanted_in}
use Rattle.psg_textedit.specs.Places.{wanted_among}
use Rattle.psg_textedit.proofs.Ways.{wanted_parts, wanted_list}
use Rattle.psg_textedit.proofs.places.wanted_at.Goals as goal

pub returns-in-Op : goal.returns-in-Op
returns-in-Op c =
    let def = c.args.definition.now in
    c.wanted_among.ensures
    ∙ ap (λ ps. wanted_among (operator_at def c.in-Op.op) (from_part (items_in (operator_at def c.in-Op.op))) ps c.args.number)
    c.as_slice.ensures
    ∙ wanted_parts def c.in-Op.op c.in-Op.parts c.args.number
    ∙ ap (λ f. wanted_in def f c.args.number) (sym (ap tree_of c.in-Op.is) ∙ c.shape.ensures)

pub returns-in-List : goal.returns-in-List
returns-in-List c =
    wanted_list c.args.definition.now c.in-List.list c.in-List.elements c.in-List.unfinished c.args.number
    ∙ ap (λ f. wanted_in c.args.definition.now f c.args.number) (sym (ap tree_of c.in-List.is) ∙ c.shape.ensures)
