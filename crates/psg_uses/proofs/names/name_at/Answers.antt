use Rattle.std.proofs.Common.{ap, option_copied, sym, ◌∙◌}
use Rattle.psg_grammar.specs.Fragments.{operator}
use Rattle.psg_tree.specs.Shapes.{tree_of, with_parts}
use Rattle.psg_places.proofs.OpeningLaws.{at_list, at_op}
use Rattle.psg_uses.specs.Naming.{name_in, nth_name}
use Rattle.psg_uses.proofs.NamesLaws.{no_name_of_list}
use Rattle.psg_uses.proofs.names.name_at.Goals as goal

pub returns-in_default : goal.returns-in_default
returns-in_default c =
    sym (ap (nth_name c.args.definition.now c.args.path.now c.args.number) (sym c.at.ensures ∙ ap option_copied c.in_default.is))

pub returns-in_ok-found-in-Op : goal.returns-in_ok-found-in-Op
returns-in_ok-found-in-Op c =
    let def = c.args.definition.now in
    let path = c.args.path.now in
    let k = c.args.number in
    c.in_ok-found-in-Op.ensures
    ∙ ap (name_in def path k) (ap (with_parts (operator c.in-Op.op)) c.as_slice.ensures ∙ at_op _ c.in-Op.op c.in-Op.parts _ c.in-Op.is c.shape.ensures)
    ∙ sym (ap (nth_name def path k) (sym c.at.ensures ∙ ap option_copied c.in-Some.is))

pub returns-in-List : goal.returns-in-List
returns-in-List c =
    let def = c.args.definition.now in
    let path = c.args.path.now in
    let k = c.args.number in
    no_name_of_list def path k c.in-List.list c.in-List.elements c.in-List.unfinished
    ∙ ap (name_in def path k) (at_list _ c.in-List.list c.in-List.elements c.in-List.unfinished _ c.in-List.is c.shape.ensures)
    ∙ sym (ap (nth_name def path k) (sym c.at.ensures ∙ ap option_copied c.in-Some.is))

pub returns-in-Hole : goal.returns-in-Hole
returns-in-Hole c =
    let def = c.args.definition.now in
    let path = c.args.path.now in
    let k = c.args.number in
    ap (name_in def path k) (ap tree_of (sym c.in-Hole.is) ∙ c.shape.ensures)
    ∙ sym (ap (nth_name def path k) (sym c.at.ensures ∙ ap option_copied c.in-Some.is))
