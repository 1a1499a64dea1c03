use Rattle.std.proofs.Common.{◌==◌, ◌&&◌, length, ap, sym, ◌∙◌}
use Rattle.psg_face.proofs.MoveLaws.{end_of_list, end_of_op}
use Rattle.psg_face.proofs.moves.is_end.Goals as goal

pub returns-then-unfinished : goal.returns-then-unfinished
returns-then-unfinished c =
    ap (λ es. length es == c.args.number) c.as_slice.ensures
    ∙ sym (ap (λ b. b && (length c.in-List.elements == c.args.number)) c.if-unfinished.true)
    ∙ end_of_list _ _ c.in-List.elements c.in-List.unfinished _ c.args.number c.in-List.is c.shape.ensures

pub returns-else-unfinished : goal.returns-else-unfinished
returns-else-unfinished c =
    c.if-unfinished.false
    ∙ sym (ap (λ b. b && (length c.in-List.elements == c.args.number)) c.if-unfinished.false)
    ∙ end_of_list _ _ c.in-List.elements c.in-List.unfinished _ c.args.number c.in-List.is c.shape.ensures

pub returns-in-Op : goal.returns-in-Op
returns-in-Op c = end_of_op _ _ _ _ c.args.number c.in-Op.is c.shape.ensures
