use Rattle.std.proofs.Common.{slice_get, sym, ap, ◌∙◌}
use Rattle.psg_tree.specs.Shapes.{child_among}
use Rattle.psg_tree.proofs.Children.{children-op, children-shape-list, got}
use Rattle.psg_tree.proofs.places.child_at.Goals as goal

pub returns-in-Op : goal.returns-in-Op
returns-in-Op c = c.sub_at.ensures ∙ ap (λ ps. child_among ps c.args.number) c.as_slice.ensures ∙ ap (λ l. slice_get l c.args.number) (sym (children-op _ _ _ _ c.in-Op.is c.shape.ensures))

pub returns-in-List : goal.returns-in-List
returns-in-List c =
    got c.as_slice-in-List.result.now c.args.number c.get.result c.get.ensures.lookup
    ∙ ap (λ l. slice_get l c.args.number) (c.as_slice-in-List.ensures ∙ sym (children-shape-list _ _ _ _ _ c.in-List.is c.shape.ensures))
