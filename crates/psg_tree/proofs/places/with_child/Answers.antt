use Rattle.std.proofs.Common.{ap, ◌∙◌}
use Rattle.psg_tree.specs.Shapes.{tree_of, put_part, put_element}
use Rattle.psg_tree.specs.declared.tree.Shape.TheVariants.{Op, List as ListOf}
use Rattle.psg_tree.proofs.Children.{put-op, put-shape-list}
use Rattle.psg_tree.proofs.places.with_child.Goals as goal

pub returns-in_ok-new-in-Op : goal.returns-in_ok-new-in-Op
returns-in_ok-new-in-Op c =
    c.in_ok-new-in-Op.ensures ∙ ap (λ ps. tree_of (Op c.in-Op.op ps)) c.of.ensures
    ∙ put-op _ _ _ _ _ _ _ c.in-Op.is c.shape.ensures (c.in_ok-parts-in-Op.ensures ∙ ap (put_part c.args.new.now c.args.number) c.as_slice.ensures)

pub returns-in_ok-new-in-List : goal.returns-in_ok-new-in-List
returns-in_ok-new-in-List c =
    c.in_ok-new-in-List.ensures ∙ ap (λ es. tree_of (ListOf c.in-List.list es c.in-List.unfinished)) c.of-in-List.ensures
    ∙ put-shape-list _ _ _ _ _ _ _ _ c.in-List.is c.shape.ensures (c.in_ok-elements-in-List.ensures ∙ ap (put_element c.args.new.now c.args.number) c.as_slice-in-List.ensures)
