use Rattle.std.proofs.Common.{sym, ap, ◌∙◌}
use Rattle.psg_grammar.specs.Fragments.{operator, children_of}
use Rattle.psg_tree.specs.Shapes.{tree_of, subtrees}
use Rattle.psg_tree.proofs.Children.{children-with_parts, children-list}
use Rattle.psg_cache.proofs.parts.children.Goals as goal

pub returns-in_ok-found-in-Op : goal.returns-in_ok-found-in-Op
returns-in_ok-found-in-Op c =
    c.in_ok-found-in-Op.ensures ∙ ap subtrees c.as_slice.ensures ∙ sym (children-with_parts (operator _) c.in-Op.parts)
    ∙ ap (λ s. children_of (tree_of s)) (sym c.in-Op.is) ∙ ap children_of c.shape.ensures

pub returns-in_ok-found-in-List : goal.returns-in_ok-found-in-List
returns-in_ok-found-in-List c =
    c.in_ok-found-in-List.ensures ∙ c.as_slice-in-List.ensures ∙ sym (children-list _ c.in-List.elements _)
    ∙ ap (λ s. children_of (tree_of s)) (sym c.in-List.is) ∙ ap children_of c.shape.ensures
