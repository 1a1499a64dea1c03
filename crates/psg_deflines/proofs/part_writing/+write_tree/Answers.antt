use Rattle.std.proofs.Common.{refl, ap, ◌∙◌, ◌∷◌, ◌++◌, [], cond, codes, string_bytes, arith}
use Rattle.psg_deflines.specs.WrittenTrees.{tree_parts}
use Rattle.psg_deflines.specs.LineTexts.{behind, part_parts}
use Rattle.psg_deflines.proofs.LineTextLaws.{more, on-ok, operator-end, list-end}
use Rattle.psg_deflines.proofs.part_writing.+write_tree.Goals as goal

pub write_tree-loop-i-preserved : goal.write_tree-loop-i-preserved
write_tree-loop-i-preserved t c =
    more (codes "(") part_parts c.as_slice-parts.result.now c.index-parts-i.result c.loop-i.i (string_bytes c.write_word.new.out) (string_bytes c.loop-i.out) (string_bytes c.write_mark.new.out) (string_bytes c.write_part.new.out) _
    c.loop-i-test.true c.index-parts-i.is c.loop-i.invariant refl c.in_ok-write_mark-in-Operator.ensures c.in_ok-write_part-in-Operator.ensures

pub write_tree-loop-i-2-preserved : goal.write_tree-loop-i-2-preserved
write_tree-loop-i-2-preserved t c =
    more (codes "[") tree_parts c.as_slice-elements.result.now c.index-elements-i.result c.loop-i-2.i (string_bytes c.write_if.new.out) (string_bytes c.loop-i-2.out) (string_bytes c.write_mark-in-loop-i-2.new.out) (string_bytes c.write_tree.new.out) _
    c.loop-i-2-test.true c.index-elements-i.is c.loop-i-2.invariant refl c.in_ok-write_mark-in-List.ensures c.in_ok-write_tree-in-List.ensures

pub write_tree-returns-after-loop-i : goal.write_tree-returns-after-loop-i
write_tree-returns-after-loop-i t c =
    on-ok c.write_closing.result c.write_closing.ensures (λ h.
    operator-end c.args.tree.now c.tree.inside.shape c.in-Operator.name c.in-Operator.parts c.as_slice-parts.result.now c.loop-i.i (string_bytes c.args.out.now) (string_bytes c.write_word.new.out) (string_bytes c.loop-i.out) (string_bytes c.write_closing.new.out)
    c.in-Operator.is c.tree.view_is c.as_slice-parts.ensures (omega (arith, c.loop-i-test.false)) (c.in_ok-write_word-in-Operator.ensures ∙ ap (λ n. string_bytes c.args.out.now ++ behind (n ∷ [])) c.as_str.ensures) c.loop-i.invariant h)

pub write_tree-returns-after-loop-i-2 : goal.write_tree-returns-after-loop-i-2
write_tree-returns-after-loop-i-2 t c =
    on-ok c.write_ending.result c.write_ending.ensures (λ h.
    list-end c.args.tree.now c.tree.inside.shape c.in-List.elements c.as_slice-elements.result.now c.in-List.rest c.loop-i-2.i (string_bytes c.args.out.now) (string_bytes c.write_if.new.out) (string_bytes c.loop-i-2.out) (string_bytes c.write_ending.new.out)
    c.in-List.is c.tree.view_is c.as_slice-elements.ensures (omega (arith, c.loop-i-2-test.false)) (c.in_ok-write_if-in-List.ensures ∙ ap (λ b. string_bytes c.args.out.now ++ behind (cond b (codes "[" ∷ []) [])) c.is_empty.ensures) c.loop-i-2.invariant h)
