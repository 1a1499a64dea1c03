use Rattle.std.proofs.Common.{◌++◌, take, ap, ap₂, sym, ◌∙◌, append_assoc, arith}
use Rattle.std.proofs.lemmas.List.{length-take-le}
use Rattle.psg_grammar.specs.declared.types.Phylum.{Phylum}
use Rattle.psg_class.specs.Shapes.{listed}
use Rattle.psg_class.specs.Failing.{bracket_cell, bracket_cells}
use Rattle.psg_class.proofs.FailingLaws.{brackets_more}
use Rattle.psg_class.proofs.failing.add_brackets.Goals as goal

pub loop-row-preserved : goal.loop-row-preserved
loop-row-preserved c =
    let n = c.loop-row.row in
    let xs = c.args.phyla.now in
    let k = c.index-phyla-row.result in
    c.in_ok-push.ensures ∙ ap₂ (λ a b. a ++ listed b) c.loop-row.invariant (c.bracket_of.ensures ∙ ap (λ (p : Phylum). bracket_cell n c.args.opening p.bracketed) (sym c.index-phyla-row.is))
    ∙ append_assoc c.args.cells.now.items (bracket_cells c.args.opening 0 (take n xs)) (listed (bracket_cell n c.args.opening k.bracketed))
    ∙ ap (λ l. c.args.cells.now.items ++ l) (sym (brackets_more c.args.opening xs n k c.loop-row-test.true c.index-phyla-row.is (length-take-le n xs (let h = c.loop-row-test.true in omega arith))))
