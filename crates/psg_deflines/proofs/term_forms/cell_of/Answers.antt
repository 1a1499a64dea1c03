use Rattle.std.proofs.Common.{◌==◌, ◌&&◌, sym, ap, ◌∙◌, subst, codes, ◌∷◌}
use Rattle.psg_deflines.specs.LineReads.{IsFormRead}
use Rattle.psg_deflines.proofs.TermFormReads.{only-if, IsPair, cell-kept, cell-deep, cell-other}
use Rattle.psg_deflines.proofs.term_forms.cell_of.Goals.{in-Some, in-None}
use Rattle.psg_deflines.proofs.term_forms.cell_of.Goals as goal

pub returns : goal.returns
returns c = λ ps kind h.
    let flag = ap (λ b. (c.args.tail.count == 2) && b) c.is_nothing-ended.ensures in
    let all = codes "cell" ∷ c.args.list ∷ ps in
    let pair : IsPair c.args.list ps kind c.args.tail c.two_of.result = record { two = c.two_of.ensures.two; none = c.two_of.ensures.none } in
    only-if all _ c.match-both.read c.only_if.result c.only_if.ensures
    (λ e. elim c.match-both.branch [
      | in-Some w ↦ subst (IsFormRead all) (sym w.read-is)
          (cell-kept c.args.list ps kind c.args.tail h (sym flag ∙ e) c.two_of.result pair w.in-Some.term w.in-Some.pair.0 w.in-Some.pair.1 w.in-Some.ensures.0 w.in-Some.ensures.1)
      | in-None w ↦ subst (IsFormRead all) (sym w.read-is) (cell-deep c.args.list ps kind c.args.tail h (sym flag ∙ e) c.two_of.result pair w.in-None.ensures)
    ])
    (λ e. cell-other c.args.list ps kind c.args.tail h (sym flag ∙ e))
