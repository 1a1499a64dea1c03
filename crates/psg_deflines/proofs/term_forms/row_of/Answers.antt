use Rattle.std.proofs.Common.{sym, ◌∙◌, subst, codes, ◌∷◌}
use Rattle.psg_deflines.specs.LineReads.{IsFormRead}
use Rattle.psg_deflines.proofs.TermFormReads.{only-if, row-kept, row-deep, row-none_behind, row-other}
use Rattle.psg_deflines.proofs.term_forms.row_of.Goals.{in-Some, in-None}
use Rattle.psg_deflines.proofs.term_forms.row_of.Goals as goal

pub returns : goal.returns
returns c = λ most ps h few.
    let flag = c.is_nothing-ended.ensures in
    only-if (codes "row" ∷ ps) c.is_nothing-ended.result c.match-both.read c.only_if.result c.only_if.ensures
    (λ e. (
    let none = row-none_behind most ps few c.args.tail h (sym flag ∙ e) in
    elim c.match-both.branch [
      | in-Some w ↦ subst (IsFormRead (codes "row" ∷ ps)) (sym w.read-is) (row-kept most ps few c.args.tail h none w.in-Some.head w.in-Some.columns w.in-Some.ensures.0 w.in-Some.ensures.1)
      | in-None w ↦ subst (IsFormRead (codes "row" ∷ ps)) (sym w.read-is) (row-deep most ps few c.args.tail h none w.in-None.ensures)
    ]
    ))
    (λ e. row-other most ps few c.args.tail h (sym flag ∙ e))
