use Rattle.std.proofs.Common.{sym, ◌∙◌, subst, codes, ◌∷◌}
use Rattle.psg_deflines.specs.LineReads.{IsFormRead}
use Rattle.psg_deflines.proofs.TermFormReads.{only-if, nil-kept, nil-deep, nil-other}
use Rattle.psg_deflines.proofs.term_forms.nil_of.Goals.{in-Some, in-None}
use Rattle.psg_deflines.proofs.term_forms.nil_of.Goals as goal

pub returns : goal.returns
returns c = λ ps kind h.
    let flag = c.is_nothing-ended.ensures in
    let all = codes "nil" ∷ c.args.list ∷ ps in
    only-if all c.is_nothing-ended.result c.match-head.read c.only_if.result c.only_if.ensures
    (λ e. elim c.match-head.branch [
      | in-Some w ↦ subst (IsFormRead all) (sym w.read-is) (nil-kept c.args.list ps kind c.args.tail h (sym flag ∙ e) w.in-Some.term w.in-Some.is)
      | in-None w ↦ subst (IsFormRead all) (sym w.read-is) (nil-deep c.args.list ps kind c.args.tail h (sym flag ∙ e) w.in-None.is)
    ])
    (λ e. nil-other c.args.list ps kind c.args.tail h (sym flag ∙ e))
