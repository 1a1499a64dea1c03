use Rattle.std.proofs.Common.{sym, ap, ◌∙◌, subst, inl, inr, codes, ◌∷◌}
use Rattle.std.specs.Prelude.{not}
use Rattle.psg_deflines.specs.LineReads.{IsFormRead}
use Rattle.psg_deflines.proofs.TermFormReads.{only-if, case-kept, case-deep, case-other}
use Rattle.psg_deflines.proofs.term_forms.case_of.Goals.{in-Some, in-None}
use Rattle.psg_deflines.proofs.term_forms.case_of.Goals as goal

pub returns : goal.returns
returns c = λ ps h.
    let flag = ap not c.is_nothing-ended.ensures in
    only-if (codes "case" ∷ ps) (not c.is_nothing-ended.result) c.match-both.read c.only_if.result c.only_if.ensures
    (λ e. elim c.match-both.branch [
      | in-Some w ↦ subst (IsFormRead (codes "case" ∷ ps)) (sym w.read-is) (case-kept ps c.args.tail h w.in-Some.term w.in-Some.specimen w.in-Some.ensures.0 (sym c.tree.ensures ∙ w.in-Some.ensures.1))
      | in-None w ↦ subst (IsFormRead (codes "case" ∷ ps)) (sym w.read-is) (case-deep ps c.args.tail h (sym flag ∙ e)
          (elim w.in-None.ensures [ inl f ↦ inl f | inr f ↦ inr (sym c.tree.ensures ∙ f) ]))
    ])
    (λ e. case-other ps c.args.tail h (sym flag ∙ e))
