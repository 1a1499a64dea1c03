use Rattle.std.proofs.Common.{◌≡◌, ◌==◌, ◌&&◌, ◌++◌, sym, ap, ◌∙◌, subst, inl, inr, codes, ◌∷◌}
use Rattle.std.proofs.lemmas.Option.{MatchOption-at_some, MatchOption-at_none}
use Rattle.std.specs.Prelude.{Some, None, not, ◌⊎◌}
use Rattle.psg_deflines.specs.WrittenTerms.{WrittenTerm}
use Rattle.psg_deflines.specs.LineReads.{IsFormRead}
use Rattle.psg_deflines.specs.Forms.{tag}
use Rattle.psg_deflines.proofs.TermFormReads.{only-if, IsSingle, declare-kept, declare-deep, declare-other}
use Rattle.psg_deflines.proofs.term_forms.declare_of.Goals.{in-Some, in-None}
use Rattle.psg_deflines.proofs.term_forms.declare_of.Goals as goal

pub returns : goal.returns
returns c = λ ps named kind h.
    let flag = ap (λ b. (c.args.tail.count == 1) && not b) c.is_nothing-ended.ensures in
    let all = (codes "declare" ++ tag c.args.space) ∷ c.args.list ∷ ps in
    let single : IsSingle c.args.list ps kind c.args.tail c.one_of.result = record { one = c.one_of.ensures.one; none = c.one_of.ensures.none } in
    let Lost = (c.args.tail.head ≡ None) ⊎ (c.one_of.result ≡ None) in
    let Found = λ (r : WrittenTerm × WrittenTerm). (c.args.tail.head ≡ Some r.0) × (c.one_of.result ≡ Some r.1) in
    only-if all _ c.match-both.read c.only_if.result c.only_if.ensures
    (λ e. elim c.match-both.branch [
      | in-Some w ↦
          let inner = MatchOption-at_some Lost Found w.in-Some.terms w.in-Some.ensures.0 c.both.ensures in
          subst (IsFormRead all) (sym w.read-is)
          (declare-kept c.args.list ps kind c.args.tail c.args.space named h (sym flag ∙ e) c.one_of.result single w.in-Some.terms.0 w.in-Some.terms.1 w.in-Some.specimen inner.0 inner.1 (sym c.tree.ensures ∙ w.in-Some.ensures.1))
      | in-None w ↦ subst (IsFormRead all) (sym w.read-is) (declare-deep c.args.list ps kind c.args.tail c.args.space named h (sym flag ∙ e) c.one_of.result single
          (elim w.in-None.ensures [ inl f ↦ inl (MatchOption-at_none Lost Found f c.both.ensures) | inr f ↦ inr (sym c.tree.ensures ∙ f) ]))
    ])
    (λ e. declare-other c.args.list ps kind c.args.tail c.args.space h (sym flag ∙ e))
