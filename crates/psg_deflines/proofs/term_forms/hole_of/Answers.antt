use Rattle.std.proofs.Common.{sym, ◌∙◌, inl, inr}
use Rattle.psg_deflines.proofs.TermFormReads.{hole-kept, hole-deep}
use Rattle.psg_deflines.proofs.term_forms.hole_of.Goals as goal

pub returns-in-Some : goal.returns-in-Some
returns-in-Some c = λ ps kind h. hole-kept c.args.kind ps kind c.args.tail h c.in-Some.term c.in-Some.specimen c.in-Some.ensures.0 (sym c.specimen.ensures ∙ c.in-Some.ensures.1)

pub returns-in-None : goal.returns-in-None
returns-in-None c = λ ps kind h.
    hole-deep c.args.kind ps kind c.args.tail h (elim c.in-None.ensures [ inl f ↦ inl f | inr f ↦ inr (sym c.specimen.ensures ∙ f) ])
