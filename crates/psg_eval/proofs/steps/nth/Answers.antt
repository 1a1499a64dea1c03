use Rattle.std.proofs.Common.{◌≡◌, get_or, sym, subst}
use Rattle.psg_terms.proofs.Lists.{slice_get_item}
use Rattle.psg_eval.specs.declared.summary.SummaryParts.{SummaryParts}
use Rattle.psg_eval.proofs.steps.nth.Goals as goal

pub returns : goal.returns
returns c =
    slice_get_item c.args.children.now c.args.number c.known.result.now c.requires
    (subst (λ (s : SummaryParts). s ≡ get_or c.args.children.now c.args.number s) (sym c.known.ensures) c.index-children-number.is)
