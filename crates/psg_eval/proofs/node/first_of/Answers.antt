use Rattle.std.proofs.Common.{◌≡◌, get_or, sym, subst}
use Rattle.psg_terms.proofs.Lists.{slice_get_item}
use Rattle.psg_eval.specs.declared.summary.SummaryParts.{SummaryParts}
use Rattle.psg_eval.proofs.node.first_of.Goals as goal

pub returns : goal.returns
returns c =
    slice_get_item c.args.children.now 0 c.known.result.now c.requires (subst (λ (s : SummaryParts). s ≡ get_or c.args.children.now 0 s) (sym c.known.ensures) c.index-children-0.is)
