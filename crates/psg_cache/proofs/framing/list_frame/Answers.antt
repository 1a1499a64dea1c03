use Rattle.std.proofs.Common.{rules, ◌<◌, ◌∙◌, Some, ap, length, sym}
use Rattle.psg_terms.proofs.Lists.{slice_get_item}
use Rattle.psg_eval.specs.declared.frame.Frame.TheVariants as frames
use Rattle.psg_eval.specs.declared.summary.SummaryParts.{SummaryParts}
use Rattle.psg_cache.proofs.framing.list_frame.Goals as goal

pub returns : goal.returns
returns c =
    let within : c.args.number < length c.args.rests.now = search rules in (
      c.in_ok-rest.rest,
      slice_get_item c.args.rests.now c.args.number c.index-rests-place.result within c.index-rests-place.is ∙ ap (λ (s : SummaryParts). Some s) (sym c.in_ok-rest.ensures),
      ap (λ b. frames.Elem c.args.list b c.in_ok-rest.rest) (c.of.ensures ∙ c.in_ok-before.ensures),
    )
