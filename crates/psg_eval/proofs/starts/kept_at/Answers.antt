use Rattle.std.proofs.Common.{rules, ◌≡◌, ◌<◌, Option, Some, length, slice_get, sym, subst}
use Rattle.psg_terms.proofs.Lists.{slice_get_item}
use Rattle.std.specs.Prelude.{IfSome}
use Rattle.psg_eval.specs.declared.summary.SummaryParts.{SummaryParts}
use Rattle.psg_eval.proofs.StartLaws.{some_there}
use Rattle.psg_eval.proofs.starts.kept_at.Goals as goal

pub returns : goal.returns
returns c =
    let entries = c.args.entries.now in
    let read = c.index-entries-place.result in
    let within : c.args.number < length entries = search rules in
    subst (λ (o : Option SummaryParts). IfSome o (λ s. slice_get entries c.args.number ≡ Some (Some s))) (sym c.as_ref.ensures.value)
    (some_there (slice_get entries c.args.number) read (slice_get_item entries c.args.number read within c.index-entries-place.is))
