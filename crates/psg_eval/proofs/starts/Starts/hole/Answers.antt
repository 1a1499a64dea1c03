use Rattle.std.proofs.Common.{◌≡◌, List, Option, Some, slice_get, subst}
use Rattle.std.proofs.lemmas.Option.{IfSome_then}
use Rattle.std.specs.Prelude.{option_copied}
use Rattle.psg_grammar.specs.Fragments.{hole}
use Rattle.psg_eval.specs.declared.summary.SummaryParts.{SummaryParts}
use Rattle.psg_eval.specs.Starts.{IsTreeStart}
use Rattle.psg_eval.proofs.starts.Starts.hole.Goals as goal

pub returns : goal.returns
returns c = λ def are.
    IfSome_then (option_copied c.kept_at.result) {P = (λ (s : SummaryParts). slice_get c.as_slice.result.now c.args.phylum ≡ Some (Some s))} {Q = (IsTreeStart def (hole c.args.phylum))} c.kept_at.ensures (λ s at. are.holes c.args.phylum (Some s) (subst (λ (xs : List (Option SummaryParts)). slice_get xs c.args.phylum ≡ Some (Some s)) c.as_slice.ensures.value at))
