use Rattle.std.proofs.Common.{Option, ap, sym, subst}
use Rattle.std.specs.Prelude.{IfSome, Ok, option_copied}
use Rattle.psg_grammar.specs.Fragments.{hole}
use Rattle.psg_eval.specs.declared.summary.SummaryParts.{SummaryParts}
use Rattle.psg_eval.specs.Starts.{IsTreeStart}
use Rattle.psg_eval.specs.Summaries.{Answers, IsSummary}
use Rattle.psg_eval.proofs.evaluating.hole_from.Goals as goal

pub returns-in_ok-summary-in-Some-clause-answer : goal.returns-in_ok-summary-in-Some-clause-answer
returns-in_ok-summary-in-Some-clause-answer g c =
    let def = c.args.definition.now in
    let f = hole c.args.phylum in
    let is = subst (λ (o : Option SummaryParts). IfSome o (IsTreeStart def f)) (ap option_copied c.in-Some.is) (c.hole.ensures def c.requires.starts) in
    subst (λ (s : SummaryParts). Answers def f (Ok s)) (sym c.in_ok-summary-in-Some.ensures) is.answer

pub returns-in_ok-summary-in-Some-clause-summary : goal.returns-in_ok-summary-in-Some-clause-summary
returns-in_ok-summary-in-Some-clause-summary g c =
    let def = c.args.definition.now in
    let f = hole c.args.phylum in
    let is = subst (λ (o : Option SummaryParts). IfSome o (IsTreeStart def f)) (ap option_copied c.in-Some.is) (c.hole.ensures def c.requires.starts) in
    subst (IsSummary def) (sym c.in_ok-summary-in-Some.ensures) is.usual
