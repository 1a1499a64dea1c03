use Rattle.std.proofs.Common.{ap, length, arith}
use Rattle.std.specs.Prelude.{Option, IfSome}
use Rattle.psg_grammar.specs.Fragments.{hole}
use Rattle.psg_eval.specs.declared.summary.SummaryParts.{SummaryParts}
use Rattle.psg_eval.specs.Starts.{IsTreeStart}
use Rattle.psg_eval.proofs.StartLaws.{at_more, at_none, kept_start}
use Rattle.psg_eval.proofs.starts.hole_starts.Goals as goal

pub loop-phylum-init : goal.loop-phylum-init
loop-phylum-init c =
    (ap length c.in_ok-made.ensures.items, at_none (λ p (o : Option SummaryParts). IfSome o (IsTreeStart c.args.definition.now (hole p))) _ c.in_ok-made.ensures.items)

pub loop-phylum-preserved : goal.loop-phylum-preserved
loop-phylum-preserved c =
    let def = c.args.definition.now in
    let (many, all) = c.loop-phylum.invariant in (
      omega (arith, many, c.in_ok-push.ensures.len),
      at_more (λ p (o : Option SummaryParts). IfSome o (IsTreeStart def (hole p))) c.loop-phylum.made.items c.push.new.self.items c.in_ok-summary.summary c.loop-phylum.phylum all many
          (kept_start def (hole c.loop-phylum.phylum) c.placeholder-answer.result c.in_ok-summary.summary c.in_ok-summary.ensures c.placeholder-answer.ensures.answer c.placeholder-answer.ensures.summary)
          c.in_ok-push.ensures.items,
    )
