use Rattle.psg_explain.proofs.FitLaws.{not_rewritten, rewrites_back, rewrites_from}
use Rattle.psg_explain.proofs.UnderLaws.{match_none, match_some}
use Rattle.psg_explain.proofs.fitting.covered_case.Goals as goal

pub fitted-requires-clause-made : goal.fitted-requires-clause-made
fitted-requires-clause-made c =
    rewrites_from _ _ _ _ _ _ _ _ c.as_slice.ensures.value c.as_slice-2.ensures.value c.as_slice-columns.ensures c.as_slice-in-Some.ensures.value (match_some c.in_ok-answer.answer c.in-Some.made c.in-Some.is _ _ c.in_ok-answer.ensures)

pub unreachable-requires : goal.unreachable-requires
unreachable-requires c =
    not_rewritten c.args.rows.now c.args.case.now.given c.args.case.now.columns c.args.derived c.args.bindings.items c.requires.solved
    (λ made is. match_none c.in_ok-answer.answer c.in-None.is _ _ c.in_ok-answer.ensures made (rewrites_back _ _ _ _ _ _ made c.as_slice.ensures.value c.as_slice-2.ensures.value c.as_slice-columns.ensures is))
