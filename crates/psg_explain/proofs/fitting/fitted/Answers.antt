use Rattle.psg_explain.proofs.FitLaws.{covered_as, not_covered}
use Rattle.psg_explain.proofs.UnderLaws.{match_none, match_some}
use Rattle.psg_explain.proofs.fitting.fitted.Goals as goal

pub unreachable-requires : goal.unreachable-requires
unreachable-requires c =
    not_covered c.args.rows.now c.args.case.now.given c.args.case.now.columns c.args.derived c.args.bindings.items c.requires.solved c.args.made.now c.requires.covered c.requires.made
    (match_none c.in_ok-found.found c.in-None.is _ _ c.in_ok-found.ensures)

pub returns : goal.returns
returns c =
    covered_as c.args.rows.now c.args.case.now.given c.args.case.now.columns c.args.derived c.args.bindings.items c.requires.solved c.args.made.now c.in-Some.found c.in_ok-to-in-Some.to c.of.result c.of-in-Some.result c.of-in-Some-2.result
    c.requires.made (match_some c.in_ok-found.found c.in-Some.found c.in-Some.is _ _ c.in_ok-found.ensures) c.in_ok-to-in-Some.ensures.number c.of.ensures c.of-in-Some.ensures c.of-in-Some-2.ensures
