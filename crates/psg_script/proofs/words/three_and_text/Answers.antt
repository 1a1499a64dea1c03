use Rattle.psg_script.proofs.WordLemmas.{no_open, no_more_open}
use Rattle.psg_script.proofs.words.three_and_text.Goals as goal

pub returns-in_err-first-clause-none : goal.returns-in_err-first-clause-none
returns-in_err-first-clause-none c = rw c.from_residual.ensures (no_open 2 c.args.behind.now c.in_err-first.ensures.none)

pub returns-in_err-second-clause-none : goal.returns-in_err-second-clause-none
returns-in_err-second-clause-none c =
    rw c.from_residual-in_err-second.ensures (no_more_open 2 c.args.behind.now _ _ c.in_ok-first.ensures.some c.in_err-second.ensures.none)
