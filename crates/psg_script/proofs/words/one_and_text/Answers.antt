use Rattle.psg_script.proofs.WordLemmas.{no_open}
use Rattle.psg_script.proofs.words.one_and_text.Goals as goal

pub returns-in_err-first-clause-none : goal.returns-in_err-first-clause-none
returns-in_err-first-clause-none c = rw c.from_residual.ensures (no_open 0 c.args.behind.now c.in_err-first.ensures.none)
