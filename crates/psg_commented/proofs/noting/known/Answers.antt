use Rattle.std.proofs.Common.{arith}
use Rattle.psg_commented.proofs.Counts.{ended_more}
use Rattle.psg_commented.proofs.noting.known.Goals as goal

pub returns-clause-within : goal.returns-clause-within
returns-clause-within c =
    omega (
      arith,
      c.requires.tokens,
      ended_more c.args.tokens.now c.args.passed.place c.args.place c.if-place-passed.false,
    )
