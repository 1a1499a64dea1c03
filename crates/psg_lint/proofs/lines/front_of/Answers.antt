use Rattle.psg_lint.proofs.lines.front_of.Goals as goal

pub unreachable-requires : goal.unreachable-requires
unreachable-requires c = absurd (c.in-Err.ensures.cases.0 c.requires.text)

pub returns : goal.returns
returns c = c.in-Ok.ensures.cases.0
