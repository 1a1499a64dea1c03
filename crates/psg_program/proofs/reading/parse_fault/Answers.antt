use Rattle.std.proofs.Common.{subst}
use Rattle.psg_parse.specs.Answers.{IsFault}
use Rattle.psg_program.specs.Programs.{goal_of}
use Rattle.psg_program.proofs.Reasons.{nested}
use Rattle.psg_program.proofs.reading.parse_fault.Goals as goal

pub stop_fault-requires-clause-none : goal.stop_fault-requires-clause-none
stop_fault-requires-clause-none c =
    let none = subst (IsFault c.args.language.now (goal_of c.args.kind) c.args.tokens.now) c.in-NoTree.is c.requires.fault in
    λ ends. none ends.0 ends.1 ends.2

pub returns-in-Deep : goal.returns-in-Deep
returns-in-Deep c =
    nested c.args.language.now c.args.kind c.args.text.now c.args.tokens.now c.requires.tokens
    (subst (IsFault c.args.language.now (goal_of c.args.kind) c.args.tokens.now) c.in-Deep.is c.requires.fault) _ c.told_at.ensures
