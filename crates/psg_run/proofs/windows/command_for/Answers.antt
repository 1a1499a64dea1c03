use Rattle.psg_run.proofs.WindowLines.{none_spelled}
use Rattle.psg_run.proofs.windows.command_for.Goals as goal

pub returns-in_default : goal.returns-in_default
returns-in_default c = λ w command spells. c.in_default.ensures w spells.rest spells.is_window spells.is_line

pub returns-in-None : goal.returns-in-None
returns-in-None c =
    none_spelled c.args.line.now c.in-Some.window c.in-Some.rest.now c.in-Some.ensures.1
    (rw c.in-None.is at c.in_ok-found.ensures)

pub returns : goal.returns
returns c = record {
  spelled = c.in-Some-found.command;
  spells = record {
    is_window = c.in-Some.ensures.0;
    rest = c.in-Some.rest.now;
    is_line = c.in-Some.ensures.1;
    spells = rw c.in-Some-found.is at c.in_ok-found.ensures;
  };
  resolves = c.in_ok-resolved.ensures.resolved;
}
