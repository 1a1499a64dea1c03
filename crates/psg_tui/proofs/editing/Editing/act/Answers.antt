use Rattle.std.proofs.lemmas.Result.{on_ok_weaker, on_err_weaker}
use Rattle.psg_tui.proofs.PressLaws.{act_none, act_some, before_same, editing_by, keys_at, same_of, untouched_before}
use Rattle.psg_tui.proofs.editing.Editing.act.Goals as goal

pub command-requires-clause-keys : goal.command-requires-clause-keys
command-requires-clause-keys g c =
    keys_at c.args.due c.in-Some.due c.in-Some.is c.requires.keys

pub returns-in-Some-clause-done : goal.returns-in-Some-clause-done
returns-in-Some-clause-done g c =
    on_ok_weaker c.command.result (λ h old at.
    act_some c.args.self.now c.command.new.self old c.args.stroke.now _ _ c.args.due
    c.in-Some.due c.in-Some.is (h c.args.stroke.now old at)) c.command.ensures.done

pub returns-in-Some-clause-memory : goal.returns-in-Some-clause-memory
returns-in-Some-clause-memory g c =
    on_err_weaker c.command.result
    (λ h. (before_same c.args.self.now c.command.new.self h.0, h.1)) c.command.ensures.memory

pub returns-in-None-clause-done : goal.returns-in-None-clause-done
returns-in-None-clause-done g c =
    on_ok_weaker c.turn.result (λ h old at.
    act_none c.args.self.now c.turn.new.self old c.args.stroke.now _ _ c.args.due
    c.in-None.is c.turn.ensures.program c.turn.ensures.aim c.requires.settled at (h old at)) c.turn.ensures.turned

pub returns-in-None-clause-same : goal.returns-in-None-clause-same
returns-in-None-clause-same g c =
    same_of c.args.self.now c.turn.new.self c.turn.ensures.program

pub returns-in-None-clause-memory : goal.returns-in-None-clause-memory
returns-in-None-clause-memory g c =
    on_err_weaker c.turn.result
    (λ h. (untouched_before c.args.self.now c.turn.new.self c.turn.ensures.program c.turn.ensures.aim h.0, h.1))
    c.turn.ensures.memory

pub returns-in-None-clause-editing : goal.returns-in-None-clause-editing
returns-in-None-clause-editing g c =
    editing_by c.args.self.now c.turn.new.self c.turn.ensures.program c.requires.editing
