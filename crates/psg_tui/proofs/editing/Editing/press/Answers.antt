use Rattle.std.proofs.Common.{refl, ◌∙◌}
use Rattle.psg_tui.proofs.EditingLaws.{editing_before, editing_known, known_before, then_before}
use Rattle.psg_tui.proofs.PressLaws.{press_from, same_of, same_then, told_err}
use Rattle.psg_tui.proofs.TurnLaws.{aim_settled, program_known, program_then, same_outside}
use Rattle.psg_tui.proofs.editing.Editing.press.Goals as goal

pub returns-in_err-begin_key-clause-same : goal.returns-in_err-begin_key-clause-same
returns-in_err-begin_key-clause-same g c =
    same_of c.args.self.now c.begin_key.new.self c.in_err-begin_key.ensures.left.program

pub returns-in_err-begin_key-clause-memory : goal.returns-in_err-begin_key-clause-memory
returns-in_err-begin_key-clause-memory g c =
    told_err c.from_residual.result (c.in_err-begin_key.ensures.left, refl)

pub returns-in_err-begin_key-clause-editing : goal.returns-in_err-begin_key-clause-editing
returns-in_err-begin_key-clause-editing g c =
    editing_before c.args.self.now c.begin_key.new.self c.in_err-begin_key.ensures.left c.requires

pub due-requires-clause-editing : goal.due-requires-clause-editing
due-requires-clause-editing g c =
    editing_before c.args.self.now c.begin_key.new.self c.in_ok-begin_key.ensures.left c.requires

pub returns-in_err-due-clause-same : goal.returns-in_err-due-clause-same
returns-in_err-due-clause-same g c =
    same_of c.args.self.now c.due.new.self (program_then c.args.self.now c.begin_key.new.self c.due.new.self c.in_ok-begin_key.ensures.left.program (program_known c.begin_key.new.self c.due.new.self c.in_err-due.ensures.left))

pub returns-in_err-due-clause-memory : goal.returns-in_err-due-clause-memory
returns-in_err-due-clause-memory g c =
    told_err c.from_residual-in_err-due.result (then_before c.args.self.now c.begin_key.new.self c.due.new.self c.in_ok-begin_key.ensures.left (known_before c.begin_key.new.self c.due.new.self c.in_err-due.ensures.left), c.in_err-due.ensures.files.0)

pub returns-in_err-due-clause-editing : goal.returns-in_err-due-clause-editing
returns-in_err-due-clause-editing g c =
    editing_known c.begin_key.new.self c.due.new.self c.in_err-due.ensures.left (editing_before c.args.self.now c.begin_key.new.self c.in_ok-begin_key.ensures.left c.requires)

pub act-requires-clause-editing : goal.act-requires-clause-editing
act-requires-clause-editing g c =
    editing_known c.begin_key.new.self c.due.new.self c.in_ok-due.ensures.left (editing_before c.args.self.now c.begin_key.new.self c.in_ok-begin_key.ensures.left c.requires)

pub act-requires-clause-settled : goal.act-requires-clause-settled
act-requires-clause-settled g c =
    aim_settled c.begin_key.new.self c.due.new.self c.in_ok-due.ensures.left c.in_ok-begin_key.ensures.settled

pub returns-in_err-act-clause-same : goal.returns-in_err-act-clause-same
returns-in_err-act-clause-same g c =
    same_then c.args.self.now c.due.new.self c.act.new.self (same_of c.args.self.now c.due.new.self (program_then c.args.self.now c.begin_key.new.self c.due.new.self c.in_ok-begin_key.ensures.left.program (program_known c.begin_key.new.self c.due.new.self c.in_ok-due.ensures.left))) c.in_err-act.ensures.same

pub returns-in_err-act-clause-memory : goal.returns-in_err-act-clause-memory
returns-in_err-act-clause-memory g c =
    told_err c.from_residual-in_err-act.result (
      then_before c.args.self.now c.due.new.self c.act.new.self (then_before c.args.self.now c.begin_key.new.self c.due.new.self c.in_ok-begin_key.ensures.left (known_before c.begin_key.new.self c.due.new.self c.in_ok-due.ensures.left)) c.in_err-act.ensures.memory.0,
      c.in_err-act.ensures.memory.1 ∙ c.in_ok-due.ensures.files.0,
    )

pub returns-clause-pressed : goal.returns-clause-pressed
returns-clause-pressed g c =
    λ old at.
    let r = c.in_ok-act.ensures.done old (c.in_ok-due.ensures.left.at old (c.in_ok-begin_key.ensures.left.program.at old at)) in (
      r.0,
      r.1,
      press_from c.args.self.now c.begin_key.new.self c.due.new.self c.act.new.self c.in_ok-begin_key.ensures.left c.in_ok-begin_key.ensures.settled c.in_ok-due.ensures.left
          (same_then c.args.self.now c.due.new.self c.act.new.self (same_of c.args.self.now c.due.new.self (program_then c.args.self.now c.begin_key.new.self c.due.new.self c.in_ok-begin_key.ensures.left.program (program_known c.begin_key.new.self c.due.new.self c.in_ok-due.ensures.left))) c.in_ok-act.ensures.same) old r.0 at r.1 c.args.stroke.now _ _
          c.in_ok-due.due c.in_ok-begin_key.ensures.formed c.formed.ensures c.key.result
          c.key.ensures (c.in_ok-due.ensures.due old (c.in_ok-begin_key.ensures.left.program.at old at)) _
          (same_outside _ _ _ _ c.in_ok-due.ensures.files) r.2,
    )

pub returns-clause-same : goal.returns-clause-same
returns-clause-same g c =
    same_then c.args.self.now c.due.new.self c.act.new.self (same_of c.args.self.now c.due.new.self (program_then c.args.self.now c.begin_key.new.self c.due.new.self c.in_ok-begin_key.ensures.left.program (program_known c.begin_key.new.self c.due.new.self c.in_ok-due.ensures.left))) c.in_ok-act.ensures.same
