use Rattle.std.proofs.Common.{◌∙◌, sym, subst}
use Rattle.std.specs.Str.{IsUtf8, IsValidUpTo}
use Rattle.psg_program.proofs.Reasons.{has_counted, is_faulty, is_program, is_read, no_text}
use Rattle.psg_program.proofs.reading.read_program.Goals as goal

pub returns-in-Ok-clause-program : goal.returns-in-Ok-clause-program
returns-in-Ok-clause-program g c =
    is_program c.args.language.now c.args.kind c.args.bytes.now c.in-Ok.text.now
    (c.in-Ok.ensures.cases.0 ∙ c.unmarked-own.ensures) (subst IsUtf8 (sym c.in-Ok.ensures.cases.0) c.in-Ok.ensures.cases.1) _ c.read_text.ensures.program

pub returns-in-Ok-clause-read : goal.returns-in-Ok-clause-read
returns-in-Ok-clause-read g c =
    is_read c.args.language.now c.args.kind c.args.bytes.now c.in-Ok.text.now
    (c.in-Ok.ensures.cases.0 ∙ c.unmarked-own.ensures) _ c.read_text.ensures.read

pub returns-in-Ok-clause-fault : goal.returns-in-Ok-clause-fault
returns-in-Ok-clause-fault g c =
    is_faulty c.args.language.now c.args.kind c.args.bytes.now c.in-Ok.text.now
    (c.in-Ok.ensures.cases.0 ∙ c.unmarked-own.ensures) (subst IsUtf8 (sym c.in-Ok.ensures.cases.0) c.in-Ok.ensures.cases.1) _
    c.read_text.ensures.fault

pub returns-in-Ok-clause-steps : goal.returns-in-Ok-clause-steps
returns-in-Ok-clause-steps g c =
    has_counted c.args.language.now c.args.kind c.args.bytes.now c.in-Ok.text.now
    (c.in-Ok.ensures.cases.0 ∙ c.unmarked-own.ensures) _ _ c.read_text.ensures.steps

pub returns-in-Err-clause-fault : goal.returns-in-Err-clause-fault
returns-in-Err-clause-fault g c =
    no_text c.args.language.now c.args.kind c.args.bytes.now c.unmarked-own.result.now c.unmarked-own.ensures c.valid_up_to.result
    (subst (IsValidUpTo c.unmarked-own.result.now) (sym c.valid_up_to.ensures) c.in-Err.ensures.cases.1) c.no_text.result
    c.no_text.ensures
