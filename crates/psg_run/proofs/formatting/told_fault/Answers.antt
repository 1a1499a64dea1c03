use Rattle.std.proofs.Common.{ap, subst, ◌∙◌}
use Rattle.psg_program.specs.Programs.{IsProgramFault}
use Rattle.psg_session.specs.Replies.{feed}
use Rattle.psg_run.specs.Formatting.{error_line}
use Rattle.psg_run.proofs.ProgramFiles.{fault_told}
use Rattle.psg_run.proofs.formatting.told_fault.Goals as goal

pub returns-in_ok-text-in-Syntax : goal.returns-in_ok-text-in-Syntax
returns-in_ok-text-in-Syntax c = λ def comment kind bytes comments own faulty checks.
    let e = c.in-Syntax.error in
    fault_told def comment c.args.file.now kind bytes comments own checks e _ (subst (IsProgramFault def kind own) c.in-Syntax.is faulty)
    (c.in_ok-text-in-Syntax.ensures
    ∙ ap (λ m. feed (error_line c.args.file.now e.place.line e.place.column m)) c.as_str.ensures.value)
