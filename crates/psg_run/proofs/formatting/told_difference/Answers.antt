use Rattle.std.proofs.Common.{ap, ◌∙◌}
use Rattle.psg_session.specs.Replies.{feed}
use Rattle.psg_run.specs.Formatting.{error_line}
use Rattle.psg_run.proofs.ProgramFiles.{difference_told, same_told}
use Rattle.psg_run.proofs.formatting.told_difference.Goals as goal

pub returns-in_default : goal.returns-in_default
returns-in_default c = λ def comment kind comments own f program is.
    same_told def comment c.args.file.now kind c.args.bytes.now comments own f program c.args.wanted.now is _ c.new.ensures.bytes c.in_default.ensures

pub returns : goal.returns
returns c = λ def comment kind comments own f program is.
    difference_told def comment c.args.file.now kind c.args.bytes.now comments own f program c.args.wanted.now is c.in-Some.difference.line c.in-Some.difference.text.now _
    c.in-Some.ensures
    (c.in_ok-text.ensures
    ∙ ap (λ m. feed (error_line c.args.file.now c.in-Some.difference.line 1 m)) (c.as_str.ensures.value ∙ c.in_ok-message.ensures.ok))
