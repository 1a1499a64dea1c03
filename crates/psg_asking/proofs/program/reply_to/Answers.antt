use Rattle.psg_cache.specs.Annotated.{tree_in}
use Rattle.psg_session.specs.Sessions.{state_of}
use Rattle.psg_session.specs.Views.{reply_of}
use Rattle.psg_asking.proofs.ProgramLaws.{same_files}
use Rattle.psg_asking.proofs.QuestionLaws.{question_files, question_reply}
use Rattle.psg_asking.proofs.program.reply_to.Goals as goal

pub returns-clause-reply : goal.returns-clause-reply
returns-clause-reply g c =
    question_reply c.args.program.language.now c.args.program.kind (tree_in c.args.program.note.now)
    (state_of c.in_ok-made.made.editor) c.args.command.now _ _ c.args.steps.now c.tried.new.steps
    (reply_of c.in_ok-made.made.reply) c.requires.question c.in_ok-made.ensures.applied

pub returns-clause-files : goal.returns-clause-files
returns-clause-files g c =
    same_files _ _ _ _
    (question_files c.args.program.language.now c.args.program.kind (tree_in c.args.program.note.now)
    (state_of c.in_ok-made.made.editor) c.args.command.now _ _ c.args.steps.now c.tried.new.steps
    (reply_of c.in_ok-made.made.reply) c.requires.question c.in_ok-made.ensures.applied)
