use Rattle.std.proofs.Common.{true≢false, sym, ◌∙◌}
use Rattle.psg_session.specs.Views.{reply_of}
use Rattle.psg_run.proofs.Onward.{map_if_ok}
use Rattle.psg_run.proofs.WindowLines.{answer_moves, refusal_stays}
use Rattle.psg_run.proofs.windows.moved_by.Goals as goal

pub returns-then-refused : goal.returns-then-refused
returns-then-refused c =
    refusal_stays c.args.window c.args.command.now c.args.own.now (reply_of c.args.reply.now) c.args.cursors
    (c.is_refusal-refused.ensures.0 c.if-refused.true)

pub returns : goal.returns
returns c = map_if_ok c.moved.result (λ next moves. moves
    ∙ answer_moves c.args.window c.args.command.now c.args.own.now (reply_of c.args.reply.now) c.args.cursors
    (λ h. true≢false (sym (c.is_refusal-refused.ensures.1 h) ∙ c.if-refused.false))) c.moved.ensures
