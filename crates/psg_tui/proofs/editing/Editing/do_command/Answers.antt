use Rattle.std.proofs.Common.{sym, ap, ◌∙◌}
use Rattle.psg_keymap.specs.declared.table.Due.{Due}
use Rattle.psg_session.specs.Views.{reply_of}
use Rattle.psg_tui.specs.Replied.{heard}
use Rattle.psg_tui.specs.Views.{desk}
use Rattle.psg_tui.proofs.CommandLaws.{at_after, does_heard, due_of, first_at, first_so, same_heard}
use Rattle.psg_tui.proofs.editing.Editing.do_command.Goals as goal

pub returns-then-first-clause-done : goal.returns-then-first-clause-done
returns-then-first-clause-done g c =
    λ stroke old at. (
      old,
      first_at c.args.self.now c.say_first.new.self c.say_first.ensures.left old at,
      first_so c.args.self.now c.say_first.new.self c.say_first.ensures.left c.requires.settled old
          (due_of c.args.command.now c.args.grown) (sym c.is_first-first.ensures ∙ c.if-first.true)
          c.say_first.ensures.said stroke _,
    )

pub returns-clause-done : goal.returns-clause-done
returns-clause-done g c =
    λ stroke old at.
    let due : Due = record { command = c.args.command.now; grown = c.args.grown } in
    let grown = at_after c.args.self.now c.hear.new.self c.apply.new.self c.hear.ensures.left
    c.apply.ensures.language old at c.requires.settled c.args.command.now c.requires.keys _ _ c.args.steps.now
    c.apply.new.steps (reply_of c.in_ok-reply.reply) c.in_ok-reply.ensures.applied
    c.in_ok-reply.ensures.refused (λ none. c.hear.ensures.done (c.refusal_in-refused.ensures ∙ none)) in (
      grown.0,
      grown.1,
      does_heard c.args.self.now c.hear.new.self c.apply.new.self c.hear.ensures.left old grown.0 stroke _ _
          c.args.steps.now c.apply.new.steps due (reply_of c.in_ok-reply.reply)
          (sym c.is_first-first.ensures ∙ c.if-first.false) c.in_ok-reply.ensures.applied
          (c.hear.ensures.heard grown.0 ∙ ap (λ x. heard grown.0 x due (desk c.args.self.now)) c.refusal_in-refused.ensures),
    )

pub returns-clause-same : goal.returns-clause-same
returns-clause-same g c =
    same_heard c.args.self.now c.hear.new.self c.apply.new.self c.hear.ensures.left c.apply.ensures.language

pub returns-clause-editing : goal.returns-clause-editing
returns-clause-editing g c =
    at_after c.args.self.now c.hear.new.self c.apply.new.self c.hear.ensures.left c.apply.ensures.language
    c.requires.editing.0 c.requires.editing.1 c.requires.settled c.args.command.now c.requires.keys _ _ c.args.steps.now
    c.apply.new.steps (reply_of c.in_ok-reply.reply) c.in_ok-reply.ensures.applied c.in_ok-reply.ensures.refused
    (λ none. c.hear.ensures.done (c.refusal_in-refused.ensures ∙ none))
