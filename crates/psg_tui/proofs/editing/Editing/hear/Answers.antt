use Rattle.std.proofs.Common.{sym, ap, ◌∙◌}
use Rattle.psg_keymap.specs.declared.table.Due.{Due}
use Rattle.psg_tui.specs.Replied.{heard}
use Rattle.psg_tui.specs.Views.{desk}
use Rattle.psg_tui.proofs.ReplyLaws.{refused_so}
use Rattle.psg_tui.proofs.editing.Editing.hear.Goals as goal

pub returns-in-Some-clause-heard : goal.returns-in-Some-clause-heard
returns-in-Some-clause-heard c = λ tree.
    let due : Due = record { command = c.args.command.now; grown = c.args.grown } in
    refused_so c.args.self.now tree c.say.new.face c.in-Some.number c.requires c.say.ensures
    ∙ ap (λ x. heard tree x due (desk c.args.self.now)) (sym c.in-Some.is)

pub returns-in-None-clause-heard : goal.returns-in-None-clause-heard
returns-in-None-clause-heard c = λ tree.
    let due : Due = record { command = c.args.command.now; grown = c.args.grown } in
    c.take.ensures.heard tree ∙ ap (λ x. heard tree x due (desk c.args.self.now)) (sym c.in-None.is)
