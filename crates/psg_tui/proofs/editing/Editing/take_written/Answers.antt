use Rattle.std.proofs.Common.{Some, ap, ◌∙◌}
use Rattle.psg_keymap.specs.Faces.{written}
use Rattle.psg_modes.specs.Turning.{saying}
use Rattle.psg_tui.proofs.SavingLaws.{of_file}
use Rattle.psg_tui.proofs.editing.Editing.take_written.Goals as goal

pub returns-clause-written : goal.returns-clause-written
returns-clause-written c =
    ap (λ x. record {
      face = x;
      file = Some c.args.name;
      saved = c.args.text;
      versions = c.args.self.now.versions;
      writes = c.args.self.now.writes;
    }) (c.say.ensures ∙ ap (saying written) c.enter.ensures)

pub returns-clause-program : goal.returns-clause-program
returns-clause-program c = of_file _ _ _ _
