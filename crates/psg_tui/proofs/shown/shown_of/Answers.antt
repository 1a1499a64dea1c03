use Rattle.std.proofs.Common.{refl}
use Rattle.psg_tui.proofs.ShownLaws.{shown_by}
use Rattle.psg_tui.proofs.shown.shown_of.Goals as goal

pub returns : goal.returns
returns c =
    shown_by c.args.language.now c.definition.result.now c.definition.ensures.same c.args.note.now
    c.definition.ensures.sound c.definition.ensures.accepted c.requires _ c.tree.result.now c.tree.ensures
    c.in_ok-printed.ensures.printed c.in_ok-culprits.ensures.paths refl
