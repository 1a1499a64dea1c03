use Rattle.std.proofs.Common.{◌∙◌}
use Rattle.psg_tui.proofs.EditingLaws.{tree_is}
use Rattle.psg_tui.proofs.TurnLaws.{browse_other_so}
use Rattle.psg_tui.proofs.editing.Editing.browse_other.Goals as goal

pub returns-clause-browsed : goal.returns-clause-browsed
returns-clause-browsed c =
    λ tree at.
    browse_other_so c.args.self.now tree at c.requires.settled c.tree-tree.result.now
    (c.tree-tree.ensures ∙ tree_is c.args.self.now c.note_of.result.now c.note_of.ensures tree at)
    c.is_changed-changed.result c.is_changed-changed.ensures c.browse_key.new.face c.args.stroke.now.key
    c.args.stroke.now.bytes c.in_ok-browse_key.ensures.browsed
