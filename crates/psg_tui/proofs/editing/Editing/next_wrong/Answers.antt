use Rattle.std.proofs.Common.{ap, ◌∙◌}
use Rattle.std.specs.Prelude.{option_map}
use Rattle.psg_keymap.specs.Faces.{of_parts}
use Rattle.psg_modes.specs.Wrong.{next_of}
use Rattle.psg_tui.specs.Found.{seen_of}
use Rattle.psg_tui.proofs.EditingLaws.{tree_is}
use Rattle.psg_tui.proofs.NextLaws.{culprit_so, repair_so}
use Rattle.psg_tui.proofs.editing.Editing.next_wrong.Goals as goal

pub returns-in_ok-found-in-Some : goal.returns-in_ok-found-in-Some
returns-in_ok-found-in-Some c =
    λ tree at.
    repair_so c.args.self.now tree at c.requires.settled c.requires.tried c.requires.wrong c.args.forward c.in-Some.repair
    c.in-Some.is c.tree-tree.result.now
    (c.tree-tree.ensures ∙ tree_is c.args.self.now c.note_of.result.now c.note_of.ensures tree at)
    (option_map seen_of c.in_ok-found-in-Some.found) c.in_ok-found-in-Some.ensures

pub returns-in_ok-found-in-None : goal.returns-in_ok-found-in-None
returns-in_ok-found-in-None c =
    λ tree at.
    culprit_so c.args.self.now tree at c.requires.settled c.requires.tried c.requires.wrong c.args.forward c.in-None.is
    (option_map seen_of c.in_ok-found-in-None.found)
    (c.in_ok-found-in-None.ensures
    ∙ ap (λ p. option_map (λ q. (q, of_parts)) (next_of p c.args.self.now.face.chosen c.args.forward)) c.as_slice-culprits.ensures.value)
