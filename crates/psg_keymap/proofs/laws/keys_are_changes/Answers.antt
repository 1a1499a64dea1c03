use Rattle.psg_keymap.proofs.KeyLaws.{of_keys}
use Rattle.psg_keymap.proofs.laws.keys_are_changes.Goals as goal

pub returns : goal.returns
returns c = of_keys
