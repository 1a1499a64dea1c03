use Rattle.std.proofs.Common.{ap, option_copied, sym, ◌∙◌}
use Rattle.psg_keymap.specs.Spots.{spot_of}
use Rattle.psg_keymap.proofs.spots.spot_at.Goals as goal

pub returns-in_ok-spot-in-Some : goal.returns-in_ok-spot-in-Some
returns-in_ok-spot-in-Some c =
    c.in_ok-spot-in-Some.ensures c.args.tree.now
    ∙ ap (spot_of c.args.tree.now c.args.chosen.now) (sym (sym c.at.ensures ∙ ap option_copied c.in-Some.is))
