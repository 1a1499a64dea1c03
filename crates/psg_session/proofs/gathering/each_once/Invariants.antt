use Rattle.std.proofs.Common.{◌≡◌, reverse, take}
use Rattle.psg_menu.specs.Menus.{in_byte_order}
use Rattle.psg_session.proofs.gathering.each_once.Given as goal

abbrev pub invariant-loop-name : goal.invariant-loop-name
invariant-loop-name l = reverse l.names.items ≡ in_byte_order (reverse (take l.name-index l.falling))
