use Rattle.std.specs.Prelude.{option_map}
use Rattle.psg_asking.specs.Told.{read_of}
use Rattle.psg_completing.proofs.offering.offers_at.Goals as goal

pub menu_at-requires : goal.menu_at-requires
menu_at-requires g c = c.requires

pub offers_told-requires : goal.offers_told-requires
offers_told-requires g c = c.requires

pub returns : goal.returns
returns g c = (option_map read_of c.in_ok-read.read, c.in_ok-read.ensures.told, c.in_ok-offers.ensures)
