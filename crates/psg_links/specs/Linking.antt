-- The link of a name by the regions that are kept around it.
use Rattle.std.specs.Prelude.{List}
use Rattle.psg_uses.specs.declared.names.Named.{Named}
use Rattle.psg_links.specs.declared.around.Region.{Region}
use Rattle.psg_links.specs.declared.link.Link.{Link}
use Rattle.psg_links.specs.Around.{first_in}

abbrev pub link_by : List Region → Named → Link
link_by regions n = record { name = n.name; declares = n.declares; declaration = first_in n.name regions }
