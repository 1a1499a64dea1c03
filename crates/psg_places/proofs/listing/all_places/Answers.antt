use Rattle.std.proofs.Common.{◌∙◌}
use Rattle.psg_places.specs.Places.{places_of}
use Rattle.psg_places.proofs.ListingLaws.{opened_all}
use Rattle.psg_places.proofs.listing.all_places.Goals as goal

pub returns : goal.returns
returns c = c.in_ok-found.ensures ∙ opened_all (places_of c.args.definition.now c.args.tree.now) 0
