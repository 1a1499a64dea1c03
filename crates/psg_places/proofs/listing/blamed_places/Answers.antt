use Rattle.std.proofs.Common.{◌∙◌, ap₂, take}
use Rattle.psg_places.specs.Places.{places_of}
use Rattle.psg_places.proofs.ListingLaws.{blamed_first}
use Rattle.psg_places.proofs.listing.blamed_places.Goals as goal

pub returns : goal.returns
returns c =
    c.truncate.ensures.items ∙ ap₂ (λ n ps. take n ps) c.blamed_count-count.ensures c.in_ok-found.ensures
    ∙ blamed_first c.args.kept.now (places_of c.args.definition.now c.args.tree.now)
