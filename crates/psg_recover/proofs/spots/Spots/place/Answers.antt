use Rattle.std.proofs.Common.{ap, sym, ◌∙◌}
use Rattle.psg_recover.specs.Spotted.{read_by}
use Rattle.psg_recover.specs.TextPlaces.{place_byte}
use Rattle.psg_recover.proofs.spots.Spots.place.Goals as goal

pub returns-in_ok-byte-in-Node : goal.returns-in_ok-byte-in-Node
returns-in_ok-byte-in-Node c = λ nodes are.
    c.in_ok-byte-in-Node.ensures nodes are ∙ ap (place_byte c.args.self.known.definition.now (read_by c.args.self nodes)) (sym c.in-Node.is)

pub returns-in_ok-byte-in-Element : goal.returns-in_ok-byte-in-Element
returns-in_ok-byte-in-Element c = λ nodes are.
    c.in_ok-byte-in-Element.ensures nodes are ∙ ap (place_byte c.args.self.known.definition.now (read_by c.args.self nodes)) (sym c.in-Element.is)

pub returns-in_ok-byte-in-End : goal.returns-in_ok-byte-in-End
returns-in_ok-byte-in-End c = λ nodes are.
    c.in_ok-byte-in-End.ensures nodes are ∙ ap (place_byte c.args.self.known.definition.now (read_by c.args.self nodes)) (sym c.in-End.is)

pub returns-in_ok-byte-in-Name : goal.returns-in_ok-byte-in-Name
returns-in_ok-byte-in-Name c = λ nodes are.
    c.in_ok-byte-in-Name.ensures nodes are ∙ ap (place_byte c.args.self.known.definition.now (read_by c.args.self nodes)) (sym c.in-Name.is)
