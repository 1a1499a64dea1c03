use Rattle.std.proofs.Common.{ap, ◌∙◌}
use Rattle.psg_recover.specs.Spotted.{read_by}
use Rattle.psg_recover.specs.TextPlaces.{finish_of, range_at}
use Rattle.psg_recover.proofs.SpotLaws.{found_none, found_some}
use Rattle.psg_recover.proofs.spots.Spots.end.Goals as goal

pub returns-in-Some : goal.returns-in-Some
returns-in-Some c = λ nodes are.
    c.end_before-byte.ensures ∙ ap (λ r. finish_of c.args.self.tokens.now r) (found_some c.in_ok-found.found c.in-Some.range (range_at c.args.self.known.definition.now (read_by c.args.self nodes) c.args.path.now) c.in-Some.is (c.in_ok-found.ensures nodes are))

pub returns-in-None : goal.returns-in-None
returns-in-None c = λ nodes are.
    ap (λ r. finish_of c.args.self.tokens.now r) (found_none c.in_ok-found.found (range_at c.args.self.known.definition.now (read_by c.args.self nodes) c.args.path.now) c.in-None.is (c.in_ok-found.ensures nodes are))
