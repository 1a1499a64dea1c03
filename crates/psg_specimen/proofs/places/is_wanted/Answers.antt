use Rattle.std.proofs.Common.{sym, subst}
use Rattle.std.specs.Prelude.{◌↔◌, IsTrue}
use Rattle.psg_specimen.specs.Wanted.{IsWanted}
use Rattle.psg_specimen.proofs.places.is_wanted.Goals as goal

pub returns-in-Smaller : goal.returns-in-Smaller
returns-in-Smaller c = subst (λ w. IsTrue c.is_part.result ↔ IsWanted c.args.definition.now w c.args.place.now c.args.bound.now) (sym c.in-Smaller.is) c.is_part.ensures

pub returns-in_ok-found-in-OfOneRow : goal.returns-in_ok-found-in-OfOneRow
returns-in_ok-found-in-OfOneRow c = subst (λ w. IsTrue c.in_ok-found-in-OfOneRow.found ↔ IsWanted c.args.definition.now w c.args.place.now c.args.bound.now) (sym c.in-OfOneRow.is) c.in_ok-found-in-OfOneRow.ensures
