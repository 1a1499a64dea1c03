use Rattle.std.proofs.Common.{List, subst, ◌∙◌}
use Rattle.psg_places.specs.declared.place.Place.{Place}
use Rattle.psg_places.specs.Ways.{IsBack}
use Rattle.psg_recover.specs.TextPlaces.{node_byte}
use Rattle.psg_lint.proofs.ReadLaws.{byte_is}
use Rattle.psg_lint.proofs.blaming.wide_byte.Goals as goal

pub returns : goal.returns
returns c = λ r is. (
  c.in_ok-own.own,
  subst (λ (ps : List Place). IsBack ps c.args.path.now c.in_ok-own.own) (c.as_slice.ensures.value ∙ c.in_ok-opened.ensures)
      c.in_ok-own.ensures,
  byte_is (λ d q. node_byte d q c.in_ok-own.own) c.args.judged c.requires.judged r is c.in_ok-byte.byte c.in_ok-byte.ensures,
)
