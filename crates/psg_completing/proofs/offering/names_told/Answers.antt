use Rattle.std.proofs.Common.{◌∷◌, [], ap, subst, ◌∙◌}
use Rattle.std.specs.Prelude.{option_map}
use Rattle.psg_cache.specs.Annotated.{tree_in}
use Rattle.psg_asking.specs.Asked.{IsToldOf, names_of}
use Rattle.psg_asking.specs.Told.{names_told, read_of}
use Rattle.psg_completing.specs.Offering.{or_those}
use Rattle.psg_completing.proofs.offering.names_told.Goals as goal

pub names_at-requires : goal.names_at-requires
names_at-requires g c = c.requires

pub returns : goal.returns
returns g c =
    let known = c.args.open.known in
    let tree = tree_in known.program.note.now in (
      option_map read_of c.in_ok-read.read,
      subst (λ n. IsToldOf known.program.language.now known.program.kind tree c.args.open.spot.now (names_of n)
          (names_told tree) (option_map read_of c.in_ok-read.read)) c.in_ok-name.ensures c.in_ok-read.ensures.told,
      c.in_ok-names.ensures ∙ ap (λ names. or_those names (c.args.open.sample.now ∷ [])) c.in_ok-found.ensures,
    )
