use Rattle.std.proofs.Common.{None, subst}
use Rattle.std.specs.Prelude.{option_map}
use Rattle.psg_cache.specs.Annotated.{tree_in}
use Rattle.psg_asking.specs.Asked.{IsToldOf, relation_of}
use Rattle.psg_asking.specs.Told.{lines_told, read_of}
use Rattle.psg_pointing.proofs.hovering.relation_read.Goals as goal

pub relation_at-requires : goal.relation_at-requires
relation_at-requires g c = c.requires

pub returns : goal.returns
returns g c =
    subst (λ target. IsToldOf c.args.known.program.language.now c.args.known.program.kind
    (tree_in c.args.known.program.note.now) (record { target = target; place = None }) relation_of lines_told
    (option_map read_of c.in_ok-read.read)) c.in_ok-target.ensures c.in_ok-read.ensures.told
