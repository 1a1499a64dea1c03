use Rattle.std.proofs.Common.{ap, sym, slice_get, ◌∙◌}
use Rattle.psg_terms.proofs.Lists.{got_none, got_some}
use Rattle.psg_uses.proofs.OpenLaws.{table_has, table_has_not}
use Rattle.psg_uses.proofs.regions.declares_in.Goals as goal

pub returns-in-Some : goal.returns-in-Some
returns-in-Some c =
    c.has_space.ensures
    ∙ table_has c.args.known.definition.now c.requires.known.sound c.args.known.spaces.now c.requires.known.spaces c.args.space
    c.args.list c.in-Some.kind.now
    (ap (λ xs. slice_get xs c.args.list) (sym c.as_slice.ensures)
    ∙ got_some c.as_slice.result.now c.args.list c.get.result c.in-Some.kind c.get.ensures.lookup c.in-Some.is)

pub returns-in-None : goal.returns-in-None
returns-in-None c =
    table_has_not c.args.known.definition.now c.requires.known.sound c.args.known.spaces.now c.requires.known.spaces c.args.space
    c.args.list
    (ap (λ xs. slice_get xs c.args.list) (sym c.as_slice.ensures)
    ∙ got_none c.as_slice.result.now c.args.list c.get.result c.get.ensures.lookup c.in-None.is)
