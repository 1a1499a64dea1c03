use Rattle.std.proofs.Common.{Some}
use Rattle.psg_cache.specs.Annotated.{tree_in}
use Rattle.psg_wanted.proofs.SiteLaws.{element_climbs, element_known, element_stands, names_used, narrow, no_element_frames}
use Rattle.psg_wanted.proofs.places.element_menu.Goals as goal

pub unreachable-requires : goal.unreachable-requires
unreachable-requires g c =
    no_element_frames c.args.definition.now c.args.note.now c.requires.note c.args.path.now c.args.place c.args.phylum c.requires.list c.in_ok-framed.framed c.in_default.is c.in_ok-framed.ensures

pub menu-requires-clause-phylum : goal.menu-requires-clause-phylum
menu-requires-clause-phylum g c =
    element_known c.args.definition.now c.args.note.now c.requires.note c.args.path.now c.args.place c.args.phylum c.requires.list c.requires.sound

pub menu-requires-clause-frames : goal.menu-requires-clause-frames
menu-requires-clause-frames g c =
    element_climbs c.args.definition.now c.args.note.now c.requires.note c.args.path.now c.args.place c.args.phylum c.requires.list c.in_ok-framed.framed c.in-Some.frames
    c.as_slice-around.result.now c.in-Some.is c.as_slice-around.ensures.value c.in_ok-framed.ensures

pub returns : goal.returns
returns g c =
    let tree = tree_in c.args.note.now in
    c.in_ok-ops.ensures tree c.args.path.now (Some c.args.place)
    (element_stands c.args.definition.now c.args.note.now c.requires.note c.args.path.now c.args.place c.args.phylum c.requires.list c.in_ok-framed.framed c.in-Some.frames
    c.as_slice-around.result.now c.in-Some.is c.as_slice-around.ensures.value c.in_ok-framed.ensures)
    (names_used c.args.used.now tree c.requires.used)
    (narrow c.args.definition.now c.args.note.now c.requires.note c.args.path.now)
