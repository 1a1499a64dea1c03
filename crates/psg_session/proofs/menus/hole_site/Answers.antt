use Rattle.std.proofs.Common.{refl}
use Rattle.psg_session.proofs.Offers.{hole_is_site, some_frames}
use Rattle.psg_session.proofs.RelationLaws.{frames_are, no_frames}
use Rattle.psg_session.proofs.menus.hole_site.Goals as goal

pub unreachable-requires : goal.unreachable-requires
unreachable-requires c =
    let f = c.args.found in
    some_frames c.args.definition.now c.requires.version.0 f.held.now.note c.requires.version.1 f.path.now f.node.now c.requires.node
    (no_frames f.held.now.note f.path.now c.in_ok-framed.framed c.in_default-framed.is c.in_ok-framed.ensures)

pub returns : goal.returns
returns c =
    let f = c.args.found in
    let around = c.in-Some-framed.around in
    hole_is_site c.args.definition.now c.requires.version.0 f.held.now.note c.requires.version.1 f.path.now f.node.now c.requires.node
    c.in-Some.phylum around c.in-Some.ensures.some
    (frames_are f.held.now.note f.path.now c.in_ok-framed.framed around around.items c.in-Some-framed.is refl c.in_ok-framed.ensures)
