use Rattle.std.proofs.Common.{inl}
use Rattle.psg_session.proofs.Offers.{element_frames_are, element_is_site, no_element_frames, site_formed, some_element_frames}
use Rattle.psg_session.proofs.menus.element_site.Goals as goal

pub as_list-requires : goal.as_list-requires
as_list-requires c = record {
  formed =
      let f = c.args.found in
      site_formed c.args.definition.now c.requires.version.0 f.held.now.note c.requires.version.1 f.path.now f.node.now c.requires.node;
}

pub returns-in_default : goal.returns-in_default
returns-in_default c = inl c.in_default.ensures.none

pub unreachable-requires : goal.unreachable-requires
unreachable-requires c =
    let f = c.args.found in
    let l = c.in-Some.list in
    some_element_frames c.args.definition.now c.requires.version.0 f.held.now.note c.requires.version.1 f.path.now f.node.now c.requires.node
    c.args.number l c.in-Some.ensures.some c.if-list-number.false
    (no_element_frames f.held.now.note f.path.now c.args.number c.in_ok-framed.framed c.in_default-framed.is c.in_ok-framed.ensures)

pub returns : goal.returns
returns c =
    let f = c.args.found in
    let l = c.in-Some.list in
    let around = c.in-Some-framed.around in
    element_is_site c.args.definition.now c.requires.version.0 f.held.now.note c.requires.version.1 f.path.now f.node.now c.requires.node
    c.args.number l c.in-Some.ensures.some c.if-list-number.false c.requires.sound around
    (element_frames_are f.held.now.note f.path.now c.args.number c.in_ok-framed.framed around c.in-Some-framed.is c.in_ok-framed.ensures)
