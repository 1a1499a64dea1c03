use Rattle.std.proofs.Common.{ap₂, ◌∙◌}
use Rattle.psg_grammar.specs.Fragments.{hole}
use Rattle.psg_recover.specs.Findings.{note_at}
use Rattle.psg_recover.specs.TextPlaces.{node_byte}
use Rattle.psg_lint.specs.OpenPlaces.{hole_message}
use Rattle.psg_lint.proofs.ReadLaws.{byte_is}
use Rattle.psg_lint.proofs.WrongLaws.{is_sound}
use Rattle.psg_lint.proofs.NotedLaws.{hole_in, hole_noted, own_note, there_in, used_names}
use Rattle.psg_lint.proofs.open_places.told_hole.Goals as goal

pub values_in-requires-clause-sound : goal.values_in-requires-clause-sound
values_in-requires-clause-sound g c = is_sound c.args.own.judged c.requires.program.judged

pub values_in-requires-clause-tables : goal.values_in-requires-clause-tables
values_in-requires-clause-tables g c = c.requires.program.judged.tables

pub values_in-requires-clause-note : goal.values_in-requires-clause-note
values_in-requires-clause-note g c = own_note c.args.own c.requires.program

pub values_in-requires-clause-there : goal.values_in-requires-clause-there
values_in-requires-clause-there g c =
    (hole c.args.number, there_in c.args.own c.requires.program c.args.path.now (hole c.args.number) c.requires.there)

pub hole_menu-requires-clause-sound : goal.hole_menu-requires-clause-sound
hole_menu-requires-clause-sound g c = is_sound c.args.own.judged c.requires.program.judged

pub hole_menu-requires-clause-tables : goal.hole_menu-requires-clause-tables
hole_menu-requires-clause-tables g c = c.requires.program.judged.tables

pub hole_menu-requires-clause-note : goal.hole_menu-requires-clause-note
hole_menu-requires-clause-note g c = own_note c.args.own c.requires.program

pub hole_menu-requires-clause-there : goal.hole_menu-requires-clause-there
hole_menu-requires-clause-there g c = there_in c.args.own c.requires.program c.args.path.now (hole c.args.number) c.requires.there

pub hole_menu-requires-clause-used : goal.hole_menu-requires-clause-used
hole_menu-requires-clause-used g c = used_names c.args.own c.requires.program

pub phylum_of-phylum-requires : goal.phylum_of-phylum-requires
phylum_of-phylum-requires g c = hole_in c.args.own c.requires.program c.args.path.now c.args.number c.requires.there

pub returns : goal.returns
returns g c = λ r is.
    let o = c.args.own in
    let def = o.judged.definition.now in
    hole_noted o c.requires.program r c.args.path.now c.args.number c.phylum_of-phylum.result.now c.in_ok-values.values.items c.in_ok-ops.ops.items
    c.in_ok-told.told c.phylum_of-phylum.ensures c.in_ok-values.ensures.values c.in_ok-ops.ensures
    (c.in_ok-told.ensures
    ∙ ap₂ note_at (byte_is (λ d q. node_byte d q c.args.path.now) o.judged c.requires.program.judged r is c.in_ok-byte.byte c.in_ok-byte.ensures)
    (c.in_ok-text.ensures ∙ ap₂ (λ v m. hole_message def c.phylum_of-phylum.result.now v m) c.as_slice.ensures.value c.as_slice-2.ensures.value))
