use Rattle.std.proofs.Common.{subst, sym}
use Rattle.psg_defnumber.proofs.PlacingLaws.{list-place}
use Rattle.psg_terms.proofs.Lists.{each_at}
use Rattle.psg_defnumber.proofs.RowLaws.{declare-made}
use Rattle.psg_grammar.specs.declared.types.ListKind.{ListKind}
use Rattle.psg_defcheck.specs.Scopes.{element_place, list_names}
use Rattle.psg_defnumber.specs.Sorts.{Agree}
use Rattle.psg_defnumber.proofs.MadeLaws.{keeps-self}
use Rattle.psg_defnumber.proofs.StandLaws.{entity-stands, element-stands}
use Rattle.psg_defnumber.specs.Declaring.{HasElements}
use Rattle.psg_defnumber.proofs.NamedLaws.{list-is, space-is, space-there, named-below}
use Rattle.psg_defnumber.proofs.rows.declare_row.Goals as goal

pub list_at-own-requires : goal.list_at-own-requires
list_at-own-requires c =
    named-below (λ (l : ListKind). l.name) c.args.definition.now.lists (list_names c.args.checked.now) c.list_named-list.result c.args.list.now c.requires.names.kinds.lists c.list_named-list.ensures

pub space_sort-entities-requires : goal.space_sort-entities-requires
space_sort-entities-requires c =
    space-there c.args.checked.now c.space_named-space.result c.args.space.now c.requires.spaces c.space_named-space.ensures c.args.definition.now c.requires.names.kinds

pub phylum_sort-values-requires : goal.phylum_sort-values-requires
phylum_sort-values-requires c = each_at (HasElements c.args.definition.now) c.args.definition.now.lists c.requires.names.kinds.elements c.list_named-list.result c.list_at-own.result.now c.list_at-own.ensures

pub specimen-requires-clause-there : goal.specimen-requires-clause-there
specimen-requires-clause-there c = each_at (HasElements c.args.definition.now) c.args.definition.now.lists c.requires.names.kinds.elements c.list_named-list.result c.list_at-own.result.now c.list_at-own.ensures

pub term-requires-clause-fits : goal.term-requires-clause-fits
term-requires-clause-fits c =
    let file = c.args.checked.now in
    let fits = c.requires.sorted in
    (fits.0, subst (Agree file fits.0) (sym c.new-known.ensures.empty) tt, entity-stands file c.args.definition.now c.requires.names.kinds fits.0 c.args.space.now c.space_named-space.result c.space_sort-entities.result.0 c.args.entity.now c.space_named-space.ensures (c.space_sort-entities.ensures c.args.definition.now (keeps-self c.args.definition.now)) fits.1)

pub term-requires-2-clause-fits : goal.term-requires-2-clause-fits
term-requires-2-clause-fits c =
    let file = c.args.checked.now in
    let def = c.args.definition.now in
    let fits = c.requires.sorted in
    let first = entity-stands file def c.requires.names.kinds fits.0 c.args.space.now c.space_named-space.result c.space_sort-entities.result.0 c.args.entity.now c.space_named-space.ensures (c.space_sort-entities.ensures def (keeps-self def)) fits.1 in
    let place = list-place file def c.requires.names c.list_named-list.result c.list_at-own.result.now c.args.list.now c.list_at-own.ensures c.list_named-list.ensures in
    (fits.0, c.in_ok-entity.ensures.agrees fits.0 (subst (Agree file fits.0) (sym c.new-known.ensures.empty) tt) first, element-stands file def c.requires.names.kinds fits.0 (element_place file c.args.list.now) c.list_at-own.result.now.element c.phylum_sort-values.result.0 c.args.value.now place (c.phylum_sort-values.ensures def (keeps-self def)) fits.2)

pub specimen-requires-clause-fits : goal.specimen-requires-clause-fits
specimen-requires-clause-fits c =
    let file = c.args.checked.now in
    let def = c.args.definition.now in
    let fits = c.requires.sorted in
    let first = entity-stands file def c.requires.names.kinds fits.0 c.args.space.now c.space_named-space.result c.space_sort-entities.result.0 c.args.entity.now c.space_named-space.ensures (c.space_sort-entities.ensures def (keeps-self def)) fits.1 in
    let place = list-place file def c.requires.names c.list_named-list.result c.list_at-own.result.now c.args.list.now c.list_at-own.ensures c.list_named-list.ensures in
    let second = element-stands file def c.requires.names.kinds fits.0 (element_place file c.args.list.now) c.list_at-own.result.now.element c.phylum_sort-values.result.0 c.args.value.now place (c.phylum_sort-values.ensures def (keeps-self def)) fits.2 in (
      fits.0,
      c.in_ok-value.ensures.agrees fits.0 (c.in_ok-entity.ensures.agrees fits.0 (subst (Agree file fits.0) (sym c.new-known.ensures.empty) tt) first) second,
      record { spot = element_place file c.args.list.now; place = place; sorted = fits.3; form = c.requires.form },
    )

pub returns : goal.returns
returns c =
    declare-made c.args.definition.now c.new-known.result.entries c.term.new.known.entries c.term-2.new.known.entries c.specimen.new.known.entries c.args.space.now c.args.list.now c.args.entity.now c.args.value.now c.args.tree.now c.list_at-own.result.now c.space_sort-entities.result.0 c.phylum_sort-values.result.0
    (record { space = c.space_named-space.result; list = c.list_named-list.result; term = c.in_ok-entity.entity; value = c.in_ok-value.value; specimen = c.in_ok-shown.shown })
    c.new-known.ensures.empty (space-is c.args.checked.now c.space_named-space.result c.args.space.now c.space_named-space.ensures c.args.definition.now c.requires.names.kinds)
    (list-is c.args.checked.now c.list_named-list.result c.args.list.now c.list_named-list.ensures c.args.definition.now c.requires.names.kinds)
    c.list_at-own.ensures c.space_sort-entities.ensures c.phylum_sort-values.ensures c.in_ok-entity.ensures.made c.in_ok-value.ensures.made c.in_ok-shown.ensures.made
