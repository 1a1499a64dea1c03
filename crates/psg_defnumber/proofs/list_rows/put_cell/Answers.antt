use Rattle.std.proofs.Common.{arith, length, refl}
use Rattle.std.specs.Option.{option_and_then}
use Rattle.std.proofs.lemmas.Option.{slice_get_read}
use Rattle.psg_terms.proofs.Lists.{each_at}
use Rattle.psg_grammar.specs.declared.types.ListKind.{ListKind}
use Rattle.psg_defcheck.specs.Scopes.{element_place, list_names, value_place}
use Rattle.psg_defnumber.specs.Declaring.{HasElements}
use Rattle.psg_defnumber.proofs.MadeLaws.{keeps-self}
use Rattle.psg_defnumber.proofs.StandLaws.{list-value, element-of, element-value}
use Rattle.psg_defnumber.proofs.ListRowLaws.{cell-fills}
use Rattle.psg_defnumber.proofs.NamedLaws.{named-at, named-below}
use Rattle.psg_defnumber.proofs.list_rows.put_cell.Goals as goal

pub index_mut-own-requires : goal.index_mut-own-requires
index_mut-own-requires c =
    let lt = named-below (λ (k : ListKind). k.name) c.args.lists.now.items (list_names c.args.checked.now) c.list_named-place.result c.args.list.now c.requires.lists c.list_named-place.ensures in
    let v = c.args.lists.now.ok in omega arith

pub phylum_sort-elements-requires : goal.phylum_sort-elements-requires
phylum_sort-elements-requires c =
    let lt = named-below (λ (k : ListKind). k.name) c.args.lists.now.items (list_names c.args.checked.now) c.list_named-place.result c.args.list.now c.requires.lists c.list_named-place.ensures in
    each_at (HasElements c.args.definition.now) c.args.lists.now.items c.requires.elements c.list_named-place.result c.index_mut-own.result.now
    (slice_get_read c.args.lists.now.items (length c.args.lists.now.items) c.list_named-place.result c.index_mut-own.result.now refl lt c.index_mut-own.ensures.value)

pub cell-requires-clause-fits : goal.cell-requires-clause-fits
cell-requires-clause-fits c =
    let file = c.args.checked.now in
    let def = c.args.definition.now in
    let n = c.args.list.now in
    let lists = c.args.lists.now.items in
    let own = c.index_mut-own.result.now in
    let lt = named-below (λ (k : ListKind). k.name) lists (list_names file) c.list_named-place.result n c.requires.lists c.list_named-place.ensures in
    let there = slice_get_read lists (length lists) c.list_named-place.result own refl lt c.index_mut-own.ensures.value in
    let place = list-value file lists c.requires.lists c.requires.list_sorts n c.list_named-place.result own c.list_named-place.ensures there in
    let of_elements = element-of file lists c.requires.lists c.requires.places n c.list_named-place.result own c.list_named-place.ensures there in
    let values = element-value file def c.requires.phyla c.requires.phylum_sorts (element_place file n) own.element c.phylum_sort-elements.result.0 of_elements (c.phylum_sort-elements.ensures def (keeps-self def)) in
    let fits = c.requires.sorted in (
      fits.0,
      record { spot = value_place file n; place = place; sorted = fits.1 },
      record { spot = option_and_then (value_place file) (element_place file n); place = values; sorted = fits.2 },
      record { spot = value_place file n; place = place; sorted = fits.3 },
    )

pub returns : goal.returns
returns c = λ file.
    let found = named-at (λ (k : ListKind). k.name) c.args.lists.now.items (list_names c.args.checked.now) c.list_named-place.result c.args.list.now c.requires.lists c.list_named-place.ensures in
    cell-fills c.args.definition.now file c.args.lists.now.items c.list_named-place.result c.index_mut-own.result.now found.0 c.args.list.now c.args.term.now c.args.element.now c.args.rest.now c.phylum_sort-elements.result.0 c.in_ok-made.made c.push.new.self
    found.1 found.2 c.index_mut-own.ensures.value c.phylum_sort-elements.ensures c.in_ok-made.ensures c.in_ok-push.ensures.ok
