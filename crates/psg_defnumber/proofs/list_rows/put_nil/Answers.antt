use Rattle.std.proofs.Common.{arith, length, refl}
use Rattle.std.proofs.lemmas.Option.{slice_get_read}
use Rattle.psg_grammar.specs.declared.types.ListKind.{ListKind}
use Rattle.psg_defcheck.specs.Scopes.{list_names, value_place}
use Rattle.psg_defnumber.proofs.StandLaws.{list-value}
use Rattle.psg_defnumber.proofs.ListRowLaws.{nil-fills}
use Rattle.psg_defnumber.proofs.NamedLaws.{named-at, named-below}
use Rattle.psg_defnumber.proofs.list_rows.put_nil.Goals as goal

pub index_mut-own-requires : goal.index_mut-own-requires
index_mut-own-requires c =
    let lt = named-below (λ (k : ListKind). k.name) c.args.lists.now.items (list_names c.args.checked.now) c.list_named-place.result c.args.list.now c.requires.lists c.list_named-place.ensures in
    let v = c.args.lists.now.ok in omega arith

pub lone_term-requires-clause-fits : goal.lone_term-requires-clause-fits
lone_term-requires-clause-fits c =
    let file = c.args.checked.now in
    let lists = c.args.lists.now.items in
    let lt = named-below (λ (k : ListKind). k.name) lists (list_names file) c.list_named-place.result c.args.list.now c.requires.lists c.list_named-place.ensures in
    let there = slice_get_read lists (length lists) c.list_named-place.result c.index_mut-own.result.now refl lt c.index_mut-own.ensures.value in
    (c.requires.sorted.0, record { spot = value_place file c.args.list.now; place = list-value file lists c.requires.lists c.requires.list_sorts c.args.list.now c.list_named-place.result c.index_mut-own.result.now c.list_named-place.ensures there; sorted = c.requires.sorted.1 })

pub returns : goal.returns
returns c = λ file.
    let found = named-at (λ (k : ListKind). k.name) c.args.lists.now.items (list_names c.args.checked.now) c.list_named-place.result c.args.list.now c.requires.lists c.list_named-place.ensures in
    nil-fills c.args.definition.now file c.args.lists.now.items c.list_named-place.result c.index_mut-own.result.now found.0 c.args.list.now c.args.term.now c.in_ok-made.made c.push.new.self
    found.1 found.2 c.index_mut-own.ensures.value c.in_ok-made.ensures c.in_ok-push.ensures.ok
