use Rattle.std.proofs.Common.{◌∷◌}
use Rattle.psg_wanted.proofs.KeyLaws.{entities_told, no_column, one_term, own_column, own_names, root_is_silent, root_is_usual, terms_sorted}
use Rattle.psg_wanted.proofs.ValueLaws.{none_sorted, shown_sorted}
use Rattle.psg_wanted.proofs.values.key_values_in.Goals as goal

pub one_column-requires-clause-summary : goal.one_column-requires-clause-summary
one_column-requires-clause-summary c =
    root_is_usual c.args.definition.now c.args.note.now c.requires c.root-whole.result.now c.root-whole.ensures

pub one_column-requires-clause-silent : goal.one_column-requires-clause-silent
one_column-requires-clause-silent c =
    root_is_silent c.args.definition.now c.args.note.now c.requires c.root-whole.result.now c.root-whole.ensures

pub one_column-requires-clause-there : goal.one_column-requires-clause-there
one_column-requires-clause-there c = (
  c.args.space ∷ c.args.name.now,
  own_column c.root-whole.result.now c.header.result.now c.as_slice-names.result.now c.in-Some.column (c.args.space ∷ c.args.name.now) c.header.ensures c.as_slice-names.ensures c.in-Some.ensures.some,
)

pub only_terms-requires : goal.only_terms-requires
only_terms-requires c =
    one_term c.args.definition.now.signature c.rows-rows.result.now c.in_ok-rel-in-Some.rel c.rows-rows.ensures.rows c.in_ok-rel-in-Some.ensures.sorted

pub returns-in_ok-terms-in-Some-clause-values : goal.returns-in_ok-terms-in-Some-clause-values
returns-in_ok-terms-in-Some-clause-values c =
    entities_told c.args.definition.now c.args.note.now c.requires c.root-whole.result.now c.root-whole.ensures (c.args.space ∷ c.args.name.now) c.in-Some.column
    c.in_ok-terms-in-Some.terms.items c.rows-rows.result.now c.in_ok-rel-in-Some.rel
    (own_column c.root-whole.result.now c.header.result.now c.as_slice-names.result.now c.in-Some.column (c.args.space ∷ c.args.name.now) c.header.ensures c.as_slice-names.ensures c.in-Some.ensures.some)
    c.in_ok-rel-in-Some.ensures.entities c.rows-rows.ensures.rows c.in_ok-terms-in-Some.ensures

pub returns-in_ok-terms-in-Some-clause-sorted : goal.returns-in_ok-terms-in-Some-clause-sorted
returns-in_ok-terms-in-Some-clause-sorted c =
    shown_sorted c.args.definition.now.signature c.in_ok-terms-in-Some.terms.items
    (terms_sorted c.args.definition.now.signature c.in_ok-terms-in-Some.terms.items c.rows-rows.result.now c.in_ok-rel-in-Some.rel c.in_ok-terms-in-Some.ensures c.rows-rows.ensures.rows c.in_ok-rel-in-Some.ensures.sorted)

pub returns-in-None-clause-values : goal.returns-in-None-clause-values
returns-in-None-clause-values c =
    no_column c.args.definition.now c.args.note.now c.requires c.root-whole.result.now c.root-whole.ensures (c.args.space ∷ c.args.name.now) c.new.result.items
    (own_names c.root-whole.result.now c.header.result.now c.as_slice-names.result.now (c.args.space ∷ c.args.name.now) c.header.ensures c.as_slice-names.ensures c.in-None.ensures.none)
    c.new.ensures.items

pub returns-in-None-clause-sorted : goal.returns-in-None-clause-sorted
returns-in-None-clause-sorted c = none_sorted c.args.definition.now.signature c.new.result.items c.new.ensures.items
