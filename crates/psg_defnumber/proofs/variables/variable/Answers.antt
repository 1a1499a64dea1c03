use Rattle.std.proofs.Common.{refl, inl, inr, sym, ◌∙◌, rules}
use Rattle.indexmap.proofs.CallerLemmas.{insert_entry-new}
use Rattle.psg_terms.proofs.Lists.{each_at}
use Rattle.psg_defnumber.specs.Naming.{LineVariable}
use Rattle.psg_defnumber.specs.Sorts.{HasOneSort}
use Rattle.psg_defnumber.proofs.LineVariableLaws.{keyed, met-again, met-first, unplaced}
use Rattle.psg_defnumber.proofs.variables.variable.Goals as goal

pub returns-in_ok-number_of-in-Some-clause-met : goal.returns-in_ok-number_of-in-Some-clause-met
returns-in_ok-number_of-in-Some-clause-met c =
    let own : LineVariable = (c.in-Some._own.now, c.in-Some._sort.now) in
    let named = keyed c.args.known.now.entries c.args.name.now c.in-Some._own.now (sym c.in-Some.ensures.key) in
    met-again c.args.known.now.entries c.in-Some.place own c.args.name.now c.args.sort.0 c.in_ok-number_of-in-Some.field-0 c.in-Some.ensures.entry named
    (each_at (HasOneSort c.args.name.now c.args.sort.0) c.args.known.now.entries c.requires c.in-Some.place own c.in-Some.ensures.entry named) c.in_ok-number_of-in-Some.ensures.number

pub returns-in_ok-number_of-in-Some-clause-one : goal.returns-in_ok-number_of-in-Some-clause-one
returns-in_ok-number_of-in-Some-clause-one c = inl refl

pub returns-in_ok-number_of-in-None-clause-met : goal.returns-in_ok-number_of-in-None-clause-met
returns-in_ok-number_of-in-None-clause-met c =
    met-first c.args.known.now.entries c.insert.new.self.entries (c.args.name, c.args.sort) c.in_ok-number_of-in-None.field-0
    (c.in_ok-insert-in-None.ensures.entries ∙ insert_entry-new _ c.args.known.now c.args.name c.args.sort (sym c.in-None.ensures.value))
    (unplaced c.args.known.now.entries c.args.name.now (sym c.in-None.ensures.value))
    (search rules)

pub returns-in_ok-number_of-in-None-clause-one : goal.returns-in_ok-number_of-in-None-clause-one
returns-in_ok-number_of-in-None-clause-one c = inr (
  (c.args.name, c.args.sort),
  record { named = refl; sorted = refl },
  c.in_ok-insert-in-None.ensures.entries ∙ insert_entry-new _ c.args.known.now c.args.name c.args.sort (sym c.in-None.ensures.value),
)
