use Rattle.std.proofs.Common.{[], ap, subst, ◌∙◌}
use Rattle.std.specs.Option.{option_and_then}
use Rattle.psg_defcheck.specs.Scopes.{value_place, element_place, entity_place}
use Rattle.psg_defcheck.specs.Meanings.{SortsTerm, SortsTree}
use Rattle.psg_defcheck.specs.Sorting.{Narrows, place_told}
use Rattle.psg_defcheck.proofs.LineSortLaws.{term_at, three}
use Rattle.psg_defcheck.proofs.sorted_lines.sorts_declare.Goals as goal

pub returns : goal.returns
returns c =
    let file = c.args.scope.now in
    let kind = element_place file c.args.list.now in
    let of = option_and_then (value_place file) kind in
    let e = c.values_place-values.ensures ∙ ap (option_and_then (value_place file)) c.element_place-phylum.ensures in
    three (λ s. SortsTerm file s [] (entity_place file c.args.space.now) c.args.entity.now) (λ s. SortsTerm file s [] of c.args.value.now) (λ s. SortsTree file s [] kind c.args.specimen.now) c.args.sorts.now c.sorts_term.new.sorts c.sorts_by.new.sorts
    c.in_ok-entity_fits.entity_fits c.in_ok-fits.fits c.if-not-entity_fits.false
    (term_at file c.args.entity.now (place_told c.entity_place-names.result) (entity_place file c.args.space.now) c.args.sorts.now c.sorts_term.new.sorts c.in_ok-entity_fits.entity_fits c.entity_place-names.ensures c.in_ok-entity_fits.ensures)
    (subst (λ x. Narrows (λ s. SortsTerm file s [] of c.args.value.now × SortsTree file s [] x c.args.specimen.now) c.sorts_term.new.sorts c.sorts_by.new.sorts c.in_ok-fits.fits) c.element_place-phylum.ensures
    (subst (λ x. Narrows (λ s. SortsTerm file s [] x c.args.value.now × SortsTree file s [] (place_told c.element_place-phylum.result) c.args.specimen.now) c.sorts_term.new.sorts c.sorts_by.new.sorts c.in_ok-fits.fits) e c.in_ok-fits.ensures))
