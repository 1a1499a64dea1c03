use Rattle.std.proofs.Common.{[], ap, ◌∙◌}
use Rattle.std.specs.Option.{option_and_then}
use Rattle.psg_defcheck.specs.Scopes.{value_place, element_place}
use Rattle.psg_defcheck.specs.Meanings.{SortsTerm}
use Rattle.psg_defcheck.specs.Sorting.{place_told}
use Rattle.psg_defcheck.proofs.LineSortLaws.{term_at, both, three}
use Rattle.psg_defcheck.proofs.sorted_lines.sorts_cell.Goals as goal

pub returns : goal.returns
returns c =
    let file = c.args.scope.now in
    let own = value_place file c.args.list.now in
    let of = option_and_then (value_place file) (element_place file c.args.list.now) in
    three (λ s. SortsTerm file s [] own c.args.term.now) (λ s. SortsTerm file s [] of c.args.element.now) (λ s. SortsTerm file s [] own c.args.rest.now) c.args.sorts.now c.sorts_term.new.sorts c.sorts_term-3.new.sorts
    c.in_ok-term_fits.term_fits c.in_ok-fits.fits c.if-not-term_fits.false (term_at file c.args.term.now (place_told c.value_place-own.result) own c.args.sorts.now c.sorts_term.new.sorts c.in_ok-term_fits.term_fits c.value_place-own.ensures c.in_ok-term_fits.ensures)
    (both (λ s. SortsTerm file s [] of c.args.element.now) (λ s. SortsTerm file s [] own c.args.rest.now) c.sorts_term.new.sorts c.sorts_term-2.new.sorts c.sorts_term-3.new.sorts c.in_ok-element_fits.element_fits c.in_ok-fits.fits c.if-not-element_fits.false
    (term_at file c.args.element.now (place_told c.values_place-elements.result) of c.sorts_term.new.sorts c.sorts_term-2.new.sorts c.in_ok-element_fits.element_fits
    (c.values_place-elements.ensures ∙ ap (option_and_then (value_place file)) c.element_place.ensures) c.in_ok-element_fits.ensures)
    (term_at file c.args.rest.now (place_told c.value_place-own.result) own c.sorts_term-2.new.sorts c.sorts_term-3.new.sorts c.in_ok-fits.fits c.value_place-own.ensures c.in_ok-fits.ensures))
