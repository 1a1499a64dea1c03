use Rattle.std.proofs.Common.{None, ap, ap₂, arith, map, refl, subst, true, sym, ◌∙◌}
use Rattle.psg_deflines.specs.WrittenTerms.{named, variable, applied}
use Rattle.psg_deflines.specs.Shapes.{term_of}
use Rattle.psg_defcheck.specs.Scopes.{sort_place}
use Rattle.psg_defcheck.specs.Sorting.{Narrows, places_told}
use Rattle.psg_defcheck.proofs.TermLaws.{arguments_below, term_below}
use Rattle.psg_defcheck.proofs.SortLaws.{all-at, known_constructor, known_arguments, counted_arguments, places_count, not_standing, standing, variable_standing, walk_more, walk_stops, walk_ends}
use Rattle.psg_defcheck.proofs.sorted.+sorts_term.Goals as goal

pub sorts_term-unreachable-requires : goal.sorts_term-unreachable-requires
sorts_term-unreachable-requires t c =
    known_constructor c.args.scope.now c.args.term.now c.as_str-in-Named.result.now c.in-Named.args
    (ap (λ n. applied (named n) c.in-Named.args) c.as_str-in-Named.ensures ∙ sym (ap term_of c.in-Named.is) ∙ c.term.view_is) c.requires.known c.in_default.ensures

pub sorts_term-returns-then-not-may_stand : goal.sorts_term-returns-then-not-may_stand
sorts_term-returns-then-not-may_stand t c = λ s agrees.
    not_standing c.args.scope.now s _ c.args.term.now c.as_str-in-Named.result.now c.in-Named.args (c.in-Some.constructor.sort.now, c.in-Some.constructor.decl.now) c.may_stand.result
    (ap (λ n. applied (named n) c.in-Named.args) c.as_str-in-Named.ensures ∙ sym (ap term_of c.in-Named.is) ∙ c.term.view_is) c.in-Some.ensures c.if-not-may_stand.true c.may_stand.ensures

pub sorts_term-sorts_terms-requires : goal.sorts_term-sorts_terms-requires
sorts_term-sorts_terms-requires t c =
    let e = (ap₂ (λ n xs. applied (named n) xs) c.as_str-in-Named.ensures c.as_slice-in-Named-2.ensures ∙ sym (ap term_of c.in-Named.is) ∙ c.term.view_is) in
    let lt = arguments_below c.args.term.now c.as_str-in-Named.result.now c.as_slice-in-Named-2.result.now c.as_slice-in-Named-2.result.now e refl in
    let n = c.as_str-in-Named.result.now in
    let args = c.as_slice-in-Named-2.result.now in (
      omega arith,
      (
        known_arguments c.args.scope.now c.args.term.now n args e c.requires.known,
        (
          counted_arguments c.args.scope.now c.args.term.now n args e c.requires.counted,
          places_count c.args.scope.now c.args.term.now n args (c.in-Some.constructor.sort.now, c.in-Some.constructor.decl.now) c.as_slice-in-Named.result.now e c.requires.counted c.in-Some.ensures
              (ap places_told c.as_slice-in-Named.ensures.value ∙ c.in_ok-places-in-Named.ensures ∙ ap (map (sort_place c.args.scope.now)) c.as_slice.ensures),
        ),
      ),
    )

pub sorts_terms-sorts_term-requires : goal.sorts_terms-sorts_term-requires
sorts_terms-sorts_term-requires t c =
    let lt = term_below c.args.terms.now c.loop-i.i c.index-terms-i.result c.loop-i-test.true c.index-terms-i.is in (
      omega arith,
      (
        all-at _ c.args.terms.now c.loop-i.i c.index-terms-i.result c.requires.known c.loop-i-test.true c.index-terms-i.is,
        all-at _ c.args.terms.now c.loop-i.i c.index-terms-i.result c.requires.counted c.loop-i-test.true c.index-terms-i.is,
      ),
    )

pub sorts_term-returns-in_ok-fitting-in-Variable : goal.sorts_term-returns-in_ok-fitting-in-Variable
sorts_term-returns-in_ok-fitting-in-Variable t c =
    variable_standing c.args.scope.now _ c.args.term.now c.as_str.result.now c.args.sorts.now c.sorts_variable.new.sorts c.in_ok-fitting-in-Variable.fitting (ap variable c.as_str.ensures ∙ sym (ap term_of c.in-Variable.is) ∙ c.term.view_is) c.in_ok-fitting-in-Variable.ensures

pub sorts_term-returns-in_ok-fitting-in-Named : goal.sorts_term-returns-in_ok-fitting-in-Named
sorts_term-returns-in_ok-fitting-in-Named t c =
    standing c.args.scope.now _ c.args.term.now c.as_str-in-Named.result.now c.as_slice-in-Named-2.result.now (c.in-Some.constructor.sort.now, c.in-Some.constructor.decl.now) c.as_slice-in-Named.result.now c.args.sorts.now c.sorts_terms.new.sorts c.in_ok-fitting-in-Named.fitting
    (ap₂ (λ n xs. applied (named n) xs) c.as_str-in-Named.ensures c.as_slice-in-Named-2.ensures ∙ sym (ap term_of c.in-Named.is) ∙ c.term.view_is) c.in-Some.ensures (c.may_stand.ensures.0 c.if-not-may_stand.false)
    (ap places_told c.as_slice-in-Named.ensures.value ∙ c.in_ok-places-in-Named.ensures ∙ ap (map (sort_place c.args.scope.now)) c.as_slice.ensures) c.in_ok-fitting-in-Named.ensures

pub sorts_terms-returns-then-not-fits : goal.sorts_terms-returns-then-not-fits
sorts_terms-returns-then-not-fits t c =
    walk_stops c.args.scope.now c.args.places.now c.args.terms.now c.loop-i.i _ c.index-terms-i.result c.args.sorts.now c.loop-i.sorts c.sorts_term.new.sorts c.in_ok-fits.fits c.requires.count c.loop-i-test.true c.index-terms-i.is
    c.if-not-fits.true c.loop-i.invariant c.in_ok-fits.ensures

pub sorts_terms-loop-i-preserved : goal.sorts_terms-loop-i-preserved
sorts_terms-loop-i-preserved t c =
    let k = subst (Narrows _ c.loop-i.sorts c.sorts_term.new.sorts) c.if-not-fits.false c.in_ok-fits.ensures in
    walk_more c.args.scope.now c.args.places.now c.args.terms.now c.loop-i.i None c.index-terms-i.result c.args.sorts.now c.loop-i.sorts c.sorts_term.new.sorts true c.requires.count c.loop-i-test.true c.index-terms-i.is c.loop-i.invariant k

pub sorts_terms-returns : goal.sorts_terms-returns
sorts_terms-returns t c = walk_ends c.args.scope.now c.args.places.now c.args.terms.now c.loop-i.i c.args.sorts.now c.loop-i.sorts c.requires.count (omega arith) c.loop-i.invariant
