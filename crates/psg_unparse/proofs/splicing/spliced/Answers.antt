use Rattle.std.proofs.Common.{ℕ, sym, ap, subst, ◌∙◌, arith}
use Rattle.std.specs.Prelude.{MatchOption}
use Rattle.std.specs.Option.{option_copied}
use Rattle.std.proofs.lemmas.Bool.{false≢true}
use Rattle.std.proofs.lemmas.Option.{slice_get_within}
use Rattle.psg_unparse.specs.Listing.{AreInOrder}
use Rattle.psg_unparse.specs.Splicing.{FitsInPlace, IsFitting, IsPlaceOf}
use Rattle.psg_unparse.proofs.SplicePlaces.{call_broken, call_made, has_place, new_small, node_cuts, node_ordered, node_small, old_small, place_within, spans_in_order}
use Rattle.psg_unparse.proofs.splicing.spliced.Goals as goal

pub place_of-place-requires-clause-order : goal.place_of-place-requires-clause-order
place_of-place-requires-clause-order c =
    subst AreInOrder (sym c.as_slice-spans.ensures)
    (spans_in_order c.args.definition.now c.args.tree.now c.requires.formed.0 c.requires.formed.1 c.args.printed.now
    c.requires.printed)

pub place_of-place-requires-clause-there : goal.place_of-place-requires-clause-there
place_of-place-requires-clause-there c =
    subst (λ xs. (place : ℕ) × IsPlaceOf xs c.steps.result.now place) (sym c.as_slice-spans.ensures)
    (subst (λ p. (place : ℕ) × IsPlaceOf c.args.printed.now.spans p place) (sym c.steps.ensures)
    (has_place c.args.definition.now c.args.tree.now c.requires.formed.0 c.requires.formed.1 c.args.printed.now
    c.requires.printed c.args.path.now c.in-Some.old.now (sym c.at.ensures ∙ ap option_copied c.in-Some.is)))

pub bounds-spans-place : goal.bounds-spans-place
bounds-spans-place c =
    slice_get_within c.as_slice-spans.result.now c.place_of-place.result c.place_of-place.ensures.span
    c.place_of-place.ensures.found

pub parts_at-parts-requires-clause-start : goal.parts_at-parts-requires-clause-start
parts_at-parts-requires-clause-start c =
    (node_cuts c.args.definition.now c.args.tree.now c.requires.formed.0 c.requires.formed.1 c.args.printed.now c.requires.printed c.args.path.now
    c.as_slice-spans.result.now c.as_slice-spans.ensures c.text_in-text.result.now c.text_in-text.ensures.text c.place_of-place.result
    c.steps.result.now c.steps.ensures c.place_of-place.ensures c.index-spans-place.result c.index-spans-place.is c.requires.cuts).0

pub parts_at-parts-requires-clause-end : goal.parts_at-parts-requires-clause-end
parts_at-parts-requires-clause-end c =
    (node_cuts c.args.definition.now c.args.tree.now c.requires.formed.0 c.requires.formed.1 c.args.printed.now c.requires.printed c.args.path.now
    c.as_slice-spans.result.now c.as_slice-spans.ensures c.text_in-text.result.now c.text_in-text.ensures.text c.place_of-place.result
    c.steps.result.now c.steps.ensures c.place_of-place.ensures c.index-spans-place.result c.index-spans-place.is c.requires.cuts).1

pub parts_at-parts-requires-clause-ordered : goal.parts_at-parts-requires-clause-ordered
parts_at-parts-requires-clause-ordered c =
    node_ordered c.args.definition.now c.args.tree.now c.requires.formed.0 c.requires.formed.1 c.args.printed.now c.requires.printed c.args.path.now
    c.as_slice-spans.result.now c.as_slice-spans.ensures c.text_in-text.result.now c.text_in-text.ensures.text c.place_of-place.result
    c.steps.result.now c.steps.ensures c.place_of-place.ensures c.index-spans-place.result c.index-spans-place.is

pub returns-then-not-is_one_line : goal.returns-then-not-is_one_line
returns-then-not-is_one_line c =
    call_broken c.args.definition.now c.args.tree.now c.requires.formed.0 c.requires.formed.1 c.args.printed.now c.requires.printed c.args.path.now
    c.as_slice-spans.result.now c.as_slice-spans.ensures c.text_in-text.result.now c.text_in-text.ensures.text c.place_of-place.result
    c.steps.result.now c.steps.ensures c.place_of-place.ensures c.index-spans-place.result c.index-spans-place.is
    c.in-Some.old.now (sym c.at.ensures ∙ ap option_copied c.in-Some.is) c.args.new.now c.parts_at-parts.result.own.now c.parts_at-parts.ensures.own
    (λ one. false≢true (sym c.if-not-is_one_line.true ∙ c.is_one_line.ensures.1 one))

pub spliced_print-requires-clause-place : goal.spliced_print-requires-clause-place
spliced_print-requires-clause-place c =
    let lt = place_within c.args.definition.now c.args.tree.now c.requires.formed.0 c.requires.formed.1 c.args.printed.now c.requires.printed c.args.path.now
    c.as_slice-spans.result.now c.as_slice-spans.ensures c.text_in-text.result.now c.text_in-text.ensures.text c.place_of-place.result
    c.steps.result.now c.steps.ensures c.place_of-place.ensures c.index-spans-place.result c.index-spans-place.is in
    omega (arith, lt)

pub spliced_print-requires-clause-spans : goal.spliced_print-requires-clause-spans
spliced_print-requires-clause-spans c =
    old_small c.args.definition.now c.args.tree.now c.requires.formed.0 c.requires.formed.1 c.args.printed.now c.requires.printed c.args.path.now
    c.as_slice-spans.result.now c.as_slice-spans.ensures c.text_in-text.result.now c.text_in-text.ensures.text c.place_of-place.result
    c.steps.result.now c.steps.ensures c.place_of-place.ensures c.index-spans-place.result c.index-spans-place.is c.text_in-text.ensures.small

pub spliced_print-requires-clause-node : goal.spliced_print-requires-clause-node
spliced_print-requires-clause-node c =
    node_small c.args.definition.now c.args.tree.now c.requires.formed.0 c.requires.formed.1 c.args.printed.now c.requires.printed c.args.path.now
    c.as_slice-spans.result.now c.as_slice-spans.ensures c.text_in-text.result.now c.text_in-text.ensures.text c.place_of-place.result
    c.steps.result.now c.steps.ensures c.place_of-place.ensures c.index-spans-place.result c.index-spans-place.is c.text_in-text.ensures.small

pub spliced_print-requires-clause-new : goal.spliced_print-requires-clause-new
spliced_print-requires-clause-new c =
    new_small c.args.definition.now c.in-Some.old.now c.args.new.now c.in-Some-2.fit.count c.in-Some-2.fit.printed
    c.text_in-new.result.now (subst (λ o. MatchOption o (FitsInPlace c.args.definition.now c.in-Some.old.now c.args.new.now → ⊥)
    (λ made. IsFitting c.args.definition.now c.in-Some.old.now c.args.new.now made.count made.printed)) c.in-Some-2.is c.in_ok-fit.ensures)
    c.text_in-new.ensures.text c.text_in-new.ensures.small

pub returns : goal.returns
returns c =
    call_made c.args.definition.now c.args.tree.now c.requires.formed.0 c.requires.formed.1 c.args.printed.now c.requires.printed c.args.path.now
    c.as_slice-spans.result.now c.as_slice-spans.ensures c.text_in-text.result.now c.text_in-text.ensures.text c.place_of-place.result
    c.steps.result.now c.steps.ensures c.place_of-place.ensures c.index-spans-place.result c.index-spans-place.is
    c.in-Some.old.now (sym c.at.ensures ∙ ap option_copied c.in-Some.is) c.args.new.now c.parts_at-parts.result.own.now c.parts_at-parts.ensures.own
    (c.is_one_line.ensures.0 c.if-not-is_one_line.false) c.in-Some-2.fit.count c.in-Some-2.fit.printed c.in_ok-made.made
    c.parts_at-parts.result.before.now c.parts_at-parts.result.behind.now (subst (λ o. MatchOption o (FitsInPlace c.args.definition.now c.in-Some.old.now c.args.new.now → ⊥)
    (λ made. IsFitting c.args.definition.now c.in-Some.old.now c.args.new.now made.count made.printed)) c.in-Some-2.is c.in_ok-fit.ensures)
    c.parts_at-parts.ensures.before c.parts_at-parts.ensures.behind c.in_ok-made.ensures.text c.in_ok-made.ensures.spans
