use Rattle.std.proofs.Common.{ℕ, ◌++◌, ◌∙◌, All, ap, ap₂, length, List, sym, subst}
use Rattle.std.proofs.lemmas.List.{length-map}
use Rattle.psg_terms.specs.Terms.{Term}
use Rattle.psg_relation.specs.Choices.{picked}
use Rattle.psg_relation.specs.Narrowing.{number_of, numbers, spots, IsSide}
use Rattle.psg_relation.specs.declared.narrowing.Side.{Side}
use Rattle.psg_relation.specs.declared.narrowing.Place.{Place}
use Rattle.psg_relation.proofs.NarrowJoin.{slices_joinable, slices_none, slices_join, slices_within, slices_count, slices_places}
use Rattle.psg_relation.proofs.Pairing.{pairs_within}
use Rattle.psg_relation.proofs.narrowing.narrowed.Goals as goal

pub narrow_of-requires-clause-pairs : goal.narrow_of-requires-clause-pairs
narrow_of-requires-clause-pairs c =
    let j = c.requires.joinable in
    pairs_within c.args.sig.now c.args.left.now c.args.right.now j.left_sorts j.right_sorts c.args.pairs.now j.left_sorted j.right_sorted j.equal

pub join-requires-clause-joinable : goal.join-requires-clause-joinable
join-requires-clause-joinable c = slices_joinable c.args.sig.now c.sound.ensures c.args.left.now c.args.right.now c.args.pairs.now c.args.keep.now c.requires.joinable c.in_ok-narrow.narrow c.in_ok-narrow.ensures
    c.as_slice-lefts.result.now c.as_slice-rights.result.now c.as_slice-pairs.result.now c.as_slice-kept.result.now c.as_slice-lefts.ensures.value c.as_slice-rights.ensures.value (c.as_slice-pairs.ensures.value ∙ c.in_ok-inner.ensures)
    (c.as_slice-kept.ensures.value ∙ c.in_ok-numbers.ensures ∙ ap₂ (λ (x : List Term) (y : List Side). numbers (length x) y) c.as_slice-lefts.ensures.value c.as_slice.ensures.value)

pub side_numbers-requires : goal.side_numbers-requires
side_numbers-requires c =
    subst (λ (k : List Side). All (IsSide c.as_slice-lefts.result.now c.as_slice-rights.result.now) k) (sym c.as_slice.ensures.value)
    (subst (λ (l : List Term). All (IsSide l c.as_slice-rights.result.now) c.in_ok-narrow.narrow.keep.items) (sym c.as_slice-lefts.ensures.value)
    (subst (λ (r : List Term). All (IsSide c.in_ok-narrow.narrow.lefts.items r) c.in_ok-narrow.narrow.keep.items) (sym c.as_slice-rights.ensures.value) c.in_ok-narrow.ensures.planned.sides))

pub join-requires-clause-keep : goal.join-requires-clause-keep
join-requires-clause-keep c = slices_within c.args.sig.now c.sound.ensures c.args.left.now c.args.right.now c.args.pairs.now c.args.keep.now c.requires.joinable c.in_ok-narrow.narrow c.in_ok-narrow.ensures
    c.as_slice-lefts.result.now c.as_slice-rights.result.now c.as_slice-pairs.result.now c.as_slice-kept.result.now c.as_slice-lefts.ensures.value c.as_slice-rights.ensures.value (c.as_slice-pairs.ensures.value ∙ c.in_ok-inner.ensures)
    (c.as_slice-kept.ensures.value ∙ c.in_ok-numbers.ensures ∙ ap₂ (λ (x : List Term) (y : List Side). numbers (length x) y) c.as_slice-lefts.ensures.value c.as_slice.ensures.value)

pub planned_row-requires : goal.planned_row-requires
planned_row-requires c =
    let sorted = rw c.in-Some.is at c.in_ok-solution.ensures.sorted in
    let count = slices_count c.args.sig.now c.sound.ensures c.args.left.now c.args.right.now c.args.pairs.now c.args.keep.now c.requires.joinable c.in_ok-narrow.narrow c.in_ok-narrow.ensures
    c.as_slice-lefts.result.now c.as_slice-rights.result.now c.as_slice-pairs.result.now c.as_slice-kept.result.now c.as_slice-lefts.ensures.value c.as_slice-rights.ensures.value (c.as_slice-pairs.ensures.value ∙ c.in_ok-inner.ensures)
    (c.as_slice-kept.ensures.value ∙ c.in_ok-numbers.ensures ∙ ap₂ (λ (x : List Term) (y : List Side). numbers (length x) y) c.as_slice-lefts.ensures.value c.as_slice.ensures.value) c.in-Some.solved.items sorted in
    slices_places c.args.sig.now c.sound.ensures c.args.left.now c.args.right.now c.args.pairs.now c.args.keep.now c.requires.joinable c.in_ok-narrow.narrow c.in_ok-narrow.ensures
    c.as_slice-lefts.result.now c.as_slice-rights.result.now c.as_slice-pairs.result.now c.as_slice-kept.result.now c.as_slice-lefts.ensures.value c.as_slice-rights.ensures.value (c.as_slice-pairs.ensures.value ∙ c.in_ok-inner.ensures)
    (c.as_slice-kept.ensures.value ∙ c.in_ok-numbers.ensures ∙ ap₂ (λ (x : List Term) (y : List Side). numbers (length x) y) c.as_slice-lefts.ensures.value c.as_slice.ensures.value) c.as_slice-terms.result.now c.as_slice-places.result.now (ap (λ (r : List Term). length r) c.as_slice-terms.ensures.value ∙ count) c.as_slice-places.ensures.value

pub returns-in-Some : goal.returns-in-Some
returns-in-Some c =
    let canonical = rw c.in-Some.is at c.in_ok-solution.ensures.canonical in
    let exact = rw c.in-Some.is at c.in_ok-solution.ensures.exact in
    let sorted = rw c.in-Some.is at c.in_ok-solution.ensures.sorted in
    let count = slices_count c.args.sig.now c.sound.ensures c.args.left.now c.args.right.now c.args.pairs.now c.args.keep.now c.requires.joinable c.in_ok-narrow.narrow c.in_ok-narrow.ensures
    c.as_slice-lefts.result.now c.as_slice-rights.result.now c.as_slice-pairs.result.now c.as_slice-kept.result.now c.as_slice-lefts.ensures.value c.as_slice-rights.ensures.value (c.as_slice-pairs.ensures.value ∙ c.in_ok-inner.ensures)
    (c.as_slice-kept.ensures.value ∙ c.in_ok-numbers.ensures ∙ ap₂ (λ (x : List Term) (y : List Side). numbers (length x) y) c.as_slice-lefts.ensures.value c.as_slice.ensures.value) c.in-Some.solved.items sorted in
    slices_join c.args.sig.now c.sound.ensures c.args.left.now c.args.right.now c.args.pairs.now c.args.keep.now c.requires.joinable c.in_ok-narrow.narrow c.in_ok-narrow.ensures
    c.as_slice-lefts.result.now c.as_slice-rights.result.now c.as_slice-pairs.result.now c.as_slice-kept.result.now c.as_slice-lefts.ensures.value c.as_slice-rights.ensures.value (c.as_slice-pairs.ensures.value ∙ c.in_ok-inner.ensures)
    (c.as_slice-kept.ensures.value ∙ c.in_ok-numbers.ensures ∙ ap₂ (λ (x : List Term) (y : List Side). numbers (length x) y) c.as_slice-lefts.ensures.value c.as_slice.ensures.value)
    (slices_within c.args.sig.now c.sound.ensures c.args.left.now c.args.right.now c.args.pairs.now c.args.keep.now c.requires.joinable c.in_ok-narrow.narrow c.in_ok-narrow.ensures
    c.as_slice-lefts.result.now c.as_slice-rights.result.now c.as_slice-pairs.result.now c.as_slice-kept.result.now c.as_slice-lefts.ensures.value c.as_slice-rights.ensures.value (c.as_slice-pairs.ensures.value ∙ c.in_ok-inner.ensures)
    (c.as_slice-kept.ensures.value ∙ c.in_ok-numbers.ensures ∙ ap₂ (λ (x : List Term) (y : List Side). numbers (length x) y) c.as_slice-lefts.ensures.value c.as_slice.ensures.value)) c.in-Some.solved.items c.in_ok-row-in-Some.row
    (c.in_ok-row-in-Some.ensures
    ∙ ap (λ (z : List Term). picked (z ++ (c.args.left.now ++ c.args.right.now)) (spots (length z) c.as_slice-places.result.now)) c.as_slice-terms.ensures.value
    ∙ ap (λ (n : ℕ). picked (c.in-Some.solved.items ++ (c.args.left.now ++ c.args.right.now)) (spots n c.as_slice-places.result.now)) count
    ∙ ap (λ (p : List Place). picked (c.in-Some.solved.items ++ (c.args.left.now ++ c.args.right.now)) (spots (length c.in_ok-narrow.narrow.keep.items) p)) c.as_slice-places.ensures.value)
    canonical (count ∙ sym (length-map c.in_ok-narrow.narrow.keep.items (number_of (length c.in_ok-narrow.narrow.lefts.items))) ∙ sym (ap (λ (k : List ℕ). length k) (c.as_slice-kept.ensures.value ∙ c.in_ok-numbers.ensures ∙ ap₂ (λ (x : List Term) (y : List Side). numbers (length x) y) c.as_slice-lefts.ensures.value c.as_slice.ensures.value))) exact sorted

pub returns : goal.returns
returns c =
    let none = rw c.in-None.is at c.in_ok-solution.ensures.none in
    slices_none c.args.sig.now c.sound.ensures c.args.left.now c.args.right.now c.args.pairs.now c.args.keep.now c.requires.joinable c.in_ok-narrow.narrow c.in_ok-narrow.ensures
    c.as_slice-lefts.result.now c.as_slice-rights.result.now c.as_slice-pairs.result.now c.as_slice-kept.result.now c.as_slice-lefts.ensures.value c.as_slice-rights.ensures.value (c.as_slice-pairs.ensures.value ∙ c.in_ok-inner.ensures)
    (c.as_slice-kept.ensures.value ∙ c.in_ok-numbers.ensures ∙ ap₂ (λ (x : List Term) (y : List Side). numbers (length x) y) c.as_slice-lefts.ensures.value c.as_slice.ensures.value)
    (slices_within c.args.sig.now c.sound.ensures c.args.left.now c.args.right.now c.args.pairs.now c.args.keep.now c.requires.joinable c.in_ok-narrow.narrow c.in_ok-narrow.ensures
    c.as_slice-lefts.result.now c.as_slice-rights.result.now c.as_slice-pairs.result.now c.as_slice-kept.result.now c.as_slice-lefts.ensures.value c.as_slice-rights.ensures.value (c.as_slice-pairs.ensures.value ∙ c.in_ok-inner.ensures)
    (c.as_slice-kept.ensures.value ∙ c.in_ok-numbers.ensures ∙ ap₂ (λ (x : List Term) (y : List Side). numbers (length x) y) c.as_slice-lefts.ensures.value c.as_slice.ensures.value)) none
