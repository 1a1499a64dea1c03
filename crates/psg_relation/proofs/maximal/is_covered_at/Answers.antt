use Rattle.std.proofs.Common.{◌+◌, ◌<◌, ◌∷◌, ◌++◌, [], ◌∙◌, ℕ, length, take, slice_index_or, refl, sym, subst}
use Rattle.std.proofs.lemmas.Bool.{false≢true}
use Rattle.std.proofs.lemmas.List.Elements.{All-get_or}
use Rattle.std.proofs.lemmas.List.{get_or_default}
use Rattle.psg_terms.proofs.Lists.{slice_get_item}
use Rattle.psg_terms.specs.Instances.{IsInstance}
use Rattle.psg_relation.specs.Choices.{picked}
use Rattle.psg_relation.proofs.Columns.{picked-more}
use Rattle.psg_relation.proofs.Indexing.{in-picked, place-in, uncovered_next}
use Rattle.psg_relation.proofs.maximal.is_covered_at.Goals as goal

pub returns-then-branch : goal.returns-then-branch
returns-then-branch c =
    let kept = c.args.kept.now in
    let places = c.args.places.now in
    let place : ℕ = slice_index_or places c.loop-i.i 0 in
    let within = All-get_or (λ (k : ℕ). k < length kept) places c.loop-i.i 0 c.loop-i-test.true c.requires in
    let other = c.index-kept-place.result in (
      λ _. (
        other,
        in-picked kept places place other (slice_get_item kept place other within c.index-kept-place.is) (place-in places c.loop-i.i c.loop-i-test.true),
        subst (IsInstance c.args.row.now) c.terms.ensures (c.in_ok-is_instance.ensures.instance.0 c.if-branch.true),
      ),
      λ _. refl,
    )

pub loop-i-preserved : goal.loop-i-preserved
loop-i-preserved c =
    let kept = c.args.kept.now in
    let places = c.args.places.now in
    let i = c.loop-i.i in
    let place : ℕ = slice_index_or places i 0 in
    let within = All-get_or (λ (k : ℕ). k < length kept) places i 0 c.loop-i-test.true c.requires in
    let other = c.index-kept-place.result in
    let tried = picked kept (take i places) in
    uncovered_next c.args.row.now other tried (picked kept (take (i + 1) places))
    (sym (picked-more kept places i place other tried (tried ++ other ∷ []) c.loop-i-test.true (get_or_default places i 0 place c.loop-i-test.true)
    (slice_get_item kept place other within c.index-kept-place.is) refl refl))
    c.loop-i.invariant
    (λ j. false≢true (sym c.if-branch.false ∙ c.in_ok-is_instance.ensures.instance.1 (subst (IsInstance c.args.row.now) (sym c.terms.ensures) j)))
