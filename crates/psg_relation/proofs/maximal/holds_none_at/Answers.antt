use Rattle.std.proofs.Common.{◌+◌, ◌<◌, ◌∷◌, ◌++◌, [], ◌∙◌, ℕ, length, take, slice_index_or, refl, ap, sym, subst, arith}
use Rattle.std.proofs.lemmas.Bool.{false≢true}
use Rattle.std.proofs.lemmas.List.{take_all, get_or_default}
use Rattle.std.proofs.lemmas.List.Elements.{All-get_or}
use Rattle.psg_terms.proofs.Lists.{slice_get_item}
use Rattle.psg_terms.specs.Instances.{IsInstance}
use Rattle.psg_relation.specs.Choices.{picked}
use Rattle.psg_relation.specs.Sifted.{HoldsNone}
use Rattle.psg_relation.proofs.Columns.{picked-more}
use Rattle.psg_relation.proofs.Indexing.{none_next}
use Rattle.psg_relation.proofs.maximal.holds_none_at.Goals as goal

pub loop-turn-init : goal.loop-turn-init
loop-turn-init c = λ k h. elim h [ ]

pub loop-turn-preserved : goal.loop-turn-preserved
loop-turn-preserved c =
    let kept = c.args.kept.now in
    let places = c.args.places.now in
    let i = c.loop-turn.turn in
    let place : ℕ = slice_index_or places i 0 in
    let within = All-get_or (λ (k : ℕ). k < length kept) places i 0 c.loop-turn-test.true c.requires in
    let other = c.index-kept-place.result in
    let tried = picked kept (take i places) in
    none_next c.args.row.now other tried (picked kept (take (i + 1) places))
    (sym (picked-more kept places i place other tried (tried ++ other ∷ []) c.loop-turn-test.true (get_or_default places i 0 place c.loop-turn-test.true)
    (slice_get_item kept place other within c.index-kept-place.is) refl refl))
    c.loop-turn.invariant
    (λ j. false≢true (sym c.if-branch.false ∙ c.in_ok-is_instance.ensures.instance.1 (subst (λ r. IsInstance r c.args.row.now) (sym c.terms.ensures) j)))

pub returns : goal.returns
returns c = λ _. subst (HoldsNone c.args.row.now) (ap (picked c.args.kept.now) (take_all c.loop-turn.turn c.args.places.now (omega arith))) c.loop-turn.invariant
