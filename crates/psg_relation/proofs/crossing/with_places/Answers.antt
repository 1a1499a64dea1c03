use Rattle.std.proofs.Common.{◌+◌, ◌<◌, ◌++◌, ◌∷◌, [], ℕ, All, length, take, slice_index_or, refl, sym, subst}
use Rattle.std.proofs.lemmas.List.Elements.{All-get_or}
use Rattle.std.proofs.lemmas.List.{get_or_default}
use Rattle.psg_terms.proofs.Lists.{slice_get_item}
use Rattle.psg_unify.specs.Pairs.{AreJoinable}
use Rattle.psg_relation.specs.Choices.{picked}
use Rattle.psg_relation.specs.Joining.{IsMore}
use Rattle.psg_relation.proofs.Columns.{picked-more}
use Rattle.psg_relation.proofs.Indexing.{one_crossed}
use Rattle.psg_relation.proofs.Members.{in-at}
use Rattle.psg_relation.proofs.crossing.with_places.Goals as goal

pub with_join_in-requires-clause-joinable : goal.with_join_in-requires-clause-joinable
with_join_in-requires-clause-joinable c =
    let right = c.args.right.now in
    let place : ℕ = slice_index_or c.args.places.now c.loop-i.i 0 in
    let within = All-get_or (λ (k : ℕ). k < length right) c.args.places.now c.loop-i.i 0 c.loop-i-test.true c.requires.within in
    subst (λ r. AreJoinable c.args.sig.now c.args.one.now r c.args.pairs.now) (sym c.terms.ensures)
    (c.requires.meet c.index-right-place.result (in-at c.index-right-place.result right place within c.index-right-place.is)).joinable

pub with_join_in-requires-clause-keep : goal.with_join_in-requires-clause-keep
with_join_in-requires-clause-keep c =
    let right = c.args.right.now in
    let place : ℕ = slice_index_or c.args.places.now c.loop-i.i 0 in
    let within = All-get_or (λ (k : ℕ). k < length right) c.args.places.now c.loop-i.i 0 c.loop-i-test.true c.requires.within in
    subst (λ r. All (λ (k : ℕ). k < length c.args.one.now + length r) c.args.keep.now) (sym c.terms.ensures)
    (c.requires.meet c.index-right-place.result (in-at c.index-right-place.result right place within c.index-right-place.is)).within

pub loop-i-preserved : goal.loop-i-preserved
loop-i-preserved c = λ done a.
    let right = c.args.right.now in
    let places = c.args.places.now in
    let i = c.loop-i.i in
    let place : ℕ = slice_index_or places i 0 in
    let other = c.index-right-place.result in
    let within = All-get_or (λ (k : ℕ). k < length right) places i 0 c.loop-i-test.true c.requires.within in
    let tried = picked right (take i places) in
    one_crossed c.args.sig.now c.args.pairs.now c.args.keep.now done c.args.one.now tried (picked right (take (i + 1) places)) c.loop-i.more.items c.in_ok-more.more.items other
    (sym (picked-more right places i place other tried (tried ++ other ∷ []) c.loop-i-test.true (get_or_default places i 0 place c.loop-i-test.true)
    (slice_get_item right place other within c.index-right-place.is) refl refl))
    (c.loop-i.invariant done a)
    (subst (λ r. IsMore c.args.sig.now c.args.pairs.now c.args.keep.now c.args.one.now r c.loop-i.more.items c.in_ok-more.more.items) c.terms.ensures c.in_ok-more.ensures)
