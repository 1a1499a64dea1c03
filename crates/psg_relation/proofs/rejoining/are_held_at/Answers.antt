use Rattle.std.proofs.Common.{◌≡◌, ◌⊎◌, ◌+◌, ◌<◌, ◌∷◌, ◌++◌, [], ℕ, MatchBool, length, take, get_or, slice_index_or, refl, sym, subst, arith}
use Rattle.std.proofs.lemmas.List.{take_all, get_or_default}
use Rattle.std.proofs.lemmas.List.Elements.{All-get_or}
use Rattle.psg_terms.proofs.Lists.{slice_get_item}
use Rattle.psg_relation.specs.Choices.{picked}
use Rattle.psg_relation.specs.Joining.{with_each}
use Rattle.psg_relation.specs.Rejoining.{IsHeld, IsEmptyJoin, IsUnheld}
use Rattle.psg_relation.proofs.Columns.{picked-more}
use Rattle.psg_relation.proofs.HeldJoins.{SoFar, one_held}
use Rattle.psg_relation.proofs.Indexing.{in-picked, place-in}
use Rattle.psg_relation.proofs.Meeting.{in-each}
use Rattle.psg_relation.proofs.Members.{in-at}
use Rattle.psg_relation.proofs.rejoining.are_held_at.Goals as goal

pub loop-i-init : goal.loop-i-init
loop-i-init c = λ p h. elim h [ ]

pub is_join_held-requires-clause-compare : goal.is_join_held-requires-clause-compare
is_join_held-requires-clause-compare c =
    let right = c.args.right.now in
    let place : ℕ = slice_index_or c.args.places.now c.loop-i.i 0 in
    let within = All-get_or (λ (k : ℕ). k < length right) c.args.places.now c.loop-i.i 0 c.loop-i-test.true c.requires.within in
    let t = c.terms-other.result.now in
    let e : t ≡ get_or right place t = subst (λ r. r ≡ get_or right place r) (sym c.terms-other.ensures) c.index-right-place.is in
    c.requires.compare (c.args.one.now, t) (in-each c.args.one.now t right (in-at t right place within e))

pub returns-then-not-held : goal.returns-then-not-held
returns-then-not-held c =
    let right = c.args.right.now in
    let places = c.args.places.now in
    let place : ℕ = slice_index_or places c.loop-i.i 0 in
    let within = All-get_or (λ (k : ℕ). k < length right) places c.loop-i.i 0 c.loop-i-test.true c.requires.within in
    let t = c.terms-other.result.now in
    let e : t ≡ get_or right place t = subst (λ r. r ≡ get_or right place r) (sym c.terms-other.ensures) c.index-right-place.is in (
      (c.args.one.now, t),
      in-each c.args.one.now t (picked right places) (in-picked right places place t (slice_get_item right place t within e) (place-in places c.loop-i.i c.loop-i-test.true)),
      subst (λ b. MatchBool b (IsEmptyJoin c.args.sig.now c.args.pairs.now c.args.keep.now (c.args.one.now, t) ⊎ IsHeld c.args.sig.now c.args.pairs.now c.args.keep.now c.args.kept.now (c.args.one.now, t))
          (IsUnheld c.args.sig.now c.args.pairs.now c.args.keep.now c.args.kept.now (c.args.one.now, t))) c.if-not-held.true c.in_ok-held.ensures,
    )

pub loop-i-preserved : goal.loop-i-preserved
loop-i-preserved c =
    let right = c.args.right.now in
    let places = c.args.places.now in
    let i = c.loop-i.i in
    let place : ℕ = slice_index_or places i 0 in
    let within = All-get_or (λ (k : ℕ). k < length right) places i 0 c.loop-i-test.true c.requires.within in
    let t = c.terms-other.result.now in
    let e : t ≡ get_or right place t = subst (λ r. r ≡ get_or right place r) (sym c.terms-other.ensures) c.index-right-place.is in
    let tried = picked right (take i places) in
    one_held c.args.sig.now c.args.pairs.now c.args.keep.now c.args.kept.now c.args.one.now t tried (picked right (take (i + 1) places))
    (sym (picked-more right places i place t tried (tried ++ t ∷ []) c.loop-i-test.true (get_or_default places i 0 place c.loop-i-test.true) (slice_get_item right place t within e) refl refl))
    c.loop-i.invariant
    (subst (λ b. MatchBool b (IsEmptyJoin c.args.sig.now c.args.pairs.now c.args.keep.now (c.args.one.now, t) ⊎ IsHeld c.args.sig.now c.args.pairs.now c.args.keep.now c.args.kept.now (c.args.one.now, t))
    (IsUnheld c.args.sig.now c.args.pairs.now c.args.keep.now c.args.kept.now (c.args.one.now, t))) c.if-not-held.false c.in_ok-held.ensures)

pub returns : goal.returns
returns c =
    subst (λ ps. SoFar c.args.sig.now c.args.pairs.now c.args.keep.now c.args.kept.now (with_each c.args.one.now (picked c.args.right.now ps))) (take_all c.loop-i.i c.args.places.now (omega arith)) c.loop-i.invariant
