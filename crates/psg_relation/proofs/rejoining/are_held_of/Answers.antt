use Rattle.std.proofs.Common.{◌≡◌, ◌⊎◌, MatchBool, get_or, sym, subst, arith}
use Rattle.psg_relation.specs.Rejoining.{IsHeld, IsEmptyJoin, IsUnheld}
use Rattle.psg_relation.proofs.HeldJoins.{each_held, each_there, each_whole}
use Rattle.psg_relation.proofs.rejoining.are_held_of.Goals as goal

pub loop-other-init : goal.loop-other-init
loop-other-init c = λ p h. elim h [ ]

pub is_join_held-requires-clause-compare : goal.is_join_held-requires-clause-compare
is_join_held-requires-clause-compare c =
    let t = c.terms.result.now in
    let e : t ≡ get_or c.args.right.now c.loop-other.other-index t = subst (λ r. r ≡ get_or c.args.right.now c.loop-other.other-index r) (sym c.terms.ensures) c.other-item.is in
    c.requires.compare (c.args.one.now, t) (each_there c.args.sig.now c.args.pairs.now c.args.keep.now c.args.one.now t c.args.right.now c.loop-other.other-index c.loop-other-test.true e)

pub returns-then-not-held : goal.returns-then-not-held
returns-then-not-held c =
    let t = c.terms.result.now in
    let e : t ≡ get_or c.args.right.now c.loop-other.other-index t = subst (λ r. r ≡ get_or c.args.right.now c.loop-other.other-index r) (sym c.terms.ensures) c.other-item.is in (
      (c.args.one.now, t),
      each_there c.args.sig.now c.args.pairs.now c.args.keep.now c.args.one.now t c.args.right.now c.loop-other.other-index c.loop-other-test.true e,
      subst (λ b. MatchBool b (IsEmptyJoin c.args.sig.now c.args.pairs.now c.args.keep.now (c.args.one.now, t) ⊎ IsHeld c.args.sig.now c.args.pairs.now c.args.keep.now c.args.kept.now (c.args.one.now, t))
          (IsUnheld c.args.sig.now c.args.pairs.now c.args.keep.now c.args.kept.now (c.args.one.now, t))) c.if-not-held.true c.in_ok-held.ensures,
    )

pub loop-other-preserved : goal.loop-other-preserved
loop-other-preserved c =
    let t = c.terms.result.now in
    let e : t ≡ get_or c.args.right.now c.loop-other.other-index t = subst (λ r. r ≡ get_or c.args.right.now c.loop-other.other-index r) (sym c.terms.ensures) c.other-item.is in
    each_held c.args.sig.now c.args.pairs.now c.args.keep.now c.args.kept.now c.args.one.now t c.args.right.now c.loop-other.other-index c.loop-other-test.true e c.loop-other.invariant
    (subst (λ b. MatchBool b (IsEmptyJoin c.args.sig.now c.args.pairs.now c.args.keep.now (c.args.one.now, t) ⊎ IsHeld c.args.sig.now c.args.pairs.now c.args.keep.now c.args.kept.now (c.args.one.now, t))
    (IsUnheld c.args.sig.now c.args.pairs.now c.args.keep.now c.args.kept.now (c.args.one.now, t))) c.if-not-held.false c.in_ok-held.ensures)

pub returns : goal.returns
returns c = each_whole c.args.sig.now c.args.pairs.now c.args.keep.now c.args.kept.now c.args.one.now c.args.right.now c.loop-other.other-index (omega arith) c.loop-other.invariant
