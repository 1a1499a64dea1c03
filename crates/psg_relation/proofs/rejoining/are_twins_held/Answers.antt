use Rattle.std.proofs.Common.{◌≡◌, ◌⊎◌, MatchBool, get_or, sym, subst, arith}
use Rattle.psg_relation.specs.Rejoining.{IsHeld, IsEmptyJoin, IsUnheld}
use Rattle.psg_relation.proofs.HeldJoins.{twins_held, twin_there, twins_whole}
use Rattle.psg_relation.proofs.rejoining.are_twins_held.Goals as goal

pub loop-row-init : goal.loop-row-init
loop-row-init c = λ p h. elim h [ ]

pub is_join_held-requires-clause-compare : goal.is_join_held-requires-clause-compare
is_join_held-requires-clause-compare c =
    let t = c.terms-terms.result.now in
    let e : t ≡ get_or c.args.rows.now c.loop-row.row-index t = subst (λ r. r ≡ get_or c.args.rows.now c.loop-row.row-index r) (sym c.terms-terms.ensures) c.row-item.is in
    c.requires.compare (t, t) (twin_there c.args.sig.now c.args.pairs.now c.args.keep.now t c.args.rows.now c.loop-row.row-index c.loop-row-test.true e)

pub returns-then-not-held : goal.returns-then-not-held
returns-then-not-held c =
    let t = c.terms-terms.result.now in
    let e : t ≡ get_or c.args.rows.now c.loop-row.row-index t = subst (λ r. r ≡ get_or c.args.rows.now c.loop-row.row-index r) (sym c.terms-terms.ensures) c.row-item.is in (
      (t, t),
      twin_there c.args.sig.now c.args.pairs.now c.args.keep.now t c.args.rows.now c.loop-row.row-index c.loop-row-test.true e,
      subst (λ b. MatchBool b (IsEmptyJoin c.args.sig.now c.args.pairs.now c.args.keep.now (t, t) ⊎ IsHeld c.args.sig.now c.args.pairs.now c.args.keep.now c.args.kept.now (t, t))
          (IsUnheld c.args.sig.now c.args.pairs.now c.args.keep.now c.args.kept.now (t, t))) c.if-not-held.true c.in_ok-held.ensures,
    )

pub loop-row-preserved : goal.loop-row-preserved
loop-row-preserved c =
    let t = c.terms-terms.result.now in
    let e : t ≡ get_or c.args.rows.now c.loop-row.row-index t = subst (λ r. r ≡ get_or c.args.rows.now c.loop-row.row-index r) (sym c.terms-terms.ensures) c.row-item.is in
    twins_held c.args.sig.now c.args.pairs.now c.args.keep.now c.args.kept.now t c.args.rows.now c.loop-row.row-index c.loop-row-test.true e c.loop-row.invariant
    (subst (λ b. MatchBool b (IsEmptyJoin c.args.sig.now c.args.pairs.now c.args.keep.now (t, t) ⊎ IsHeld c.args.sig.now c.args.pairs.now c.args.keep.now c.args.kept.now (t, t))
    (IsUnheld c.args.sig.now c.args.pairs.now c.args.keep.now c.args.kept.now (t, t))) c.if-not-held.false c.in_ok-held.ensures)

pub returns : goal.returns
returns c = twins_whole c.args.sig.now c.args.pairs.now c.args.keep.now c.args.kept.now c.args.rows.now c.loop-row.row-index (omega arith) c.loop-row.invariant
