use Rattle.std.proofs.Common.{◌≡◌, get_or, length, sym, subst, arith}
use Rattle.psg_relation.specs.Heads.{places_at, IsIndexed}
use Rattle.psg_relation.specs.Joining.{with_each}
use Rattle.psg_relation.specs.Rejoining.{AreHeld}
use Rattle.psg_relation.proofs.HeldJoins.{pairs_held, pairs_whole, in_pairs_of}
use Rattle.psg_relation.proofs.rejoining.are_pairs_held.Goals as goal

pub loop-one-init : goal.loop-one-init
loop-one-init c = λ p h. elim h [ ]

pub are_joins_of_row_held-requires-clause-compare : goal.are_joins_of_row_held-requires-clause-compare
are_joins_of_row_held-requires-clause-compare c = λ p h.
    let t = c.terms.result.now in
    let e : t ≡ get_or c.args.left.now c.loop-one.one-index t = subst (λ r. r ≡ get_or c.args.left.now c.loop-one.one-index r) (sym c.terms.ensures) c.one-item.is in
    c.requires.compare p (in_pairs_of c.args.sig.now c.args.pairs.now c.args.keep.now t c.args.left.now c.args.right.now c.loop-one.one-index c.loop-one-test.true e p h)

pub are_joins_of_row_held-requires-clause-others : goal.are_joins_of_row_held-requires-clause-others
are_joins_of_row_held-requires-clause-others c = λ first e.
    let right = c.args.right.now in
    subst (λ column. IsIndexed right column (length right) c.in_ok-index.index.free.items (places_at c.in_ok-index.index.places)) (c.first_right-column.ensures first e) c.in_ok-index.ensures

pub returns-then-not-held : goal.returns-then-not-held
returns-then-not-held c =
    let t = c.terms.result.now in
    let e : t ≡ get_or c.args.left.now c.loop-one.one-index t = subst (λ r. r ≡ get_or c.args.left.now c.loop-one.one-index r) (sym c.terms.ensures) c.one-item.is in
    let (p, h, u) = subst (λ b. AreHeld b c.args.sig.now c.args.pairs.now c.args.keep.now c.args.kept.now (with_each t c.args.right.now)) c.if-not-held.true c.in_ok-held.ensures in
    (p, in_pairs_of c.args.sig.now c.args.pairs.now c.args.keep.now t c.args.left.now c.args.right.now c.loop-one.one-index c.loop-one-test.true e p h, u)

pub loop-one-preserved : goal.loop-one-preserved
loop-one-preserved c =
    let t = c.terms.result.now in
    let e : t ≡ get_or c.args.left.now c.loop-one.one-index t = subst (λ r. r ≡ get_or c.args.left.now c.loop-one.one-index r) (sym c.terms.ensures) c.one-item.is in
    pairs_held c.args.sig.now c.args.pairs.now c.args.keep.now c.args.kept.now t c.args.left.now c.args.right.now c.loop-one.one-index c.loop-one-test.true e c.loop-one.invariant
    (subst (λ b. AreHeld b c.args.sig.now c.args.pairs.now c.args.keep.now c.args.kept.now (with_each t c.args.right.now)) c.if-not-held.false c.in_ok-held.ensures)

pub returns : goal.returns
returns c = pairs_whole c.args.sig.now c.args.pairs.now c.args.keep.now c.args.kept.now c.args.left.now c.args.right.now c.loop-one.one-index (omega arith) c.loop-one.invariant
