use Rattle.std.proofs.Common.{sym, subst}
use Rattle.psg_terms.specs.Relations.{IsIn}
use Rattle.psg_relation.specs.Rejoining.{partners, AreHeld}
use Rattle.psg_relation.proofs.rejoining.are_held.Goals as goal

pub are_pairs_held-requires-clause-compare : goal.are_pairs_held-requires-clause-compare
are_pairs_held-requires-clause-compare c = λ p h. c.requires.compare p (subst (λ w. IsIn p (partners w c.args.left.now c.args.right.now)) (sym c.in-All.is) h)

pub returns-in_ok-all-in-All : goal.returns-in_ok-all-in-All
returns-in_ok-all-in-All c =
    subst (λ w. AreHeld c.in_ok-all-in-All.all c.args.sig.now c.args.pairs.now c.args.keep.now c.args.kept.now (partners w c.args.left.now c.args.right.now)) (sym c.in-All.is) c.in_ok-all-in-All.ensures

pub are_twins_held-requires-clause-compare : goal.are_twins_held-requires-clause-compare
are_twins_held-requires-clause-compare c = λ p h. c.requires.compare p (subst (λ w. IsIn p (partners w c.args.left.now c.args.right.now)) (sym c.in-Itself.is) h)

pub returns-in_ok-own-in-Itself : goal.returns-in_ok-own-in-Itself
returns-in_ok-own-in-Itself c =
    subst (λ w. AreHeld c.in_ok-own-in-Itself.own c.args.sig.now c.args.pairs.now c.args.keep.now c.args.kept.now (partners w c.args.left.now c.args.right.now)) (sym c.in-Itself.is) c.in_ok-own-in-Itself.ensures
