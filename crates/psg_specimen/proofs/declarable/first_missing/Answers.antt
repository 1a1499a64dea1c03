use Rattle.std.proofs.Common.{◌≡◌, true, false, length, refl, sym, ◌∙◌, subst, true≢false, arith}
use Rattle.psg_terms.proofs.Lists.{get_or_fixed}
use Rattle.psg_specimen.specs.Given.{has_given, HasCon}
use Rattle.psg_covering.proofs.Firsts.{more, all}
use Rattle.psg_specimen.proofs.DeclarableLaws.{missing_at}
use Rattle.psg_specimen.proofs.declarable.first_missing.Goals as goal

pub loop-con-preserved : goal.loop-con-preserved
loop-con-preserved c =
    more c.args.cons.now (HasCon (has_given c.args.given.now) c.args.list c.args.space) c.loop-con.con-index _ c.loop-con-test.true (get_or_fixed c.args.cons.now c.loop-con.con-index _ c.loop-con-test.true)
    (subst (λ g. has_given c.args.given.now g ≡ true) c.given_by-wanted.ensures (sym c.contains.ensures ∙ c.if-not-contains.false)) c.loop-con.invariant

pub returns-then-not-contains : goal.returns-then-not-contains
returns-then-not-contains c =
    missing_at (has_given c.args.given.now) c.args.list c.args.space c.args.cons.now c.loop-con.con-index _ c.loop-con-test.true (get_or_fixed c.args.cons.now c.loop-con.con-index _ c.loop-con-test.true)
    (λ h. true≢false (sym h ∙ subst (λ g. has_given c.args.given.now g ≡ false) c.given_by-wanted.ensures (sym c.contains.ensures ∙ c.if-not-contains.true))) c.loop-con.invariant

pub returns : goal.returns
returns c = all c.args.cons.now (HasCon (has_given c.args.given.now) c.args.list c.args.space) (length c.args.cons.now) refl (λ m lt. c.loop-con.invariant m (let f = c.loop-con-test.false in omega (arith, lt, f)))
