use Rattle.std.proofs.Common.{◌≡◌, true, subst, arith}
use Rattle.std.specs.Prelude.{◌↔◌}
use Rattle.std.proofs.lemmas.List.{take_all}
use Rattle.psg_specimen.specs.Given.{has_given, IsGiven}
use Rattle.psg_specimen.proofs.DeclarableLaws.{given_next}
use Rattle.psg_specimen.proofs.declarable.all_given.Goals as goal

pub loop-row-preserved : goal.loop-row-preserved
loop-row-preserved c =
    given_next c.args.sig.now (has_given c.loop-row.set) (has_given c.add_row.new.set) c.args.rows.now c.loop-row.row-index c.row-item.result c.loop-row-test.true c.row-item.is
    c.in_ok-add_row.ensures c.loop-row.invariant

pub returns : goal.returns
returns c = λ k.
    subst (λ l. (has_given c.loop-row.set k ≡ true) ↔ IsGiven c.args.sig.now l k) (take_all c.loop-row.row-index c.args.rows.now (let f = c.loop-row-test.false in omega (arith, f))) (c.loop-row.invariant k)
