use Rattle.std.proofs.Common.{ap, length, arith}
use Rattle.std.proofs.lemmas.List.{take_all}
use Rattle.psg_terms.specs.Declarations.{constructor_names}
use Rattle.psg_terms.proofs.DeclareFaults.{constructors-step}
use Rattle.psg_tests_values.proofs.tests.signatures.are_few.Goals as goal

pub loop-sort-preserved : goal.loop-sort-preserved
loop-sort-preserved c =
    let h = constructors-step c.args.sorts.now c.loop-sort.sort-index c.sort-item.result c.as_slice.result.now c.as_slice.ensures c.loop-sort-test.true c.sort-item.is in
    let i = c.loop-sort.invariant.0 in
    (omega arith, omega arith)

pub returns : goal.returns
returns c =
    let e = ap (λ xs. length (constructor_names xs)) (take_all c.loop-sort.sort-index c.args.sorts.now (omega arith)) in
    let i = c.loop-sort.invariant.0 in
    let j = c.loop-sort.invariant.1 in
    omega arith
