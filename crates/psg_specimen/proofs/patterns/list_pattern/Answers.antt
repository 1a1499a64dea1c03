use Rattle.std.proofs.Common.{rules, Err, ◌≡◌, ◌-◌, ◌+◌, length, drop, get_or, sym, subst, arith}
use Rattle.psg_specimen.specs.Patterns.{cells_on, IsListFor, IsListPattern}
use Rattle.psg_specimen.proofs.PatternLaws.{from_end, from_fault, from_next, suits_at, takes_cell}
use Rattle.psg_specimen.proofs.patterns.list_pattern.Goals as goal

pub loop-step-init : goal.loop-step-init
loop-step-init c = (c.requires.end, from_end c.args.definition.now c.args.list c.args.elements.now c.args.end (length c.args.elements.now - 0) (omega arith))

pub pattern_cell-requires-clause-takes : goal.pattern_cell-requires-clause-takes
pattern_cell-requires-clause-takes c =
    let lt = c.loop-step-test.true in
    let n = length c.args.elements.now - 1 - c.loop-step.step in
    takes_cell c.args.definition.now c.args.list c.index-elements-place.result c.loop-step.behind
    (suits_at c.args.definition.now c.args.list c.args.elements.now n c.index-elements-place.result c.requires.elements (omega (arith, lt)) c.index-elements-place.is) c.loop-step.invariant.0

pub returns-in_err-made-clause-whole : goal.returns-in_err-made-clause-whole
returns-in_err-made-clause-whole c = λ ss e are own.
    let def = c.args.definition.now in
    let xs = c.args.elements.now in
    let lt = c.loop-step-test.true in
    let n = length xs - 1 - c.loop-step.step in
    let m = length xs - c.loop-step.step in
    let fault = c.in_err-made.field-0.0 in
    let d : c.from_residual.result ≡ Err fault = search rules in
    subst (IsListFor def (cells_on c.args.list e ss)) (sym d)
    (from_fault def c.args.list xs c.args.end n m c.index-elements-place.result c.loop-step.behind fault (omega (arith, lt)) (omega (arith, lt)) c.index-elements-place.is c.in_err-made.ensures.answer c.loop-step.invariant.1 ss e are own)

pub loop-step-preserved : goal.loop-step-preserved
loop-step-preserved c =
    let def = c.args.definition.now in
    let xs = c.args.elements.now in
    let lt = c.loop-step-test.true in
    let n = length xs - (c.loop-step.step + 1) in
    let m = length xs - c.loop-step.step in
    let same : length xs - 1 - c.loop-step.step ≡ n = omega (arith, lt) in (
      (c.in_ok-made.ensures.kind, c.in_ok-made.ensures.pattern),
      from_next def c.args.list xs c.args.end n m c.index-elements-place.result c.loop-step.behind c.in_ok-made.made (omega (arith, lt)) (omega (arith, lt))
          (subst (λ k. c.index-elements-place.result ≡ get_or xs k c.index-elements-place.result) same c.index-elements-place.is) c.in_ok-made.ensures.answer c.loop-step.invariant.1,
    )

pub returns-clause-whole : goal.returns-clause-whole
returns-clause-whole c = λ ss e are own.
    let xs = c.args.elements.now in
    let stop = c.loop-step-test.false in
    let zero_left : length xs - c.loop-step.step ≡ 0 = omega (arith, stop) in
    subst (λ k. IsListPattern c.args.definition.now (cells_on c.args.list e (drop k ss)) c.loop-step.behind) zero_left (c.loop-step.invariant.1 ss e are own)
