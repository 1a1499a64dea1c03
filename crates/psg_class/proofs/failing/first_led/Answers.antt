use Rattle.std.proofs.Common.{◌≡◌, Some, ap, sym, ◌∙◌, subst, arith}
use Rattle.std.proofs.lemmas.Option.{slice_get_within, slice_get-get_or}
use Rattle.psg_terms.proofs.Lists.{slice_get_once}
use Rattle.psg_class.specs.Failing.{LedClashes, LedBehind}
use Rattle.psg_class.proofs.FormCells.{none_more}
use Rattle.psg_class.proofs.failing.first_led.Goals as goal

pub loop-number-preserved : goal.loop-number-preserved
loop-number-preserved c = none_more (LedClashes c.args.rows.now c.args.sets.now c.args.shapes.now) c.loop-number.number c.loop-number.invariant (λ x.
    let f = x.1 in
    let same : f.shape ≡ c.index-shapes-number.result = slice_get_once c.args.shapes.now c.loop-number.number f.shape c.index-shapes-number.result f.at
    (slice_get-get_or c.args.shapes.now c.loop-number.number c.index-shapes-number.result c.loop-number-test.true ∙ ap Some (sym c.index-shapes-number.is)) in
    c.in_default.ensures x.0 (subst (λ s. LedBehind c.args.rows.now c.args.sets.now s x.0) same f.behind))

pub returns : goal.returns
returns c = λ n x. c.loop-number.invariant n (let h = slice_get_within c.args.shapes.now n x.1.shape x.1.at in let k = c.loop-number-test.false in omega (arith, h, k)) x
