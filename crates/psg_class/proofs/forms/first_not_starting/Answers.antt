use Rattle.std.proofs.Common.{◌≡◌, Some, ap, sym, ◌∙◌, true≢false, arith}
use Rattle.std.proofs.lemmas.Option.{slice_get_within, slice_get-get_or}
use Rattle.psg_terms.proofs.Lists.{slice_get_once}
use Rattle.psg_class.specs.Forms.{FailsTest, starts}
use Rattle.psg_class.proofs.FormCells.{none_more}
use Rattle.psg_class.proofs.forms.first_not_starting.Goals as goal

pub loop-number-preserved : goal.loop-number-preserved
loop-number-preserved c = none_more (FailsTest starts c.args.shapes.now) c.loop-number.number c.loop-number.invariant (λ f.
    let same : f.shape ≡ c.index-shapes-number.result = slice_get_once c.args.shapes.now c.loop-number.number f.shape c.index-shapes-number.result f.at
    (slice_get-get_or c.args.shapes.now c.loop-number.number c.index-shapes-number.result c.loop-number-test.true ∙ ap Some (sym c.index-shapes-number.is)) in
    true≢false (sym (sym c.is_starting.ensures ∙ c.if-not-is_starting.false) ∙ ap starts (sym same) ∙ f.fails))

pub returns : goal.returns
returns c = λ n f. c.loop-number.invariant n (let h = slice_get_within c.args.shapes.now n f.shape f.at in omega arith) f
