use Rattle.std.proofs.Common.{◌-◌, length, slice_get, sym, ap, ◌∙◌, arith}
use Rattle.std.proofs.lemmas.Option.{slice_get-get_or}
use Rattle.psg_unify.specs.declared.circles.Progress.TheVariants.{New}
use Rattle.psg_unify.proofs.circles.progress_of.Goals as goal

pub returns : goal.returns
returns c = (
  c.args.id.0 - c.args.base,
  omega (arith, c.requires.from),
  ap (λ l. slice_get l (c.args.id.0 - c.args.base)) (sym c.as_slice-marks.ensures.value)
      ∙ slice_get-get_or c.as_slice-marks.result.now (c.args.id.0 - c.args.base) New (omega (arith, c.requires.from, c.requires.within, ap length c.as_slice-marks.ensures.value)),
)
