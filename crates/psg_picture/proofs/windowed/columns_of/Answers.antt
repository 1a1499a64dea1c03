use Rattle.std.proofs.Common.{◌+◌, ◌-◌, ◌^◌, ◌∙◌, min, sym, ap, arith}
use Rattle.psg_screen.specs.Window.{column_after}
use Rattle.psg_picture.proofs.RowLaws.{within-end, within-next}
use Rattle.psg_picture.proofs.windowed.columns_of.Goals as goal

pub chars-preserved : goal.chars-preserved
chars-preserved c = record {
  same =
      within-next c.chars.column _ c.in-Some.first.now c.in-Some.others.now c.args.chars.now (omega arith)
      (ap (λ cs. min (c.chars.column + column_after cs) (2 ^ 32 - 1)) (sym c.in-Some.ensures.cases.0) ∙ c.chars.invariant.same);
  within = omega arith;
}

pub returns : goal.returns
returns c = within-end c.chars.column c.chars.rest.now c.args.chars.now c.in_default.ensures.cases c.chars.invariant.within c.chars.invariant.same
