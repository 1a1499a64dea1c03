use Rattle.std.proofs.Common.{sym, ◌∙◌, eqb-true, eq-eqb}
use Rattle.psg_specimen.proofs.BareLaws.{none_counted, count_none}
use Rattle.psg_specimen.proofs.forms.is_bare.Goals as goal

pub returns-else-not-operator : goal.returns-else-not-operator
returns-else-not-operator c = (
  λ h s. none_counted c.args.operator.now.items (sym c.name_positions.ensures ∙ eqb-true c.name_positions.result 0 h),
  λ b. eq-eqb c.name_positions.result 0 (c.name_positions.ensures ∙ count_none c.args.operator.now.items (b c.if-not-operator.false)),
)
