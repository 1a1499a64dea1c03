use Rattle.std.proofs.Common.{◌≡◌, ap, sym, ◌∙◌, option_copied}
use Rattle.std.specs.declared.cmp.Ordering.{Ordering}
use Rattle.std.specs.declared.cmp.Ordering.TheVariants.{Less, Equal, Greater}
use Rattle.psg_explain.proofs.TwiceLaws.{least_first, least_only, least_other}
use Rattle.psg_explain.proofs.regions.least.Goals as goal

pub returns-in-Less : goal.returns-in-Less
returns-in-Less c = least_first (option_copied c.args.found) c.args.key.now c.in-Some.other.now c.order.result (ap option_copied c.in-Some.is) c.order.ensures c.in-Less.is

pub returns-in-Equal : goal.returns-in-Equal
returns-in-Equal c =
    least_other (option_copied c.args.found) c.args.key.now c.in-Some.other.now c.order.result (ap option_copied c.in-Some.is) c.order.ensures
    (λ e. let d : ◌≡◌ {A = Ordering} Equal Less = sym c.in-Equal.is ∙ e in absurd (cc))

pub returns-in-Greater : goal.returns-in-Greater
returns-in-Greater c =
    least_other (option_copied c.args.found) c.args.key.now c.in-Some.other.now c.order.result (ap option_copied c.in-Some.is) c.order.ensures
    (λ e. let d : ◌≡◌ {A = Ordering} Greater Less = sym c.in-Greater.is ∙ e in absurd (cc))

pub returns-in-None : goal.returns-in-None
returns-in-None c = least_only (option_copied c.args.found) c.args.key.now (ap option_copied c.in-None.is)
