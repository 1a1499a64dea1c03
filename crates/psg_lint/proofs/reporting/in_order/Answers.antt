use Rattle.std.proofs.Common.{rules}
use Rattle.psg_lint.proofs.ReportLaws.{in_order as ordered}
use Rattle.psg_lint.proofs.reporting.in_order.Goals as goal

pub returns-clause-order : goal.returns-clause-order
returns-clause-order c =
    ordered c.args.found.items c.sort_by.new.self.items c.in_ok-sort_by.ensures.permutation c.in_ok-sort_by.ensures.sorted
    c.in_ok-sort_by.ensures.stable (λ a r f' k. search rules)
