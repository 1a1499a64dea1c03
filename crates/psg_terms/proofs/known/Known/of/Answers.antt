use Rattle.psg_terms.proofs.Tabled.{table_begins}
use Rattle.psg_terms.proofs.known.Known.of.Goals as goal

pub invariant_of-result : goal.invariant_of-result
invariant_of-result c = table_begins c.table_size-size.result c.in_ok-table.table.items c.new-order.result.items (c.in_ok-table.ensures.items_if_clones_equal (λ y e. e)) c.new-order.ensures.items
