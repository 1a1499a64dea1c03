-- The fields of an empty pool are in order.
use Rattle.psg_pool.proofs.Changes.{order_empty}
use Rattle.psg_pool.proofs.pool.Pool.new.Goals as goal

pub invariant_of-result : goal.invariant_of-result
invariant_of-result c = rw (c.new.ensures.items, c.new-2.ensures.items, c.new-3.ensures.items) order_empty

pub returns-clause-sound : goal.returns-clause-sound
returns-clause-sound c = (invariant_of-result c).sound
