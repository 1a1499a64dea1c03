-- The fields of a pool, as contracts see them and as they are kept.
use Rattle.psg_pool.specs.declared.pool.Pool.TheInside.{Inside}
use Rattle.psg_pool.specs.Bindings.{Kept}
use Rattle.psg_pool.specs.Layout.{shown, IsInOrder}

-- the pool as contracts see it
abbrev pub kept_of : Inside → Kept
kept_of p = shown p.slots.items p.arguments.items p.bindings.items

-- the three lists of the pool fit each other
abbrev pub IsKept : Inside → Type 0
IsKept p = IsInOrder p.slots.items p.arguments.items p.bindings.items
