use Rattle.std.proofs.Common.{◌≡◌, ◌++◌, drop, length}
use Rattle.psg_uses.specs.Free as free_names
use Rattle.psg_uses.specs.Linked.{IsOnWay}
use Rattle.psg_uses.specs.Naming.{used_names}
use Rattle.psg_uses.proofs.FreeLaws.{first_free}
use Rattle.psg_uses.proofs.free.free_uses.Given as goal

abbrev pub invariant-loop-name : goal.invariant-loop-name
invariant-loop-name l =
    IsOnWay l.linking.known.definition.now l.linking.tree.now l.regions.items
    × (l.free.items ++ first_free l.linking.known.definition.now l.linking.tree.now l.free.items
    (drop (length l.yielded) (used_names l.linking.known.definition.now l.linking.tree.now))
    ≡ free_names.free_uses l.linking.known.definition.now l.linking.tree.now)
