use Rattle.std.proofs.Common.{◌≡◌, ◌++◌, drop}
use Rattle.psg_menu.specs.Menus.{operators_from, operators_of}
use Rattle.psg_wanted.proofs.menus.of_phylum.Given as goal

abbrev pub invariant-loop-op : goal.invariant-loop-op
invariant-loop-op l = l.ops.items ++ operators_from l.op l.phylum (drop l.op l.definition.operators) ≡ operators_of l.definition l.phylum
