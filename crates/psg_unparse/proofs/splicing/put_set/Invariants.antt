use Rattle.std.proofs.Common.{◌≡◌, ◌++◌, map, drop}
use Rattle.psg_unparse.specs.Splicing.{set_in}
use Rattle.psg_unparse.proofs.splicing.put_set.Given as goal

abbrev pub invariant-loop-span : goal.invariant-loop-span
invariant-loop-span l = l.made.items ++ map (set_in l.node) (drop l.span-index l.spans) ≡ l.initial.made.items ++ map (set_in l.node) l.spans
