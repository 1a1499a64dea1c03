use Rattle.std.proofs.Common.{◌≡◌, ◌++◌, map, drop}
use Rattle.psg_unparse.specs.Splicing.{shifted}
use Rattle.psg_unparse.proofs.splicing.put_shifted.Given as goal

abbrev pub invariant-loop-span : goal.invariant-loop-span
invariant-loop-span l = l.made.items ++ map (shifted l.old l.new) (drop l.span-index l.spans) ≡ l.initial.made.items ++ map (shifted l.old l.new) l.spans
