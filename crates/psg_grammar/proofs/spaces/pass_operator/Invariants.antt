use Rattle.std.proofs.Common.{◌≡◌, false, take, All}
use Rattle.psg_grammar.specs.DeclaringTables.{IsTable, Grows, IsClosedFor}
use Rattle.psg_grammar.proofs.spaces.pass_operator.Given as goal

abbrev pub invariant-loop-item : goal.invariant-loop-item
invariant-loop-item l = record {
  right : IsTable l.definition l.found.items;
  grows : Grows l.initial.found.items l.found.items l.changed;
  closed : l.changed ≡ false → All (IsClosedFor l.definition l.found.items l.operator.phylum) (take l.item-index l.operator.items);
}
