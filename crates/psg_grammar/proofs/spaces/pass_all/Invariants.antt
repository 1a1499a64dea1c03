use Rattle.std.proofs.Common.{◌≡◌, false, take, All}
use Rattle.psg_grammar.specs.DeclaringTables.{IsTable, Grows, IsClosedOperator}
use Rattle.psg_grammar.proofs.spaces.pass_all.Given as goal

abbrev pub invariant-loop-operator : goal.invariant-loop-operator
invariant-loop-operator l = record {
  right : IsTable l.definition l.found.items;
  grows : Grows l.initial.found.items l.found.items l.changed;
  closed : l.changed ≡ false → All (IsClosedOperator l.definition l.found.items) (take l.operator-index l.definition.operators);
}
