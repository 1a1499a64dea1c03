use Rattle.std.proofs.Common.{◌≡◌, map, take, Some}
use Rattle.psg_grammar.specs.Kinds.{op_name_of}
use Rattle.psg_session.proofs.menus.operator_names.Given as goal

abbrev pub invariant-loop-op : goal.invariant-loop-op
invariant-loop-op l = map (op_name_of l.definition) (take l.op-index l.ops) ≡ map Some l.names.items
