use Rattle.std.proofs.Common.{◌≡◌, ◌++◌, drop}
use Rattle.psg_grammar.specs.declared.types.Definition.{Definition}
use Rattle.psg_eval.specs.Summaries.{slot_kinds}
use Rattle.psg_explain.proofs.staging.add_kinds.Given as goal

abbrev pub invariant-loop-item : goal.invariant-loop-item
invariant-loop-item l = (def : Definition) → l.kinds.items ++ drop l.skip (slot_kinds def (drop l.item-index l.items)) ≡ l.fn.kinds.items ++ drop l.first (slot_kinds def l.items)
