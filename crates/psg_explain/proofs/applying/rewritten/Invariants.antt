use Rattle.std.proofs.Common.{◌↔◌, List, drop}
use Rattle.psg_terms.specs.Terms.{Term}
use Rattle.psg_explain.specs.Verdicts.{Rewrites}
use Rattle.psg_explain.proofs.applying.rewritten.Given as goal

abbrev pub invariant-loop-i : goal.invariant-loop-i
invariant-loop-i l = (made : List Term) → Rewrites l.all (drop l.i l.bindings) l.made.items made ↔ Rewrites l.all l.bindings l.columns made
