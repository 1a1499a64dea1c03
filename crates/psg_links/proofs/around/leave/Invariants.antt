use Rattle.std.proofs.Common.{length}
use Rattle.psg_grammar.specs.declared.types.Definition.{Definition}
use Rattle.psg_grammar.specs.Fragments.{Fragment}
use Rattle.psg_links.specs.Around.{IsOnWay}
use Rattle.psg_links.proofs.around.leave.Given as goal

abbrev pub invariant-leaving : goal.invariant-leaving
invariant-leaving l =
    (definition : Definition) (f : Fragment) → IsOnWay definition f l.fn.regions.items → IsOnWay definition f l.regions.items

abbrev pub decreases-leaving : goal.decreases-leaving
decreases-leaving l = length l.regions.items
