use Rattle.std.proofs.Common.{◌≡◌, ◌++◌, Some, drop}
use Rattle.std.specs.Option.{option_copied}
use Rattle.psg_recover.specs.Lost.{path_back}
use Rattle.psg_recover.proofs.lost.path_back.Given as goal

abbrev pub invariant-loop-step : goal.invariant-loop-step
invariant-loop-step l =
    l.back.items ++ path_back l.known.definition.now (option_copied l.node) (drop l.step-index l.path)
    ≡ path_back l.known.definition.now (Some l.tree) l.path
