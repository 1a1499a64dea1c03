use Rattle.std.proofs.Common.{◌≡◌, ◌++◌}
use Rattle.std.specs.List.{flat_map}
use Rattle.std.specs.String.{string_bytes}
use Rattle.psg_script.specs.Script.{numbers_down, declare_lines, with_feeds}
use Rattle.psg_script.proofs.script.push_declarations.Given as goal

abbrev pub invariant-loop-i : goal.invariant-loop-i
invariant-loop-i l =
    string_bytes l.script ++ with_feeds (flat_map declare_lines (numbers_down l.i-counter))
    ≡ string_bytes l.fn.script ++ with_feeds (flat_map declare_lines (numbers_down l.n))
