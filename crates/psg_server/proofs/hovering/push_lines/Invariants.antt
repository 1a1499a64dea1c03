use Rattle.std.proofs.Common.{◌≡◌, ◌++◌, drop}
use Rattle.std.specs.Prelude.{map, string_bytes}
use Rattle.psg_server.specs.Hovering.{after_feeds}
use Rattle.psg_server.proofs.hovering.push_lines.Given as goal

abbrev pub invariant-loop-line : goal.invariant-loop-line
invariant-loop-line l =
    string_bytes l.text ++ after_feeds (map string_bytes (drop l.line-index l.lines))
    ≡ string_bytes l.initial.text ++ after_feeds (map string_bytes l.lines)
