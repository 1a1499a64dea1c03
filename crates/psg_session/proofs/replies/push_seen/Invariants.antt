use Rattle.std.proofs.Common.{◌≡◌, ◌++◌, drop}
use Rattle.std.specs.Prelude.{string_bytes}
use Rattle.psg_session.specs.Replies.{feed_all}
use Rattle.psg_session.proofs.replies.push_seen.Given as goal

abbrev pub invariant-loop-line : goal.invariant-loop-line
invariant-loop-line l = string_bytes l.text ++ feed_all (drop l.line-index l.lines) ≡ string_bytes l.initial.text ++ feed_all l.lines
