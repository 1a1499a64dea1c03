use Rattle.std.proofs.Common.{◌≡◌, ◌++◌, take, string_bytes}
use Rattle.psg_session.specs.Marked.{paths_text}
use Rattle.psg_session.proofs.replies.push_paths.Given as goal

abbrev pub invariant-loop-path : goal.invariant-loop-path
invariant-loop-path l = string_bytes l.text ≡ string_bytes l.initial.text ++ paths_text (take l.path-index l.paths)
