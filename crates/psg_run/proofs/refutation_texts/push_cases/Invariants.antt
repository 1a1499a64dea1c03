use Rattle.std.proofs.Common.{◌≡◌, ◌++◌, map, drop}
use Rattle.std.specs.Prelude.{string_bytes}
use Rattle.psg_session.specs.Replies.{feed_all}
use Rattle.psg_run.specs.Explaining.{case_line}
use Rattle.psg_run.proofs.refutation_texts.push_cases.Given as goal

abbrev pub invariant-loop-one : goal.invariant-loop-one
invariant-loop-one l =
    string_bytes l.text ++ feed_all (map (case_line l.sig) (drop l.one-index l.told)) ≡ string_bytes l.initial.text ++ feed_all (map (case_line l.sig) l.told)
