use Rattle.std.proofs.Common.{◌≡◌, ◌∷◌, [], map, take}
use Rattle.std.specs.Prelude.{string_bytes}
use Rattle.psg_session.specs.Answers.{row_line}
use Rattle.psg_session.proofs.relating.terms_lines.Given as goal

abbrev pub invariant-loop-term : goal.invariant-loop-term
invariant-loop-term l = map string_bytes l.lines.items ≡ map (λ t. row_line l.sig [] (t ∷ [])) (take l.term-index l.terms)
