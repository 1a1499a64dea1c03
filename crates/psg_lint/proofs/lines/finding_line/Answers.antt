use Rattle.std.proofs.Common.{◌++◌, ◌∷◌, [], ap₂, ◌∙◌}
use Rattle.std.specs.Prelude.{decimal}
use Rattle.psg_recover.specs.Findings.{grade_text}
use Rattle.psg_lint.proofs.LineLaws.{line_parts}
use Rattle.psg_lint.proofs.lines.finding_line.Goals as goal

pub returns : goal.returns
returns c =
    let file = c.args.file.now in
    let l = decimal c.args.place.line in
    let k = decimal c.args.place.column in
    let found = c.args.found.now in
    c.in_ok-line.ensures.ok
    ∙ ap₂ (λ g m. file ++ (58 ∷ (l ++ (58 ∷ (k ++ (58 ∷ 32 ∷ (g ++ (58 ∷ 32 ∷ (m ++ 10 ∷ [])))))))))
    c.grade_text-grade.ensures c.as_str-message.ensures
    ∙ line_parts file l k (grade_text found.grade) found.message (10 ∷ [])
