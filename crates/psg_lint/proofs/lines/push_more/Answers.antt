use Rattle.std.proofs.Common.{◌++◌, ◌∷◌, [], append_assoc, append-nil, ap, cond, sym, ◌∙◌}
use Rattle.std.specs.Prelude.{codes, string_bytes}
use Rattle.psg_recover.specs.Findings.{with_feeds}
use Rattle.psg_lint.proofs.lines.push_more.Goals as goal

pub returns-then-more : goal.returns-then-more
returns-then-more c =
    let file = c.args.file.now in
    let old = string_bytes c.args.lines.now in
    c.in_ok-push_str.ensures.bytes
    ∙ ap (λ t. old ++ t) (c.as_str.ensures.value ∙ c.in_ok-line.ensures.ok
    ∙ sym (append_assoc file (codes ": note: more may follow") (10 ∷ []))
    ∙ ap (λ b. with_feeds (cond b ((file ++ codes ": note: more may follow") ∷ []) [])) (sym c.if-more.true))

pub returns : goal.returns
returns c =
    let file = c.args.file.now in
    let old = string_bytes c.args.lines.now in
    sym (append-nil old)
    ∙ ap (λ b. old ++ with_feeds (cond b ((file ++ codes ": note: more may follow") ∷ []) [])) (sym c.if-more.false)
