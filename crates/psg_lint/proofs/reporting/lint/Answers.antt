use Rattle.std.proofs.Common.{◌∙◌, List, ℕ, sym, subst}
use Rattle.std.specs.Str.{IsUtf8, IsValidUpTo}
use Rattle.psg_lint.proofs.ReportLaws.{no_text_report}
use Rattle.psg_lint.proofs.reporting.lint.Goals as goal

pub returns-in_ok-made-in-Ok : goal.returns-in_ok-made-in-Ok
returns-in_ok-made-in-Ok g c =
    c.in_ok-made-in-Ok.ensures c.args.bytes.now (sym (c.in-Ok.ensures.cases.0 ∙ c.unmarked-own.ensures))
    (subst IsUtf8 (sym c.in-Ok.ensures.cases.0) c.in-Ok.ensures.cases.1)

pub returns-in_ok-made-in-Err : goal.returns-in_ok-made-in-Err
returns-in_ok-made-in-Err g c =
    no_text_report c.args.language.now c.args.kind c.args.bytes.now c.valid_up_to-count.result c.in_ok-made-in-Err.made
    c.in_ok-made-in-Err.ensures.found c.in_ok-made-in-Err.ensures.more
    (subst (λ (t : List ℕ). IsValidUpTo t c.valid_up_to-count.result) c.unmarked-own.ensures
    (subst (IsValidUpTo c.unmarked-own.result.now) (sym c.valid_up_to-count.ensures) c.in-Err.ensures.cases.1))
