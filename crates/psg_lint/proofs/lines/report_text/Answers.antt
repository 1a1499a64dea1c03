use Rattle.std.proofs.Common.{List, ℕ, ap, subst, sym, take, ◌∙◌}
use Rattle.std.specs.Prelude.{string_bytes}
use Rattle.std.specs.Str.{IsUtf8, IsValidUpTo}
use Rattle.psg_lint.specs.Shown.{IsShownReport}
use Rattle.psg_lint.proofs.lines.report_text.Goals as goal

pub returns-clause-whole : goal.returns-clause-whole
returns-clause-whole c = λ u.
    subst (λ (t : List ℕ). IsShownReport t c.args.file.now c.args.report.now (string_bytes c.in_ok-lines.lines))
    (c.text_of-text.ensures.whole (subst IsUtf8 (sym c.unmarked-own.ensures) u) ∙ c.unmarked-own.ensures) c.in_ok-lines.ensures

pub returns-clause-part : goal.returns-clause-part
returns-clause-part c = λ count valid.
    subst (λ (t : List ℕ). IsShownReport t c.args.file.now c.args.report.now (string_bytes c.in_ok-lines.lines))
    (c.text_of-text.ensures.part count (subst (λ (t : List ℕ). IsValidUpTo t count) (sym c.unmarked-own.ensures) valid)
    ∙ ap (take count) c.unmarked-own.ensures) c.in_ok-lines.ensures
