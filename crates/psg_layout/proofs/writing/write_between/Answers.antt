use Rattle.std.proofs.Common.{sym, ◌∙◌, subst}
use Rattle.psg_unparse.proofs.Items.{between-some}
use Rattle.psg_layout.specs.Sheets.{ink_row, IsInk}
use Rattle.psg_layout.proofs.writing.write_between.Goals as goal

pub returns : goal.returns
returns c = λ k h.
    subst (λ r. IsInk c.write_separator.new.sheet (ink_row k r))
    (sym (between-some c.args.definition.now c.args.list c.args.behind.now c.args.unfinished (sym c.is_ended.ensures ∙ c.if-is_ended.false)))
    (c.in_ok-write_separator.ensures k h)
