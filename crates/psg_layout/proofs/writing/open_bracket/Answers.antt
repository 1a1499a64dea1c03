use Rattle.std.proofs.Common.{codes, sym, subst}
use Rattle.psg_unparse.specs.Rows.{opening}
use Rattle.psg_layout.specs.Sheets.{ink_row, ink_token, IsInk}
use Rattle.psg_layout.proofs.writing.open_bracket.Goals as goal

pub returns-in_ok-put_mark : goal.returns-in_ok-put_mark
returns-in_ok-put_mark c = λ k h.
    subst (λ b. IsInk c.put_mark.new.self (ink_row k (opening b))) (sym c.if-bracketed.true)
    (c.in_ok-put_mark.ensures (ink_token k (codes "(")) (c.in_ok-put_token.ensures k h))
