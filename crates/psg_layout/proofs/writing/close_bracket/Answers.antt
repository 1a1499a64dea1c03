use Rattle.std.proofs.Common.{sym, subst}
use Rattle.psg_grammar.specs.declared.types.Item.TheVariants as items
use Rattle.psg_unparse.specs.Rows.{closing}
use Rattle.psg_layout.specs.Sheets.{ink_mark, ink_row, IsInk}
use Rattle.psg_layout.proofs.writing.close_bracket.Goals as goal

pub returns-in_ok-put_token : goal.returns-in_ok-put_token
returns-in_ok-put_token c = λ k h.
    subst (λ b. IsInk c.put_token.new.self (ink_row k (closing b))) (sym c.if-bracketed.true)
    (c.in_ok-put_token.ensures (ink_mark k items.Tight) (c.in_ok-put_mark.ensures k h))
