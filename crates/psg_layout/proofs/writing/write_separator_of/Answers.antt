use Rattle.std.proofs.Common.{cond, sym, subst}
use Rattle.psg_grammar.specs.declared.types.Item.TheVariants as items
use Rattle.psg_layout.specs.Sheets.{ink_mark, ink_token, IsInk}
use Rattle.psg_layout.proofs.writing.write_separator_of.Goals as goal

pub returns-in_ok-put_mark-2 : goal.returns-in_ok-put_mark-2
returns-in_ok-put_mark-2 c = λ k h.
    subst (λ b. IsInk c.put_mark-then-kind.new.self (ink_mark (ink_token (ink_mark k items.Tight) c.args.kind.now.separator) (cond b items.Line items.Space))) (sym c.if-kind.true)
    (c.in_ok-put_mark-2.ensures (ink_token (ink_mark k items.Tight) c.args.kind.now.separator)
    (subst (λ t. IsInk c.put_token.new.self (ink_token (ink_mark k items.Tight) t)) c.as_str.ensures
    (c.in_ok-put_token.ensures (ink_mark k items.Tight) (c.in_ok-put_mark.ensures k h))))

pub returns-in_ok-put_mark-3 : goal.returns-in_ok-put_mark-3
returns-in_ok-put_mark-3 c = λ k h.
    subst (λ b. IsInk c.put_mark-else-kind.new.self (ink_mark (ink_token (ink_mark k items.Tight) c.args.kind.now.separator) (cond b items.Line items.Space))) (sym c.if-kind.false)
    (c.in_ok-put_mark-3.ensures (ink_token (ink_mark k items.Tight) c.args.kind.now.separator)
    (subst (λ t. IsInk c.put_token.new.self (ink_token (ink_mark k items.Tight) t)) c.as_str.ensures
    (c.in_ok-put_token.ensures (ink_mark k items.Tight) (c.in_ok-put_mark.ensures k h))))
