use Rattle.std.proofs.Common.{inr, sym, ◌∙◌}
use Rattle.psg_lexis.proofs.Starts.{begins_solo, begins_nothing}
use Rattle.psg_lexis.proofs.lexer.first_token.Goals as goal

pub returns-then-is_solo-clause-ok : goal.returns-then-is_solo-clause-ok
returns-then-is_solo-clause-ok c =
    begins_solo _ _ _ _ _ c.in-Some.ensures.first (sym c.is_solo.ensures.value
    ∙ c.if-is_solo.true) (c.is_solo.ensures.ascii c.if-is_solo.true)

pub returns-else-first-eq63-clause-err : goal.returns-else-first-eq63-clause-err
returns-else-first-eq63-clause-err c =
    inr (begins_nothing _ _ _ _ _ c.in-Some.ensures.first c.requires.begins
    (sym c.starts_word.ensures ∙ c.if-starts_word.false) (sym c.is_digit.ensures ∙ c.if-is_digit.false)
    (sym c.is_solo.ensures.value ∙ c.if-is_solo.false) (sym c.is_symbol.ensures ∙ c.if-is_symbol.false)
    c.if-first-eq34.false c.if-first-eq63.false)
