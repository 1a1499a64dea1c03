use Rattle.std.proofs.Common.{sym, ◌∙◌}
use Rattle.psg_lexis.proofs.Starts.{begins_number, joined_number, too_large_number}
use Rattle.psg_lexis.proofs.lexer.number.Goals as goal

pub returns-then-word_goes_on-clause-err : goal.returns-then-word_goes_on-clause-err
returns-then-word_goes_on-clause-err c =
    λ fixed. joined_number fixed _ _ _ _ c.split_run.ensures.run c.requires.begins (sym c.word_goes_on.ensures
    ∙ c.if-word_goes_on.true)

pub returns-in-Some-clause-ok : goal.returns-in-Some-clause-ok
returns-in-Some-clause-ok c = λ fixed. begins_number fixed _ _ _ _ c.split_run.ensures.run c.requires.begins (sym c.word_goes_on.ensures ∙ c.if-word_goes_on.false) c.in-Some.ensures.0 _ c.in-Some.ensures.1

pub returns-in-None-clause-err : goal.returns-in-None-clause-err
returns-in-None-clause-err c = λ fixed. too_large_number fixed _ _ _ _ c.split_run.ensures.run c.requires.begins (sym c.word_goes_on.ensures ∙ c.if-word_goes_on.false) c.in-None.ensures
