use Rattle.std.proofs.Common.{inr, arith}
use Rattle.psg_lexis.proofs.Starts.{begins_word, too_large_word}
use Rattle.psg_lexis.proofs.lexer.word.Goals as goal

pub returns-then-word-gt-MOST_WORD-clause-err : goal.returns-then-word-gt-MOST_WORD-clause-err
returns-then-word-gt-MOST_WORD-clause-err c =
    inr (λ fixed. too_large_word fixed _ _ _ _ c.split_run.ensures.run c.requires.begins (omega arith))

pub returns-clause-ok : goal.returns-clause-ok
returns-clause-ok c = λ fixed. begins_word fixed _ _ _ _ _ c.split_run.ensures.run c.requires.begins (omega arith) c.in_ok-copy_of.ensures
