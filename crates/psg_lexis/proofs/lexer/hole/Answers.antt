use Rattle.std.proofs.Common.{inr, sym, ◌∙◌, arith}
use Rattle.psg_lexis.specs.Faults.{no_hole}
use Rattle.psg_lexis.proofs.Starts.{begins_hole, too_large_hole}
use Rattle.psg_lexis.proofs.lexer.hole.Goals as goal

pub returns-then-not-word_begins-clause-err : goal.returns-then-not-word_begins-clause-err
returns-then-not-word_begins-clause-err c =
    inr (λ fixed. no_hole _ _ (sym c.word_begins.ensures ∙ c.if-not-word_begins.true))

pub returns-then-word-gt-MOST_WORD-clause-err : goal.returns-then-word-gt-MOST_WORD-clause-err
returns-then-word-gt-MOST_WORD-clause-err c =
    inr (λ fixed. too_large_hole fixed _ _ _ _ c.split_run.ensures.run (sym c.word_begins.ensures
    ∙ c.if-not-word_begins.false) (omega arith))

pub returns-clause-ok : goal.returns-clause-ok
returns-clause-ok c = λ fixed. begins_hole fixed _ _ _ _ _ c.split_run.ensures.run (sym c.word_begins.ensures
    ∙ c.if-not-word_begins.false) (omega arith) c.in_ok-copy_of.ensures
