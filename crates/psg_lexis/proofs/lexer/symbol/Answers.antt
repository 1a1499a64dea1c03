use Rattle.std.proofs.Common.{inr, sym, ◌∙◌}
use Rattle.psg_lexis.proofs.Starts.{begins_symbol, no_fixed_symbol, begins_more, same_dots, apart_dots}
use Rattle.psg_lexis.proofs.lexer.symbol.Goals as goal
use Rattle.psg_lexis.proofs.lexer.symbol.Goals.{then-eq, else-eq+then-has+in_ok-copy_of}

pub returns-else-has-clause-err : goal.returns-else-has-clause-err
returns-else-has-clause-err c =
    inr (no_fixed_symbol _ _ _ _ _ c.split_run.ensures.run c.requires.begins (apart_dots _ (sym c.eq.ensures
    ∙ c.if-eq.false)) (sym c.has.ensures.value ∙ c.if-has.false))

pub returns-clause-ok : goal.returns-clause-ok
returns-clause-ok c =
    elim c.if-eq.branch [
      | then-eq w ↦ rw w.token-is (begins_more _ _ _ _ _ c.split_run.ensures.run (same_dots _ (sym c.eq.ensures
          ∙ w.if-eq.true)))
      | else-eq+then-has+in_ok-copy_of w ↦
          rw w.token-is (begins_symbol _ _ _ _ _ _ c.split_run.ensures.run c.requires.begins (apart_dots _ (sym c.eq.ensures ∙ w.if-eq.false)) (sym w.has.ensures.value ∙ w.if-has.true) w.in_ok-copy_of.ensures)
    ]
