use Rattle.std.proofs.Common.{chars, sym, subst, ◌∙◌}
use Rattle.psg_lexis.specs.Faults.{HasFault, OrMemory}
use Rattle.psg_lexis.specs.Tokens.{HasTokens}
use Rattle.psg_completing.proofs.Fits.{no_tokens_by}
use Rattle.psg_completing.proofs.fitting.tokens_in.Goals as goal

pub returns-in-Ok-clause-some : goal.returns-in-Ok-clause-some
returns-in-Ok-clause-some c =
    subst (λ ws. HasTokens ws (chars c.args.text.now) 0 c.in-Ok.tokens.items) c.lexis.ensures c.in-Ok.ensures.ok

pub returns-else-lost-clause-none : goal.returns-else-lost-clause-none
returns-else-lost-clause-none c =
    no_tokens_by c.args.language.now c.args.text.now c.in-Err.fault (sym c.is_lost-lost.ensures ∙ c.if-lost.false)
    (subst (λ ws. OrMemory (HasFault ws (chars c.args.text.now) 0) c.in-Err.fault) c.lexis.ensures c.in-Err.ensures.err)
