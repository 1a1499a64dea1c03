use Rattle.std.proofs.Common.{chars, sym, subst, true≢false, ◌∙◌}
use Rattle.psg_lexis.specs.Tokens.{HasTokens}
use Rattle.psg_session.proofs.TypedLaws.{no_tokens}
use Rattle.psg_session.proofs.typed.tokens_in.Goals as goal

pub returns-in-Ok-clause-some : goal.returns-in-Ok-clause-some
returns-in-Ok-clause-some c =
    subst (λ ws. HasTokens ws (chars c.args.text.now) 0 c.in-Ok.tokens.items) c.requires.language.words
    c.in-Ok.ensures.ok

pub returns-else-is_memory-clause-none : goal.returns-else-is_memory-clause-none
returns-else-is_memory-clause-none c =
    no_tokens c.args.language.now.definition c.args.language.now.lexis c.args.text.now c.in-Err.fault
    c.requires.language.words c.in-Err.ensures.err
    (λ memory. true≢false (sym (c.is_memory.ensures.1 memory) ∙ c.if-is_memory.false))
