use Rattle.std.proofs.Common.{rules, sym, subst}
use Rattle.std.specs.Prelude.{IsUtf8, chars}
use Rattle.psg_lexis.specs.Tokens.{HasTokens}
use Rattle.psg_commented.proofs.Keep.{none_at, some_at}
use Rattle.psg_keeping.specs.Writing.{AreTokens, no_tokens, tokens}
use Rattle.psg_keeping.proofs.tokens.tokens_or_none.Goals as goal

pub returns-in_default : goal.returns-in_default
returns-in_default c =
    let no : IsUtf8 c.args.bytes.now → ⊥ = search rules in
    subst (λ l. AreTokens c.args.lexis.now c.args.bytes.now l) (sym c.new.ensures.items) (no_tokens (λ u ts h. absurd (no u)))

pub returns-in-Some : goal.returns-in-Some
returns-in-Some c =
    tokens c.in-Some.tokens.items
    (subst (λ t. HasTokens c.args.lexis.now (chars t) 0 c.in-Some.tokens.items) c.in-Ok.ensures.cases.0
    (some_at _ c.in_ok-found.found c.in-Some.tokens c.in-Some.is c.in_ok-found.ensures.some))

pub returns-in-None : goal.returns-in-None
returns-in-None c =
    subst (λ l. AreTokens c.args.lexis.now c.args.bytes.now l) (sym c.new-in-None.ensures.items)
    (no_tokens (λ u ts h. absurd (none_at c.in_ok-found.found c.in-None.is c.in_ok-found.ensures.none ts
    (subst (λ t. HasTokens c.args.lexis.now (chars t) 0 ts) (sym c.in-Ok.ensures.cases.0) h))))
