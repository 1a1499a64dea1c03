use Rattle.std.proofs.Common.{◌≢◌, ap, length, sym, ◌∙◌, subst}
use Rattle.std.specs.Prelude.{chars, Some}
use Rattle.psg_lexis.specs.Tokens.{HasTokens}
use Rattle.psg_lexis.specs.declared.token.LexFault.TheVariants.{Memory}
use Rattle.psg_deflines.specs.Quotes.{IsTextAlone, HasNoTextAlone}
use Rattle.psg_defcomment.proofs.QuotedParts.{none_of_bytes, none_of_fault, none_of_tokens, quoted_is}
use Rattle.psg_defcomment.proofs.quotes.quoted_text.Goals as goal

pub returns-in_default : goal.returns-in_default
returns-in_default c = none_of_bytes c.args.part.now c.in_default.ensures.cases.0

pub returns-in-Some : goal.returns-in-Some
returns-in-Some c =
    quoted_is c.args.part.now c.in_ok-lexis.lexis c.in-Ok-lex.tokens.items c.in-Some.contents.now c.in-Ok.ensures.cases.1
    (subst (λ t. HasTokens c.in_ok-lexis.lexis (chars t) 0 c.in-Ok-lex.tokens.items) c.in-Ok.ensures.cases.0 c.in-Ok-lex.ensures.ok)
    (subst (λ ts. IsTextAlone ts (length c.args.part.now) c.in-Some.contents.now) c.as_slice-in-Ok-lex.ensures.value c.in-Some.ensures)
    ∙ ap Some (sym (c.in_ok-copy_of-in-Some.ensures ∙ c.as_str.ensures))

pub returns-in-Ok-lex : goal.returns-in-Ok-lex
returns-in-Ok-lex c =
    none_of_tokens c.args.part.now c.in_ok-lexis.lexis c.in-Ok-lex.tokens.items c.in-Ok.ensures.cases.1
    (λ ts h. c.in-Ok-lex.ensures.whole ts (subst (λ t. HasTokens c.in_ok-lexis.lexis (chars t) 0 ts) (sym c.in-Ok.ensures.cases.0) h))
    (subst (λ ts. HasNoTextAlone ts (length c.args.part.now)) c.as_slice-in-Ok-lex.ensures.value c.in-None.ensures)

pub returns : goal.returns
returns c =
    none_of_fault c.args.part.now c.in_ok-lexis.lexis (c.in-Err.fault ≢ Memory) c.in-Ok.ensures.cases.1 c.in_ok-no_text-in-Err.ensures
    (λ ts h apart. apart (c.in-Err.ensures.whole ts (subst (λ t. HasTokens c.in_ok-lexis.lexis (chars t) 0 ts) (sym c.in-Ok.ensures.cases.0) h)))
