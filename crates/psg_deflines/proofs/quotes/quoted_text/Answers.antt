use Rattle.std.proofs.Common.{◌≢◌, length, ◌∙◌, subst}
use Rattle.std.specs.Prelude.{IsUtf8}
use Rattle.psg_deflines.specs.Quotes.{IsTextAlone, HasNoTextAlone}
use Rattle.psg_lexis.specs.declared.token.LexFault.TheVariants.{Memory}
use Rattle.psg_deflines.proofs.QuoteLaws.{quote-read, quote-none, quote-fault, quote-bytes}
use Rattle.psg_deflines.proofs.quotes.quoted_text.Goals as goal

pub returns-in_default : goal.returns-in_default
returns-in_default c = quote-bytes c.args.part.now c.in_default.ensures.cases.0

pub returns-in-Some : goal.returns-in-Some
returns-in-Some c =
    quote-read c.args.part.now c.in-Ok.text.now c.in_ok-lexis.lexis c.in-Ok.ensures.cases.0 (c.in_ok-lexis.ensures.words ∙ c.as_slice.ensures.value ∙ c.new-words.ensures.items) c.in-Ok.ensures.cases.1
    c.in-Ok-lex.tokens.items _ c.in-Some.contents.now c.in-Ok-lex.ensures.ok c.in-Ok-lex.ensures.whole
    (subst (λ ts. IsTextAlone ts (length c.args.part.now) c.in-Some.contents.now) c.as_slice-in-Ok-lex.ensures.value c.in-Some.ensures) (subst IsUtf8 c.as_str.ensures c.as_str.utf8) (c.in_ok-copy_of-in-Some.ensures ∙ c.as_str.ensures)

pub returns-in-Ok-lex : goal.returns-in-Ok-lex
returns-in-Ok-lex c =
    quote-none c.args.part.now c.in-Ok.text.now c.in_ok-lexis.lexis c.in-Ok.ensures.cases.0 (c.in_ok-lexis.ensures.words ∙ c.as_slice.ensures.value ∙ c.new-words.ensures.items) c.in-Ok.ensures.cases.1
    c.in-Ok-lex.tokens.items c.in-Ok-lex.ensures.whole
    (subst (λ ts. HasNoTextAlone ts (length c.args.part.now)) c.as_slice-in-Ok-lex.ensures.value c.in-None.ensures)

pub returns : goal.returns
returns c =
    quote-fault c.args.part.now c.in-Ok.text.now c.in_ok-lexis.lexis c.in-Ok.ensures.cases.0 (c.in_ok-lexis.ensures.words ∙ c.as_slice.ensures.value ∙ c.new-words.ensures.items) c.in-Ok.ensures.cases.1
    (c.in-Err.fault ≢ Memory) c.in_ok-no_text-in-Err.ensures (λ ts h apart. apart (c.in-Err.ensures.whole ts h))
