use Rattle.std.proofs.Common.{◌≡◌, IfOk, subst}
use Rattle.std.specs.Prelude.{MatchOption, None, Some}
use Rattle.psg_defcomment.proofs.QuotedParts.{token_is, token_none}
use Rattle.psg_defcomment.proofs.quotes.token_of.Goals as goal

pub returns-in_default : goal.returns-in_default
returns-in_default c = token_none c.args.line.now c.in_default.ensures.cases

pub returns : goal.returns
returns c =
    subst (λ t. IfOk c.quoted_text.result (λ o. MatchOption o (t ≡ None) (λ w. t ≡ Some w)))
    (token_is c.args.line.now c.in-Some.behind.now c.past_spaces.result.now c.in-Some.ensures.cases.0 c.in-Some.ensures.cases.1 c.past_spaces.ensures)
    c.quoted_text.ensures
