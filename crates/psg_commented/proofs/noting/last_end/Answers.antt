use Rattle.std.proofs.Common.{◌≡◌, ◌∷◌, ◌+◌, drop, length, rules, sym, ap, ◌∙◌, arith, refl}
use Rattle.std.proofs.lemmas.List.{drop_all, drop_more}
use Rattle.psg_commented.specs.Noting.{end_of_last}
use Rattle.psg_commented.proofs.noting.last_end.Goals as goal

pub loop-token-init : goal.loop-token-init
loop-token-init c = refl

pub loop-token-preserved : goal.loop-token-preserved
loop-token-preserved c =
    let ts = c.args.tokens.now in
    let i = c.loop-token.token-index in
    ap (λ t. end_of_last c.loop-token.end (t ∷ drop (i + 1) ts)) c.token-item.is
    ∙ ap (end_of_last c.loop-token.end) (sym (drop_more ts i c.token-item.result c.loop-token-test.true))
    ∙ c.loop-token.invariant

pub returns : goal.returns
returns c =
    let end : c.loop-token.token-index ≡ length c.args.tokens.now = search rules in
    ap (end_of_last c.loop-token.end) (sym (drop_all c.loop-token.token-index c.args.tokens.now (omega (arith, end))))
    ∙ c.loop-token.invariant
