use Rattle.std.proofs.Common.{◌<◌, length, arith}
use Rattle.std.proofs.lemmas.Option.{slice_get_within}
use Rattle.psg_terms.proofs.Lists.{each_at, slice_get_item}
use Rattle.psg_lexis.specs.Tokens.{IsBeside}
use Rattle.psg_textedit.proofs.Ways.{all_at}
use Rattle.psg_textedit.proofs.spans.is_apart.Goals as goal

pub returns-then-not-is_beside-clause-no : goal.returns-then-not-is_beside-clause-no
returns-then-not-is_beside-clause-no c = λ e all.
    c.is_beside.ensures.no c.if-not-is_beside.true
    (each_at (IsBeside c.args.border) c.args.tokens.now all c.loop-token.token-index c.token-item.result
    (slice_get_item c.args.tokens.now c.loop-token.token-index c.token-item.result c.loop-token-test.true c.token-item.is))

pub returns-clause-yes : goal.returns-clause-yes
returns-clause-yes c = λ t. all_at (IsBeside c.args.border) c.args.tokens.now (λ k s e. c.loop-token.invariant k s
    (let lt : k < length c.args.tokens.now = slice_get_within c.args.tokens.now k s e in
    omega (arith, lt, c.loop-token-test.false)) e)
