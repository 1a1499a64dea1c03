use Rattle.std.proofs.Common.{◌++◌, [], drop, ap, ◌∙◌, ◌+◌, arith}
use Rattle.std.specs.Option.{option_or}
use Rattle.psg_relation.specs.Choices.{pick}
use Rattle.psg_grammar.specs.Keys.{Key}
use Rattle.psg_scope.specs.Headers.{key_of, keys}
use Rattle.psg_explain.specs.Given.{beside, key_terms}
use Rattle.psg_explain.proofs.GivenLaws.{all_there, key_terms_next, no_key_terms, one_more}
use Rattle.psg_explain.proofs.given.push_either.Goals as goal

pub loop-key-preserved : goal.loop-key-preserved
loop-key-preserved c =
    let term = λ (k : Key). option_or (beside (keys c.args.keys.left.now) c.args.left.now k) (beside (keys c.args.keys.right.now) c.args.right.now k) in
    let ks = c.args.keys.whole.now in
    let i = c.loop-key.key-index in
    let old = c.loop-key.terms.items in
    one_more old c.push_some.new.terms.items (c.args.terms.now.items ++ key_terms term (keys ks)) (key_terms term (keys (drop i ks))) (key_terms term (keys (drop (i + 1) ks))) (term (key_of c.key-item.result))
    (c.in_ok-push_some.ensures ∙ ap (λ o. old ++ pick o []) c.either-term.ensures) c.loop-key.invariant (key_terms_next term ks i c.key-item.result c.loop-key-test.true c.key-item.is)

pub returns : goal.returns
returns c =
    let term = λ (k : Key). option_or (beside (keys c.args.keys.left.now) c.args.left.now k) (beside (keys c.args.keys.right.now) c.args.right.now k) in
    let ks = c.args.keys.whole.now in
    all_there c.loop-key.terms.items (key_terms term (keys (drop c.loop-key.key-index ks))) (c.args.terms.now.items ++ key_terms term (keys ks)) c.loop-key.invariant (no_key_terms term ks c.loop-key.key-index (omega arith))
