use Rattle.std.proofs.Common.{◌++◌, [], drop, ap, ◌∙◌, ◌+◌, arith}
use Rattle.psg_relation.specs.Choices.{pick}
use Rattle.psg_scope.specs.Headers.{key_of, keys}
use Rattle.psg_explain.specs.Given.{beside, key_terms}
use Rattle.psg_explain.proofs.GivenLaws.{all_there, key_terms_next, no_key_terms, one_more}
use Rattle.psg_explain.proofs.given.push_keyed.Goals as goal

pub loop-key-preserved : goal.loop-key-preserved
loop-key-preserved c =
    let term = beside (keys c.args.names.now) c.args.row.now in
    let ks = c.args.keys.now in
    let i = c.loop-key.key-index in
    let old = c.loop-key.terms.items in
    one_more old c.push_some.new.terms.items (c.args.terms.now.items ++ key_terms term (keys ks)) (key_terms term (keys (drop i ks))) (key_terms term (keys (drop (i + 1) ks))) (term (key_of c.key-item.result))
    (c.in_ok-push_some.ensures ∙ ap (λ o. old ++ pick o []) c.beside-term.ensures) c.loop-key.invariant (key_terms_next term ks i c.key-item.result c.loop-key-test.true c.key-item.is)

pub returns : goal.returns
returns c =
    let term = beside (keys c.args.names.now) c.args.row.now in
    let ks = c.args.keys.now in
    all_there c.loop-key.terms.items (key_terms term (keys (drop c.loop-key.key-index ks))) (c.args.terms.now.items ++ key_terms term (keys ks)) c.loop-key.invariant (no_key_terms term ks c.loop-key.key-index (omega arith))
