use Rattle.std.proofs.Common.{◌≡◌, ◌∷◌, ◌++◌, [], ◌∙◌, map, map-id, rules, ap, ap₂, sym}
use Rattle.std.proofs.lemmas.Iterator.Consumers.{YieldsList-end}
use Rattle.std.proofs.lemmas.Iterator.Adapters.{YieldsList-from_vec}
use Rattle.std.proofs.lemmas.List.{map-append}
use Rattle.psg_layout.specs.Walking.{span_by}
use Rattle.psg_layout.proofs.nodes.spans_of.Goals as goal

pub loop-node-init : goal.loop-node-init
loop-node-init c = λ puts e f. c.in_ok-spans.ensures.items

pub loop-node-preserved : goal.loop-node-preserved
loop-node-preserved c = λ puts e f.
    c.in_ok-push.ensures.items ∙ ap₂ (λ spans s. spans ++ s ∷ []) (c.loop-node.invariant puts e f) (c.in_ok-span.ensures puts e f)
    ∙ sym (map-append (span_by puts) c.loop-node.yielded (c.in-Some.node ∷ []))

pub returns : goal.returns
returns c = λ puts e f.
    let end = YieldsList-end (YieldsList-from_vec {s = c.into_iter-node-iterator.result} c.args.nodes.items (search rules) (search rules))
    c.loop-node.yielded c.loop-node.node-iterator c.loop-node.yielded_by c.next.result c.next.new.self c.in-None.is c.next.ensures.steps in
    let all : c.loop-node.yielded ≡ c.args.nodes.items = sym (map-id c.loop-node.yielded) ∙ end.0 in
    c.of.ensures ∙ c.loop-node.invariant puts e f ∙ ap (map (span_by puts)) all
