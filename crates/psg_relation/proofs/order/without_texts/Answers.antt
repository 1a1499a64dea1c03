use Rattle.std.proofs.Common.{◌≡◌, ◌∷◌, ◌++◌, [], ◌∙◌, map-id, rules, ap, sym}
use Rattle.std.proofs.lemmas.Iterator.Consumers.{YieldsList-end}
use Rattle.std.proofs.lemmas.Iterator.Adapters.{YieldsList-from_vec}
use Rattle.std.proofs.lemmas.List.{map-append}
use Rattle.psg_relation.specs.declared.order.Printed.{Printed}
use Rattle.psg_relation.specs.Texts.{rows_in}
use Rattle.psg_relation.proofs.order.without_texts.Goals as goal

pub loop-one-preserved : goal.loop-one-preserved
loop-one-preserved c =
    c.in_ok-push.ensures.items ∙ ap (λ rows. rows ++ c.in-Some.one.row ∷ []) c.loop-one.invariant
    ∙ sym (map-append (λ (p : Printed). p.row) c.loop-one.yielded (c.in-Some.one ∷ []))

pub returns : goal.returns
returns c =
    let end = YieldsList-end (YieldsList-from_vec {s = c.into_iter-one-iterator.result} c.args.printed.items (search rules) (search rules))
    c.loop-one.yielded c.loop-one.one-iterator c.loop-one.yielded_by c.next.result c.next.new.self c.in-None.is c.next.ensures.steps in
    let all : c.loop-one.yielded ≡ c.args.printed.items = sym (map-id c.loop-one.yielded) ∙ end.0 in
    c.loop-one.invariant ∙ ap rows_in all
