use Rattle.std.proofs.Common.{◌≡◌, ◌∷◌, ◌++◌, [], ◌∙◌, length, map-id, rules, sym, subst}
use Rattle.std.proofs.lemmas.Iterator.Consumers.{YieldsList-end, YieldsList-turn}
use Rattle.std.proofs.lemmas.Iterator.Adapters.{YieldsList-from_vec}
use Rattle.psg_terms.specs.Signature.{HaveSorts}
use Rattle.psg_terms.specs.Text.{row_text}
use Rattle.psg_relation.specs.declared.order.Printed.{Printed}
use Rattle.psg_relation.proofs.Members.{in-at}
use Rattle.psg_relation.proofs.Ordered.{text_of, rows_next, texts_next}
use Rattle.psg_relation.proofs.order.with_texts.Goals as goal

pub row_text-requires : goal.row_text-requires
row_text-requires c =
    let row = c.in-Some.row in
    let turn = YieldsList-turn (YieldsList-from_vec {s = c.into_iter-row-iterator.result} c.args.rows.items (search rules) (search rules))
    c.loop-row.yielded c.loop-row.row-iterator c.loop-row.yielded_by c.next.result c.next.new.self row c.in-Some.is c.next.ensures.steps in
    (c.requires.0, subst (λ r. HaveSorts c.args.sig.now r c.requires.0) (sym c.terms.ensures) (c.requires.1 row (in-at row c.args.rows.items (length c.loop-row.yielded) turn.0 turn.1)))

pub loop-row-preserved : goal.loop-row-preserved
loop-row-preserved c =
    let p : Printed = record { text = c.in_ok-text.text; row = c.in-Some.row } in
    let e : c.push.new.self.items ≡ c.loop-row.printed.items ++ p ∷ [] = c.in_ok-push.ensures.items in (
      rows_next c.loop-row.printed.items p c.push.new.self.items c.loop-row.yielded c.loop-row.invariant.0 e,
      texts_next c.args.sig.now c.loop-row.printed.items p c.push.new.self.items c.loop-row.invariant.1 (subst (λ r. text_of p ≡ row_text c.args.sig.now r) c.terms.ensures c.in_ok-text.ensures) e,
    )

pub returns-clause-rows : goal.returns-clause-rows
returns-clause-rows c =
    let end = YieldsList-end (YieldsList-from_vec {s = c.into_iter-row-iterator.result} c.args.rows.items (search rules) (search rules))
    c.loop-row.yielded c.loop-row.row-iterator c.loop-row.yielded_by c.next.result c.next.new.self c.in-None.is c.next.ensures.steps in
    let all : c.loop-row.yielded ≡ c.args.rows.items = sym (map-id c.loop-row.yielded) ∙ end.0 in
    c.loop-row.invariant.0 ∙ all
