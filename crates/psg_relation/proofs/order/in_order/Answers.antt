use Rattle.std.proofs.Common.{sym, subst, rules}
use Rattle.std.specs.List.Sorted.{IsPermutation}
use Rattle.std.proofs.lemmas.List.Sorted.{IsPermutation-map}
use Rattle.psg_relation.specs.declared.order.Printed.{Printed}
use Rattle.psg_relation.specs.Ordered.{IsOrdered, is_not_above}
use Rattle.psg_relation.specs.Texts.{rows_in}
use Rattle.psg_relation.proofs.Ordered.{sorted_ordered, sorted_by_texts, texts_moved}
use Rattle.psg_relation.proofs.order.in_order.Goals as goal

pub returns-clause-same : goal.returns-clause-same
returns-clause-same c =
    let before = c.in_ok-printed.printed.items in
    let behind = c.sort_by.new.self.items in
    let moved : IsPermutation (rows_in before) (rows_in behind) = IsPermutation-map (λ (p : Printed). p.row) before behind c.in_ok-sort_by.ensures.permutation in
    subst (λ rows. IsPermutation rows c.in_ok-sorted.sorted.items) c.in_ok-printed.ensures.rows
    (subst (IsPermutation (rows_in before)) (sym c.in_ok-sorted.ensures) moved)

pub returns-clause-order : goal.returns-clause-order
returns-clause-order c =
    let sig = c.args.sig.now in
    let before = c.in_ok-printed.printed.items in
    let behind = c.sort_by.new.self.items in
    let texts = texts_moved sig before behind c.in_ok-sort_by.ensures.permutation c.in_ok-printed.ensures.texts in
    subst (IsOrdered (is_not_above sig)) (sym c.in_ok-sorted.ensures)
    (sorted_ordered sig behind (sorted_by_texts behind c.in_ok-sort_by.ensures.sorted (λ a r f' k. search rules)) texts)
