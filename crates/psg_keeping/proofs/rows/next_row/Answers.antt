use Rattle.std.proofs.Common.{◌≡◌, ◌+◌, ◌≤◌, [], ◌∷◌, ◌++◌, get_or, length, length-append, rules, sym, ap, ◌∙◌, subst, arith}
use Rattle.psg_keeping.specs.Rows.{IsRow}
use Rattle.psg_keeping.proofs.CellLaws.{cell_next, cell_small}
use Rattle.psg_keeping.proofs.RowLaws.{IsFrontRow, row_none, row_whole}
use Rattle.psg_keeping.proofs.rows.next_row.Goals as goal

pub loop-count-init : goal.loop-count-init
loop-count-init c =
    let one : c.push.new.self.items ≡ 0 ∷ [] = c.in_ok-push.ensures.items ∙ ap (λ l. l ++ 0 ∷ []) c.new-next.ensures.items in (
      ap length one,
      λ old r. subst (λ l. IsFrontRow (c.args.token.now ∷ old) c.args.new.now l 0) (sym one)
          (row_none (c.args.token.now ∷ old) c.args.new.now),
    )

pub cell-value-requires : goal.cell-value-requires
cell-value-requires c =
    let small : get_or c.args.row.now c.loop-count.count 0 + 1 ≤ length c.args.new.now =
    cell_small c.requires.0 c.args.new.now c.args.row.now c.loop-count.count c.requires.1 c.loop-count-test.true in
    search (rules, small)

pub loop-count-preserved : goal.loop-count-preserved
loop-count-preserved c =
    let n = c.loop-count.count in
    let more : c.push-in-loop-count.new.self.items ≡ c.loop-count.next.items ++ c.cell-value.result ∷ [] =
    c.in_ok-push-2.ensures.items in (
      omega (arith, ap length more, length-append c.loop-count.next.items (c.cell-value.result ∷ []), c.loop-count.invariant.0),
      λ old r. subst (λ l. IsFrontRow (c.args.token.now ∷ old) c.args.new.now l (n + 1)) (sym more)
          (cell_next c.args.token.now c.index-new-new.result old c.args.new.now c.args.row.now c.loop-count.next.items
          c.as_slice-done.result.now n c.cell-value.result r (c.loop-count.invariant.1 old r) c.as_slice-done.ensures.value
          c.loop-count-test.true c.index-new-new.is c.cell-value.ensures),
    )

pub returns : goal.returns
returns c =
    let end : c.loop-count.count ≡ length c.args.new.now = search rules in
    λ old r. subst (λ l. IsRow (c.args.token.now ∷ old) c.args.new.now l) (sym c.of.ensures)
    (row_whole (c.args.token.now ∷ old) c.args.new.now c.loop-count.next.items c.loop-count.count end (c.loop-count.invariant.1 old r))
