use Rattle.std.proofs.Common.{◌+◌, drop, refl, sym, ◌∙◌, subst}
use Rattle.std.proofs.lemmas.Bool.{false≢true}
use Rattle.psg_deflines.specs.Entries.{written}
use Rattle.psg_terms.proofs.Lists.{drop_item}
use Rattle.psg_defnumber.specs.Sorts.{RowsStand}
use Rattle.psg_defnumber.proofs.PlacingLaws.{rows-split}
use Rattle.psg_terms.specs.Kept.{numbers_of}
use Rattle.psg_defnumber.specs.Putting.{ReadsRows}
use Rattle.psg_defnumber.proofs.PutLaws.{reads-next, reads-end, reads-stop}
use Rattle.psg_defnumber.proofs.LineLaws.{rows-stop}
use Rattle.psg_defnumber.proofs.NamedLaws.{known-at}
use Rattle.psg_defnumber.proofs.operators.rows.Goals as goal

pub put_row-requires-clause-known : goal.put_row-requires-clause-known
put_row-requires-clause-known c = known-at c.args.checked.now c.args.behind.now c.loop-entry.entry-index c.entry-item.result c.requires.known c.loop-entry-test.true c.entry-item.is

pub returns-then-is_operator : goal.returns-then-is_operator
returns-then-is_operator c =
    reads-stop c.args.definition.now (ReadsRows c.args.sort.0 (numbers_of c.args.sorts.now)) c.args.behind.now c.loop-entry.entry-index c.entry-item.result c.loop-entry.made.items c.loop-entry-test.true c.entry-item.is
    (λ full. rows-stop full c.args.sort.0 (numbers_of c.args.sorts.now) c.entry-item.result (drop (c.loop-entry.entry-index + 1) c.args.behind.now) (c.is_operator.ensures.0 c.if-is_operator.true)) c.loop-entry.invariant.0

pub put_row-requires-clause-fits : goal.put_row-requires-clause-fits
put_row-requires-clause-fits c =
    (rows-split c.args.checked.now c.requires.kinds.once c.args.sort.0 (numbers_of c.args.sorts.now) c.entry-item.result (drop (c.loop-entry.entry-index + 1) c.args.behind.now) (λ h. false≢true (sym c.if-is_operator.false ∙ c.is_operator.ensures.1 h))
    (subst (λ l. RowsStand c.args.checked.now c.args.sort.0 (numbers_of c.args.sorts.now) (written l)) (drop_item c.args.behind.now c.loop-entry.entry-index c.entry-item.result c.loop-entry-test.true c.entry-item.is) c.loop-entry.invariant.1)).0

pub loop-entry-preserved : goal.loop-entry-preserved
loop-entry-preserved c = (
  reads-next c.args.definition.now (ReadsRows c.args.sort.0 (numbers_of c.args.sorts.now)) c.args.behind.now c.loop-entry.entry-index c.entry-item.result c.loop-entry.made.items c.put_row.new.made.items c.loop-entry-test.true c.entry-item.is c.loop-entry.invariant.0
      (c.in_ok-put_row.ensures (drop (c.loop-entry.entry-index + 1) c.args.behind.now)),
  (rows-split c.args.checked.now c.requires.kinds.once c.args.sort.0 (numbers_of c.args.sorts.now) c.entry-item.result (drop (c.loop-entry.entry-index + 1) c.args.behind.now) (λ h. false≢true (sym c.if-is_operator.false ∙ c.is_operator.ensures.1 h))
      (subst (λ l. RowsStand c.args.checked.now c.args.sort.0 (numbers_of c.args.sorts.now) (written l)) (drop_item c.args.behind.now c.loop-entry.entry-index c.entry-item.result c.loop-entry-test.true c.entry-item.is) c.loop-entry.invariant.1)).1,
)

pub returns : goal.returns
returns c = reads-end c.args.definition.now (ReadsRows c.args.sort.0 (numbers_of c.args.sorts.now)) c.args.behind.now c.loop-entry.entry-index c.loop-entry.made.items c.loop-entry-test.false (λ full. refl) c.loop-entry.invariant.0
