use Rattle.std.proofs.Common.{◌+◌, drop, refl}
use Rattle.std.proofs.Common.{sym, ◌∙◌, subst}
use Rattle.std.proofs.lemmas.Bool.{false≢true}
use Rattle.psg_terms.proofs.Lists.{drop_item}
use Rattle.psg_deflines.specs.Entries.{written}
use Rattle.psg_defnumber.specs.Placing.{CasesFit}
use Rattle.psg_defnumber.proofs.PlacingLaws.{cases-split}
use Rattle.psg_defnumber.specs.Putting.{ReadsCases}
use Rattle.psg_defnumber.proofs.PutLaws.{reads-next, reads-end, reads-stop}
use Rattle.psg_defnumber.proofs.LineLaws.{cases-stop}
use Rattle.psg_defnumber.proofs.NamedLaws.{known-at}
use Rattle.psg_defnumber.proofs.holes.cases.Goals as goal

pub put_case-requires-clause-known : goal.put_case-requires-clause-known
put_case-requires-clause-known c = known-at c.args.checked.now c.args.behind.now c.loop-entry.entry-index c.entry-item.result c.requires.known c.loop-entry-test.true c.entry-item.is

pub returns-then-is_hole : goal.returns-then-is_hole
returns-then-is_hole c =
    reads-stop c.args.definition.now (ReadsCases c.args.kind c.args.sort.0) c.args.behind.now c.loop-entry.entry-index c.entry-item.result c.loop-entry.made.items c.loop-entry-test.true c.entry-item.is
    (λ full. cases-stop full c.args.kind c.args.sort.0 c.entry-item.result (drop (c.loop-entry.entry-index + 1) c.args.behind.now) (c.is_hole.ensures.0 c.if-is_hole.true)) c.loop-entry.invariant.0

pub put_case-requires-clause-fits : goal.put_case-requires-clause-fits
put_case-requires-clause-fits c =
    (cases-split c.args.checked.now c.requires.names.kinds.once c.args.kind c.args.sort.0 c.entry-item.result (drop (c.loop-entry.entry-index + 1) c.args.behind.now) (λ h. false≢true (sym c.if-is_hole.false ∙ c.is_hole.ensures.1 h))
    (subst (λ l. CasesFit c.args.checked.now c.args.kind c.args.sort.0 (written l)) (drop_item c.args.behind.now c.loop-entry.entry-index c.entry-item.result c.loop-entry-test.true c.entry-item.is) c.loop-entry.invariant.1)).0

pub loop-entry-preserved : goal.loop-entry-preserved
loop-entry-preserved c = (
  reads-next c.args.definition.now (ReadsCases c.args.kind c.args.sort.0) c.args.behind.now c.loop-entry.entry-index c.entry-item.result c.loop-entry.made.items c.put_case.new.made.items c.loop-entry-test.true c.entry-item.is c.loop-entry.invariant.0
      (c.in_ok-put_case.ensures (drop (c.loop-entry.entry-index + 1) c.args.behind.now)),
  (cases-split c.args.checked.now c.requires.names.kinds.once c.args.kind c.args.sort.0 c.entry-item.result (drop (c.loop-entry.entry-index + 1) c.args.behind.now) (λ h. false≢true (sym c.if-is_hole.false ∙ c.is_hole.ensures.1 h))
      (subst (λ l. CasesFit c.args.checked.now c.args.kind c.args.sort.0 (written l)) (drop_item c.args.behind.now c.loop-entry.entry-index c.entry-item.result c.loop-entry-test.true c.entry-item.is) c.loop-entry.invariant.1)).1,
)

pub returns : goal.returns
returns c = reads-end c.args.definition.now (ReadsCases c.args.kind c.args.sort.0) c.args.behind.now c.loop-entry.entry-index c.loop-entry.made.items c.loop-entry-test.false (λ full. refl) c.loop-entry.invariant.0
