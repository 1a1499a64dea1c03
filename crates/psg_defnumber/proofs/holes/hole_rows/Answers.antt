use Rattle.std.proofs.Common.{◌+◌, refl, subst, sym}
use Rattle.std.proofs.lemmas.List.{take_rest}
use Rattle.std.specs.List.{AllByRecursion}
use Rattle.std.proofs.Common.{◌∷◌}
use Rattle.psg_defcheck.specs.Faults.{ArePassed}
use Rattle.psg_defnumber.proofs.PlacingLaws.{passed-next}
use Rattle.psg_deflines.specs.Entries.{written}
use Rattle.psg_defnumber.specs.Declaring.{IsMeant}
use Rattle.psg_defnumber.specs.Putting.{Puts, ReadsHoleRows}
use Rattle.psg_defnumber.proofs.PutLaws.{reads-next, reads-end}
use Rattle.psg_defnumber.proofs.NamedLaws.{known-at, known-drop}
use Rattle.psg_defnumber.proofs.holes.hole_rows.Goals as goal

pub put_hole_row-requires-clause-known : goal.put_hole_row-requires-clause-known
put_hole_row-requires-clause-known c = known-at c.args.checked.now c.args.entries.now c.loop-i.i c.index-entries-i.result c.requires.known c.loop-i-test.true c.index-entries-i.is

pub put_hole_row-requires-clause-behind : goal.put_hole_row-requires-clause-behind
put_hole_row-requires-clause-behind c =
    subst (λ l. AllByRecursion (IsMeant c.args.checked.now) (written l)) (sym (take_rest c.args.entries.now (c.loop-i.i + 1))) (known-drop c.args.checked.now (c.loop-i.i + 1) c.args.entries.now c.requires.known)

pub put_hole_row-requires-clause-passed : goal.put_hole_row-requires-clause-passed
put_hole_row-requires-clause-passed c =
    let from = passed-next c.args.checked.now c.requires.names.kinds.once c.requires.passed.0 c.args.entries.now c.loop-i.i c.index-entries-i.result c.requires.passed.1 c.loop-i-test.true c.index-entries-i.is in
    (from.0, subst (λ l. ArePassed c.args.checked.now from.0 (written (c.index-entries-i.result ∷ l))) (sym (take_rest c.args.entries.now (c.loop-i.i + 1))) from.1)

pub loop-i-preserved : goal.loop-i-preserved
loop-i-preserved c =
    reads-next c.args.definition.now ReadsHoleRows c.args.entries.now c.loop-i.i c.index-entries-i.result c.loop-i.made.items c.put_hole_row.new.made.items c.loop-i-test.true c.index-entries-i.is c.loop-i.invariant
    (subst (λ rest. Puts c.args.definition.now ReadsHoleRows c.index-entries-i.result rest c.loop-i.made.items c.put_hole_row.new.made.items) (take_rest c.args.entries.now (c.loop-i.i + 1)) c.in_ok-put_hole_row.ensures)

pub returns : goal.returns
returns c = reads-end c.args.definition.now ReadsHoleRows c.args.entries.now c.loop-i.i c.loop-i.made.items c.loop-i-test.false (λ full. refl) c.loop-i.invariant
