use Rattle.std.proofs.Common.{◌+◌, sym, subst, arith, get_or}
use Rattle.psg_deflines.specs.Parts.{texts}
use Rattle.psg_deflines.specs.Entries.{written}
use Rattle.psg_deflines.specs.EntryReads.{IsEntryRead, rows_after}
use Rattle.psg_deflines.proofs.PartReads.{no-slice}
use Rattle.psg_deflines.proofs.TermFound.{texts-length}
use Rattle.psg_deflines.proofs.ReadLaws.{IsReadUpTo, read-start, read-next, read-fault, read-all, text-at}
use Rattle.psg_deflines.proofs.entries.entries.Goals as goal

pub loop-text-init : goal.loop-text-init
loop-text-init c = read-start c.args.version (texts c.args.written.now) c.new-entries.result.items c.new-entries.ensures.items

pub loop-text-preserved : goal.loop-text-preserved
loop-text-preserved c =
    let h = c.loop-text.invariant in
    let read = subst (IsEntryRead c.args.version (written c.loop-text.entries.items) _) c.in-Found.is (c.in_ok-found.ensures (written c.loop-text.entries.items) h.rows_are h.cases_are) in
    subst (λ r. IsReadUpTo c.args.version (texts c.args.written.now) (c.loop-text.text-index + 1) c.push.new.self.items r c.cases_after-cases.result) (sym c.rows_after-rows.ensures)
    (subst (λ k. IsReadUpTo c.args.version (texts c.args.written.now) (c.loop-text.text-index + 1) c.push.new.self.items (rows_after c.loop-text.rows c.in-Found.found) k) (sym c.cases_after-cases.ensures)
    (read-next c.args.version (texts c.args.written.now) c.loop-text.text-index (get_or c.args.written.now c.loop-text.text-index no-slice).now c.loop-text.entries.items c.push.new.self.items c.loop-text.rows c.loop-text.cases c.in-Found.found
    (omega (arith, c.loop-text-test.true, texts-length c.args.written.now)) (text-at c.args.written.now c.loop-text.text-index no-slice c.loop-text-test.true) h read c.in_ok-push-in-Found.ensures.items))

pub returns-clause-ok : goal.returns-clause-ok
returns-clause-ok c =
    read-all c.args.version (texts c.args.written.now) c.loop-text.text-index c.loop-text.entries.items c.loop-text.rows c.loop-text.cases (omega (arith, c.loop-text-test.false, texts-length c.args.written.now)) c.loop-text.invariant

pub returns-in-Fault-clause-err : goal.returns-in-Fault-clause-err
returns-in-Fault-clause-err c =
    let h = c.loop-text.invariant in
    let read = subst (IsEntryRead c.args.version (written c.loop-text.entries.items) _) c.in-Fault.is (c.in_ok-found.ensures (written c.loop-text.entries.items) h.rows_are h.cases_are) in
    read-fault c.args.version (texts c.args.written.now) c.loop-text.text-index (get_or c.args.written.now c.loop-text.text-index no-slice).now c.loop-text.entries.items c.loop-text.rows c.loop-text.cases _
    (omega (arith, c.loop-text-test.true, texts-length c.args.written.now)) (text-at c.args.written.now c.loop-text.text-index no-slice c.loop-text-test.true) h read (omega (arith, c.len.ensures, c.loop-text.entries.ok.0))
