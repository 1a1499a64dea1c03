use Rattle.std.proofs.Common.{◌≡◌, ◌≢◌, length, arith}
use Rattle.psg_terms.specs.Renaming.{keys}
use Rattle.psg_terms.proofs.RenamingLaws.{keys-length}
use Rattle.psg_unify.proofs.VariablesPut.{puts_known, puts_new}
use Rattle.psg_unify.proofs.putting.put_variable.Goals as goal

pub returns-then-len-count-clause-cells : goal.returns-then-len-count-clause-cells
returns-then-len-count-clause-cells c =
    let before = keys-length c.args.known.now.keys in
    let behind = keys-length c.note.new.known.keys in
    let same : length (keys c.note.new.known.keys) ≡ length (keys c.args.known.now.keys) =
    omega (arith, before, behind, c.len-count.ensures.len, c.len.ensures.len, c.if-len-count.true) in
    puts_known c.args.pool.now.cells (keys c.args.known.now.keys) (keys c.note.new.known.keys) (c.args.sort.0, c.args.number) c.in_ok-note.ensures.noted same

pub returns-clause-cells : goal.returns-clause-cells
returns-clause-cells c =
    let before = keys-length c.args.known.now.keys in
    let behind = keys-length c.note.new.known.keys in
    let other : length (keys c.note.new.known.keys) ≢ length (keys c.args.known.now.keys) =
    λ e. c.if-len-count.false (omega (arith, e, before, behind, c.len-count.ensures.len, c.len.ensures.len)) in
    puts_new c.args.pool.now.cells c.put_free.new.self.cells (keys c.args.known.now.keys) (keys c.note.new.known.keys) (c.args.sort.0, c.args.number) c.in_ok-note.ensures.noted other
    c.in_ok-put_free.ensures.ok
