use Rattle.std.proofs.Common.{◌+◌, sym, ap, ◌∙◌}
use Rattle.psg_terms.specs.Terms.{applied, symbol}
use Rattle.psg_terms.specs.Renaming.{keys}
use Rattle.psg_unify.proofs.ReadSteps.{reads_open, reads_constant, new_at}
use Rattle.psg_unify.proofs.reading.write_open.Goals as goal

pub returns-in_ok-term-in-Some-clause-reads : goal.returns-in_ok-term-in-Some-clause-reads
returns-in_ok-term-in-Some-clause-reads c = λ rest.
    reads_constant c.args.sig.now c.args.pool.now (keys c.args.known.now.keys) c.args.written.now.items c.keep.new.written.items c.args.id c.args.sort.0 c.in-Some.con.0 c.in_ok-term-in-Some.term rest
    c.requires.holds (sym c.in-Some.ensures) (c.in_ok-term-in-Some.ensures ∙ ap (applied (symbol c.in-Some.con.0)) c.new.ensures.items)
    (new_at c.args.written.now.items c.keep.new.written.items c.args.id c.in_ok-term-in-Some.term c.keep.ensures)

pub returns-in_ok-term-in-Some-clause-kept : goal.returns-in_ok-term-in-Some-clause-kept
returns-in_ok-term-in-Some-clause-kept c = (c.in_ok-term-in-Some.term, c.keep.ensures)

pub returns-in_ok-term-in-None-clause-reads : goal.returns-in_ok-term-in-None-clause-reads
returns-in_ok-term-in-None-clause-reads c = λ rest.
    reads_open c.args.sig.now c.args.pool.now (keys c.args.known.now.keys) (keys c.note.new.known.keys) c.args.written.now.items c.keep-in-None.new.written.items c.args.id c.args.sort.0
    c.in_ok-number-in-None.number c.in_ok-fresh-in-None.fresh c.in_ok-term-in-None.term rest c.requires.holds (sym c.in-None.ensures) c.in_ok-number-in-None.ensures.number
    c.in_ok-place-in-None.ensures.noted (c.in_ok-fresh-in-None.ensures.number ∙ ap (λ k. 0 + k + 1) c.in_ok-place-in-None.ensures.place) c.in_ok-term-in-None.ensures
    (new_at c.args.written.now.items c.keep-in-None.new.written.items c.args.id c.in_ok-term-in-None.term c.keep-in-None.ensures)

pub returns-in_ok-term-in-None-clause-kept : goal.returns-in_ok-term-in-None-clause-kept
returns-in_ok-term-in-None-clause-kept c = (c.in_ok-term-in-None.term, c.keep-in-None.ensures)
