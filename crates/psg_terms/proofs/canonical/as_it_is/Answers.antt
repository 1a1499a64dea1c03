use Rattle.psg_terms.proofs.Recognising.{goes_on_canonical}
use Rattle.psg_terms.proofs.canonical.as_it_is.Goals as goal

pub returns-clause-canonical : goal.returns-clause-canonical
returns-clause-canonical c =
    goes_on_canonical c.args.sig.now c.new-known.result.items c.are_numbered.new.known.items c.args.row.now c.new-known.ensures.items (c.in_ok-are_numbered.ensures c.if-not-branch.false)
