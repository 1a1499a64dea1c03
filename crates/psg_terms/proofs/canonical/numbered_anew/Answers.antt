use Rattle.std.proofs.Common.{subst}
use Rattle.psg_terms.specs.Renaming.{Renumbered}
use Rattle.psg_terms.proofs.canonical.numbered_anew.Goals as goal

pub returns : goal.returns
returns c = (
  c.renumber_all.new.known,
  subst (λ xs. Renumbered c.args.sig.now 0 xs c.renumber_all.new.known c.args.row.now c.in_ok-copies.copies.items) c.in_ok-known.ensures c.in_ok-copies.ensures,
)
