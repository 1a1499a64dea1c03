use Rattle.psg_unify.proofs.ClearRows.{covers_exact}
use Rattle.psg_unify.proofs.covering.covers.Goals as goal

pub returns : goal.returns
returns c = λ read r ss hs hg.
    covers_exact c.args.sig.now c.sound.ensures c.args.pool.now read r c.args.cells.now c.args.general.now ss c.in_ok-matched.matched c.in_ok-matched.ensures hs hg
