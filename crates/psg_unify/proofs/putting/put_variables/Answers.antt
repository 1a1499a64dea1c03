use Rattle.psg_terms.specs.Canonical.{variables_of, noted_all}
use Rattle.psg_terms.specs.Renaming.{keys, opens}
use Rattle.psg_unify.proofs.VariablesPut.{walked, walked_less, puts_both, longer_both}
use Rattle.psg_unify.proofs.putting.put_variables.Goals as goal

pub loop-term-smaller : goal.loop-term-smaller
loop-term-smaller c =
    walked_less c.args.sig.now (keys c.loop-term.known.keys) (keys c.walk_term.new.known.keys) c.in-Some.term c.loop-term.stack.items c.pop.new.self.items c.walk_term.new.stack.items
    c.in-Some.ensures.items c.in_ok-walk_term.ensures.walks

pub loop-term-preserved : goal.loop-term-preserved
loop-term-preserved c = (
  walked c.args.sig.now (keys c.loop-term.known.keys) (keys c.walk_term.new.known.keys) c.in-Some.term c.loop-term.stack.items c.pop.new.self.items c.walk_term.new.stack.items
      (noted_all (keys c.args.known.now.keys) (opens c.args.sig.now (variables_of c.args.row.now))) c.in-Some.ensures.items c.in_ok-walk_term.ensures.walks c.loop-term.invariant.0,
  puts_both c.args.pool.now.cells c.loop-term.pool.cells c.walk_term.new.pool.cells (keys c.args.known.now.keys) (keys c.loop-term.known.keys) (keys c.walk_term.new.known.keys)
      c.loop-term.invariant.1 c.in_ok-walk_term.ensures.cells,
  longer_both c.args.pool.now c.loop-term.pool c.walk_term.new.pool c.loop-term.invariant.2 c.walk_term.ensures.longer,
)
