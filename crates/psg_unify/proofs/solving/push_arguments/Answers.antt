use Rattle.std.proofs.Common.{◌≡◌, ◌++◌, ◌-◌, suc, reverse, ap, sym, arith}
use Rattle.psg_pool.specs.Cells.{arguments_of}
use Rattle.psg_unify.proofs.SolvingSteps.{no_pairs, pushed_pair}
use Rattle.psg_unify.proofs.solving.push_arguments.Goals as goal

pub loop-k-init : goal.loop-k-init
loop-k-init c = (
  omega arith,
  sym (ap (λ l. l ++ reverse c.args.left.now.items) (no_pairs (arguments_of c.args.pool.now.cells c.args.x) (arguments_of c.args.pool.now.cells c.args.y) c.args.count c.requires.x)),
)

pub loop-k-preserved : goal.loop-k-preserved
loop-k-preserved c =
    let before : c.loop-k.k ≡ suc (c.loop-k.k - 1) = omega (arith, c.loop-k-test.true) in
    let least = c.loop-k.invariant.0 in (
      omega (arith, least),
      pushed_pair c.loop-k.left.items c.push.new.self.items (reverse c.args.left.now.items) (arguments_of c.args.pool.now.cells c.args.x) (arguments_of c.args.pool.now.cells c.args.y)
          c.loop-k.k (c.loop-k.k - 1) c.arg.result c.arg-in-loop-k.result before c.arg.ensures.value c.arg-in-loop-k.ensures.value c.in_ok-push.ensures.items c.loop-k.invariant.1,
    )
