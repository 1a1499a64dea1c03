use Rattle.std.proofs.Common.{◌≡◌, ◌++◌, ◌-◌, suc, reverse, map, ap, sym, arith}
use Rattle.psg_pool.specs.Cells.{arguments_of}
use Rattle.psg_pool.specs.declared.cells.CellId.{CellId}
use Rattle.psg_unify.specs.declared.walking.Item.TheVariants.{Visit}
use Rattle.psg_unify.proofs.Stacks.{all_dropped, pushed_visit}
use Rattle.psg_unify.proofs.walking.push_arguments.Goals as goal

pub loop-k-init : goal.loop-k-init
loop-k-init c = (
  omega arith,
  sym (ap (λ l. map (λ (a : CellId). Visit a) l ++ reverse c.args.stack.now.items) (all_dropped (arguments_of c.args.pool.now.cells c.args.id) c.args.count c.requires)),
)

pub loop-k-preserved : goal.loop-k-preserved
loop-k-preserved c =
    let before : c.loop-k.k ≡ suc (c.loop-k.k - 1) = omega (arith, c.loop-k-test.true) in
    let least = c.loop-k.invariant.0 in (
      omega (arith, least),
      pushed_visit c.loop-k.stack.items c.push.new.self.items (reverse c.args.stack.now.items) (arguments_of c.args.pool.now.cells c.args.id) c.loop-k.k (c.loop-k.k - 1) c.arg.result before
          c.arg.ensures.value c.in_ok-push.ensures.items c.loop-k.invariant.1,
    )
