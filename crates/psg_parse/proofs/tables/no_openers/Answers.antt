use Rattle.std.proofs.Common.{◌≡◌, None, sym, subst, arith}
use Rattle.psg_parse.specs.Lookups.{opener_at}
use Rattle.psg_parse.proofs.Tabled.{none_more}
use Rattle.psg_parse.proofs.tables.no_openers.Goals as goal

pub loop-preserved : goal.loop-preserved
loop-preserved c = record {
  count = omega (arith, c.in_ok-push.ensures.len, c.loop.invariant.count);
  empty = λ p t. subst (λ xs. opener_at xs p t ≡ None) (sym c.in_ok-push.ensures.items) (none_more c.loop.found.items c.new.result c.new.ensures c.loop.invariant.empty p t);
}
