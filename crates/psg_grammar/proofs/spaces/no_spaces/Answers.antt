use Rattle.std.proofs.Common.{◌≡◌, [], sym, subst, arith}
use Rattle.psg_grammar.specs.DeclaringTables.{spaces_at}
use Rattle.psg_grammar.proofs.TableLaws.{spaces_at-push}
use Rattle.psg_grammar.proofs.spaces.no_spaces.Goals as goal

pub loop-preserved : goal.loop-preserved
loop-preserved c = (
  omega (arith, c.in_ok-push.ensures.len, c.loop.invariant.0),
  λ p. subst (λ t. spaces_at t p ≡ []) (sym c.in_ok-push.ensures.items) (spaces_at-push c.loop.found.items c.new.result c.new.ensures.items c.loop.invariant.1 p),
)
