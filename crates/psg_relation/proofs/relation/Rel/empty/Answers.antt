use Rattle.std.proofs.Common.{◌∙◌, sym, subst}
use Rattle.psg_relation.specs.Sealed.{IsSealed}
use Rattle.psg_relation.proofs.Passing.{sealed_none}
use Rattle.psg_relation.proofs.relation.Rel.empty.Goals as goal

pub invariant_of-result : goal.invariant_of-result
invariant_of-result c = subst (λ rows. IsSealed rows 0 0) (sym (c.of.ensures ∙ c.new.ensures.items)) (sealed_none c.args.sig.now c.sound.ensures)
