use Rattle.std.proofs.Common.{◌↔◌, List, ℕ, IsTrue, map, subst}
use Rattle.psg_terms.specs.Signature.{HaveSorts}
use Rattle.psg_terms.specs.Instances.{AllGroundInstancesIn}
use Rattle.psg_unify.specs.Reading.{Reading, IsReading}
use Rattle.psg_unify.proofs.UnwrittenRows.{unwritten_instance}
use Rattle.psg_unify.proofs.unwritten.UnwrittenRow.is_instance_of.Goals as goal

pub returns : goal.returns
returns c =
    unwritten_instance c.args.sig.now c.args.self.now c.args.general.now c.in_ok-instance.instance
    (subst (λ ids. (read : Reading) → IsReading c.args.self.now.pool read → (ss : List ℕ) → HaveSorts c.args.sig.now (map read ids) ss → HaveSorts c.args.sig.now c.args.general.now ss
    → IsTrue c.in_ok-instance.instance ↔ AllGroundInstancesIn c.args.sig.now (map read ids) c.args.general.now) c.as_slice.ensures.value c.in_ok-instance.ensures)
