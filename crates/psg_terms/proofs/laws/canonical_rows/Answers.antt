use Rattle.psg_terms.proofs.CanonicalLaws.{same_ground-equal}
use Rattle.psg_terms.proofs.RelationLaws.{instances_equal}
use Rattle.psg_terms.proofs.laws.canonical_rows.Goals as goal

pub returns : goal.returns
returns c = record {
  same = λ a b sorts ha hb ca cb (ab, ba). same_ground-equal c.args.sig.now c.sound.ensures a b sorts ha hb ca cb ab ba;
  instances = instances_equal c.args.sig.now c.sound.ensures;
}
