use Rattle.psg_relation.specs.Heads.{places_at}
use Rattle.psg_covering.proofs.IndexLaws.{put_one}
use Rattle.psg_covering.proofs.index.put.Goals as goal

pub returns : goal.returns
returns c = put_one c.args.key c.args.place (places_at c.args.places.now) (places_at c.add.new.places) c.in_ok-add.ensures
