use Rattle.std.proofs.Common.{length}
use Rattle.psg_server.specs.Linking.{way_of}
use Rattle.psg_server.proofs.LinkingLaws.{AreSoFar}
use Rattle.psg_server.proofs.linking.all_shown.Given as goal

abbrev pub invariant-loop-spot : goal.invariant-loop-spot
invariant-loop-spot l = AreSoFar l.sheet.encoding l.sheet.text.now (way_of l.how) l.all l.spots l.rest l.values.items

abbrev pub decreases-loop-spot : goal.decreases-loop-spot
decreases-loop-spot l = length l.rest
