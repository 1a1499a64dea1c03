use Rattle.std.proofs.Common.{◌≡◌, drop}
use Rattle.psg_recover.specs.Reads.{is_declaring_name}
use Rattle.psg_recover.proofs.reading.is_declaring.Given as goal

abbrev pub invariant-loop-place : goal.invariant-loop-place
invariant-loop-place l =
    is_declaring_name l.known.definition.now l.place (drop l.place l.phyla) l.name ≡ is_declaring_name l.known.definition.now 0 l.known.definition.now.phyla l.name
