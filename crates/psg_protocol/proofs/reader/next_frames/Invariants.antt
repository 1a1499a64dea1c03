use Rattle.std.proofs.Common.{drop, length, map}
use Rattle.psg_protocol.specs.Frames.{event_of}
use Rattle.psg_protocol.proofs.WalkLaws.{IsReading}
use Rattle.psg_protocol.proofs.reader.next_frames.Given as goal

abbrev pub invariant-frames : goal.invariant-frames
invariant-frames l = IsReading l.fn.passing l.fn.text (map event_of l.frames.items) l.pass l.rest

abbrev pub decreases-frames : goal.decreases-frames
decreases-frames l = length (drop l.pass l.rest)
