use Rattle.psg_protocol.proofs.CutLaws.{pieces_are, same_cuts}
use Rattle.psg_protocol.proofs.FramedLaws.{framed_first, header_first}
use Rattle.psg_protocol.proofs.laws.same_frames.Goals as goal

pub returns-clause-frames : goal.returns-clause-frames
returns-clause-frames c = λ pieces events new reads. pieces_are pieces events new reads

pub returns-clause-cuts : goal.returns-clause-cuts
returns-clause-cuts c = λ pieces others events told new last same one two.
    let is = same_cuts pieces others events told new last same one two in (is.events, is.rest)

pub returns-clause-headers : goal.returns-clause-headers
returns-clause-headers c = λ texts bytes message more value events rest header lines has number few.
    header_first texts bytes message more value events rest header lines has number few

pub returns-clause-framed : goal.returns-clause-framed
returns-clause-framed c = λ message more events rest few. framed_first message more events rest few
