use Rattle.psg_protocol.proofs.FramedLaws.{framed_at}
use Rattle.psg_protocol.proofs.reader.framed.Goals as goal

pub returns-clause-reads : goal.returns-clause-reads
returns-clause-reads c = λ few. framed_at c.in_ok-all.all.items c.args.message.now c.in_ok-all.ensures few
