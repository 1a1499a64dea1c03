use Rattle.psg_protocol.proofs.TextLaws.{front_all}
use Rattle.psg_protocol.proofs.headers.first_bytes.Goals as goal

pub returns-then-bytes-le-MOST_BYTES-clause-front : goal.returns-then-bytes-le-MOST_BYTES-clause-front
returns-then-bytes-le-MOST_BYTES-clause-front c = front_all 4096 c.args.bytes.now c.if-bytes-le-MOST_BYTES.true
