use Rattle.psg_layout.proofs.SpanLaws.{spans_are_own}
use Rattle.psg_layout.proofs.laws.spans_are_own.Goals as goal

pub returns : goal.returns
returns c = spans_are_own c.args._definition.now c.args._layout.now
