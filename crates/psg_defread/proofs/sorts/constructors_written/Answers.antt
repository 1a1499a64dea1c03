use Rattle.std.proofs.Common.{arith}
use Rattle.psg_defread.proofs.SortLaws.{constructor-inside, constructors-are}
use Rattle.psg_defread.proofs.sorts.constructors_written.Goals as goal

pub constructor_written-requires : goal.constructor_written-requires
constructor_written-requires c =
    constructor-inside c.args.definition.now.signature.symbols c.args.sort.0 c.constructors_of-ids.result.now c.loop-i.i
    _ c.constructors_of-ids.ensures c.loop-i-test.true

pub returns : goal.returns
returns c =
    constructors-are c.args.definition.now c.args.sort.0 c.constructors_of-ids.result.now c.loop-i.i c.loop-i.written.items
    c.constructors_of-ids.ensures (omega (arith, c.loop-i-test.false)) c.loop-i.invariant
