use Rattle.std.proofs.Common.{arith}
use Rattle.psg_completing.proofs.Arounds.{words_before}
use Rattle.psg_completing.proofs.around.run_start.Goals as goal

pub bytes-preserved : goal.bytes-preserved
bytes-preserved c =
    let (e, is) = c.in-Some.ensures.some in
    let (le, words) = c.bytes.invariant in
    (omega (arith, e, le), words_before c.args.text.now c.in-Some.last c.bytes.from c.args.place e is words)
