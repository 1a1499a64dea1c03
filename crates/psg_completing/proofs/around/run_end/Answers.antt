use Rattle.std.proofs.Common.{arith}
use Rattle.psg_completing.proofs.Arounds.{words_behind}
use Rattle.psg_completing.proofs.around.run_end.Goals as goal

pub bytes-preserved : goal.bytes-preserved
bytes-preserved c =
    let (e, is, within) = c.in-Some.ensures.some in
    let (le, inside, words) = c.bytes.invariant in
    (omega (arith, e, le), within, words_behind c.args.text.now c.args.place c.bytes.to c.in-Some.next e is words)
