use Rattle.std.proofs.Common.{◌≡◌, ◌+◌, length, arith}
use Rattle.psg_canvas.proofs.SketchLaws.{joined_set}
use Rattle.psg_canvas.proofs.sketch.join.Goals as goal

pub returns-clause-joined : goal.returns-clause-joined
returns-clause-joined c =
    let long : length c.args.row.now.items ≡ c.in-Some.last + 1 = omega (arith, c.in-Some.ensures, c.len.ensures, c.args.row.now.ok.0) in
    joined_set c.args.mark c.in-Some.last c.args.row.now.items c.index_mut.result.now c.join.new.self long c.index_mut.ensures.value
    c.in_ok-join.ensures.text c.in_ok-join.ensures.style
