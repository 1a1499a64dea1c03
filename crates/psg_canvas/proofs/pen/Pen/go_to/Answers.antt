use Rattle.std.proofs.Common.{◌+◌, ◌<◌, ◌≤◌, ◌/◌, ◌^◌, arith, rules}
use Rattle.std.proofs.Math.Nat.{div-le_self}
use Rattle.psg_canvas.proofs.pen.Pen.go_to.Goals as goal

pub overflow_add-place : goal.overflow_add-place
overflow_add-place c =
    let le : c.args.place / c.args.self.now.cols ≤ c.args.place = div-le_self c.args.place c.args.self.now.cols in
    let small : c.args.place / c.args.self.now.cols + 1 < 2 ^ 64 = omega (arith, le, c.requires.place) in
    search (rules, small)
