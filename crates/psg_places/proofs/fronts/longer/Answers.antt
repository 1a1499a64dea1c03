use Rattle.std.proofs.Common.{arith, sym, ap, ◌∙◌}
use Rattle.psg_places.specs.NewNames.{beginning}
use Rattle.psg_places.proofs.FrontLaws.{by_a, by_b}
use Rattle.psg_places.proofs.fronts.longer.Goals as goal

pub returns-then-by_a-by_b : goal.returns-then-by_a-by_b
returns-then-by_a-by_b c =
    let a = c.in_ok-by_a.ensures in
    let b = c.in_ok-by_b.ensures in
    by_a c.args.names.now c.args.front.now _ _ _ _ a.letters b.letters
    (a.left ∙ ap (λ n. beginning n c.args.names.now) (sym a.letters))
    (b.left ∙ ap (λ n. beginning n c.args.names.now) (sym b.letters)) (omega (arith, c.if-by_a-by_b.true))

pub returns : goal.returns
returns c =
    let a = c.in_ok-by_a.ensures in
    let b = c.in_ok-by_b.ensures in
    by_b c.args.names.now c.args.front.now _ _ _ _ b.letters a.letters
    (b.left ∙ ap (λ n. beginning n c.args.names.now) (sym b.letters))
    (a.left ∙ ap (λ n. beginning n c.args.names.now) (sym a.letters)) (omega (arith, c.if-by_a-by_b.false))
