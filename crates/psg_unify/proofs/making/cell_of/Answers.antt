use Rattle.std.proofs.Common.{arith}
use Rattle.psg_terms.proofs.Knowing.{place-within}
use Rattle.psg_terms.specs.Renaming.{keys}
use Rattle.psg_unify.proofs.making.cell_of.Goals as goal

pub overflow_add-result : goal.overflow_add-result
overflow_add-result c =
    let l = place-within (c.args.sort.0, c.args.number) (keys c.args.known.now.keys) c.requires.known in
    let e = c.in-Some.ensures.1 in
    let r = c.requires.room in
    omega (arith, l, e, r)

pub returns : goal.returns
returns c = (let e = c.in-Some.ensures.1 in omega (arith, e))
