use Rattle.std.proofs.Common.{◌+◌, ℕ, sym, subst, arith}
use Rattle.std.proofs.lemmas.Option.{slice_get_within}
use Rattle.psg_server.proofs.EditLaws.{IsSame, front_is, same_start, same_step}
use Rattle.psg_server.proofs.edits.same_front.Goals as goal

pub same-init : goal.same-init
same-init c = same_start c.args.text.now c.args.wanted.now

pub same-smaller : goal.same-smaller
same-smaller c =
    let lt = slice_get_within c.args.text.now c.same.place c.in-Some.byte c.in-Some.ensures.text in
    omega (arith, lt)

pub same-preserved : goal.same-preserved
same-preserved c =
    subst (λ (n : ℕ). IsSame c.args.text.now c.args.wanted.now n (c.same.place + 1)) (sym c.start_after-start.ensures)
    (same_step c.args.text.now c.args.wanted.now c.same.start c.same.place c.in-Some.byte c.in-Some.ensures.text
    c.in-Some.ensures.wanted c.same.invariant)

pub returns : goal.returns
returns c =
    front_is c.args.text.now c.args.wanted.now c.same.start c.same.place c.same.invariant
    (c.common_byte.ensures.none c.in_default.is)
