use Rattle.psg_terms.proofs.Lists.{got_none, got_some}
use Rattle.psg_explain.proofs.ApplyingLaws.{found_flip, found_part, found_put, no_flip, no_part}
use Rattle.psg_explain.proofs.applying.given_by.Goals as goal

pub returns-in_ok-found-in-Some-get : goal.returns-in_ok-found-in-Some-get
returns-in_ok-found-in-Some-get c =
    found_part c.args.given.now c.args.before.now c.args.rule c.in-Part.n c.in-Part.k c.in-Part.is c.in-Some-get.equation.now
    (got_some c.args.before.now c.in-Part.n c.get-in-Part.result c.in-Some-get.equation c.get-in-Part.ensures.lookup c.in-Some-get.is) c.in_ok-found-in-Some-get.found c.in_ok-found-in-Some-get.ensures

pub returns-in-None-get : goal.returns-in-None-get
returns-in-None-get c =
    no_part c.args.given.now c.args.before.now c.args.rule c.in-Part.n c.in-Part.k c.in-Part.is
    (got_none c.args.before.now c.in-Part.n c.get-in-Part.result c.get-in-Part.ensures.lookup c.in-None-get.is)

pub returns-in_ok-two-in-Some-get-2 : goal.returns-in_ok-two-in-Some-get-2
returns-in_ok-two-in-Some-get-2 c =
    found_flip c.args.given.now c.args.before.now c.args.rule c.in-Flip.n c.in-Flip.is c.in-Some-get-2.equation.now
    (got_some c.args.before.now c.in-Flip.n c.get-in-Flip.result c.in-Some-get-2.equation c.get-in-Flip.ensures.lookup c.in-Some-get-2.is)
    c.in_ok-one-in-Some-get-2.one c.in_ok-two-in-Some-get-2.two c.in_ok-one-in-Some-get-2.ensures c.in_ok-two-in-Some-get-2.ensures

pub returns-in-None-get-2 : goal.returns-in-None-get-2
returns-in-None-get-2 c =
    no_flip c.args.given.now c.args.before.now c.args.rule c.in-Flip.n c.in-Flip.is
    (got_none c.args.before.now c.in-Flip.n c.get-in-Flip.result c.get-in-Flip.ensures.lookup c.in-None-get-2.is)

pub returns-in_ok-made-in-Replace : goal.returns-in_ok-made-in-Replace
returns-in_ok-made-in-Replace c =
    found_put c.args.given.now c.args.before.now c.args.rule c.in-Replace.n c.in-Replace.m c.in-Replace.is c.if-n-m.false c.in-Some-get-3.whole.now c.in-Some-get-4.binding.now
    (got_some c.args.before.now c.in-Replace.n c.get-in-Replace.result c.in-Some-get-3.whole c.get-in-Replace.ensures.lookup c.in-Some-get-3.is)
    (got_some c.args.before.now c.in-Replace.m c.get-in-Replace-2.result c.in-Some-get-4.binding c.get-in-Replace-2.ensures.lookup c.in-Some-get-4.is)
    (c.in-Some-variable_of.variable.sort.0, c.in-Some-variable_of.variable.number) c.in-Some-variable_of.ensures c.in_ok-made-in-Replace.made c.in_ok-made-in-Replace.ensures
