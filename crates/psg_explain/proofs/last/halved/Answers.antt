use Rattle.std.proofs.Common.{arith}
use Rattle.psg_explain.proofs.LastLaws.{span_lower, span_upper}
use Rattle.psg_explain.proofs.last.halved.Goals as goal

pub equations_before-front-requires : goal.equations_before-front-requires
equations_before-front-requires c = let within = c.requires.span.within in let wide = c.requires.wide in omega arith

pub returns-in-Some-clause-span : goal.returns-in-Some-clause-span
returns-in-Some-clause-span c =
    span_lower c.args.given.now c.args.span c.requires.span _ (let wide = c.requires.wide in omega arith) (let wide = c.requires.wide in omega arith) _ c.equations_before-front.ensures _ c.in_ok-found.ensures c.in-Some.reason c.in-Some.is

pub returns-in-None-clause-span : goal.returns-in-None-clause-span
returns-in-None-clause-span c =
    span_upper c.args.given.now c.args.span c.requires.span _ (let wide = c.requires.wide in omega arith) _ c.equations_before-front.ensures _ c.in_ok-found.ensures c.in-None.is
