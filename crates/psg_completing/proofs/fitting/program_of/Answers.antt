use Rattle.psg_class.specs.Texts.{TextTokens}
use Rattle.psg_completing.proofs.Fits.{as_read, none_read_as}
use Rattle.psg_pointing.proofs.Walks.{none_in, some_in}
use Rattle.psg_completing.proofs.fitting.program_of.Goals as goal

pub returns-in_ok-program-in-Some-clause-some : goal.returns-in_ok-program-in-Some-clause-some
returns-in_ok-program-in-Some-clause-some g c =
    as_read c.args.language.now c.class_of.ensures c.args.kind c.args.text.now c.in-Some.tokens
    (some_in (λ ts. TextTokens c.args.language.now c.args.text.now ts.items) c.in_ok-found.found c.in-Some.tokens
    c.in-Some.is c.in_ok-found.ensures.some)
    c.in_ok-program-in-Some.program c.in_ok-program-in-Some.ensures.some

pub returns-in_ok-program-in-Some-clause-none : goal.returns-in_ok-program-in-Some-clause-none
returns-in_ok-program-in-Some-clause-none g c =
    none_read_as c.args.language.now c.class_of.ensures c.args.kind c.args.text.now c.in-Some.tokens.items
    (some_in (λ ts. TextTokens c.args.language.now c.args.text.now ts.items) c.in_ok-found.found c.in-Some.tokens
    c.in-Some.is c.in_ok-found.ensures.some)
    c.in_ok-program-in-Some.program c.in_ok-program-in-Some.ensures.none

pub returns-in-None-clause-none : goal.returns-in-None-clause-none
returns-in-None-clause-none g c = λ f p.
    none_in _ c.in_ok-found.found c.in-None.is c.in_ok-found.ensures.none p.reads.tokens p.reads.are
