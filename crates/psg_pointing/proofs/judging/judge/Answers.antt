use Rattle.psg_program.specs.Decoding.{unmarked}
use Rattle.psg_program.specs.Programs.{IsProgram, IsReadFrom}
use Rattle.psg_pointing.specs.Judging.{IsNoProgram, no_program, program}
use Rattle.psg_pointing.proofs.Walks.{none_in, some_in}
use Rattle.psg_pointing.proofs.judging.judge.Goals as goal

pub judged_of-requires : goal.judged_of-requires
judged_of-requires g c =
    (some_in (λ p. IsProgram c.args.language.now c.args.kind c.args.text.now p.tree) c.in_ok-found.found c.in-Some.program
    c.in-Some.is c.in_ok-found.ensures.program).is_read.formed

pub returns-in_ok-judged-in-Some : goal.returns-in_ok-judged-in-Some
returns-in_ok-judged-in-Some g c =
    let language = c.args.language.now in
    let text = c.args.text.now in
    let is = some_in (λ p. IsProgram language c.args.kind text p.tree) c.in_ok-found.found c.in-Some.program c.in-Some.is
    c.in_ok-found.ensures.program in
    let read = some_in (IsReadFrom language c.args.kind (unmarked text)) c.in_ok-found.found c.in-Some.program
    c.in-Some.is c.in_ok-found.ensures.read in
    program _ (c.in_ok-judged-in-Some.ensures.known (unmarked text) is.is_text is.is_read read)

pub returns-in-None : goal.returns-in-None
returns-in-None g c =
    no_program (none_in (IsNoProgram c.args.language.now c.args.kind c.args.text.now) c.in_ok-found.found c.in-None.is
    c.in_ok-found.ensures.none)
