use Rattle.std.proofs.Common.{sym, true≢false, ◌∙◌}
use Rattle.psg_class.specs.Terminals.{terminal_of}
use Rattle.psg_class.specs.Texts.{tokens_of}
use Rattle.psg_stop.specs.Wanted.{wanted_terminal, wanted_terminals}
use Rattle.psg_stop.proofs.Told.{asked_no, asked_none, asked_yes, found_none, found_some}
use Rattle.psg_stop.proofs.stopping.ask.Goals as goal

pub returns-in_default : goal.returns-in_default
returns-in_default c all b =
    asked_none c.args.definition.now c.args.goal.kind c.args.goal.least (tokens_of c.args.tokens.now) (wanted_terminal c.args.candidate.now) (wanted_terminals c.args.wanted.now.items)
    (found_none c.in_ok-found.found _ _ c.in_default.not-Some c.in_ok-found.ensures)

pub returns-then-not-goes : goal.returns-then-not-goes
returns-then-not-goes c all b =
    let seen = terminal_of c.args.definition.now c.in-Some.token in
    asked_no c.args.definition.now c.args.goal.kind c.args.goal.least (tokens_of c.args.tokens.now) (wanted_terminal c.args.candidate.now) seen (wanted_terminals c.args.wanted.now.items)
    (found_some c.in_ok-found.found c.in-Some.token _ _ c.in-Some.is c.in_ok-found.ensures) (λ g. true≢false (sym ((c.in_ok-goes.ensures all b).1 g) ∙ c.if-not-goes.true))

pub returns : goal.returns
returns c all b =
    let seen = terminal_of c.args.definition.now c.in-Some.token in
    asked_yes c.args.definition.now c.args.goal.kind c.args.goal.least (tokens_of c.args.tokens.now) (wanted_terminal c.args.candidate.now) seen c.args.wanted.now.items c.push.new.self.items c.in_ok-one.one
    (found_some c.in_ok-found.found c.in-Some.token _ _ c.in-Some.is c.in_ok-found.ensures) ((c.in_ok-goes.ensures all b).0 c.if-not-goes.false) c.in_ok-push.ensures.items c.in_ok-one.ensures
