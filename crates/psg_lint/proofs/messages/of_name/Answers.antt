use Rattle.std.proofs.Common.{sym, ◌∙◌}
use Rattle.std.specs.Prelude.{string_bytes}
use Rattle.psg_lint.specs.Blamed.{of_declared, of_used}
use Rattle.psg_lint.proofs.MessageLaws.{name_is, named_so}
use Rattle.psg_lint.proofs.messages.of_name.Goals as goal

pub unreachable-requires : goal.unreachable-requires
unreachable-requires g c = name_is c.args.wrong c.requires.wrong c.args.number c.args.path.now c.args.name c.requires.place c.in_ok-found.found c.in_ok-found.ensures c.in_default.is

pub returns-then-own : goal.returns-then-own
returns-then-own g c = λ r spots.
    of_declared c.args.path.now c.args.name c.in-Some.own.name (string_bytes c.in_ok-told.told)
    (named_so c.in-Some.own _ _ (sym c.in_ok-found.ensures ∙ c.in-Some.is) c.if-own.true) (c.in_ok-told.ensures r spots)

pub returns : goal.returns
returns g c = λ r spots.
    of_used c.args.path.now c.args.name c.in-Some.own.name (string_bytes c.in_ok-message.message)
    (named_so c.in-Some.own _ _ (sym c.in_ok-found.ensures ∙ c.in-Some.is) c.if-own.false)
    (c.in_ok-message.ensures r spots)
