use Rattle.std.proofs.Common.{refl, sym, ◌∙◌, ap}
use Rattle.psg_server.specs.Answering.{sent}
use Rattle.psg_server.specs.Kept.{is_closed, was_closed}
use Rattle.psg_server.specs.Documents.{document_at}
use Rattle.psg_server.proofs.ServeLaws.{none_of, some_of}
use Rattle.psg_server.proofs.server.Server.close_at.Goals as goal

pub returns-then-not-has-clause-closed : goal.returns-then-not-has-clause-closed
returns-then-not-has-clause-closed c =
    was_closed (none_of (document_at c.args.address.now c.args.self.now.documents) (sym c.has.ensures ∙ c.if-not-has.true)) refl refl

pub returns-clause-closed : goal.returns-clause-closed
returns-clause-closed c =
    let there = some_of (document_at c.args.address.now c.args.self.now.documents) (sym c.has.ensures ∙ c.if-not-has.false) in
    is_closed there.0 there.1 c.close.ensures refl refl (ap sent c.in_ok-value.ensures)
