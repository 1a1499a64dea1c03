use Rattle.psg_server.specs.Documents.{is_at}
use Rattle.psg_server.proofs.DocumentLaws.{within_is}
use Rattle.psg_server.proofs.documents.place_of.Goals as goal

pub returns-clause-within : goal.returns-clause-within
returns-clause-within c = within_is (is_at c.args.address.now) c.args.items.now c.first_at-found.result c.first_at-found.ensures
