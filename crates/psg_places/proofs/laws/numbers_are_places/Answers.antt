use Rattle.psg_places.proofs.CountLaws.{counted}
use Rattle.psg_places.proofs.NumberedLaws.{are_numbered}
use Rattle.psg_places.proofs.OfPlacesLaws.{of_places}
use Rattle.psg_places.proofs.Whole.{whole}
use Rattle.psg_places.proofs.laws.numbers_are_places.Goals as goal

pub returns-clause-counted : goal.returns-clause-counted
returns-clause-counted c = counted c.args.definition.now

pub returns-clause-numbered : goal.returns-clause-numbered
returns-clause-numbered c = are_numbered c.args.definition.now

pub returns-clause-of_places : goal.returns-clause-of_places
returns-clause-of_places c = of_places c.args.definition.now

pub returns-clause-whole : goal.returns-clause-whole
returns-clause-whole c = whole c.args.definition.now
