use Rattle.std.proofs.Common.{refl}
use Rattle.psg_messages.proofs.laws.messages_come_back.Goals as goal

pub returns-clause-answers : goal.returns-clause-answers
returns-clause-answers c = λ id value. refl

pub returns-clause-refusals : goal.returns-clause-refusals
returns-clause-refusals c = λ id fault message. refl

pub returns-clause-notes : goal.returns-clause-notes
returns-clause-notes c = λ method members. refl
