use Rattle.psg_face.proofs.LeadLaws.{child_leads, next_leads, previous_leads, parent_leads, far_leads}
use Rattle.psg_face.proofs.laws.moves_lead.Goals as goal

pub returns-clause-child : goal.returns-clause-child
returns-clause-child c = λ f path h. child_leads f path h

pub returns-clause-next : goal.returns-clause-next
returns-clause-next c = λ f path h. next_leads f path h

pub returns-clause-previous : goal.returns-clause-previous
returns-clause-previous c = λ f path h. previous_leads f path h

pub returns-clause-parent : goal.returns-clause-parent
returns-clause-parent c = λ f path h. parent_leads f path h

pub returns-clause-far : goal.returns-clause-far
returns-clause-far c = λ f path. far_leads f path
