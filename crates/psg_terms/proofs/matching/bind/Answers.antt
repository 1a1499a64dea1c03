use Rattle.psg_terms.proofs.matching.bind.Goals as goal

pub returns : goal.returns
returns c = λ s n. c.in_ok-insert.ensures.updates.0 (record { sort = record { 0 = s }; number = n })
