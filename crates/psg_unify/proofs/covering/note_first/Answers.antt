use Rattle.psg_unify.proofs.covering.note_first.Goals as goal

pub returns : goal.returns
returns c = λ s n. c.in_ok-insert.ensures.updates.0 (record { sort = record { 0 = s }; number = n })
