use Rattle.psg_unify.proofs.numbering.number_all.Goals as goal

pub loop-id-init : goal.loop-id-init
loop-id-init c = (λ read r i. i, λ cells r. r)
