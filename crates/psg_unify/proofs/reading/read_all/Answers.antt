use Rattle.psg_unify.proofs.reading.read_all.Goals as goal

pub loop-id-init : goal.loop-id-init
loop-id-init c = (λ read r final i. i, λ cells r. r)
