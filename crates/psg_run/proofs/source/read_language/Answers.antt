use Rattle.psg_run.proofs.source.read_language.Goals as goal

pub returns-in-Ok-clause-ok : goal.returns-in-Ok-clause-ok
returns-in-Ok-clause-ok g c =
    let (bytes, are, short, accepted, named) = c.in-Ok.ensures.ok in
    (bytes, are, short, accepted)
