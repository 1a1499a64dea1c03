use Rattle.std.proofs.Common.{inl, inr, refl}
use Rattle.psg_lsp.proofs.ending.read_ending.Goals as goal

pub returns-in-Failed : goal.returns-in-Failed
returns-in-Failed c = inr refl

pub returns-in-Memory : goal.returns-in-Memory
returns-in-Memory c = inl tt
