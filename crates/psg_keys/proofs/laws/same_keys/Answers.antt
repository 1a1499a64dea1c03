use Rattle.psg_keys.proofs.CutLaws.{same_cuts}
use Rattle.psg_keys.proofs.laws.same_keys.Goals as goal

pub returns-clause-keys : goal.returns-clause-keys
returns-clause-keys c = λ pieces others given told new last ends ends_2 same has has_2.
    (same_cuts pieces others given told new last ends ends_2 same has has_2).0

pub returns-clause-waiting : goal.returns-clause-waiting
returns-clause-waiting c = λ pieces others given told new last ends ends_2 same has has_2.
    (same_cuts pieces others given told new last ends ends_2 same has has_2).1
