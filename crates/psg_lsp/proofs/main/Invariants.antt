use Rattle.psg_lsp.proofs.main.Given as goal

abbrev pub ghosts-answer : goal.ghosts-answer
ghosts-answer a = record { name = a.ledger.name; parts = a.ledger.parts }
