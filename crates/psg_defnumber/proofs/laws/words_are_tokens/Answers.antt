use Rattle.psg_defnumber.proofs.TokenWords.{token-words}
use Rattle.psg_defnumber.proofs.laws.words_are_tokens.Goals as goal

pub returns : goal.returns
returns c = token-words
