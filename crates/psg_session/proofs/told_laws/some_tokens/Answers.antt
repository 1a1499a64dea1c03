use Rattle.psg_grammar.specs.WellFormed.{fixed_words}
use Rattle.psg_textedit.proofs.Lexed.{lexed}
use Rattle.psg_session.proofs.told_laws.some_tokens.Goals as goal

pub returns : goal.returns
returns c = lexed (fixed_words c.args.definition.now)
