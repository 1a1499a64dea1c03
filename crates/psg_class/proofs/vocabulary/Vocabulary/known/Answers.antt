use Rattle.std.proofs.Common.{ap, sym, ◌∙◌, true≢false}
use Rattle.std.specs.Prelude.{is_some}
use Rattle.psg_class.proofs.WordLaws.{number_found}
use Rattle.psg_class.proofs.vocabulary.Vocabulary.known.Goals as goal

pub returns-in-None : goal.returns-in-None
returns-in-None c =
    absurd (true≢false (sym (number_found c.args.self.now.base c.args.self.now.words.items c.args.word.now ∙ c.requires.among) ∙ ap is_some (sym c.number.ensures ∙ c.in-None.is)))
