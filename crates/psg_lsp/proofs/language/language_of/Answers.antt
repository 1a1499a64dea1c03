use Rattle.std.proofs.Common.{sym, subst}
use Rattle.psg_defcomment.specs.Reading.{IsCommentOf}
use Rattle.psg_grammar.specs.WellFormed.{fixed_words}
use Rattle.psg_grammar.specs.declared.types.Definition.{Definition}
use Rattle.psg_lsp.proofs.language.language_of.Goals as goal

pub returns-in-Ok-accept : goal.returns-in-Ok-accept
returns-in-Ok-accept c =
    subst (λ (d : Definition). IsCommentOf (fixed_words d) c.in-Ok.file.comment) (sym c.in-Ok-accept.ensures.language)
    c.in-Ok.ensures.fit
