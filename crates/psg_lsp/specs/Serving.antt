-- What is served: a language, whose token of comments fits its words.
use Rattle.psg_defcomment.specs.Reading.{IsCommentOf}
use Rattle.psg_grammar.specs.WellFormed.{fixed_words}
use Rattle.psg_server.specs.declared.judging.Defined.{Defined}
use Rattle.psg_lsp.specs.declared.language.Read.{Read}
use Rattle.psg_lsp.specs.declared.language.Read.TheVariants as reads

-- what is read may be served
abbrev pub IsServed : Read → Type 0
IsServed (reads.Served d) = IsCommentOf (fixed_words d.language) d.comment
IsServed (reads.Refused line) = Unit {0}
