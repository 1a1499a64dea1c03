-- What counts as good inside the editor.
use Rattle.psg_grammar.specs.declared.types.Definition.{Definition}
use Rattle.psg_grammar.specs.Fragments.{Fragment}
use Rattle.psg_grammar.specs.Open.{IsOpen}

-- By the open judgement, which hole rows decide. In an accepted definition's language a tree is open exactly if it has
-- a legal completion, and the promises of a session speak of completions.
abbrev pub IsGoodIn : Definition → Fragment → Type 0
IsGoodIn def f = IsOpen def f
