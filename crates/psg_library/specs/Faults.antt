-- What the faults of a text's tokens and of their tree are here.
use Rattle.psg_lexis.specs.declared.token.LexFault.{LexFault}
use Rattle.psg_lexis.specs.declared.token.LexFault.TheVariants as lexical
use Rattle.psg_parse.specs.declared.fault.ParseFault.{ParseFault}
use Rattle.psg_parse.specs.declared.fault.ParseFault.TheVariants as parsing
use Rattle.psg_library.specs.declared.fragment.KeptFault.{KeptFault}
use Rattle.psg_library.specs.declared.fragment.KeptFault.TheVariants as faults

-- a fault of the tokens, as one of a kept fragment
abbrev pub of_tokens : LexFault → KeptFault
of_tokens (lexical.BadChar n) = faults.NoTokens
of_tokens (lexical.BadRun n) = faults.NoTokens
of_tokens (lexical.Unended n) = faults.NoTokens
of_tokens (lexical.TooLarge n) = faults.NoTokens
of_tokens lexical.Memory = faults.Memory

-- a fault of the tree, as one of a kept fragment
abbrev pub of_tree : ParseFault → KeptFault
of_tree parsing.NoTree = faults.NoTree
of_tree parsing.Deep = faults.Deep
of_tree parsing.Memory = faults.Memory
