-- What reads a text, as the program keeps it.
use Rattle.std.specs.Prelude.{ℕ, ◌≡◌, List, map, Option, Some, None, Vec, slice_get}
use Rattle.std.specs.declared.alloc.Global.{Global}
use Rattle.psg_grammar.specs.declared.types.Definition.{Definition}
use Rattle.psg_grammar.specs.declared.types.Phylum.{Phylum}
use Rattle.psg_grammar.specs.Kinds.{HasKind}
use Rattle.psg_class.specs.Class.{IsClass}
use Rattle.psg_class.specs.Terminals.{Token}
use Rattle.psg_class.specs.Texts.{TextTokens}
use Rattle.psg_lexis.specs.declared.token.Spanned.{Spanned}
use Rattle.psg_parse.specs.Tables.{IsParseTable}
use Rattle.psg_stop.specs.Accepted.{CanEnd}
use Rattle.psg_recover.specs.declared.candidates.Reader.{Reader}
use Rattle.psg_recover.specs.declared.candidates.Resumption.{Resumption}
use Rattle.psg_recover.specs.declared.recovery.Stops.{Stops}
use Rattle.psg_recover.specs.Grammars.{quiet}
use Rattle.psg_known.specs.Knowns.{IsKnown}
use Rattle.psg_recover.specs.Reads.{own_spanned}
use Rattle.psg_recover.specs.Recovery.{IsBest, resumed_row}

pub record IsReader (r : Reader) : Type 0 where
  pub known : IsKnown r.known
  pub grammar : r.grammar.now.definition ≡ quiet r.known.definition.now
  pub table : IsParseTable r.grammar.now.definition r.grammar.now.table
  pub class : IsClass (quiet r.known.definition.now)
  pub can_end : CanEnd (quiet r.known.definition.now)
  pub kind : HasKind r.known.definition.now r.kind

-- the tokens are those of the text as they are read
pub record IsReadText (def : Definition) (text : List ℕ) (tokens : List Spanned) : Type 0 where
  pub written : List Spanned
  pub are : TextTokens def text written
  pub read : tokens ≡ map (own_spanned def) written

pub record IsBestAt (r : Reader) (ts : List Token) (k : ℕ) (at : Resumption) : Type 0 where
  pub phylum : Phylum
  pub best : IsBest r.known.definition.now r.kind ts k at.to at.from at.phylum phylum

pub record IsReplaced (r : Reader) (ts : List Spanned) (at : Resumption) (row : List Spanned) : Type 0 where
  pub phylum : Phylum
  pub there : slice_get r.known.definition.now.phyla at.phylum ≡ Some phylum
  pub row_is : row ≡ resumed_row ts at.from at.to phylum

abbrev pub tokens_in : Option (Vec Spanned Global) → Option (List Spanned)
tokens_in None = None
tokens_in (Some row) = Some row.items

abbrev pub stops_last : Stops → Option (List Spanned)
stops_last s = tokens_in s.last
