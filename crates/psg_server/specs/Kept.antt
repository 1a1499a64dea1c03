-- What becomes of a document that a note names.
use Rattle.std.specs.Prelude.{ℕ, ◌≡◌, List, Some, None}
use Rattle.serde_json.specs.Data.{Data}
use Rattle.psg_grammar.specs.declared.types.Kind.{Kind}
use Rattle.psg_server.specs.declared.documents.Document.{Document}
use Rattle.psg_server.specs.declared.judging.Defined.{Defined}
use Rattle.psg_server.specs.declared.server.Server.{Server}
use Rattle.psg_server.specs.Answering.{Out, sent, silent}
use Rattle.psg_server.specs.Diagnostics.{IsPublished, cleared_data}
use Rattle.psg_server.specs.Documents.{Becomes, document_at}

-- it is kept, and what is found in it is sent
pub record IsKept (def : Defined) (kind : Kind) (d : Document) (old new : Server) (out : Out) : Type 0 where
  pub becomes : Becomes d.address (Some d) old.documents new.documents
  pub encoding_is : new.encoding ≡ old.encoding
  pub phase_is : new.phase ≡ old.phase
  pub told : Data
  pub published : IsPublished def kind old.encoding d told
  pub out_is : out ≡ sent told

-- the document with the address is taken away where there is one, and else nothing changes
pub data IsClosed (address : List ℕ) (old new : Server) (out : Out) : Type 0 where
  was_closed : document_at address old.documents ≡ None → new ≡ old → out ≡ silent → IsClosed address old new out
  is_closed : (d : Document) → document_at address old.documents ≡ Some d
      → Becomes address None old.documents new.documents
      → new.encoding ≡ old.encoding → new.phase ≡ old.phase → out ≡ sent (cleared_data address)
      → IsClosed address old new out
