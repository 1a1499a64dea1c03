-- A document that a message does not name is the same after it, and no two documents have one address.
use Rattle.std.specs.Prelude.{ℕ, ◌≡◌, List, Option, Some, None}
use Rattle.psg_grammar.specs.declared.types.Kind.{Kind}
use Rattle.psg_messages.specs.Messages.{Said, answer, note, request, wrong}
use Rattle.psg_server.specs.declared.judging.Defined.{Defined}
use Rattle.psg_server.specs.declared.server.Server.{Server}
use Rattle.psg_server.specs.Answering.{Gets, Out}
use Rattle.psg_server.specs.Documents.{AreApart, document_at}
use Rattle.psg_server.specs.Fields.{address_in}

-- the address of the document that the message names
abbrev pub named_by : Said → Option (List ℕ)
named_by (request id method given) = address_in given
named_by (note method given) = address_in given
named_by answer = None
named_by (wrong id) = None

abbrev pub KeepsOthers : Defined → Kind → Type 0
KeepsOthers def kind = (s : Said) (old new : Server) (out : Out) (address : List ℕ) → Gets def kind old s new out
    → (named_by s ≡ Some address → ⊥) → document_at address new.documents ≡ document_at address old.documents

abbrev pub KeepsApart : Defined → Kind → Type 0
KeepsApart def kind = (s : Said) (old new : Server) (out : Out) → Gets def kind old s new out → AreApart old.documents
    → AreApart new.documents
