-- The documents that a client has open. Of each there is its address, its version, and its text where it is known.
use Rattle.std.specs.Prelude.{ℕ, ◌≡◌, Bool, List, [], ◌∷◌, Option, Some, None}
use Rattle.std.specs.List.{find}
use Rattle.std.specs.Str.{bytes_eq}
use Rattle.psg_server.specs.declared.documents.Document.{Document}

-- the document has this address
abbrev pub is_at : List ℕ → Document → Bool
is_at address d = bytes_eq d.address address

-- the document with the address
abbrev pub document_at : List ℕ → List Document → Option Document
document_at address documents = find (is_at address) documents

-- no two documents have one address
abbrev pub AreApart : List Document → Type 0
AreApart [] = Unit {0}
AreApart (d ∷ documents) = (document_at d.address documents ≡ None) × AreApart documents

-- At the address is now this document, or none. At each other address is what was there before, and no older document
-- is kept: no two have one address where none had it.
pub record Becomes (address : List ℕ) (d : Option Document) (old new : List Document) : Type 0 where
  pub here : document_at address new ≡ d
  pub others : (other : List ℕ) → (other ≡ address → ⊥) → document_at other new ≡ document_at other old
  pub apart : AreApart old → AreApart new
