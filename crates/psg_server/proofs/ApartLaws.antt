-- A document that a message does not name is the same after it.
use Rattle.std.proofs.Common.{◌≡◌, ℕ, ℤ, List, Option, Some, None, refl, sym, ◌∙◌, ap}
use Rattle.std.proofs.lemmas.Option.{none-some}
use Rattle.psg_documents.specs.declared.encoding.Encoding.{Encoding}
use Rattle.psg_grammar.specs.declared.types.Kind.{Kind}
use Rattle.psg_messages.specs.Messages.{Said}
use Rattle.psg_server.specs.declared.documents.Document.{Document}
use Rattle.psg_server.specs.declared.judging.Defined.{Defined}
use Rattle.psg_server.specs.declared.server.Server.{Server}
use Rattle.psg_server.specs.Answering.{completes, completes_none, asks, asks_none, names, names_none, names_not}
use Rattle.psg_server.specs.Answering.{Gets, Out, Serves, changes, changes_none, closes, closes_none, exits, formats, formats_none, greets, hovers, hovers_none, is_passed, is_refused, is_served, open_at, opens, opens_none, shuts_down}
use Rattle.psg_server.specs.Apart.{KeepsApart, KeepsOthers, named_by}
use Rattle.psg_server.specs.Documents.{AreApart, document_at, is_at}
use Rattle.psg_server.specs.Fields.{address_in, document_by}
use Rattle.psg_server.proofs.DocumentLaws.{found_is, has_address}

-- the document has the address that is given
pub addressed : (address : Option (List ℕ)) (version : Option ℤ) (text : Option (List ℕ)) (d : Document)
    → document_by address version text ≡ Some d → address ≡ Some d.address
addressed None version text d e = absurd cc
addressed (Some address) None text d e = absurd cc
addressed (Some address) (Some version) None d e = absurd cc
addressed (Some address) (Some version) (Some text) d e =
    ap (λ (o : Option Document). address_of o) e where
      address_of : Option Document → Option (List ℕ)
      address_of None = None
      address_of (Some x) = Some x.address

-- a document that is found has the address that it is looked for at
pub named : (address : Option (List ℕ)) (documents : List Document) (d : Document) → open_at address documents ≡ Some d
    → address ≡ Some d.address
named None documents d e = absurd (none-some d e)
named (Some a) documents d e = ap (λ (b : List ℕ). Some b) (sym (has_address a d (found_is (is_at a) documents d e)))

module _ (def : Defined) (kind : Kind) where
  served : (s : Said) (old : Server) (encoding : Encoding) (documents : List Document) (out : Out) (address : List ℕ)
      → Serves def kind old s encoding documents out → (named_by s ≡ Some address → ⊥)
      → document_at address documents ≡ document_at address old.documents
  served _ old encoding documents out address (greets id method given is) apart = refl
  served _ old encoding documents out address (shuts_down id method given is) apart = refl
  served _ old encoding documents out address (formats id method given d edits is there so) apart = refl
  served _ old encoding documents out address (formats_none id method given is none) apart = refl
  served _ old encoding documents out address (hovers id method given p told is there so) apart = refl
  served _ old encoding documents out address (hovers_none id method given is none) apart = refl
  served _ old encoding documents out address (completes id method given p told is there so) apart = refl
  served _ old encoding documents out address (completes_none id method given is none) apart = refl
  served _ old encoding documents out address (asks id method given p ask value is there so) apart = refl
  served _ old encoding documents out address (asks_none id method given ask is none) apart = refl
  served _ old encoding documents out address (names id method given d r value is there says so) apart = refl
  served _ old encoding documents out address (names_not id method given d r why is there says so) apart = refl
  served _ old encoding documents out address (names_none id method given is none) apart = refl
  served _ old encoding documents out address (opens method given d new told is says becomes published) apart =
      becomes.others address (λ e. apart (addressed (address_in given) _ _ d says ∙ ap (λ (a : List ℕ). Some a) (sym e)))
  served _ old encoding documents out address (opens_none method given is says) apart = refl
  served _ old encoding documents out address (changes method given before new told is there becomes published) apart =
      becomes.others address
      (λ e. apart (named (address_in given) old.documents before there ∙ ap (λ (a : List ℕ). Some a) (sym e)))
  served _ old encoding documents out address (changes_none method given is none) apart = refl
  served _ old encoding documents out address (closes method own given d new is says there becomes) apart =
      becomes.others address (λ e. apart (says ∙ ap (λ (a : List ℕ). Some a) (sym e)))
  served _ old encoding documents out address (closes_none method given is says) apart = refl
  served _ old encoding documents out address (exits method given is) apart = refl

  pub others_kept : KeepsOthers def kind
  others_kept s old new out address (is_passed is) apart = refl
  others_kept s old new out address (is_refused id fault is) apart = refl
  others_kept s old _ _ address (is_served encoding documents out is so) apart =
      served s old encoding documents out address so apart

  stays : (s : Said) (old : Server) (encoding : Encoding) (documents : List Document) (out : Out)
      → Serves def kind old s encoding documents out → AreApart old.documents → AreApart documents
  stays _ old encoding documents out (greets id method given is) ok = ok
  stays _ old encoding documents out (shuts_down id method given is) ok = ok
  stays _ old encoding documents out (formats id method given d edits is there so) ok = ok
  stays _ old encoding documents out (formats_none id method given is none) ok = ok
  stays _ old encoding documents out (hovers id method given p told is there so) ok = ok
  stays _ old encoding documents out (hovers_none id method given is none) ok = ok
  stays _ old encoding documents out (completes id method given p told is there so) ok = ok
  stays _ old encoding documents out (completes_none id method given is none) ok = ok
  stays _ old encoding documents out (asks id method given p ask value is there so) ok = ok
  stays _ old encoding documents out (asks_none id method given ask is none) ok = ok
  stays _ old encoding documents out (names id method given d r value is there says so) ok = ok
  stays _ old encoding documents out (names_not id method given d r why is there says so) ok = ok
  stays _ old encoding documents out (names_none id method given is none) ok = ok
  stays _ old encoding documents out (opens method given d new told is says becomes published) ok = becomes.apart ok
  stays _ old encoding documents out (opens_none method given is says) ok = ok
  stays _ old encoding documents out (changes method given before new told is there becomes published) ok = becomes.apart ok
  stays _ old encoding documents out (changes_none method given is none) ok = ok
  stays _ old encoding documents out (closes method own given d new is says there becomes) ok = becomes.apart ok
  stays _ old encoding documents out (closes_none method given is says) ok = ok
  stays _ old encoding documents out (exits method given is) ok = ok

  pub apart_kept : KeepsApart def kind
  apart_kept s old new out (is_passed is) ok = ok
  apart_kept s old new out (is_refused id fault is) ok = ok
  apart_kept s old _ _ (is_served encoding documents out is so) ok = stays s old encoding documents out so ok
