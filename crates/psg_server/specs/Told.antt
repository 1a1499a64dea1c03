-- What a note says of a document, as a document.
use Rattle.std.specs.Prelude.{Some}
use Rattle.psg_server.specs.declared.documents.Document.{Document}
use Rattle.psg_server.specs.declared.fields.Naming.{Naming}
use Rattle.psg_server.specs.declared.fields.Told.{Told}
use Rattle.psg_server.specs.declared.server.Place.{Place as Own}
use Rattle.psg_server.specs.Answering.{Place}
use Rattle.psg_server.specs.Fields.{Renamed}

abbrev pub document_of : Told → Document
document_of told = record { address = told.address.now; version = told.version; text = Some told.text.now }

-- a position of a document, as the program keeps it
abbrev pub place_of : Own → Place
place_of p = record { document = p.document.now; position = p.position }

abbrev pub naming_of : Naming → Renamed
naming_of n = record { at = n.at; name = n.name.now }
