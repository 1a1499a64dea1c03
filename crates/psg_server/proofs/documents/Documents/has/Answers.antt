use Rattle.std.proofs.Common.{Option, sym, ◌∙◌, ap}
use Rattle.std.specs.Prelude.{is_some}
use Rattle.std.specs.Option.{option_map}
use Rattle.psg_server.specs.declared.documents.Document.{Document}
use Rattle.psg_server.proofs.documents.Documents.has.Goals as goal

pub returns-in-Some : goal.returns-in-Some
returns-in-Some c =
    ap (λ (o : Option Document). is_some o) (sym (ap (λ o. option_map (λ d. d.now) o) c.in-Some.is) ∙ c.at.ensures)

pub returns-in-None : goal.returns-in-None
returns-in-None c =
    ap (λ (o : Option Document). is_some o) (sym (ap (λ o. option_map (λ d. d.now) o) c.in-None.is) ∙ c.at.ensures)
