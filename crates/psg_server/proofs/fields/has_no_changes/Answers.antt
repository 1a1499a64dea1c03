use Rattle.std.proofs.Common.{Option, sym, ◌∙◌, ap}
use Rattle.std.specs.Option.{option_map}
use Rattle.serde_json.specs.Data.{Items}
use Rattle.serde_json.specs.View.{items_view}
use Rattle.psg_server.specs.Fields.{is_empty}
use Rattle.psg_server.proofs.FieldLaws.{no_items_is}
use Rattle.psg_server.proofs.fields.has_no_changes.Goals as goal

pub returns-in-Some : goal.returns-in-Some
returns-in-Some c =
    c.is_empty.ensures ∙ no_items_is c.in-Some.changes.now
    ∙ ap (λ (o : Option Items). is_empty o) (sym (ap (λ o. option_map (λ v. items_view v.now) o) c.in-Some.is) ∙ c.changes_in.ensures)
