-- Rows with their texts.
use Rattle.std.specs.Prelude.{◌≡◌, List, map, string_bytes}
use Rattle.psg_terms.specs.Terms.{Term}
use Rattle.psg_terms.specs.Signature.{Signature}
use Rattle.psg_terms.specs.Relations.{IsIn}
use Rattle.psg_terms.specs.Text.{row_text}
use Rattle.psg_relation.specs.declared.order.Printed.{Printed}

-- the rows, without their texts
abbrev pub rows_in : List Printed → List (List Term)
rows_in printed = map (λ (p : Printed). p.row) printed

-- the text beside each row is the row's
abbrev pub AreTexts : Signature → List Printed → Type 0
AreTexts sig printed = (p : Printed) → IsIn p printed → string_bytes p.text ≡ row_text sig p.row
