-- What the conditions of acceptance give: true rows, and slots of phyla that declare nothing.
use Rattle.std.proofs.Common.{ℕ}
use Rattle.psg_grammar.specs.declared.types.Definition.{Definition}
use Rattle.psg_completions.specs.Conditions.{HasTrueRows}
use Rattle.psg_specimen.specs.Conditions.{IsMet, IsQuietSlot, MetUpToNarrow, MetUpToSlots}

module _ (def : Definition) (met : IsMet def) where
  first_ten : MetUpToNarrow def
  first_ten = met.0.0.0.0

  first_two : MetUpToSlots def
  first_two = first_ten.0.0.0.0.0.0.0.0

  pub quiet_slots : (o k : ℕ) → IsQuietSlot def o k
  quiet_slots = first_two.1

  pub true_rows : HasTrueRows def
  true_rows = record {
    rows = first_ten.0.0.0.0.0.0.1;
    nils = first_ten.0.0.0.0.0.1;
    cells = first_ten.0.0.0.0.1;
    cases = first_ten.0.0.0.1;
    smaller = first_ten.0.0.1.0;
    open_places = first_ten.0.1;
    general_cases = met.0.0.0.1;
    general_declares = met.0.0.0.2;
    declares = λ k d found. (met.0.0.1 k d found).once;
    declarable = met.0.1;
    clear = met.1;
  }
