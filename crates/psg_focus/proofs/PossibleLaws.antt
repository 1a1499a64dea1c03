-- The terms that are shown as values in legal completions.
use Rattle.std.proofs.Common.{◌↔◌, List, [], ◌∷◌, subst}
use Rattle.std.specs.Prelude.{IfOk, Result, Ok, Err, Vec}
use Rattle.std.specs.declared.alloc.Global.{Global}
use Rattle.psg_terms.specs.Instances.{IsGroundInstance}
use Rattle.psg_terms.specs.Terms.{Term}
use Rattle.psg_terms.specs.Relations.{IsIn}
use Rattle.psg_grammar.specs.declared.types.Definition.{Definition}
use Rattle.psg_grammar.specs.declared.types.Kind.{Kind}
use Rattle.psg_grammar.specs.Fragments.{Fragment}
use Rattle.psg_grammar.specs.Legal.{IsPossibleAt}
use Rattle.psg_grammar.specs.Paths.{Path}
use Rattle.psg_grammar.specs.Sound.{IsSound}
use Rattle.psg_grammar.specs.WellFormed.{WellFormed}
use Rattle.psg_completions.specs.Conditions.{HasTrueRows}
use Rattle.psg_completions.proofs.Relating.{shown_by_rows}
use Rattle.psg_relation.proofs.Members.{in-map, map-in}
use Rattle.psg_eval.specs.declared.frame.Frame.{Frame}
use Rattle.psg_eval.specs.declared.summary.SummaryParts.{SummaryParts}
use Rattle.psg_eval.specs.declared.question.FocusFault.{FocusFault}
use Rattle.psg_eval.specs.Frames.{StandFor}
use Rattle.psg_eval.specs.Summaries.{IsSummaryOf}
use Rattle.psg_eval.proofs.FrameLaws.{stands-node}
use Rattle.psg_focus.specs.Shown.{IsOfSome, rows_of}
use Rattle.psg_focus.proofs.ShownLaws.{ShowsAll}

module _ (def : Definition) where
  -- rows of one term have the values of the terms
  pub some_row : (terms : List Term) (u : Term) → IsOfSome def terms u ↔ ((row : List Term) × IsIn row (rows_of terms) × IsGroundInstance def.signature row (u ∷ []))
  some_row terms u = (
    λ (t, i, g). (t ∷ [], in-map (λ x. x ∷ []) t terms i, g),
    λ (row, i, g). let (t, there, e) = map-in (λ x. x ∷ []) row terms i in (t, there, subst (λ r. IsGroundInstance def.signature r (u ∷ [])) e g),
  )

  module _ (sound : IsSound def) (around : List Frame) (own : SummaryParts) where
    abbrev pub ArePossible : Vec Term Global → Type 0
    ArePossible terms = (f node : Fragment) (path : Path) (kind : Kind) → WellFormed def f kind → StandFor def around path f node → IsSummaryOf def node own
        → (u : Term) → IsOfSome def terms.items u ↔ IsPossibleAt def f path u

    pub possible : (result : Result (Vec Term Global) FocusFault) → ShowsAll def sound around own result → HasTrueRows def → IfOk result ArePossible
    possible (Ok terms) shows true_rows = λ f node path kind formed stand of u.
        let (there, back) = shown_by_rows def sound true_rows f kind formed path node (stands-node def around path f node stand) (rows_of terms.items) (shows f node path stand of).0 u in
        let (to, from) = some_row terms.items u in
        (λ h. there (to h), λ p. from (back p))
    possible (Err fault) shows true_rows = tt
