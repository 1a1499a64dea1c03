-- Why the rows and pairs of rows of the step without rows make none.
use Rattle.std.specs.Prelude.{◌≡◌, ◌+◌, List, [], ◌∷◌, take, slice_get, Some, None}
use Rattle.psg_grammar.specs.declared.types.Definition.{Definition}
use Rattle.psg_grammar.specs.Fragments.{Fragment}
use Rattle.psg_grammar.specs.Paths.{node_at}
use Rattle.psg_explain.specs.declared.given.Case.{Case}
use Rattle.psg_explain.specs.declared.refutation.CaseReason.{CaseReason}
use Rattle.psg_explain.specs.declared.refutation.Refutation.{Refutation}
use Rattle.psg_explain.specs.declared.refutation.Refutation.TheVariants as refutations
use Rattle.psg_explain.specs.Reasons.{IsReason}
use Rattle.psg_explain.specs.Refutations.{ClaimTo}
use Rattle.psg_explain.specs.Walks.{At}

-- The reason of the case: the given equations before that of the number have a common solution, and with it they have
-- none.
pub record IsReasonOf (c : Case) (t : CaseReason) : Type 0 where
  pub label : t.label ≡ c.label
  pub subject : slice_get c.subjects t.number ≡ Some t.subject
  pub given : slice_get c.given t.number ≡ Some (t.left, t.right)
  pub before : IsReason (take t.number c.given) None
  pub first : IsReason (take (t.number + 1) c.given) (Some t.reason)
  pub reason : IsReason c.given (Some t.reason)

-- one for each case, in order
abbrev pub AreCaseReasons : List Case → List CaseReason → Type 0
AreCaseReasons [] told = told ≡ []
AreCaseReasons (c ∷ cases) [] = ⊥
AreCaseReasons (c ∷ cases) (t ∷ told) = IsReasonOf c t × AreCaseReasons cases told

-- The cases of the last step that the claims are of. A key that is declared twice has none.
abbrev pub AreLastReasons : Definition → Fragment → Refutation → List CaseReason → Type 0
AreLastReasons def f (refutations.Twice path space name) told = told ≡ []
AreLastReasons def f (refutations.Empty path claims) told =
    (node : Fragment) × (node_at f path ≡ Some node) × (last : At) × ClaimTo def path node claims last
    × AreCaseReasons last.cases told
