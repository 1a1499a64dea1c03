-- Bytes of places in the text that was read.
use Rattle.std.proofs.Common.{◌≡◌, ℕ, List, ap₂, ◌∙◌}
use Rattle.psg_grammar.specs.declared.types.Definition.{Definition}
use Rattle.psg_grammar.specs.Fragments.{Fragment}
use Rattle.psg_lexis.specs.declared.token.Spanned.{Spanned}
use Rattle.psg_ranges.specs.Forests.{Forest}
use Rattle.psg_recover.specs.declared.spots.Spots.{Spots}
use Rattle.psg_recover.specs.Spotted.{AreNodesOf, IsSpotsOf, read_by}
use Rattle.psg_recover.specs.TextPlaces.{Read}
use Rattle.psg_lint.specs.declared.trials.Judged.{Judged}
use Rattle.psg_lint.specs.Judged.{IsJudged}

abbrev read_with : List Spanned → Fragment → Forest → Read
read_with tokens whole nodes = record { tokens = tokens; whole = whole; nodes = nodes }

pub read_is : (s : Spots) (r : Read) → IsSpotsOf s r → read_by s r.nodes ≡ r
read_is s r is = ap₂ (λ t w. read_with t w r.nodes) is.tokens is.whole

-- what is said of the spots is said of the text
pub said_is : {X : Type 0} (B : Definition → Read → X) (j : Judged) → IsJudged j → (r : Read) → IsSpotsOf j.spots r → (x : X)
    → ((nodes : Forest) → AreNodesOf j.spots nodes → x ≡ B j.spots.known.definition.now (read_by j.spots nodes))
    → x ≡ B j.definition.now r
said_is B j h r is x all = all r.nodes is.nodes ∙ ap₂ B h.same (read_is j.spots r is)

pub byte_is : (B : Definition → Read → ℕ) (j : Judged) → IsJudged j → (r : Read) → IsSpotsOf j.spots r → (byte : ℕ)
    → ((nodes : Forest) → AreNodesOf j.spots nodes → byte ≡ B j.spots.known.definition.now (read_by j.spots nodes))
    → byte ≡ B j.definition.now r
byte_is B j h r is byte all = said_is B j h r is byte all
