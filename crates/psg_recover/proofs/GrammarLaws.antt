-- The sort of one constant is well declared.
use Rattle.std.proofs.Common.{◌≡◌, List, [], ◌∷◌, refl, subst}
use Rattle.psg_terms.specs.Declarations.{AreDistinct, IsSpelled}
use Rattle.psg_terms.specs.Refusals.{MayRefuse}
use Rattle.psg_terms.specs.Signature.{Signature}
use Rattle.psg_terms.specs.declared.declare.SigFault.{SigFault}
use Rattle.psg_terms.specs.declared.declare.SigFault.TheVariants.{Repeated, UnknownSort, NoGround, OneWide, Memory}
use Rattle.psg_terms.specs.declared.declare.SortDecl.{SortDecl}
use Rattle.psg_terms.proofs.Spelled.{not_refused, one_signature}
use Rattle.psg_grammar.specs.Little.{unit_signature, unit_sort}
use Rattle.psg_grammar.proofs.CaseLittle.{unit_sound}

unit_spelled : IsSpelled (unit_sort ∷ []) unit_signature
unit_spelled = record { sorts = refl; symbols = (record { name = refl; arguments = tt; sort = refl }, tt) }

unit_distinct : AreDistinct (unit_sort ∷ [])
unit_distinct = record { sorts = refl; constructors = refl }

pub only_memory : (fault : SigFault) → MayRefuse (unit_sort ∷ []) fault → fault ≡ Memory
only_memory (Repeated n) h = absurd (not_refused (unit_sort ∷ []) unit_signature unit_distinct unit_spelled unit_sound (Repeated n) h)
only_memory (UnknownSort n) h = absurd (not_refused (unit_sort ∷ []) unit_signature unit_distinct unit_spelled unit_sound (UnknownSort n) h)
only_memory (NoGround s) h = absurd (not_refused (unit_sort ∷ []) unit_signature unit_distinct unit_spelled unit_sound (NoGround s) h)
only_memory (OneWide s) h = absurd (not_refused (unit_sort ∷ []) unit_signature unit_distinct unit_spelled unit_sound (OneWide s) h)
only_memory Memory h = refl

pub refused_so : (written : List SortDecl) (fault : SigFault) → written ≡ unit_sort ∷ [] → MayRefuse written fault → MayRefuse (unit_sort ∷ []) fault
refused_so written fault e h = subst (λ (w : List SortDecl). MayRefuse w fault) e h

pub unit_is : (written : List SortDecl) (sig : Signature) → written ≡ unit_sort ∷ [] → IsSpelled written sig → sig ≡ unit_signature
unit_is written sig e h = one_signature (unit_sort ∷ []) sig unit_signature unit_distinct (subst (λ (w : List SortDecl). IsSpelled w sig) e h) unit_spelled
