-- What is read of the exported bytes.
use Rattle.std.proofs.Common.{◌≡◌, ℕ, List, subst}
use Rattle.psg_grammar.specs.declared.types.Definition.{Definition}
use Rattle.psg_deflines.specs.declared.fault.DefFault.{DefFault}
use Rattle.psg_deflines.specs.declared.fault.ReadFault.{ReadFault}
use Rattle.psg_deflines.specs.declared.fault.ReadFault.TheVariants.{Def}
use Rattle.psg_defread.specs.Reading.{Spells, IsFaultless, IsReadAs}
use Rattle.psg_defread.specs.Refusals.{Refusal, IsReadFault}

pub read-as : (bytes text : List ℕ) (def : Definition) → bytes ≡ text → Spells bytes def → IsFaultless bytes → IsReadAs text def
read-as bytes text def e spells none = subst (λ t. IsReadAs t def) e (record { spells = spells; faultless = none })

pub refused : (bytes text : List ℕ) (stop : ReadFault) (fault : DefFault) → bytes ≡ text → stop ≡ Def fault → IsReadFault bytes stop
    → Refusal text fault
refused bytes text stop fault e is h = subst (λ t. Refusal t fault) e (subst (IsReadFault bytes) is h)
