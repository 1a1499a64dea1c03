-- What sorts can lack in terms.
use Rattle.psg_terms.specs.Signature.{Signature}
use Rattle.psg_terms.specs.Declarations.{IsFirstEmpty, IsFirstWide}
use Rattle.psg_terms.specs.declared.declare.SigFault.{SigFault}
use Rattle.psg_terms.specs.declared.declare.SigFault.TheVariants.{Repeated, UnknownSort, NoGround, OneWide, Memory}

-- the fault is one of terms, or out of memory
abbrev pub MayLack : Signature → SigFault → Type 0
MayLack sig (Repeated n) = ⊥
MayLack sig (UnknownSort n) = ⊥
MayLack sig (NoGround s) = IsFirstEmpty sig s.0
MayLack sig (OneWide s) = IsFirstWide sig s.0
MayLack sig Memory = Unit {0}
