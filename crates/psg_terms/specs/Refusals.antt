-- When written sorts are refused.
use Rattle.std.specs.Prelude.{◌⊎◌, List}
use Rattle.psg_terms.specs.Declarations.{RepeatsSort, RepeatsConstructor, MissesSort, HasFault}
use Rattle.psg_terms.specs.Declarations.{IsFirstEmpty, IsFirstWide}
use Rattle.psg_terms.specs.declared.declare.SortDecl.{SortDecl}
use Rattle.psg_terms.specs.declared.declare.SigFault.{SigFault}
use Rattle.psg_terms.specs.declared.declare.SigFault.TheVariants.{Repeated, UnknownSort, NoGround, OneWide, Memory}

-- The fault is there, and none that is looked for before it. Out of memory is no fault of what is written.
abbrev pub IsRefused : List SortDecl → SigFault → Type 0
IsRefused written (Repeated n) = RepeatsSort written n ⊎ RepeatsConstructor written n
IsRefused written (UnknownSort n) = MissesSort written n
IsRefused written (NoGround s) = HasFault IsFirstEmpty written s.0
IsRefused written (OneWide s) = HasFault IsFirstWide written s.0
IsRefused written Memory = ⊥

-- the written sorts are refused for the fault, or the fault is out of memory
abbrev pub MayRefuse : List SortDecl → SigFault → Type 0
MayRefuse written (Repeated n) = RepeatsSort written n ⊎ RepeatsConstructor written n
MayRefuse written (UnknownSort n) = MissesSort written n
MayRefuse written (NoGround s) = HasFault IsFirstEmpty written s.0
MayRefuse written (OneWide s) = HasFault IsFirstWide written s.0
MayRefuse written Memory = Unit {0}
