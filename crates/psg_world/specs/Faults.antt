-- The entry of the contracts that a kept fault is.
use Rattle.std.specs.Prelude.{ℕ, List}
use Rattle.psg_world.specs.Files.{Entry, reading, writing}
use Rattle.psg_world.specs.declared.faults.Access.{Access}
use Rattle.psg_world.specs.declared.faults.Access.TheVariants.{Read, Write}

-- the entry of a call that failed, by what it was to do
abbrev pub entry_of : Access → List ℕ → Entry
entry_of Read name = reading name
entry_of Write name = writing name
