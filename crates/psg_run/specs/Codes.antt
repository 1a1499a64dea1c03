-- The exit status of the process, for each way in which a run ends.
use Rattle.std.specs.Prelude.{ℕ}
use Rattle.psg_run.specs.declared.status.Status.{Status}
use Rattle.psg_run.specs.declared.status.Status.TheVariants.{Done, DefinitionRefused, Words, ReadFault, WriteFault}
use Rattle.psg_run.specs.declared.status.Status.TheVariants.{LayoutRefused, Memory, TooLong, Wrong}

-- the exit status of each ending
abbrev pub code_of : Status → ℕ
code_of Done = 0
code_of DefinitionRefused = 1
code_of Words = 2
code_of ReadFault = 3
code_of WriteFault = 4
code_of Memory = 5
code_of TooLong = 6
code_of LayoutRefused = 7
code_of Wrong = 8
