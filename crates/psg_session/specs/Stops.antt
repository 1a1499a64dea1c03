-- What a command says if it has no outcome, by what failed below.
use Rattle.std.specs.Prelude.{Result, Ok, Err}
use Rattle.psg_cache.specs.declared.note.NoteFault.{NoteFault}
use Rattle.psg_cache.specs.declared.note.NoteFault.TheVariants as note_faults
use Rattle.psg_eval.specs.declared.question.FocusFault.{FocusFault}
use Rattle.psg_eval.specs.declared.question.FocusFault.TheVariants as focus_faults
use Rattle.psg_library.specs.declared.fragment.KeptFault.{KeptFault}
use Rattle.psg_library.specs.declared.fragment.KeptFault.TheVariants as kept_faults
use Rattle.psg_parse.specs.declared.fault.ParseFault.{ParseFault}
use Rattle.psg_parse.specs.declared.fault.ParseFault.TheVariants as parse_faults
use Rattle.psg_textedit.specs.declared.change.TextFault.{TextFault}
use Rattle.psg_textedit.specs.declared.change.TextFault.TheVariants as text_faults
use Rattle.psg_session.specs.declared.refusal.Refusal.TheVariants.{KeptUnreadable, NoRange, NoTokens, NoTree, TooBig}
use Rattle.psg_session.specs.declared.refusal.Refusal.TheVariants.{TooDeep, TooHeavy, TooWide}
use Rattle.psg_session.specs.declared.stop.Stop.{Stop}
use Rattle.psg_session.specs.declared.stop.Stop.TheVariants.{Refused, Memory}

-- memory ran out, and this holds
abbrev pub IfMemory : {X : Type 0} → Result X Stop → Type 0 → Type 0
IfMemory (Ok x) P = Unit {0}
IfMemory (Err (Refused r)) P = Unit {0}
IfMemory (Err Memory) P = P

-- a tree whose note has this fault
abbrev pub stop_of_note : NoteFault → Stop
stop_of_note note_faults.Deep = Refused TooDeep
stop_of_note note_faults.Big = Refused TooBig
stop_of_note (note_faults.Wide path step) = Refused TooWide
stop_of_note note_faults.Heavy = Refused TooHeavy
stop_of_note note_faults.Memory = Memory

-- a question about a node or a place that has no answer for this fault
abbrev pub stop_of_focus : FocusFault → Stop
stop_of_focus focus_faults.Wide = Refused TooWide
stop_of_focus focus_faults.Memory = Memory

-- typed tokens that are not parsed for this fault
abbrev pub stop_of_parse : ParseFault → Stop
stop_of_parse parse_faults.NoTree = Refused NoTree
stop_of_parse parse_faults.Deep = Refused TooDeep
stop_of_parse parse_faults.Memory = Memory

-- bytes of the printed text that are not replaced for this fault
abbrev pub stop_of_text : TextFault → Stop
stop_of_text text_faults.NoPlace = Refused NoRange
stop_of_text text_faults.NoTokens = Refused NoTokens
stop_of_text text_faults.NoTree = Refused NoTree
stop_of_text text_faults.Deep = Refused TooDeep
stop_of_text text_faults.Memory = Memory

-- the bytes of a file that are not read for this fault
abbrev pub stop_of_kept : KeptFault → Stop
stop_of_kept kept_faults.Head = Refused KeptUnreadable
stop_of_kept kept_faults.Phylum = Refused KeptUnreadable
stop_of_kept kept_faults.NoTokens = Refused KeptUnreadable
stop_of_kept kept_faults.NoTree = Refused KeptUnreadable
stop_of_kept kept_faults.Deep = Refused KeptUnreadable
stop_of_kept kept_faults.Memory = Memory
