use Rattle.std.proofs.Common.{rules, ◌≡◌, ℕ, List, refl}
use Rattle.psg_defcomment.specs.Refusals.{FileRefusal, IsFileFault, file_fault_text}
use Rattle.psg_defcomment.specs.declared.fault.FileFault.{FileFault}
use Rattle.psg_defcomment.specs.declared.fault.FileFault.TheVariants as faults
use Rattle.psg_run.specs.Reading.{is_refused, no_file, no_room_for_definition}
use Rattle.psg_run.proofs.source.end_fault.Goals as goal

pub returns-in-Memory : goal.returns-in-Memory
returns-in-Memory g c = λ bytes files input ticks is. no_room_for_definition refl

pub returns-in_default-file_fault_text : goal.returns-in_default-file_fault_text
returns-in_default-file_fault_text g c = λ bytes files input ticks is. no_room_for_definition refl

told : (bytes : List ℕ) (fault : FileFault) → IsFileFault bytes fault → (fault ≡ faults.Memory → ⊥) → FileRefusal bytes fault
told bytes faults.Memory is never = absurd (never refl)
told bytes (faults.Definition fault) is never = is
told bytes (faults.Repeated line) is never = is
told bytes (faults.Unfit line) is never = is

pub returns : goal.returns
returns g c = λ bytes files input ticks is.
    let line : c.as_str.result.now ≡ file_fault_text c.args.fault = search rules in
    is_refused c.as_str.result.now (no_file c.args.fault (told bytes c.args.fault is c.in_default.not-Memory) line) (c.put_line.ensures files input ticks)
