-- How the parts of a run end.
use Rattle.psg_world.specs.declared.world.ReadStop.{ReadStop}
use Rattle.psg_world.specs.declared.world.ReadStop.TheVariants as read_stops
use Rattle.psg_world.specs.declared.world.WriteStop.{WriteStop}
use Rattle.psg_world.specs.declared.world.WriteStop.TheVariants as write_stops
use Rattle.psg_run.specs.declared.status.Status.{Status}
use Rattle.psg_run.specs.declared.status.Status.TheVariants as ends_with

-- how a run ends where a read stopped
abbrev pub read_status : ReadStop → Status
read_status read_stops.Failed = ends_with.ReadFault
read_status read_stops.Memory = ends_with.Memory

-- how a run ends where a write stopped
abbrev pub write_status : WriteStop → Status
write_status write_stops.Failed = ends_with.WriteFault
write_status write_stops.Memory = ends_with.Memory
