-- What a message gets, by where the conversation is.
use Rattle.std.specs.Prelude.{ℕ, ℤ, List, Bool, true, false, Option, Some, None, ◌&&◌, not, codes, negsuc}
use Rattle.std.specs.Prelude.{if◌then◌else◌}
use Rattle.std.specs.Option.{option_map}
use Rattle.std.specs.Str.{bytes_eq}
use Rattle.serde_json.specs.Data.{Data}
use Rattle.serde_json.specs.View.{view}
use Rattle.psg_messages.specs.Messages.{Given, nothing, fields, wrong_params, Said, request, note, answer, wrong}
use Rattle.psg_messages.specs.declared.turns.Phase.{Phase}
use Rattle.psg_messages.specs.declared.turns.Phase.TheVariants as phases
use Rattle.psg_messages.specs.declared.turns.Fault.{Fault}
use Rattle.psg_messages.specs.declared.turns.Fault.TheVariants as faults
use Rattle.psg_messages.specs.declared.turns.Turn.{Turn}
use Rattle.psg_messages.specs.declared.turns.Turn.TheVariants as turns

-- the code of a fault
abbrev pub code_of : Fault → ℤ
code_of faults.NoJson = negsuc 32_699
code_of faults.WrongShape = negsuc 32_599
code_of faults.UnknownMethod = negsuc 32_600
code_of faults.WrongParams = negsuc 32_601
code_of faults.NotInitialized = negsuc 32_001

-- what a message gets: it is served, passed over, or refused with an id, or null, and a fault
pub data Due : Type 0 where
  served : Due
  passed : Due
  refused : (id : Option Data) (fault : Fault) → Due

abbrev pub are_wrong : Given → Bool
are_wrong nothing = false
are_wrong (fields d) = false
are_wrong wrong_params = true

-- of a request that is allowed now
abbrev pub due_known : Data → Bool → Bool → Due
due_known id known ill =
    if known then (if ill then refused (Some id) faults.WrongParams else served)
    else refused (Some id) faults.UnknownMethod

-- Before `initialize` no other request is allowed, after it no second one, and after `shutdown` none.
abbrev pub due_request : Phase → Data → (starts known ill : Bool) → Due
due_request phases.Before id starts known ill = if starts then due_known id known ill
    else refused (Some id) faults.NotInitialized
due_request phases.Ready id starts known ill = if starts then refused (Some id) faults.WrongShape
    else due_known id known ill
due_request phases.After id starts known ill = refused (Some id) faults.WrongShape

abbrev pub is_ready : Phase → Bool
is_ready phases.Before = false
is_ready phases.Ready = true
is_ready phases.After = false

-- A note gets no answer. As the protocol has it, notes outside of a conversation are dropped, except `exit`, which is
-- served at any time, whatever its parameters are.
abbrev pub due_note : (exits ready known ill : Bool) → Due
due_note exits ready known ill = if exits then served else if ready && known && not ill then served else passed

-- `known` says whether the server has the message's method
abbrev pub due : Phase → Bool → Said → Due
due phase known (request id method given) = due_request phase id (bytes_eq method (codes "initialize")) known
    (are_wrong given)
due phase known (note method given) = due_note (bytes_eq method (codes "exit")) (is_ready phase) known (are_wrong given)
due phase known answer = passed
due phase known (wrong id) = refused id faults.WrongShape

-- what the program says of a message
abbrev pub due_of : Turn → Due
due_of turns.Serve = served
due_of turns.Pass = passed
due_of (turns.Refuse None fault) = refused None fault
due_of (turns.Refuse (Some id) fault) = refused (Some (view id.now)) fault

-- what is served moves the conversation on: `initialize` begins it, and `shutdown` ends it
abbrev pub phase_by : Phase → (starts ends : Bool) → Phase
phase_by phase starts ends = if starts then phases.Ready else if ends then phases.After else phase

abbrev pub phase_served : Phase → Said → Phase
phase_served phase (request id method given) = phase_by phase (bytes_eq method (codes "initialize"))
    (bytes_eq method (codes "shutdown"))
phase_served phase (note method given) = phase
phase_served phase answer = phase
phase_served phase (wrong id) = phase

-- where the conversation is after a message and what it got
abbrev pub phase_after : Phase → Due → Said → Phase
phase_after phase served said = phase_served phase said
phase_after phase passed said = phase
phase_after phase (refused id fault) said = phase

-- the status that `exit` ends with: 0 after `shutdown`, and 1 without it
abbrev pub status_of : Phase → ℕ
status_of phases.Before = 1
status_of phases.Ready = 1
status_of phases.After = 0
