-- The methods of the messages that the server has.
use Rattle.std.specs.Prelude.{ℕ, List, Bool, false, Option, Some, None, codes, is_some, if◌then◌else◌}
use Rattle.std.specs.Option.{option_map}
use Rattle.std.specs.Str.{bytes_eq}
use Rattle.psg_messages.specs.Messages.{Said, request, note, answer, wrong}
use Rattle.psg_server.specs.declared.methods.Ask.{Ask}
use Rattle.psg_server.specs.declared.methods.Ask.TheVariants as asks
use Rattle.psg_server.specs.declared.methods.Call.{Call}
use Rattle.psg_server.specs.declared.methods.Call.TheVariants as calls
use Rattle.psg_server.specs.declared.methods.Notice.{Notice}
use Rattle.psg_server.specs.declared.methods.Notice.TheVariants as notices

-- the question of this name
abbrev pub ask_of : List ℕ → Option Ask
ask_of method =
    if bytes_eq method (codes "textDocument/definition") then Some asks.Definition
    else if bytes_eq method (codes "textDocument/references") then Some asks.References
    else if bytes_eq method (codes "textDocument/documentHighlight") then Some asks.Highlights
    else if bytes_eq method (codes "textDocument/prepareRename") then Some asks.Preparing
    else None

-- the request of this name
abbrev pub call_of : List ℕ → Option Call
call_of method =
    if bytes_eq method (codes "initialize") then Some calls.Initialize
    else if bytes_eq method (codes "shutdown") then Some calls.Shutdown
    else if bytes_eq method (codes "textDocument/formatting") then Some calls.Formatting
    else if bytes_eq method (codes "textDocument/hover") then Some calls.Hover
    else if bytes_eq method (codes "textDocument/completion") then Some calls.Completion
    else if bytes_eq method (codes "textDocument/rename") then Some calls.Renaming
    else option_map (λ a. calls.Asking a) (ask_of method)

-- the note of this name
abbrev pub notice_of : List ℕ → Option Notice
notice_of method =
    if bytes_eq method (codes "textDocument/didOpen") then Some notices.Opened
    else if bytes_eq method (codes "textDocument/didChange") then Some notices.Changed
    else if bytes_eq method (codes "textDocument/didClose") then Some notices.Closed
    else if bytes_eq method (codes "exit") then Some notices.Exit
    else None

-- the server has the method of the message
abbrev pub is_known : Said → Bool
is_known (request id method given) = is_some (call_of method)
is_known (note method given) = is_some (notice_of method)
is_known answer = false
is_known (wrong id) = false
