-- The words of the lines below the program.
use Rattle.std.specs.Prelude.{ℕ, List, [], ◌++◌, decimal, codes}
use Rattle.psg_keymap.specs.Faces.{Message, Why, of_name, quiet, refused, no_key, unknown, no_memory, kept, written}
use Rattle.psg_keymap.specs.Faces.{not_written, unproved, nothing_wrong, wrong}

-- what the message says: of a refusal its number, and then what it means, which is not stated here
abbrev pub message_front : Message → List ℕ
message_front quiet = []
message_front (refused number) = codes "refused " ++ decimal number ++ codes ": "
message_front no_key = codes "? shows the keys"
message_front (unknown bytes) = codes "no key:"
message_front no_memory = codes "out of memory: nothing was changed"
message_front kept = codes "kept"
message_front written = codes "written"
message_front not_written = codes "the file could not be written, and is as it was"
message_front unproved = codes "only the proved program writes files"
message_front nothing_wrong = codes "nothing is wrong"
message_front (wrong why) = codes "wrong: "
