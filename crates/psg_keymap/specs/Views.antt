-- The face as the definitions of keys see it.
use Rattle.std.specs.Prelude.{map, string_bytes}
use Rattle.psg_keymap.specs.declared.face.Face.{Face as Kept}
use Rattle.psg_keymap.specs.declared.face.Message.{Message as KeptMessage}
use Rattle.psg_keymap.specs.declared.face.Message.TheVariants as messages
use Rattle.psg_keymap.specs.declared.face.Why.{Why as KeptWhy}
use Rattle.psg_keymap.specs.declared.face.Why.TheVariants as whys
use Rattle.psg_keymap.specs.Faces.{Face, Message, Why, of_node, of_element, of_end, of_name, of_parts}
use Rattle.psg_keymap.specs.Faces as faces

abbrev pub why_of : KeptWhy → Why
why_of whys.Node = of_node
why_of whys.Element = of_element
why_of whys.End = of_end
why_of (whys.Name name) = of_name name
why_of whys.Parts = of_parts

abbrev pub message_of : KeptMessage → Message
message_of messages.Quiet = faces.quiet
message_of (messages.Refused number) = faces.refused number
message_of messages.NoKey = faces.no_key
message_of (messages.Unknown bytes) = faces.unknown bytes.items
message_of messages.NoMemory = faces.no_memory
message_of messages.Kept = faces.kept
message_of messages.Written = faces.written
message_of messages.NotWritten = faces.not_written
message_of messages.Unproved = faces.unproved
message_of messages.NothingWrong = faces.nothing_wrong
message_of (messages.Wrong why) = faces.wrong (why_of why)

abbrev pub face_of : Kept → Face
face_of f = record {
  rows = f.rows;
  cols = f.cols;
  chosen = f.chosen;
  mode = f.mode;
  lines = f.lines;
  offers = map string_bytes f.offers.items;
  pick = f.pick;
  target = f.target;
  place = f.place;
  operator = f.operator;
  args = f.args;
  leaf = f.leaf;
  page = map string_bytes f.page.items;
  page_top = f.page_top;
  top = f.top;
  left = f.left;
  message = message_of f.message;
  ended = f.ended;
}
