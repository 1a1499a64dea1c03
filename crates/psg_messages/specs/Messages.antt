-- What a value says as a message of the Language Server Protocol.
use Rattle.std.specs.Prelude.{ℕ, List, Bool, true, false, Option, Some, None, ◌≡◌, ◌||◌, codes, is_some, if◌then◌else◌}
use Rattle.std.specs.Option.{option_map}
use Rattle.std.specs.Str.{IsUtf8}
use Rattle.serde_json.specs.Data.{Num, unsigned, negative, float, Data, null, boolean, number, string, array, object}
use Rattle.serde_json.specs.Data.{Items, no_items, item, Members, no_members, member}
use Rattle.serde_json.specs.Find.{as_str, get}
use Rattle.serde_json.specs.Read.{read as read_text}
use Rattle.serde_json.specs.View.{view}
use Rattle.psg_messages.specs.declared.message.Message.{Message}
use Rattle.psg_messages.specs.declared.message.Message.TheVariants as messages
use Rattle.psg_messages.specs.declared.message.Params.{Params}
use Rattle.psg_messages.specs.declared.message.Params.TheVariants as params

-- a whole number is no float
abbrev pub is_whole : Num → Bool
is_whole (unsigned n) = true
is_whole (negative z) = true
is_whole (float x) = false

-- an id is a whole number or a text
abbrev pub is_id : Data → Bool
is_id null = false
is_id (boolean b) = false
is_id (number n) = is_whole n
is_id (string s) = true
is_id (array ds) = false
is_id (object ms) = false

-- the parameters of a message: nothing, an object, or something that is no parameters
pub data Given : Type 0 where
  nothing : Given
  fields : Data → Given
  wrong_params : Given

-- of the member `params`, which may be missing, null or an empty list
abbrev pub given_in : Data → Given
given_in null = nothing
given_in (boolean b) = wrong_params
given_in (number n) = wrong_params
given_in (string s) = wrong_params
given_in (array no_items) = nothing
given_in (array (item d ds)) = wrong_params
given_in (object ms) = fields (object ms)

abbrev pub given_by : Option Data → Given
given_by None = nothing
given_by (Some d) = given_in d

-- What a message says: a request wants an answer with its id, a note wants none, an answer is one to a request of the
-- server, and what is none of these has an id at most.
pub data Said : Type 0 where
  request : (id : Data) (method : List ℕ) (given : Given) → Said
  note : (method : List ℕ) (given : Given) → Said
  answer : Said
  wrong : (id : Option Data) → Said

-- the id that there is
abbrev pub id_by : Option Data → Option Data
id_by None = None
id_by (Some d) = if is_id d then Some d else None

-- a message with a method, by its member `id`
abbrev pub said_with : Option Data → List ℕ → Given → Said
said_with None method given = note method given
said_with (Some d) method given = if is_id d then request d method given else wrong None

-- a message by the text of its method
abbrev pub said_method : Option (List ℕ) → Data → Said
said_method None d = wrong (id_by (get (codes "id") d))
said_method (Some method) d = said_with (get (codes "id") d) method (given_by (get (codes "params") d))

-- a message by its member `method`
abbrev pub said_by : Option Data → Data → Said
said_by None d =
    if is_some (get (codes "result") d) || is_some (get (codes "error") d) then answer
    else wrong (id_by (get (codes "id") d))
said_by (Some m) d = said_method (as_str m) d

abbrev pub said : Data → Said
said d = said_by (get (codes "method") d) d

-- what a message of the program says
abbrev pub given_of : Params → Given
given_of params.Nothing = nothing
given_of (params.Fields value) = fields (view value.now)
given_of params.Wrong = wrong_params

abbrev pub said_of : Message → Said
said_of (messages.Request id method given) = request (view id.now) method.now (given_of given)
said_of (messages.Note method given) = note method.now (given_of given)
said_of messages.Answer = answer
said_of (messages.Wrong None) = wrong None
said_of (messages.Wrong (Some id)) = wrong (Some (view id.now))

-- the bytes are the text of a value
abbrev pub IsValueOf : List ℕ → Data → Type 0
IsValueOf bytes d = IsUtf8 bytes × (read_text bytes ≡ Some d)
