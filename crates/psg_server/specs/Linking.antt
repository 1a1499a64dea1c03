-- What is answered of the name at a position of a document: where it is declared, where the names are that are together
-- with it, and the edits that give them a new name.
use Rattle.std.specs.Prelude.{ℕ, ◌≡◌, ◌||◌, Bool, true, false, cond, not, List}
use Rattle.std.specs.Prelude.{[], ◌∷◌, Option, Some, None, Vec, codes}
use Rattle.std.specs.declared.alloc.Global.{Global}
use Rattle.std.specs.declared.result.Result.TheVariants.{Ok, Err}
use Rattle.serde_json.specs.Data.{Data, null, array, number, unsigned, string, object, member, no_members}
use Rattle.serde_json.specs.View.{items_of}
use Rattle.psg_documents.specs.declared.encoding.Encoding.{Encoding}
use Rattle.psg_documents.specs.declared.lines.Position.{Position}
use Rattle.psg_documents.specs.Positions.{IsByteOf}
use Rattle.psg_grammar.specs.declared.types.Definition.{Definition}
use Rattle.psg_grammar.specs.declared.types.Kind.{Kind}
use Rattle.psg_grammar.specs.Fragments.{Fragment}
use Rattle.psg_links.specs.declared.linked.Linked.{Linked}
use Rattle.psg_links.specs.declared.page.Page.{Page}
use Rattle.psg_links.specs.declared.refusal.Refusal.{Refusal}
use Rattle.psg_links.specs.declared.refusal.Refusal.TheVariants as refusals
use Rattle.psg_links.specs.declared.spot.Spot.{Spot}
use Rattle.psg_links.specs.Renaming.{IsAnswer}
use Rattle.psg_links.specs.Spots.{IsLinkedAt, IsPage}
use Rattle.psg_program.specs.Decoding.{unmarked}
use Rattle.psg_program.specs.Programs.{IsProgram}
use Rattle.psg_ranges.specs.Forests.{Forest, ranges_in}
use Rattle.psg_server.specs.declared.judging.Defined.{Defined}
use Rattle.psg_server.specs.declared.linking.Showing.{Showing}
use Rattle.psg_server.specs.declared.linking.Showing.TheVariants as shows
use Rattle.psg_server.specs.declared.methods.Ask.{Ask}
use Rattle.psg_server.specs.declared.methods.Ask.TheVariants as asks
use Rattle.psg_server.specs.declared.renaming.Unnamed.{Unnamed}
use Rattle.psg_server.specs.declared.renaming.Unnamed.TheVariants as reasons
use Rattle.psg_server.specs.Diagnostics.{byte_in}
use Rattle.psg_server.specs.Edits.{edit_data}
use Rattle.psg_server.specs.Fields.{Renamed}
use Rattle.psg_server.specs.Judging.{OfJudged, own_byte}
use Rattle.psg_server.specs.Ranges.{IsRange}

-- ---- names, as values

-- how a name is shown: as a place of the document with an address, as a name that is written (3) or read (2), or as an
-- edit that gives it a new name
pub data Way : Type 0 where
  as_place : (address : List ℕ) → Way
  as_light : Way
  as_edit : (new : List ℕ) → Way

abbrev pub way_of : Showing → Way
way_of (shows.Place address) = as_place address.now
way_of shows.Light = as_light
way_of (shows.Edit new) = as_edit new.now

abbrev pub kind_of : Bool → ℕ
kind_of declares = cond declares 3 2

abbrev pub shown_data : Way → Bool → Data → Data
shown_data (as_place address) declares range =
    object (member (codes "range") range (member (codes "uri") (string address) no_members))
shown_data as_light declares range =
    object (member (codes "kind") (number (unsigned (kind_of declares))) (member (codes "range") range no_members))
shown_data (as_edit new) declares range = edit_data range new

-- all names, or those that do not declare
abbrev pub is_wanted : Bool → Spot → Bool
is_wanted all s = all || not s.declares

module _ (encoding : Encoding) (text : List ℕ) where
  -- the range of the bytes that a name takes
  abbrev pub IsSpotRange : Spot → Data → Type 0
  IsSpotRange s d = IsRange encoding text (byte_in text s.start) (byte_in text s.end) d

  -- the range of a name that is linked to a declaration
  abbrev pub IsPrepared : Option Spot → Spot → Data → Type 0
  IsPrepared None own d = d ≡ null
  IsPrepared (Some s) own d = IsSpotRange own d

  pub record IsShown (way : Way) (s : Spot) (d : Data) : Type 0 where
    pub range : Data
    pub is_range : IsSpotRange s range
    pub is : d ≡ shown_data way s.declares range

  -- the names that are wanted, in order
  pub data AreShown (way : Way) (all : Bool) : List Spot → List Data → Type 0 where
    none_left : AreShown way all [] []
    left_out : {ss : List Spot} {ds : List Data} (s : Spot) → is_wanted all s ≡ false → AreShown way all ss ds
        → AreShown way all (s ∷ ss) ds
    shown : {ss : List Spot} {ds : List Data} (s : Spot) (d : Data) → is_wanted all s ≡ true → IsShown way s d
        → AreShown way all ss ds → AreShown way all (s ∷ ss) (d ∷ ds)

  pub record IsList (way : Way) (all : Bool) (ss : List Spot) (d : Data) : Type 0 where
    pub values : List Data
    pub are : AreShown way all ss values
    pub is : d ≡ array (items_of values)

-- ---- what is at a position

-- the byte is that of the position
pub record IsThere (encoding : Encoding) (text : List ℕ) (at : Position) (byte : ℕ) : Type 0 where
  pub there : ℕ
  pub position : IsByteOf encoding text at.line at.column there
  pub is : byte ≡ own_byte text there

module _ (def : Definition) (kind : Kind) (encoding : Encoding) (text judged : List ℕ) (at : Position) where
  -- a reading of what is judged of the text, and the byte of the position in it
  pub record IsRead (p : Page) (f : Forest) (byte : ℕ) : Type 0 where
    pub page : IsPage def kind judged p
    pub nodes : ranges_in f ≡ p.ranges.nodes
    pub place : IsThere encoding text at byte

  -- the name at the position, if there is one: a comment has none
  pub data IsFound : Option Linked → Type 0 where
    in_program : (p : Page) (f : Forest) (byte : ℕ) (a : Option Linked) → IsRead p f byte
        → IsLinkedAt p.tokens.items f p.links.items byte a → IsFound a
    no_program : ((f : Fragment) → IsProgram def kind judged f → ⊥) → IsFound None

-- ---- answers

module _ (encoding : Encoding) (text address : List ℕ) where
  abbrev pub IsDeclaration : Option Spot → Data → Type 0
  IsDeclaration None d = d ≡ null
  IsDeclaration (Some s) d = IsShown encoding text (as_place address) s d

  -- what is answered of a name
  abbrev pub IsReplyOf : Ask → Bool → Linked → Data → Type 0
  IsReplyOf asks.Definition all a d = IsDeclaration a.declaration d
  IsReplyOf asks.References all a d = IsList encoding text (as_place address) all a.together.items d
  IsReplyOf asks.Highlights all a d = IsList encoding text as_light true a.together.items d
  IsReplyOf asks.Preparing all a d = IsPrepared encoding text a.declaration a.own d

  -- and null where there is none
  abbrev pub IsReply : Ask → Bool → Option Linked → Data → Type 0
  IsReply ask all None d = d ≡ null
  IsReply ask all (Some a) d = IsReplyOf ask all a d

  -- by what is judged of the text
  pub record IsReplied (def : Definition) (kind : Kind) (judged : List ℕ) (ask : Ask) (all : Bool) (at : Position)
      (d : Data) : Type 0 where
    pub linked : Option Linked
    pub found : IsFound def kind encoding text judged at linked
    pub is : IsReply ask all linked d

-- of a text that is not known: null
abbrev pub IsRepliedOf : Defined → Kind → Encoding → List ℕ → Option (List ℕ) → Ask → Bool → Position → Data → Type 0
IsRepliedOf def kind encoding address None ask all at d = d ≡ null
IsRepliedOf def kind encoding address (Some text) ask all at d =
    OfJudged def text (λ comments judged. IsReplied encoding text address def.language kind judged ask all at d)

-- ---- new names

-- the words for what keeps names from a new name
abbrev pub words_of : Unnamed → List ℕ
words_of reasons.Unknown = codes "the text is not known"
words_of reasons.NoProgram = codes "the text is no program"
words_of (reasons.Refused refusals.NoName) = codes "there is no name here"
words_of (reasons.Refused refusals.Outside) = codes "the name is not declared in this text"
words_of (reasons.Refused refusals.NewName) = codes "this is no name of the language"
words_of (reasons.Refused refusals.Unread) = codes "the text with the new name is not read as the same program"
words_of (reasons.Refused refusals.Relinked) = codes "with this name, a name would mean another declaration"

abbrev pub workspace_data : List ℕ → List Data → Data
workspace_data address edits =
    object (member (codes "changes") (object (member address (array (items_of edits)) no_members)) no_members)

module _ (def : Definition) (kind : Kind) (encoding : Encoding) (address text judged : List ℕ) (r : Renamed) where
  -- the edits that give the names the new one
  pub record IsNamed (d : Data) : Type 0 where
    pub page : Page
    pub forest : Forest
    pub byte : ℕ
    pub read : IsRead def kind encoding text judged r.at page forest byte
    pub spots : Vec Spot Global
    pub answer : IsAnswer def kind (unmarked judged) page.tokens.items forest page.links.items byte r.name (Ok spots)
    pub edits : List Data
    pub are : AreShown encoding text (as_edit r.name) true spots.items edits
    pub is : d ≡ workspace_data address edits

  -- why they get no new name
  pub data IsUnnamed : Unnamed → Type 0 where
    reads_none : ((f : Fragment) → IsProgram def kind judged f → ⊥) → IsUnnamed reasons.NoProgram
    refuses : (p : Page) (f : Forest) (byte : ℕ) (why : Refusal) → IsRead def kind encoding text judged r.at p f byte
        → IsAnswer def kind (unmarked judged) p.tokens.items f p.links.items byte r.name (Err why)
        → IsUnnamed (reasons.Refused why)

abbrev pub IsNamedOf : Defined → Kind → Encoding → List ℕ → Option (List ℕ) → Renamed → Data → Type 0
IsNamedOf def kind encoding address None r d = ⊥
IsNamedOf def kind encoding address (Some text) r d =
    OfJudged def text (λ comments judged. IsNamed def.language kind encoding address text judged r d)

abbrev pub IsUnnamedOf : Defined → Kind → Encoding → List ℕ → Option (List ℕ) → Renamed → Unnamed → Type 0
IsUnnamedOf def kind encoding address None r why = why ≡ reasons.Unknown
IsUnnamedOf def kind encoding address (Some text) r why =
    OfJudged def text (λ comments judged. IsUnnamed def.language kind encoding address text judged r why)
