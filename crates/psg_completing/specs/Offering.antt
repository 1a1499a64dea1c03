-- What is offered at a byte of a text.
use Rattle.std.specs.Prelude.{ℕ, zero, suc, ◌≡◌, ◌==◌, ◌+◌, ◌&&◌, ◌||◌, min, nat_lt}
use Rattle.std.specs.Prelude.{Bool, true, false, cond, List, [], ◌∷◌}
use Rattle.std.specs.Prelude.{◌++◌, length, take, map, eqb, slice_get, slice_range, Option, Some, None}
use Rattle.std.specs.List.{filter, starts_with}
use Rattle.psg_terms.specs.Names.{Name}
use Rattle.psg_grammar.specs.declared.types.Definition.{Definition}
use Rattle.psg_grammar.specs.declared.types.Kind.{Kind}
use Rattle.psg_grammar.specs.Fragments.{Fragment}
use Rattle.psg_grammar.specs.Kinds.{op_name_of}
use Rattle.psg_grammar.specs.Paths.{Path}
use Rattle.psg_cache.specs.Annotated.{tree_in}
use Rattle.psg_keymap.specs.declared.leaves.Leaf.{Leaf}
use Rattle.psg_keymap.specs.declared.leaves.Leaf.TheVariants as leaves
use Rattle.psg_keymap.specs.declared.spots.Spot.{Spot}
use Rattle.psg_keymap.specs.Leaves.{leaves_of}
use Rattle.psg_lexis.specs.Classes.{is_symbol}
use Rattle.psg_program.specs.Decoding.{unmarked}
use Rattle.psg_asking.specs.Asked.{IsToldOf, Read, menu_of, names_of}
use Rattle.psg_asking.specs.Told.{names_told, words_told}
use Rattle.psg_completing.specs.declared.around.Word.{Word}
use Rattle.psg_completing.specs.declared.completing.Completion.{Completion}
use Rattle.psg_completing.specs.declared.fillings.Filling.{Filling}
use Rattle.psg_completing.specs.declared.fillings.Side.{Side}
use Rattle.psg_pointing.specs.declared.judging.Judged.{Judged}
use Rattle.psg_completing.specs.declared.offering.Entry.{Entry}
use Rattle.psg_completing.specs.declared.offering.Offers.{Offers}
use Rattle.psg_completing.specs.Around.{IsWordAround, is_word}
use Rattle.psg_completing.specs.Fillings.{Fits, HasPlaceholder, IsFirst, back, before, behind, filled, fillings, front}
use Rattle.psg_completing.specs.Fillings.{mark_byte}
use Rattle.psg_pointing.specs.Hovering.{lines_of, mark_size, own_byte, spot_at}
use Rattle.psg_pointing.specs.Judging.{IsJudged, IsTooMuch}
use Rattle.psg_completing.specs.Naming.{IsSampleName}
use Rattle.psg_completing.specs.Samples.{IsLeast, sample_text}

-- how many entries an operator has at most
abbrev pub most_names : ℕ
most_names = 100

-- those of the names that begin so
abbrev pub begun : List ℕ → List Name → List Name
begun prefix names = filter (λ name. starts_with eqb name prefix) names

-- those of a row, or the others where it has none
abbrev pub or_those : List Name → List Name → List Name
or_those [] others = others
or_those (name ∷ names) others = name ∷ names

-- those of the names that begin so, or all of them where none begins so
abbrev pub begun_or_all : List ℕ → List Name → List Name
begun_or_all prefix names = or_those (begun prefix names) names

-- the names that are written: those, or the sample where there are none
abbrev pub written_names : Name → List ℕ → List Name → List Name
written_names sample prefix names = or_those (begun_or_all prefix names) (sample ∷ [])

abbrev pub entry : Name → List ℕ → Entry
entry op text = record { operator = op; text = text }

-- the operator with nothing in it and with each of the names, where this level is wanted
abbrev pub entries_with : Definition → ℕ → Name → ℕ → List Name → List Entry
entries_with def least op o names = map (λ name. entry op (sample_text def least name o)) names

-- ---- what is offered of an operator

-- a name that an operator uses
abbrev pub is_used : Leaf → Bool
is_used leaves.Name = true
is_used leaves.NewName = false
is_used leaves.Number = false
is_used leaves.Text = false

-- such a name is all that is typed
abbrev pub one_name : List Leaf → Bool
one_name [] = false
one_name (leaf ∷ more) = is_used leaf && (length more == 0)

module _ (def : Definition) (kind : Kind) (tree : Fragment) (spot : Spot) (least : ℕ) (sample : Name)
    (prefix : List ℕ) where
  -- The entries of an operator. If a name that it uses is all that is typed, it has an entry for each name with which it
  -- fits that begins so, or for each with which it fits if none begins so, at most a hundred; and one entry with the
  -- sample if it fits with none. Each other operator has one entry, with the sample.
  pub data IsOffered (op : Name) : List Entry → Bool → Type 0 where
    by_names : (o : ℕ) (told : Option Read) → op_name_of def o ≡ Some op → one_name (leaves_of def op) ≡ true
        → IsToldOf def kind tree spot (names_of op) (names_told tree) told
        → IsOffered op
        (entries_with def least op o (take most_names (written_names sample prefix (lines_of told))))
        (nat_lt most_names (length (written_names sample prefix (lines_of told))))
    by_itself : (o : ℕ) → op_name_of def o ≡ Some op → one_name (leaves_of def op) ≡ false
        → IsOffered op (entries_with def least op o (sample ∷ [])) false
    unknown : ((o : ℕ) → op_name_of def o ≡ Some op → ⊥) → IsOffered op [] false

  -- of each operator in order, and whether one has more than are offered
  pub data AreOffered : List Name → List Entry → Bool → Type 0 where
    no_more : AreOffered [] [] false
    one_more : {op : Name} {ops : List Name} {here more : List Entry} {there left : Bool} → IsOffered op here there
        → AreOffered ops more left → AreOffered (op ∷ ops) (here ++ more) (there || left)

-- the names with which an operator is written at the spot
abbrev pub AreNamesTold : Definition → Kind → Fragment → Spot → Name → Name → List ℕ → List Name → Type 0
AreNamesTold def kind tree spot op sample prefix names = (told : Option Read)
    × IsToldOf def kind tree spot (names_of op) (names_told tree) told
    × (names ≡ written_names sample prefix (lines_of told))

-- what is offered of an operator, and of operators
abbrev pub IsOfferedOf : Definition → Kind → Fragment → Spot → ℕ → Name → List ℕ → Name → Offers → Type 0
IsOfferedOf def kind tree spot least sample prefix op offers =
    IsOffered def kind tree spot least sample prefix op offers.entries.items offers.more

abbrev pub AreOffersOf : Definition → Kind → Fragment → Spot → ℕ → Name → List ℕ → List Name → Offers → Type 0
AreOffersOf def kind tree spot least sample prefix ops offers =
    AreOffered def kind tree spot least sample prefix ops offers.entries.items offers.more

-- what is offered at the spot: of the operators that the plain editor's `menu` lists, in its order
abbrev pub IsOfferedAt : Definition → Kind → Fragment → Spot → ℕ → Name → List ℕ → Offers → Type 0
IsOfferedAt def kind tree spot least sample prefix offers = (told : Option Read)
    × IsToldOf def kind tree spot menu_of words_told told
    × AreOffersOf def kind tree spot least sample prefix (lines_of told) offers

-- one after the other
pub record AreJoined (first second both : Offers) : Type 0 where
  pub entries : both.entries.items ≡ first.entries.items ++ second.entries.items
  pub more : both.more ≡ (first.more || second.more)

-- at the placeholder of the path
abbrev pub AreOffersIn : Definition → Kind → Fragment → Path → List ℕ → Offers → Type 0
AreOffersIn def kind tree path prefix offers =
    (least : ℕ) × IsLeast def tree path least × (sample : Name) × IsSampleName def sample
    × IsOfferedAt def kind tree (spot_at path) least sample prefix offers

-- ---- what is put

-- a byte that runs together with one beside it: a symbol, or a byte of a word
abbrev pub is_close : Option ℕ → Bool
is_close None = false
is_close (Some b) = is_symbol b || is_word b

-- the byte at the place, and the one before it, is such a byte
abbrev pub is_close_at : List ℕ → ℕ → Bool
is_close_at text place = is_close (slice_get text place)

abbrev pub is_close_before : List ℕ → ℕ → Bool
is_close_before text zero = false
is_close_before text (suc place) = is_close_at text place

-- What is put before a text in place of a word, and after it. A space is where a symbol or a byte of a word is beside
-- it, so that the two do not run together.
abbrev pub put_before : Definition → List ℕ → Word → Side → List ℕ
put_before def own w side = cond (is_close_before own w.from) (front def side) (before def side)

abbrev pub put_behind : Definition → List ℕ → Word → Side → List ℕ
put_behind def own w side = cond (is_close_at own w.to) (back def side) (behind def side)

-- what the names begin with: the word, unless it has a `?` in front of it
abbrev pub prefix_of : List ℕ → Word → List ℕ
prefix_of own w = cond (nat_lt w.from w.inner) [] (slice_range own w.from w.to)

-- What is offered at a byte of a text that has no byte order mark: for the placeholder of the first filling with which
-- the text is a program, the operators that the plain editor's `menu` lists, in its order.
pub data IsCompleted (def : Definition) (kind : Kind) (own : List ℕ) (w : Word) (c : Completion) : Type 0 where
  none_fits : IsFirst (Fits def kind own w) (fillings def) None → c.entries.items ≡ [] → c.incomplete ≡ false
      → IsCompleted def kind own w c
  too_much : (f : Filling) → IsFirst (Fits def kind own w) (fillings def) (Some f)
      → IsTooMuch def kind (filled def own w f) → c.entries.items ≡ [] → c.incomplete ≡ false
      → IsCompleted def kind own w c
  offers : (f : Filling) (j : Judged) (path : Path) (least : ℕ) (sample : Name) (told : Option Read)
      → IsFirst (Fits def kind own w) (fillings def) (Some f) → IsJudged def kind (filled def own w f) j
      → HasPlaceholder def kind (filled def own w f) (mark_byte def w f) f.phylum (tree_in j.note) path
      → IsToldOf def kind (tree_in j.note) (spot_at path) menu_of words_told told
      → IsLeast def (tree_in j.note) path least → IsSampleName def sample
      → AreOffered def kind (tree_in j.note) (spot_at path) least sample (prefix_of own w) (lines_of told)
      c.entries.items c.incomplete → c.before ≡ put_before def own w f.side → c.behind ≡ put_behind def own w f.side
      → IsCompleted def kind own w c

-- so it is, and the word has these bytes in the whole text
pub record IsCompletedAt (def : Definition) (kind : Kind) (own : List ℕ) (w : Word) (from to : ℕ) (c : Completion)
    : Type 0 where
  pub from_is : c.from ≡ from
  pub to_is : c.to ≡ to
  pub completed : IsCompleted def kind own w c

-- nothing may be put in place of what has these bytes
pub record IsEmpty (from to : ℕ) (c : Completion) : Type 0 where
  pub from_is : c.from ≡ from
  pub to_is : c.to ≡ to
  pub entries : c.entries.items ≡ []
  pub complete : c.incomplete ≡ false

-- the byte of what is judged, at most its end
abbrev pub inside : List ℕ → ℕ → ℕ
inside own byte = min (length own) byte

pub record IsCompletion (def : Definition) (kind : Kind) (text : List ℕ) (byte : ℕ) (c : Completion) : Type 0 where
  pub word : Word
  pub around : IsWordAround (unmarked text) (inside (unmarked text) (own_byte text byte)) word
  pub from : c.from ≡ mark_size text + word.from
  pub to : c.to ≡ mark_size text + word.to
  pub completed : IsCompleted def kind (unmarked text) word c
