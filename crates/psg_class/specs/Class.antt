-- The grammar class: eight conditions, each by what fails it.
use Rattle.std.specs.Prelude.{ℕ, ◌≡◌, ◌≢◌, ◌<◌, ◌&&◌, ◌||◌, not, nat_le, length, Bool, true, false}
use Rattle.std.specs.Prelude.{is_some, List, [], ◌∷◌, ◌++◌, Option, Some, None, slice_get}
use Rattle.psg_grammar.specs.declared.types.Kind.TheVariants as kinds
use Rattle.psg_grammar.specs.declared.types.Level.{Level}
use Rattle.psg_grammar.specs.declared.types.Level.TheVariants as levels
use Rattle.psg_grammar.specs.declared.types.Item.{Item}
use Rattle.psg_grammar.specs.declared.types.Item.TheVariants as items
use Rattle.psg_grammar.specs.declared.types.Operator.{Operator}
use Rattle.psg_grammar.specs.declared.types.Phylum.{Phylum}
use Rattle.psg_grammar.specs.declared.types.ListKind.{ListKind}
use Rattle.psg_grammar.specs.declared.types.Definition.{Definition}
use Rattle.psg_grammar.specs.Levels.{level_number, is_slot_of}
use Rattle.psg_class.specs.Terminals.{Terminal, fixed, open_bracket, item_terminal}
use Rattle.psg_class.specs.Places.{solid, is_empty, slot_level}
use Rattle.psg_class.specs.Follow.{Leads, Led, FirstOfList, Follow}

-- ---- items of one operator, the marks for the layout left out

-- the item is a word, a name, a number or a text
abbrev pub is_token : Item → Bool
is_token i = is_some (item_terminal i)

-- the first item is a token item
abbrev pub token_first : List Item → Bool
token_first [] = false
token_first (i ∷ rest) = is_token i

-- the last item is a token item
abbrev pub token_last : List Item → Bool
token_last [] = false
token_last (i ∷ []) = is_token i
token_last (i ∷ j ∷ rest) = token_last (j ∷ rest)

-- the first item is a slot of the phylum
abbrev pub own_first : ℕ → List Item → Bool
own_first p [] = false
own_first p (i ∷ rest) = is_slot_of p (Some i)

-- the last item is a slot of the phylum
abbrev pub own_last : ℕ → List Item → Bool
own_last p [] = false
own_last p (i ∷ []) = is_slot_of p (Some i)
own_last p (i ∷ j ∷ rest) = own_last p (j ∷ rest)

-- a token item first, or a slot of the own phylum and then a token item
abbrev pub begins_well : ℕ → List Item → Bool
begins_well p [] = false
begins_well p (i ∷ rest) = is_token i || (is_slot_of p (Some i) && token_first rest)

-- The items are of the form of the level. Two slots with nothing between them are no infix form.
abbrev pub has_form : Level → ℕ → List Item → Bool
has_form levels.Plain p is = token_first is && not (own_last p is)
has_form (levels.Prefix n) p is = token_first is && own_last p is
has_form (levels.Postfix n) p is = own_first p is && token_last is
has_form (levels.InfixLeft n) p is = own_first p is && own_last p is && nat_le 3 (length is)
has_form (levels.InfixRight n) p is = own_first p is && own_last p is && nat_le 3 (length is)
has_form (levels.InfixNone n) p is = own_first p is && own_last p is && nat_le 3 (length is)

-- the N of a form
abbrev pub number_of : Level → Option ℕ
number_of levels.Plain = None
number_of (levels.Prefix n) = Some n
number_of (levels.Postfix n) = Some n
number_of (levels.InfixLeft n) = Some n
number_of (levels.InfixRight n) = Some n
number_of (levels.InfixNone n) = Some n

-- ---- what fails

-- the operator n begins neither with a token item nor with a slot of its own phylum and then a token item
pub record NoFirst (def : Definition) (n : ℕ) : Type 0 where
  pub o : Operator
  pub found : slice_get def.operators n ≡ Some o
  pub fails : begins_well o.phylum (solid o.items) ≡ false

-- the items of the operator n are not of its form
pub record BadForm (def : Definition) (n : ℕ) : Type 0 where
  pub o : Operator
  pub found : slice_get def.operators n ≡ Some o
  pub fails : has_form o.level o.phylum (solid o.items) ≡ false

-- a slot of the phylum asks for a level that one of its operators does not have, and there are no brackets
pub record NoBracket (def : Definition) (p : ℕ) : Type 0 where
  pub phylum : Phylum
  pub found : slice_get def.phyla p ≡ Some phylum
  pub bare : phylum.bracketed ≡ false
  pub n : ℕ
  pub holder : Operator
  pub holds : slice_get def.operators n ≡ Some holder
  pub front : List Item
  pub behind : List Item
  pub items : solid holder.items ≡ front ++ items.Slot (kinds.Phylum p) ∷ behind
  pub m : ℕ
  pub o : Operator
  pub there : slice_get def.operators m ≡ Some o
  pub of_phylum : o.phylum ≡ p
  pub below : level_number o.level < slot_level holder (kinds.Phylum p) (is_empty front) behind

-- two operators of the phylum have this N and not the same form
pub record MixedLevel (def : Definition) (p level : ℕ) : Type 0 where
  pub n : ℕ
  pub o : Operator
  pub found : slice_get def.operators n ≡ Some o
  pub of_phylum : o.phylum ≡ p
  pub m : ℕ
  pub other : Operator
  pub there : slice_get def.operators m ≡ Some other
  pub of_phylum_too : other.phylum ≡ p
  pub number : number_of o.level ≡ Some level
  pub number_too : number_of other.level ≡ Some level
  pub differ : o.level ≢ other.level

-- two operators of the phylum, or one and the bracket, begin with the same token
pub data SameFirst (def : Definition) (p : ℕ) : Terminal → Type 0 where
  two_operators : {terminal : Terminal} (n m : ℕ) → n ≢ m → Leads def p n terminal → Leads def p m terminal
      → SameFirst def p terminal
  with_bracket : (phylum : Phylum) → slice_get def.phyla p ≡ Some phylum → phylum.bracketed ≡ true → (n : ℕ)
      → Leads def p n open_bracket → SameFirst def p open_bracket

-- two led operators of the phylum have the same second token
pub data SameLed (def : Definition) (p : ℕ) : Terminal → Type 0 where
  two_led : {terminal : Terminal} (n m : ℕ) → n ≢ m → Led def p n terminal → Led def p m terminal
      → SameLed def p terminal

-- the second token of the led operator n can follow a tree of its phylum
pub data LedFollows (def : Definition) (n : ℕ) : Terminal → Type 0 where
  led_behind : {terminal : Terminal} (p : ℕ) → Led def p n terminal → Follow def (kinds.Phylum p) terminal
      → LedFollows def n terminal

-- what goes on a list can also follow the list: its separator, or what begins it
pub data ListEnd (def : Definition) (l : ℕ) : Terminal → Type 0 where
  separator_behind : (kind : ListKind) → slice_get def.lists l ≡ Some kind
      → Follow def (kinds.List l) (fixed kind.separator) → ListEnd def l (fixed kind.separator)
  first_behind : {terminal : Terminal} → FirstOfList def l terminal → Follow def (kinds.List l) terminal
      → ListEnd def l terminal

-- ---- where nothing fails

-- it fails for no number
abbrev pub Never : (ℕ → Type 0) → Type 0
Never Fails = (n : ℕ) → Fails n → ⊥

-- for none of the things and none of the tokens
abbrev pub NeverAny : (ℕ → Terminal → Type 0) → Type 0
NeverAny Fails = (n : ℕ) (terminal : Terminal) → Fails n terminal → ⊥

-- The first conditions hold, in their order, as many as the name's number says.
abbrev pub Holds1 : Definition → Type 0
Holds1 def = Never (NoFirst def)

abbrev pub Holds2 : Definition → Type 0
Holds2 def = Holds1 def × Never (BadForm def)

abbrev pub Holds3 : Definition → Type 0
Holds3 def = Holds2 def × Never (NoBracket def)

abbrev pub Holds4 : Definition → Type 0
Holds4 def = Holds3 def × ((p : ℕ) → Never (MixedLevel def p))

abbrev pub Holds5 : Definition → Type 0
Holds5 def = Holds4 def × NeverAny (SameFirst def)

abbrev pub Holds6 : Definition → Type 0
Holds6 def = Holds5 def × NeverAny (SameLed def)

abbrev pub Holds7 : Definition → Type 0
Holds7 def = Holds6 def × NeverAny (LedFollows def)

-- all eight conditions hold
abbrev pub IsClass : Definition → Type 0
IsClass def = Holds7 def × NeverAny (ListEnd def)
