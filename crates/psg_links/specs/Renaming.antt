-- When names may get a new name, and why not.
use Rattle.std.specs.Prelude.{ℕ, ◌≡◌, ◌==◌, ◌&&◌, Bool, true, false, cond, List, [], ◌∷◌, ◌++◌, length, take, drop}
use Rattle.std.specs.Prelude.{bytes_eq, chars, nat_le, not, Option, Some, None, Vec}
use Rattle.std.specs.declared.alloc.Global.{Global}
use Rattle.std.specs.declared.result.Result.{Result}
use Rattle.std.specs.declared.result.Result.TheVariants.{Ok, Err}
use Rattle.psg_grammar.specs.declared.types.Definition.{Definition}
use Rattle.psg_grammar.specs.declared.types.Kind.{Kind}
use Rattle.psg_grammar.specs.Fragments.{Fragment}
use Rattle.psg_grammar.specs.WellFormed.{fixed_words}
use Rattle.psg_terms.specs.Names.{is_among}
use Rattle.psg_tree.specs.WordTests.{is_word_from}
use Rattle.psg_lexis.specs.declared.token.Spanned.{Spanned}
use Rattle.psg_ranges.specs.Forests.{Forest}
use Rattle.psg_program.specs.Programs.{IsProgram}
use Rattle.psg_uses.specs.declared.names.Written.{Written}
use Rattle.psg_uses.specs.Naming.{is_same_place}
use Rattle.psg_links.specs.declared.link.Link.{Link}
use Rattle.psg_links.specs.declared.refusal.Refusal.{Refusal}
use Rattle.psg_links.specs.declared.refusal.Refusal.TheVariants as refusals
use Rattle.psg_links.specs.declared.spot.Spot.{Spot}
use Rattle.psg_links.specs.Links.{is_same_link, is_together, links_of}
use Rattle.psg_links.specs.Spots.{link_at, spots_of}

-- ---- the text with the new name

abbrev pub between : ℕ → ℕ → List ℕ → List ℕ
between from to bytes = drop from (take to bytes)

-- the bytes from a place on, with the new name at each of the spots
abbrev pub edited : List ℕ → List ℕ → ℕ → List Spot → List ℕ
edited bytes new from [] = drop from bytes
edited bytes new from (s ∷ ss) = between from s.start bytes ++ new ++ edited bytes new s.end ss

-- ---- the names with the new name

-- a name that a text can have: a word of at most 255 bytes that is no fixed word
abbrev pub is_new_name : Definition → List ℕ → Bool
is_new_name def new =
    is_word_from true (chars new) && not (is_among (fixed_words def) new) && nat_le (length new) 255

-- the name that x has after those together with w have got the new one
abbrev pub new_name : Link → List ℕ → Link → List ℕ
new_name w new x = cond (is_together w x) new x.name.name

-- y is the name x after that
abbrev pub is_renamed : Link → List ℕ → Link → Link → Bool
is_renamed w new x y =
    is_same_place x.name y.name && x.name.space == y.name.space && bytes_eq (new_name w new x) y.name.name

-- so are all names, in order
abbrev pub are_renamed : Link → List ℕ → List Link → List Link → Bool
are_renamed w new [] [] = true
are_renamed w new [] (y ∷ ys) = false
are_renamed w new (x ∷ xs) [] = false
are_renamed w new (x ∷ xs) (y ∷ ys) = is_renamed w new x y && are_renamed w new xs ys

-- each name is linked to the place to which that of the same number is
abbrev pub are_linked_alike : List Link → List Link → Bool
are_linked_alike [] ys = true
are_linked_alike (x ∷ xs) [] = true
are_linked_alike (x ∷ xs) (y ∷ ys) = is_same_link x.declaration y.declaration && are_linked_alike xs ys

-- ---- answers

-- what is said of the names after the new name, by those before it
abbrev pub IsWithin : Link → List ℕ → List Link → List Link → Option Refusal → Type 0
IsWithin w new xs ys None = (are_renamed w new xs ys ≡ true) × (are_linked_alike xs ys ≡ true)
IsWithin w new xs ys (Some refusals.Unread) = are_renamed w new xs ys ≡ false
IsWithin w new xs ys (Some refusals.Relinked) = (are_renamed w new xs ys ≡ true) × (are_linked_alike xs ys ≡ false)
IsWithin w new xs ys (Some refusals.NoName) = ⊥
IsWithin w new xs ys (Some refusals.Outside) = ⊥
IsWithin w new xs ys (Some refusals.NewName) = ⊥

-- the text is the program with the same names except those together with w, which have the new one
pub record IsRenamed (def : Definition) (kind : Kind) (text : List ℕ) (w : Link) (new : List ℕ) (links : List Link)
    (f : Fragment) : Type 0 where
  pub program : IsProgram def kind text f
  pub names : are_renamed w new links (links_of def f) ≡ true

-- what is said of the text with the new name
abbrev pub IsTried : Definition → Kind → List ℕ → Link → List ℕ → List Link → Option Refusal → Type 0
IsTried def kind text w new links None =
    (f : Fragment) × IsRenamed def kind text w new links f × (are_linked_alike links (links_of def f) ≡ true)
IsTried def kind text w new links (Some refusals.Unread) = (f : Fragment) → IsRenamed def kind text w new links f → ⊥
IsTried def kind text w new links (Some refusals.Relinked) =
    (f : Fragment) × IsRenamed def kind text w new links f × (are_linked_alike links (links_of def f) ≡ false)
IsTried def kind text w new links (Some refusals.NoName) = ⊥
IsTried def kind text w new links (Some refusals.Outside) = ⊥
IsTried def kind text w new links (Some refusals.NewName) = ⊥

module _ (def : Definition) (kind : Kind) (bytes : List ℕ) (tokens : List Spanned) (nodes : Forest)
    (links : List Link) where
  -- the name at the byte is linked to a declaration
  pub record IsDeclared (byte : ℕ) (l : Link) : Type 0 where
    pub there : link_at tokens nodes byte links ≡ Some l
    pub to : Written
    pub declared : l.declaration ≡ Some to

  -- the text in which the names together with it have the new name
  abbrev pub renamed_text : List ℕ → Link → List ℕ
  renamed_text new l = edited bytes new 0 (spots_of tokens nodes l links)

  -- what is answered of a name that is linked to a declaration
  abbrev pub IsGiven : Link → List ℕ → Result (Vec Spot Global) Refusal → Type 0
  IsGiven l new (Ok spots) = (is_new_name def new ≡ true)
      × IsTried def kind (renamed_text new l) l new links None × (spots.items ≡ spots_of tokens nodes l links)
  IsGiven l new (Err refusals.NewName) = is_new_name def new ≡ false
  IsGiven l new (Err refusals.Unread) = (is_new_name def new ≡ true)
      × IsTried def kind (renamed_text new l) l new links (Some refusals.Unread)
  IsGiven l new (Err refusals.Relinked) = (is_new_name def new ≡ true)
      × IsTried def kind (renamed_text new l) l new links (Some refusals.Relinked)
  IsGiven l new (Err refusals.NoName) = ⊥
  IsGiven l new (Err refusals.Outside) = ⊥

  -- The edits are at all names together with the one at the byte, and no link arises or breaks; or that can't be: there
  -- is no name, nothing declares it here, the new name is none, the text with it is not the program with the new names,
  -- or a name would be linked to another declaration, or no longer to one.
  abbrev pub IsAnswer : ℕ → List ℕ → Result (Vec Spot Global) Refusal → Type 0
  IsAnswer byte new (Ok spots) = (l : Link) × IsDeclared byte l × IsGiven l new (Ok spots)
  IsAnswer byte new (Err refusals.NoName) = link_at tokens nodes byte links ≡ None
  IsAnswer byte new (Err refusals.Outside) =
      (l : Link) × (link_at tokens nodes byte links ≡ Some l) × (l.declaration ≡ None)
  IsAnswer byte new (Err refusals.NewName) = (l : Link) × IsDeclared byte l × IsGiven l new (Err refusals.NewName)
  IsAnswer byte new (Err refusals.Unread) = (l : Link) × IsDeclared byte l × IsGiven l new (Err refusals.Unread)
  IsAnswer byte new (Err refusals.Relinked) = (l : Link) × IsDeclared byte l × IsGiven l new (Err refusals.Relinked)
