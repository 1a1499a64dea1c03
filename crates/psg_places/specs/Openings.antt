-- What the walks over a tree give whose places are opened.
use Rattle.std.specs.Prelude.{ℕ, ◌≡◌, ◌+◌, ◌<◌, ◌≤◌, Bool, true, false, cond, List, [], ◌∷◌, Option, Some, None, slice_get, Vec}
use Rattle.std.specs.declared.alloc.Global.{Global}
use Rattle.psg_terms.specs.Names.{Name as Word}
use Rattle.psg_grammar.specs.declared.types.Definition.{Definition}
use Rattle.psg_grammar.specs.Fragments.{Fragment, hole, cell, operator}
use Rattle.psg_grammar.specs.Sound.{IsSound}
use Rattle.psg_eval.specs.SpaceTables.{AreDeclaringSpaces}
use Rattle.psg_tree.specs.declared.tree.Part.{Part}
use Rattle.psg_tree.specs.declared.tree.Part.TheVariants.{Sub, Name, Number, Text}
use Rattle.psg_tree.specs.Shapes.{list_of, with_parts}
use Rattle.psg_places.specs.declared.opening.Keeping.{Keeping}
use Rattle.psg_places.specs.declared.opening.Opened.{Opened}
use Rattle.psg_places.specs.declared.opening.OpenedPart.{OpenedPart}
use Rattle.psg_places.specs.declared.opening.OpenedParts.{OpenedParts}
use Rattle.psg_places.specs.declared.opening.OpenedElements.{OpenedElements}
use Rattle.psg_places.specs.Blame.{kept_in}
use Rattle.psg_places.specs.NewNames.{new_name}
use Rattle.psg_places.specs.Opened.{name_or_fresh, opened_child, opened_element, contents, opened}
use Rattle.psg_places.specs.Places.{has_no_placeholder, may_go_on, phylum_of, child_size, declared_count, content_count}
use Rattle.psg_places.specs.Places.{place_count}

-- a sound definition with the table of the spaces in which its phyla declare
pub record IsKnown (k : Keeping) : Type 0 where
  pub sound : IsSound k.definition.now
  pub spaces : AreDeclaringSpaces k.definition.now k.spaces.now

abbrev pub has_any : List ℕ → Bool
has_any [] = false
has_any (s ∷ rest) = true

abbrev pub has_any_in : Option (Vec ℕ Global) → Bool
has_any_in None = false
has_any_in (Some v) = has_any v.items

-- whether the table has a space for the phylum
abbrev pub has_spaces : List (Vec ℕ Global) → ℕ → Bool
has_spaces found p = has_any_in (slice_get found p)

-- ---- counts by parts and elements

-- how many names of a tree are numbered with the declared names of the operator above it
abbrev pub fixed_declared : Definition → Fragment → ℕ
fixed_declared def t = cond (has_no_placeholder def t) (declared_count def t) 0

abbrev pub elements_declared : Definition → List Fragment → ℕ
elements_declared def [] = 0
elements_declared def (e ∷ rest) = fixed_declared def e + elements_declared def rest

-- of a part, of which it is known whether it is a name that is declared
abbrev pub part_declared : Definition → Bool → Part → ℕ
part_declared def declares (Sub t) = fixed_declared def t
part_declared def declares (Name x) = cond declares 1 0
part_declared def declares (Number x) = 0
part_declared def declares (Text x) = 0

abbrev pub part_places : Definition → Bool → Part → ℕ
part_places def declares (Sub t) = child_size def t (content_count def t)
part_places def declares (Name x) = cond declares 0 1
part_places def declares (Number x) = 0
part_places def declares (Text x) = 0

-- of an element, of which it is known whether its list may go on
abbrev pub own_size : Definition → Bool → Fragment → ℕ
own_size def free e = cond free
    (1 + cond (has_no_placeholder def e) (declared_count def e + content_count def e)
    (child_size def e (content_count def e)))
    (child_size def e (content_count def e))

-- of elements
abbrev pub elements_size : Definition → Bool → List Fragment → ℕ
elements_size def free [] = 0
elements_size def free (e ∷ rest) = own_size def free e + elements_size def free rest

-- an element of a list that may go on as it is, with how many places it has
pub record IsAsItIs (def : Definition) (e : Fragment) (o : Opened) : Type 0 where
  pub tree : o.tree ≡ e
  pub declared : o.declared ≡ 0
  pub others : o.others ≡ own_size def true e

-- ---- the trees

-- All places from the one number up to the other are kept.
abbrev pub Keeps : (ℕ → Bool) → ℕ → ℕ → Type 0
Keeps keep from to = (m : ℕ) → from ≤ m → m < to → keep m ≡ true

-- the elements, and then the rest of their list
abbrev pub cells : ℕ → List Fragment → Fragment → Fragment
cells l [] rest = rest
cells l (e ∷ es) rest = cell l e (cells l es rest)

module _ (k : Keeping) where
  abbrev pub keep : ℕ → Bool
  keep n = kept_in k.keep.now n

  abbrev pub fresh : ℕ → Word
  fresh n = new_name k.front.now n

  abbrev pub name_at : ℕ → Word → Word
  name_at n x = name_or_fresh k.definition.now keep fresh n x

  abbrev pub contents_at : ℕ → ℕ → Fragment → Fragment
  contents_at d n t = contents k.definition.now keep fresh d n t

  -- the declared names at n and after it, and then the other places
  abbrev pub both_at : ℕ → Fragment → Fragment
  both_at n t = contents_at n (n + declared_count k.definition.now t) t

  abbrev pub child_at : ℕ → ℕ → Fragment → Fragment
  child_at d n t = opened_child k.definition.now keep fresh n t (contents_at d n t) (both_at (n + 1) t)

  abbrev pub free_at : ℕ → Fragment → Fragment
  free_at n e = opened_element k.definition.now keep fresh e (both_at (n + 1) e) (child_at 0 (n + 1) e)

  abbrev pub element_at : Bool → ℕ → ℕ → Fragment → Fragment
  element_at free d n e = cond free (free_at n e) (child_at d n e)

  abbrev pub part_at : Bool → ℕ → ℕ → Part → Part
  part_at declares d n (Sub t) = Sub (child_at d n t)
  part_at declares d n (Name x) = Name (cond declares (name_at d x) (name_at n x))
  part_at declares d n (Number x) = Number x
  part_at declares d n (Text x) = Text x

  pub record IsOpenedName (declares : Bool) (d n : ℕ) (x : Word) (o : OpenedPart) : Type 0 where
    pub part : o.part ≡ Name (cond declares (name_at d x) (name_at n x))
    pub declared : o.declared ≡ cond declares 1 0
    pub others : o.others ≡ cond declares 0 1

  pub record IsOpenedPart (declares : Bool) (d n : ℕ) (p : Part) (o : OpenedPart) : Type 0 where
    pub part : o.part ≡ part_at declares d n p
    pub declared : o.declared ≡ part_declared k.definition.now declares p
    pub others : o.others ≡ part_places k.definition.now declares p

  pub record AreOpenedParts (op d n : ℕ) (ps : List Part) (o : OpenedParts) : Type 0 where
    pub parts : with_parts (operator op) o.parts.items ≡ contents_at d n (with_parts (operator op) ps)
    pub declared : o.declared ≡ declared_count k.definition.now (with_parts (operator op) ps)
    pub others : o.others ≡ content_count k.definition.now (with_parts (operator op) ps)

  pub record IsOpenedContents (d n : ℕ) (t : Fragment) (o : Opened) : Type 0 where
    pub tree : o.tree ≡ contents_at d n t
    pub declared : o.declared ≡ declared_count k.definition.now t
    pub others : o.others ≡ content_count k.definition.now t

  pub record IsOpenedBoth (n : ℕ) (t : Fragment) (o : Opened) : Type 0 where
    pub tree : o.tree ≡ both_at n t
    pub others : o.others ≡ declared_count k.definition.now t + content_count k.definition.now t

  pub record IsOpenedNode (n : ℕ) (t : Fragment) (o : Opened) : Type 0 where
    pub tree : o.tree ≡ cond (keep n) (both_at (n + 1) t) (hole (phylum_of k.definition.now t))
    pub declared : o.declared ≡ 0
    pub others : o.others ≡ 1 + (declared_count k.definition.now t + content_count k.definition.now t)

  pub record IsOpenedChild (d n : ℕ) (t : Fragment) (o : Opened) : Type 0 where
    pub tree : o.tree ≡ child_at d n t
    pub declared : o.declared ≡ fixed_declared k.definition.now t
    pub others : o.others ≡ child_size k.definition.now t (content_count k.definition.now t)

  pub record IsOpenedFree (n : ℕ) (e : Fragment) (o : Opened) : Type 0 where
    pub tree : o.tree ≡ free_at n e
    pub declared : o.declared ≡ 0
    pub others : o.others ≡ own_size k.definition.now true e

  pub record IsOpenedElement (free : Bool) (d n : ℕ) (e : Fragment) (o : Opened) : Type 0 where
    pub tree : o.tree ≡ element_at free d n e
    pub declared : o.declared ≡ cond free 0 (fixed_declared k.definition.now e)
    pub others : o.others ≡ own_size k.definition.now free e

  -- of an element that is left out no tree is made
  pub record IsOpenedMember (free kept : Bool) (d n : ℕ) (e : Fragment) (o : Opened) : Type 0 where
    pub tree : kept ≡ true → o.tree ≡ element_at free d n e
    pub declared : o.declared ≡ cond free 0 (fixed_declared k.definition.now e)
    pub others : o.others ≡ own_size k.definition.now free e

  -- of a list with the elements those are made, and of the rest none yet
  pub record OpensTo (free : Bool) (d n : ℕ) (es made : List Fragment) (dec own : ℕ) (rest : List Fragment)
      (l : ℕ) (u : Bool) : Type 0 where
    pub tree : contents_at d n (list_of l es u) ≡ cells l made (contents_at (d + dec) (n + own) (list_of l rest u))
    pub declared : declared_count k.definition.now (list_of l es u)
        ≡ dec + declared_count k.definition.now (list_of l rest u)
    pub others : content_count k.definition.now (list_of l es u)
        ≡ own + content_count k.definition.now (list_of l rest u)

  -- what is said there, of every list of these elements that may go on as `free` says
  abbrev pub OpenTo : Bool → ℕ → ℕ → List Fragment → List Fragment → ℕ → ℕ → List Fragment → Type 0
  OpenTo free d n es made dec own rest = (l : ℕ) (u : Bool) → may_go_on k.definition.now l ≡ free
      → OpensTo free d n es made dec own rest l u

  abbrev pub AreOpenedElements : Bool → ℕ → ℕ → List Fragment → OpenedElements → Type 0
  AreOpenedElements free d n es o = OpenTo free d n es o.elements.items o.declared o.others []

  pub record IsOpenedTree (t : Fragment) (o : Opened) : Type 0 where
    pub tree : o.tree ≡ opened k.definition.now keep fresh t
    pub others : o.others ≡ place_count k.definition.now t
