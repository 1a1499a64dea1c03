-- What grows of a judged tree with places.
use Rattle.std.proofs.Common.{◌≡◌, ℕ, ◌+◌, ◌≤◌, Bool, true, false, cond, ◌&&◌, not, List, [], ◌∷◌, slice_get, Some}
use Rattle.psg_terms.specs.Terms.{Term}
use Rattle.psg_terms.specs.Signature.{HasSort}
use Rattle.psg_terms.specs.Instances.{IsGround}
use Rattle.psg_terms.specs.Names.{is_among}
use Rattle.psg_grammar.specs.declared.types.Kind.{Kind}
use Rattle.psg_grammar.specs.declared.types.Item.{Item}
use Rattle.psg_grammar.specs.declared.types.ListKind.{ListKind}
use Rattle.psg_grammar.specs.declared.types.Definition.{Definition}
use Rattle.psg_grammar.specs.Fragments.{Fragment, hole, ending, cell, operator, with_child, with_name, with_number, with_text, anything, observed, top_operator, parts_count}
use Rattle.psg_grammar.specs.Keys.{Key, space_of, name_in}
use Rattle.psg_grammar.specs.Lookups.{is_scope, next_item, is_declares, key_at}
use Rattle.psg_grammar.specs.Declaring.{is_declaring}
use Rattle.psg_grammar.specs.Regions.{declared_inside, declared_in, unfinished_inside, DistinctBelow, AreDistinct}
use Rattle.psg_grammar.specs.WellFormed.{Fits, WellFormed, IsComplete, IsPlain, IsUnobserved, IsName}
use Rattle.psg_grammar.specs.Legal.{Entities, AreEntities, Within, AgreeOutside, Legal, IsLegal}
use Rattle.psg_grammar.specs.Open.{IsOfHoleRow, IsOfCellRow}
use Rattle.psg_grammar.proofs.MixedEntities.{SameOn}
use Rattle.psg_completions.proofs.Counting.{AllAre, image, Own, own_append, own_cond, Renaming}
use Rattle.psg_completions.specs.Counts.{count}
use Rattle.psg_grammar.specs.declared.types.Kind.TheVariants as kinds

-- what is nowhere observed is not observed at its top
pub unobserved : (t : Fragment) → IsPlain t → IsUnobserved t
unobserved (hole p) h = tt
unobserved (ending l u) h = tt
unobserved (cell l e r) h = tt
unobserved (operator o) h = tt
unobserved (with_child f t) h = tt
unobserved (with_name f n) h = tt
unobserved (with_number f n) h = tt
unobserved (with_text f n) h = tt
unobserved anything h = tt
unobserved (observed f) h = absurd h

-- the top and the number of parts are the same
abbrev pub SameTop : Fragment → Fragment → Type 0
SameTop f t = (top_operator t ≡ top_operator f) × (parts_count t ≡ parts_count f)

-- a place by itself, which may become any node
abbrev pub IsPlace : Fragment → Bool
IsPlace (hole p) = true
IsPlace anything = true
IsPlace (ending l true) = true
IsPlace (observed f) = IsPlace f
IsPlace _ = false

module _ (names : Renaming) where
  abbrev pub Lifts : Entities → Entities → Type 0
  Lifts g h = (m : Key) → names.mine m ≡ true → h m ≡ g (names.back m)

  abbrev pub Kept : List Key → Type 0
  Kept avoid = (m : Key) → names.mine m ≡ true → is_among avoid m ≡ true

module _ (def : Definition) where
  -- A complete legal tree of the kind with the value, with new names alone.
  pub record Found (kind : Kind) (v : Term) (avoid : List Key) : Type 0 where
    pub tree : Fragment
    pub fits : Fits def tree [] kind
    pub complete : IsComplete tree
    pub plain : IsPlain tree
    pub new : List Key
    pub apart : (m : Key) → is_among new m ≡ true → is_among avoid m ≡ false
    pub given : Entities
    pub entities : AreEntities def given
    pub below : DistinctBelow def tree
    pub separate : AreDistinct (is_scope def tree) (declared_inside def tree)
    pub declares : (m : Key) → is_among new m ≡ false → count m (declared_in def tree) ≡ 0
    pub once : (m : Key) → count m (declared_in def tree) ≤ 1
    pub legal : (h : Entities) → AreEntities def h → SameOn new given h → IsLegal def h tree v []

  -- An element of the list with the value w that declares the name n with the entity e; other names are new.
  pub record Element (l : ℕ) (n : Key) (e : Term) (avoid : List Key) : Type 0 where
    pub kind : ListKind
    pub list : slice_get def.lists l ≡ Some kind
    pub tree : Fragment
    pub fits : Fits def tree [] (kinds.Phylum kind.element)
    pub complete : IsComplete tree
    pub plain : IsPlain tree
    pub new : List Key
    pub apart : (m : Key) → is_among new m ≡ true → is_among avoid m ≡ false
    pub given : Entities
    pub entities : AreEntities def given
    pub below : DistinctBelow def tree
    pub scope : is_scope def tree ≡ false
    pub declares : (m : Key) → is_among new m ≡ false → count m (declared_inside def tree) ≡ count m (n ∷ [])
    pub once : (m : Key) → is_among new m ≡ true → count m (declared_inside def tree) ≤ 1
    pub value : Term
    pub keeps : (u : Term) → IsGround u → HasSort def.signature u kind.sort.0 → (r : ℕ) × IsOfCellRow def l r u value u
    pub legal : (h : Entities) → AreEntities def h → SameOn new given h → h n ≡ e → Legal def h tree [] value [] []

  -- a tree for each place, of its kind and with its value
  pub record Supply (kind : Kind) (v : Term) : Type 0 where
    pub find : (avoid : List Key) → Found kind v avoid

  abbrev pub Supplies : List Kind → List Term → Type 0
  Supplies [] [] = Unit {0}
  Supplies [] (v ∷ vs) = ⊥
  Supplies (k ∷ ks) [] = ⊥
  Supplies (k ∷ ks) (v ∷ vs) = Supply k v × Supplies ks vs

  abbrev pub adds : Fragment → List Key
  adds c = cond (is_scope def c) [] (declared_inside def c)

  -- whether names may be declared more behind an unfinished list
  abbrev pub Room : Fragment → List Key → Type 0
  Room f extra = AllAre (λ k. unfinished_inside def (space_of k) f) extra

  abbrev pub RoomBeside : Fragment → List Key → Type 0
  RoomBeside t extra = AllAre (λ k. not (is_scope def t) && unfinished_inside def (space_of k) t) extra

  -- a child under the entities outside it, with the observed values in front of others
  pub record IsLegalPart (h : Entities) (tree : Fragment) (v : Term) (before after : List Term) : Type 0 where
    pub inner : Entities
    pub entities : AreEntities def inner
    pub agree : Within (is_scope def tree) (AgreeOutside (declared_inside def tree)) h inner
    pub legal : Legal def inner tree [] v before after

  -- names are changed and back; mine are the keys that then stand in the tree
  module _ (names : Renaming) where
    -- each name is changed to one that is mine, and the rest of a list is not observed
    abbrev pub CanGrow : Fragment → Type 0
    CanGrow (hole p) = Unit {0}
    CanGrow (ending l u) = Unit {0}
    CanGrow (cell l e r) = CanGrow e × CanGrow r × IsUnobserved r
    CanGrow (operator o) = Unit {0}
    CanGrow (with_child f t) = CanGrow f × CanGrow t
    CanGrow (with_name f n) = CanGrow f × (names.mine (names.to (key_at def f n)) ≡ true)
        × (names.back (names.to (key_at def f n)) ≡ key_at def f n)
        × (names.to (key_at def f n) ≡ space_of (key_at def f n) ∷ name_in (names.to (key_at def f n)))
        × IsName def (name_in (names.to (key_at def f n)))
    CanGrow (with_number f n) = CanGrow f
    CanGrow (with_text f n) = CanGrow f
    CanGrow anything = Unit {0}
    CanGrow (observed f) = CanGrow f

    pub own_declared : (f : Fragment) → CanGrow f → Own names (declared_inside def f)
    own_declared (hole p) h = tt
    own_declared (ending l u) h = tt
    own_declared (cell l e r) (he, hr, free) =
        own_append names (adds e) (declared_inside def r)
        (own_cond names (is_scope def e) (declared_inside def e) (own_declared e he)) (own_declared r hr)
    own_declared (operator o) h = tt
    own_declared (with_child f t) (hf, ht) =
        own_append names (declared_inside def f) (adds t) (own_declared f hf)
        (own_cond names (is_scope def t) (declared_inside def t) (own_declared t ht))
    own_declared (with_name f n) (hf, a, b, c, d) =
        own_append names (declared_inside def f) (cond (is_declares (next_item def f)) (key_at def f n ∷ []) [])
        (own_declared f hf) (named (is_declares (next_item def f))) where
          named : (b : Bool) → Own names (cond b (key_at def f n ∷ []) [])
          named true = (a, b, tt)
          named false = tt
    own_declared (with_number f n) h = own_declared f h
    own_declared (with_text f n) h = own_declared f h
    own_declared anything h = tt
    own_declared (observed f) h = own_declared f h

    -- what fills what, with changed names, and any tree in a place
    abbrev pub Grown : Fragment → Fragment → Type 0
    Grown (hole p) t = WellFormed def t (kinds.Phylum p) × IsComplete t
    Grown (ending l true) t = WellFormed def t (kinds.List l) × IsComplete t
    Grown (ending l false) t = t ≡ ending l false
    Grown (cell l e r) t = (e' : Fragment) × (r' : Fragment) × (t ≡ cell l e' r') × Grown e e' × Grown r r'
    Grown (operator o) t = t ≡ operator o
    Grown (with_child f c) t = (f' : Fragment) × (c' : Fragment) × (t ≡ with_child f' c') × Grown f f' × Grown c c'
    Grown (with_name f n) t = (f' : Fragment) × (t ≡ with_name f' (name_in (names.to (key_at def f n)))) × Grown f f'
    Grown (with_number f n) t = (f' : Fragment) × (t ≡ with_number f' n) × Grown f f'
    Grown (with_text f n) t = (f' : Fragment) × (t ≡ with_text f' n) × Grown f f'
    Grown anything t = Unit {0}
    Grown (observed f) t = (f' : Fragment) × (t ≡ observed f') × Grown f f'

    module _ (Allowed : Type 0) where
      pub record Node (f : Fragment) (g : Entities) (more : List Item) (kind : Kind) (columns : List Term) (v : Term)
          (before after : List Term) (avoid extra : List Key) : Type 0 where
        pub tree : Fragment
        pub grown : Grown f tree
        pub fits : Fits def tree more kind
        pub complete : IsComplete tree
        pub plain : (Allowed → ⊥) → IsPlain tree
        pub free : IsUnobserved f → IsUnobserved tree
        pub same : IsPlace f ≡ false → SameTop f tree
        pub new : List Key
        pub apart : (m : Key) → is_among new m ≡ true → is_among avoid m ≡ false
        pub given : Entities
        pub entities : AreEntities def given
        pub below : DistinctBelow def tree
        pub declares : (m : Key) → is_among new m ≡ false
            → count m (declared_inside def tree) ≡ image names m (declared_inside def f) + count m extra
        pub once : (m : Key) → is_among new m ≡ true → count m (declared_inside def tree) ≤ 1
        pub legal : (h : Entities) → AreEntities def h → Lifts names g h → SameOn new given h
            → Legal def h tree columns v before after

      pub record Child (t : Fragment) (g : Entities) (kind : Kind) (v : Term) (before after : List Term)
          (avoid extra : List Key) : Type 0 where
        pub tree : Fragment
        pub grown : Grown t tree
        pub fits : Fits def tree [] kind
        pub complete : IsComplete tree
        pub plain : (Allowed → ⊥) → IsPlain tree
        pub new : List Key
        pub apart : (m : Key) → is_among new m ≡ true → is_among avoid m ≡ false
        pub given : Entities
        pub entities : AreEntities def given
        pub below : DistinctBelow def tree
        pub separate : AreDistinct (is_scope def tree) (declared_inside def tree)
        pub declares : (m : Key) → is_among new m ≡ false → count m (adds tree) ≡ image names m (adds t) + count m extra
        pub once : (m : Key) → is_among new m ≡ true → count m (adds tree) ≤ 1
        pub legal : (h : Entities) → AreEntities def h → Lifts names g h → SameOn new given h
            → IsLegalPart h tree v before after

      abbrev pub Grows : Fragment → Entities → List Item → Kind → List Term → Term → List Term → List Term → Type 0
      Grows f g more kind columns v before after = (avoid extra : List Key) → Kept names avoid
          → AllAre names.mine extra → Room f extra → Node f g more kind columns v before after avoid extra

      abbrev pub GrowsBeside : Fragment → Entities → Kind → Term → List Term → List Term → Type 0
      GrowsBeside t g kind v before after = (avoid extra : List Key) → Kept names avoid → AllAre names.mine extra
          → RoomBeside t extra → Child t g kind v before after avoid extra

      -- What the places and unfinished lists need: a tree for each value of a hole row, and an element for each key to
      -- be declared. The keys in all are those that are mine, each once. What is left of the values of observed nodes
      -- is seen.
      pub record Supplied : Type 0 where
        pub over : (m : Key) → names.mine m ≡ true → names.to (names.back m) ≡ m
        pub spaces : (m : Key) → names.mine m ≡ true → space_of (names.back m) ≡ space_of m
        pub sorted : Allowed → (l r : ℕ) (kind : ListKind) (v : Term) → slice_get def.lists l ≡ Some kind
            → IsOfHoleRow def (kinds.List l) r v
            → IsGround v × HasSort def.signature v kind.sort.0
        pub supply : Allowed → (kind : Kind) (r : ℕ) (v : Term) → IsOfHoleRow def kind r v → Supply kind v
        pub declare : Allowed → (l : ℕ) (kind : ListKind) → slice_get def.lists l ≡ Some kind → kind.unfinished ≡ true
            → (g : Entities) → AreEntities def g
            → (n : Key) → names.mine n ≡ true → is_declaring def (space_of n) (kinds.List l) ≡ true
            → (avoid : List Key) → Kept names avoid → Element l n (g (names.back n)) avoid
        pub all : List Key
        pub all_mine : AllAre names.mine all
        pub listed : Allowed → (m : Key) → names.mine m ≡ true → count m all ≡ 1
        pub seen : List Term → List Term
        pub looks : Allowed → (v : Term) (us : List Term) → seen (v ∷ us) ≡ v ∷ seen us
        pub skips : (Allowed → ⊥) → (v : Term) (us : List Term) → seen (v ∷ us) ≡ seen us
