-- Legal trees, and fragments that have a legal completion.
use Rattle.std.specs.Prelude.{ℕ, ◌≡◌, Bool, true, false, List, [], ◌∷◌, slice_get, map, Some}
use Rattle.psg_terms.specs.Terms.{Term}
use Rattle.psg_terms.specs.Signature.{Signature, HasSort}
use Rattle.psg_terms.specs.Instances.{Substitution, substitute, IsGround, IsGrounding}
use Rattle.psg_grammar.specs.declared.types.Operator.{Operator}
use Rattle.psg_grammar.specs.declared.types.ListKind.{ListKind}
use Rattle.psg_grammar.specs.declared.types.Row.{Row}
use Rattle.psg_grammar.specs.declared.types.Space.{Space}
use Rattle.psg_grammar.specs.declared.types.Definition.{Definition}
use Rattle.psg_grammar.specs.Fragments.{Fragment, hole, ending, cell, operator, with_child, with_name, with_number}
use Rattle.psg_grammar.specs.Fragments.{with_text, anything, observed}
use Rattle.psg_terms.specs.Names.{is_among}
use Rattle.psg_grammar.specs.Keys.{Key, space_of}
use Rattle.psg_grammar.specs.Lookups.{is_scope, key_at}
use Rattle.psg_grammar.specs.Regions.{declared_inside, IsDistinct}
use Rattle.psg_grammar.specs.Fillings.{Fills}
use Rattle.psg_grammar.specs.Paths.{Path, observe}

-- an entity for each key
abbrev pub Entities : Type 0
Entities = Key → Term

-- Each entity is a term without variables, of the sort of its key's space. A finite map would say the same: every sort
-- has such a term, and if there is no space, there are no keys.
pub record AreEntities (def : Definition) (g : Entities) : Type 0 where
  pub ground : (n : Key) → IsGround (g n)
  pub sorted : (n : Key) (e : Space) → slice_get def.spaces (space_of n) ≡ Some e → HasSort def.signature (g n) e.sort.0

-- the head and the columns are a row's, with terms without variables for its variables
pub record IsOfRow (sig : Signature) (row : Row) (value : Term) (columns : List Term) : Type 0 where
  pub terms : Substitution
  pub grounding : IsGrounding sig terms
  pub head : value ≡ substitute terms row.head
  pub rest : columns ≡ map (substitute terms) row.columns

-- the value is the term with terms without variables in place of its variables
abbrev pub IsOfTerm : Signature → Term → Term → Type 0
IsOfTerm sig term value = (terms : Substitution) × IsGrounding sig terms × (value ≡ substitute terms term)

-- keys that are not among those declared inside have the same entities
abbrev pub AgreeOutside : List Key → Entities → Entities → Type 0
AgreeOutside declared g inner = (n : Key) → is_among declared n ≡ false → inner n ≡ g n

-- what the entities inside a node may be: at a scope operator those that agree, elsewhere the same
abbrev pub Within : Bool → (Entities → Entities → Type 0) → Entities → Entities → Type 0
Within true Agrees g inner = Agrees g inner
Within false Agrees g inner = inner ≡ g

-- Legal g t columns v before after: by the definition's rows the tree has the value v under the entities g, where
-- the columns are those of the parts that still follow. The values of the observed nodes are the part of
-- before that is in front of after.
module _ (def : Definition) where
  abbrev pub Legal : Entities → Fragment → List Term → Term → List Term → List Term → Type 0
  Legal g (hole p) columns v before after = ⊥
  Legal g (ending l true) columns v before after = ⊥
  Legal g (ending l false) columns v before after =
      (columns ≡ []) × (before ≡ after) × (kind : ListKind) × (row : Term) × (r : ℕ)
      × (slice_get def.lists l ≡ Some kind) × (slice_get kind.nil_rows r ≡ Some row) × IsOfTerm def.signature row v
  Legal g (cell l e rest) columns v before after =
      (columns ≡ []) × (kind : ListKind) × (row : Row) × (r : ℕ) × (first : Term) × (others : Term) × (mid : List Term)
      × (inner : Entities)
      × (slice_get def.lists l ≡ Some kind) × (slice_get kind.cell_rows r ≡ Some row)
      × IsOfRow def.signature row v (first ∷ others ∷ [])
      × AreEntities def inner × Within (is_scope def e) (AgreeOutside (declared_inside def e)) g inner
      × Legal inner e [] first before mid × Legal g rest [] others mid after
  Legal g (operator o) columns v before after =
      (before ≡ after) × (op : Operator) × (row : Row) × (r : ℕ)
      × (slice_get def.operators o ≡ Some op) × (slice_get op.rows r ≡ Some row) × IsOfRow def.signature row v columns
  Legal g (with_child f t) columns v before after =
      (u : Term) × (mid : List Term) × (inner : Entities) × Legal g f (u ∷ columns) v before mid
      × AreEntities def inner × Within (is_scope def t) (AgreeOutside (declared_inside def t)) g inner
      × Legal inner t [] u mid after
  Legal g (with_name f n) columns v before after = Legal g f (g (key_at def f n) ∷ columns) v before after
  Legal g (with_number f n) columns v before after = Legal g f columns v before after
  Legal g (with_text f t) columns v before after = Legal g f columns v before after
  Legal g anything columns v before after = ⊥
  Legal g (observed f) columns v before after = (mid : List Term) × (before ≡ v ∷ mid) × Legal g f columns v mid after

  -- the tree under the entities outside it
  pub record IsLegal (g : Entities) (t : Fragment) (v : Term) (seen : List Term) : Type 0 where
    pub inner : Entities
    pub entities : AreEntities def inner
    pub agree : Within (is_scope def t) (AgreeOutside (declared_inside def t)) g inner
    pub legal : Legal inner t [] v seen []

module _ (def : Definition) where
  -- some filling is legal under some entities of the keys outside, with these values of the observed nodes
  pub record IsCompletableAs (f : Fragment) (seen : List Term) : Type 0 where
    pub tree : Fragment
    pub fills : Fills def f tree
    pub distinct : IsDistinct def tree
    pub outside : Entities
    pub entities : AreEntities def outside
    pub value : Term
    pub legal : IsLegal def outside tree value seen

  -- the fragment has a legal completion
  abbrev pub IsCompletable : Fragment → Type 0
  IsCompletable f = IsCompletableAs f []

  -- the node at the path has the value in some legal completion
  abbrev pub IsPossibleAt : Fragment → Path → Term → Type 0
  IsPossibleAt f path u = IsCompletableAs (observe path f) (u ∷ [])
