-- Fragments judged with their placeholders, by the hole rows.
use Rattle.std.specs.Prelude.{ℕ, ◌≡◌, Bool, true, false, List, [], ◌∷◌, slice_get, Some}
use Rattle.psg_terms.specs.Terms.{Term}
use Rattle.psg_grammar.specs.declared.types.Kind.{Kind}
use Rattle.psg_grammar.specs.declared.types.Kind.TheVariants as kinds
use Rattle.psg_grammar.specs.declared.types.Operator.{Operator}
use Rattle.psg_grammar.specs.declared.types.ListKind.{ListKind}
use Rattle.psg_grammar.specs.declared.types.Row.{Row}
use Rattle.psg_grammar.specs.declared.types.HoleRow.{HoleRow}
use Rattle.psg_grammar.specs.declared.types.Definition.{Definition}
use Rattle.psg_grammar.specs.Fragments.{Fragment, hole, ending, cell, operator, with_child, with_name, with_number}
use Rattle.psg_grammar.specs.Fragments.{with_text, anything, observed}
use Rattle.psg_terms.specs.Names.{is_among}
use Rattle.psg_grammar.specs.Keys.{Key, space_of}
use Rattle.psg_grammar.specs.Lookups.{is_scope, key_at}
use Rattle.psg_grammar.specs.Regions.{declared_inside, unfinished_inside, IsDistinct}
use Rattle.psg_grammar.specs.Legal.{Entities, AreEntities, IsOfRow, IsOfTerm, Within}

-- a row for each operator, cell, end and placeholder
abbrev pub Choice : Fragment → Type 0
Choice (hole p) = ℕ
Choice (ending l u) = ℕ
Choice (cell l e r) = ℕ × Choice e × Choice r
Choice (operator o) = ℕ
Choice (with_child f t) = Choice f × Choice t
Choice (with_name f n) = Choice f
Choice (with_number f n) = Choice f
Choice (with_text f t) = Choice f
Choice anything = Unit {0}
Choice (observed f) = Choice f

-- Keys that are not declared inside have the same entities, in each space in which the region isn't unfinished. In the
-- other spaces a key may still be declared in the region, so a use of it must not be linked to a declaration further
-- out.
abbrev pub AgreeOpen : (ℕ → Bool) → List Key → Entities → Entities → Type 0
AgreeOpen unfinished declared g inner = (n : Key) → unfinished (space_of n) ≡ false → is_among declared n ≡ false
    → inner n ≡ g n

module _ (def : Definition) where
  abbrev pub Agrees : Fragment → Entities → Entities → Type 0
  Agrees t g inner = Within (is_scope def t)
      (AgreeOpen (λ s. unfinished_inside def s t) (declared_inside def t)) g inner

  -- the value is one of the chosen hole row, which is of the kind
  pub record IsOfHoleRow (kind : Kind) (r : ℕ) (v : Term) : Type 0 where
    pub row : HoleRow
    pub chosen : slice_get def.hole_rows r ≡ Some row
    pub same : row.kind ≡ kind
    pub value : IsOfTerm def.signature row.term v

  pub record IsOfNilRow (l r : ℕ) (v : Term) : Type 0 where
    pub kind : ListKind
    pub list : slice_get def.lists l ≡ Some kind
    pub row : Term
    pub chosen : slice_get kind.nil_rows r ≡ Some row
    pub value : IsOfTerm def.signature row v

  pub record IsOfCellRow (l r : ℕ) (v first others : Term) : Type 0 where
    pub kind : ListKind
    pub list : slice_get def.lists l ≡ Some kind
    pub row : Row
    pub chosen : slice_get kind.cell_rows r ≡ Some row
    pub value : IsOfRow def.signature row v (first ∷ others ∷ [])

  pub record IsOfOperatorRow (o r : ℕ) (v : Term) (columns : List Term) : Type 0 where
    pub op : Operator
    pub found : slice_get def.operators o ≡ Some op
    pub row : Row
    pub chosen : slice_get op.rows r ≡ Some row
    pub value : IsOfRow def.signature row v columns

  -- Holds g f c columns v before after: the same judgement with the chosen rows, and with the hole rows for the
  -- placeholders and unfinished ends
  abbrev pub Holds : Entities → (f : Fragment) → Choice f → List Term → Term → List Term → List Term → Type 0
  Holds g (hole p) c columns v before after = (columns ≡ []) × (before ≡ after) × IsOfHoleRow (kinds.Phylum p) c v
  Holds g (ending l true) c columns v before after = (columns ≡ []) × (before ≡ after) × IsOfHoleRow (kinds.List l) c v
  Holds g (ending l false) c columns v before after = (columns ≡ []) × (before ≡ after) × IsOfNilRow l c v
  Holds g (cell l e rest) c columns v before after =
      (columns ≡ []) × (first : Term) × (others : Term) × (mid : List Term) × (inner : Entities)
      × IsOfCellRow l c.0 v first others
      × AreEntities def inner × Agrees e g inner × Holds inner e c.1 [] first before mid
      × Holds g rest c.2 [] others mid after
  Holds g (operator o) c columns v before after = (before ≡ after) × IsOfOperatorRow o c v columns
  Holds g (with_child f t) c columns v before after =
      (u : Term) × (mid : List Term) × (inner : Entities) × Holds g f c.0 (u ∷ columns) v before mid
      × AreEntities def inner × Agrees t g inner × Holds inner t c.1 [] u mid after
  Holds g (with_name f n) c columns v before after = Holds g f c (g (key_at def f n) ∷ columns) v before after
  Holds g (with_number f n) c columns v before after = Holds g f c columns v before after
  Holds g (with_text f t) c columns v before after = Holds g f c columns v before after
  Holds g anything c columns v before after = (columns ≡ []) × (before ≡ v ∷ after)
  Holds g (observed f) c columns v before after = (mid : List Term) × (before ≡ v ∷ mid)
      × Holds g f c columns v mid after

  -- the fragment under the entities outside it, by the choice, with the values of the observed nodes
  pub record Judged (g : Entities) (f : Fragment) (c : Choice f) (v : Term) (seen : List Term) : Type 0 where
    pub inner : Entities
    pub entities : AreEntities def inner
    pub agree : Agrees f g inner
    pub holds : Holds inner f c [] v seen []

  -- no key is declared twice, and the judgement holds for some choice and entities
  pub record IsOpenAs (f : Fragment) (seen : List Term) : Type 0 where
    pub distinct : IsDistinct def f
    pub choice : Choice f
    pub outside : Entities
    pub entities : AreEntities def outside
    pub value : Term
    pub judged : Judged outside f choice value seen

  abbrev pub IsOpen : Fragment → Type 0
  IsOpen f = IsOpenAs f []
