-- What the specimen of a declare row declares.
use Rattle.std.specs.Prelude.{ℕ, ◌≡◌, codes, slice_get, Some}
use Rattle.psg_grammar.specs.declared.types.Specimen.{Specimen, Op', List', Hole}
use Rattle.psg_grammar.specs.declared.types.DeclareRow.{DeclareRow}
use Rattle.psg_grammar.specs.declared.types.Definition.{Definition}
use Rattle.psg_grammar.specs.Fragments.{Fragment, hole, ending, cell, operator, with_child, with_name, with_number}
use Rattle.psg_grammar.specs.Fragments.{with_text, anything, observed}
use Rattle.psg_grammar.specs.Keys.{space_of}
use Rattle.psg_grammar.specs.Lookups.{key_at}
use Rattle.psg_grammar.specs.Specimens.{tree_of}
use Rattle.psg_completions.specs.Elements.{DeclaresOnce}

-- the specimen is an operator, no list and no hole place
abbrev pub IsOperator : Specimen → Type 0
IsOperator (Op' o shape parts) = Unit {0}
IsOperator (List' l shape elements rest) = ⊥
IsOperator (Hole place) = ⊥

module _ (def : Definition) where
  -- each position of the name `it`, anywhere in the tree, is of the space
  abbrev pub KeepsIt : ℕ → Fragment → Type 0
  KeepsIt space (hole p) = Unit {0}
  KeepsIt space (ending l u) = Unit {0}
  KeepsIt space (cell l e r) = KeepsIt space e × KeepsIt space r
  KeepsIt space (operator o) = Unit {0}
  KeepsIt space (with_child f t) = KeepsIt space f × KeepsIt space t
  KeepsIt space (with_name f n) = KeepsIt space f × (n ≡ codes "it" → space_of (key_at def f n) ≡ space)
  KeepsIt space (with_number f n) = KeepsIt space f
  KeepsIt space (with_text f t) = KeepsIt space f
  KeepsIt space anything = Unit {0}
  KeepsIt space (observed f) = KeepsIt space f

  -- the specimen is an operator, declares `$it` once in its region, in the row's space, and has `$it` in no other space
  pub record DeclaresIt (d : DeclareRow) : Type 0 where
    pub operator : IsOperator d.specimen
    pub once : DeclaresOnce def d
    pub keeps : KeepsIt d.space (tree_of d.specimen)

  abbrev pub IsDeclaration : ℕ → Type 0
  IsDeclaration k = (d : DeclareRow) → slice_get def.declare_rows k ≡ Some d → DeclaresIt d
