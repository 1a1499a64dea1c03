-- How large a tree is, and its mark.
use Rattle.std.specs.Prelude.{ℕ, ◌≡◌, length}
use Rattle.psg_grammar.specs.declared.types.Definition.{Definition}
use Rattle.psg_grammar.specs.Fragments.{Fragment}
use Rattle.psg_grammar.specs.Marks.{Mark, IsMarkBy}
use Rattle.psg_grammar.specs.Sizes.{nodes_of}
use Rattle.psg_grammar.specs.Steps.{HasWeights}
use Rattle.psg_unparse.specs.Layout.{text_of}
use Rattle.psg_session.specs.declared.measuring.Extent.{Extent}
use Rattle.psg_session.specs.Views.{mark_of}

module _ (def : Definition) (IsGood : Fragment → Type 0) where
  -- The tree has this number of nodes and its printed text this number of bytes. The relations of its nodes and list
  -- suffixes have this weight together. The tree has the mark.
  pub record HasExtent (f : Fragment) (nodes bytes weight : ℕ) (mark : Mark) : Type 0 where
    pub nodes_are : nodes ≡ nodes_of f
    pub bytes_are : bytes ≡ length (text_of def f)
    pub weight_is : HasWeights def f weight
    pub mark_is : IsMarkBy IsGood f mark

  -- the extent is that of the tree
  abbrev pub IsExtentOf : Fragment → Extent → Type 0
  IsExtentOf f e = HasExtent f e.nodes e.bytes e.weight (mark_of e.mark)
