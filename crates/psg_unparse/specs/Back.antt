-- That a printed tree reads back as itself.
use Rattle.std.specs.Prelude.{ℕ, ◌<◌, List}
use Rattle.psg_grammar.specs.declared.types.Kind.{Kind}
use Rattle.psg_grammar.specs.declared.types.Definition.{Definition}
use Rattle.psg_grammar.specs.Fragments.{Fragment}
use Rattle.psg_grammar.specs.Printable.{IsPrintable}
use Rattle.psg_grammar.specs.Sizes.{depth_of}
use Rattle.psg_grammar.specs.WellFormed.{WellFormed}
use Rattle.psg_unparse.specs.Layout.{text_of}
use Rattle.psg_class.specs.Texts.{ReadsAs}

-- The text reads as the tree, with brackets nested less deep than the tree is: each pair is around a child. So a tree
-- that is at most 200 deep is never refused for its brackets.
pub record ReadsBackFrom (def : Definition) (f : Fragment) (kind : Kind) (text : List ℕ) : Type 0 where
  pub nesting : ℕ
  pub reads : ReadsAs def kind 0 text f nesting
  pub shallow : nesting < depth_of f

abbrev pub ReadsBack : Definition → Fragment → Kind → Type 0
ReadsBack def f kind = ReadsBackFrom def f kind (text_of def f)

abbrev pub ReadsBackIfPrintable : Definition → Fragment → Type 0
ReadsBackIfPrintable def f = IsPrintable f → (kind : Kind) → WellFormed def f kind → ReadsBack def f kind
