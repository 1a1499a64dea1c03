-- A printed tree with what is typed into it, and what is answered for one of its nodes.
use Rattle.std.specs.Prelude.{ℕ, ◌≡◌, ◌⊎◌, ◌<◌, ◌≤◌, ◌+◌, length, IsUtf8}
use Rattle.psg_grammar.specs.declared.types.Definition.{Definition}
use Rattle.psg_grammar.specs.Fragments.{Fragment}
use Rattle.psg_grammar.specs.Kinds.{IsOfKind}
use Rattle.psg_grammar.specs.declared.types.Kind.{Kind}
use Rattle.psg_grammar.specs.Paths.{Path}
use Rattle.psg_grammar.specs.Printable.{IsPrintable}
use Rattle.psg_grammar.specs.Sizes.{depth_of}
use Rattle.psg_grammar.specs.WellFormed.{WellFormed}
use Rattle.psg_class.specs.Texts.{TextTokens}
use Rattle.psg_unparse.specs.Layout.{text_of}
use Rattle.psg_unparse.specs.Spots.{Placed, IsPlacedAt}
use Rattle.psg_unparse.specs.Spans.{span_of, printed_of}
use Rattle.psg_textedit.specs.Regions.{Typing, Encloses, IsInside, IsClean, IsUnclean}
use Rattle.psg_textedit.specs.declared.nodes.Job.{Job}
use Rattle.psg_textedit.specs.declared.reading.Reading.{Reading}
use Rattle.psg_textedit.specs.declared.reading.Reading.TheVariants.{Clean, Deep, Unclean}
use Rattle.psg_textedit.specs.Lines.{AreLines, lines_with}
use Rattle.psg_textedit.specs.Typing.{typing_of, definition_of, IsReader}

abbrev pub language_of : Job → Definition
language_of j = definition_of j.reader.now

abbrev pub tree_in : Job → Fragment
tree_in j = j.tree.now

abbrev pub typing_in : Job → Typing
typing_in j = typing_of j.typed.now

-- the tree is what is printed, the bytes are in its text, and their lines with the new bytes have these tokens
pub record IsJob (j : Job) : Type 0 where
  pub reader : IsReader j.reader.now
  pub formed : WellFormed (language_of j) (tree_in j) j.kind
  pub printable : IsPrintable (tree_in j)
  pub shallow : depth_of (tree_in j) ≤ 200
  pub printed : j.printed.now ≡ printed_of (language_of j) (tree_in j)
  pub inside : IsInside (typing_in j) (text_of (language_of j) (tree_in j))
  pub new : IsUtf8 (typing_in j).new
  pub lines : AreLines (typing_in j) (text_of (language_of j) (tree_in j)) j.lines.before.now j.lines.behind.now
  pub bytes : j.bytes ≡ length (lines_with (typing_in j) j.lines.before.now j.lines.behind.now)
  pub all : TextTokens (language_of j) (lines_with (typing_in j) j.lines.before.now j.lines.behind.now) j.all.now

-- the node at the path has the bytes
abbrev pub IsHere : Job → Path → Type 0
IsHere j path =
    (p : Placed) × IsPlacedAt (language_of j) (tree_in j) path p
    × Encloses (typing_in j) (span_of (language_of j) p)

-- a node is clean, with a tree within the limits; with one past a limit; or it is not clean
pub record IsCleanAt (j : Job) (path : Path) (tree : Fragment) : Type 0 where
  pub p : Placed
  pub placed : IsPlacedAt (language_of j) (tree_in j) path p
  pub nesting : ℕ
  pub clean : IsClean (language_of j) (tree_in j) (typing_in j) p tree nesting
  pub kind : Kind
  pub of_kind : IsOfKind (language_of j) p.node kind
  pub formed : WellFormed (language_of j) tree kind
  pub depth : depth_of tree ≤ 200
  pub brackets : nesting + p.spot.around ≤ 400

pub record IsDeepAt (j : Job) (path : Path) : Type 0 where
  pub p : Placed
  pub placed : IsPlacedAt (language_of j) (tree_in j) path p
  pub tree : Fragment
  pub nesting : ℕ
  pub clean : IsClean (language_of j) (tree_in j) (typing_in j) p tree nesting
  pub deep : (200 < depth_of tree) ⊎ (400 < nesting + p.spot.around)

abbrev pub IsPathAnswer : Job → Path → Reading → Type 0
IsPathAnswer j path (Clean tree) = IsCleanAt j path tree
IsPathAnswer j path Deep = IsDeepAt j path
IsPathAnswer j path Unclean =
    (p : Placed) × IsPlacedAt (language_of j) (tree_in j) path p
    × IsUnclean (language_of j) (tree_in j) (typing_in j) p
