-- What is read when bytes of the printed text are replaced.
use Rattle.std.specs.Prelude.{ℕ, ◌≡◌, ◌<◌, List, Some, IsUtf8}
use Rattle.psg_grammar.specs.declared.types.Definition.{Definition}
use Rattle.psg_grammar.specs.Fragments.{Fragment}
use Rattle.psg_class.specs.Texts.{ReadsAs}
use Rattle.psg_textedit.specs.Regions.{Typing, new_text}
use Rattle.psg_session.specs.PlainState.{Opened, State}
use Rattle.psg_session.specs.Typed.{most_brackets}

-- the bytes from `start` on and before `end` give way to the text
abbrev pub replacing : ℕ → ℕ → List ℕ → Typing
replacing start end text = record { start = start; end = end; new = text }

-- a fragment is opened, and has the property
abbrev pub OfOpened : State → (Opened → Type 0) → Type 0
OfOpened s P = (old : Opened) × (s.opened ≡ Some old) × P old

module _ (def : Definition) where
  -- the whole printed text of the opened fragment with the bytes replaced
  abbrev pub text_with : Typing → Opened → List ℕ
  text_with e old = new_text def old.tree e

  -- The whole new text, which is UTF-8, is read as this tree of the opened kind, with brackets nested so deep.
  pub record ReadsWith (e : Typing) (old : Opened) (tree : Fragment) (nesting : ℕ) : Type 0 where
    pub utf8 : IsUtf8 (text_with e old)
    pub reads : ReadsAs def old.kind 0 (text_with e old) tree nesting

  -- the whole new text is read as a tree, and its brackets nest too deep
  pub record NestsTooDeepWith (e : Typing) (old : Opened) : Type 0 where
    pub tree : Fragment
    pub nesting : ℕ
    pub reads : ReadsWith e old tree nesting
    pub deep : most_brackets < nesting
