-- The forms of lines, over what follows the first word.
use Rattle.std.specs.Prelude.{◌≡◌, [], ◌∷◌, None}
use Rattle.psg_script.specs.Forms.{Text, IsCommand, IsPlace, place_text, Follow, tail_of}
use Rattle.psg_script.specs.Keywords.{keyword_of, fields_of}
use Rattle.psg_script.specs.declared.command.Command.{Command}
use Rattle.psg_script.specs.declared.command.Where.{Where}
use Rattle.psg_script.specs.declared.keyword.Keyword.{Keyword}

-- after this keyword, the text is the rest of a line of this command
pub record IsForm (k : Keyword) (c : Command) (behind : Text) : Type 0 where
  pub formed : IsCommand c
  pub keyword : keyword_of c ≡ k
  pub written : Follow (fields_of c) (tail_of c) behind

-- a place is the one word there
abbrev pub IsPlaceAlone : Where → Text → Type 0
IsPlaceAlone place behind = IsPlace place × Follow (place_text place ∷ []) None behind
