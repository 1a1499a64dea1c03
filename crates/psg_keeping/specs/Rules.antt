-- What is read and written in place of a text with comments.
use Rattle.std.specs.Prelude.{ℕ, ◌≡◌, ◌++◌, ◌-◌, cond, Option, Some, None, List, [], ◌∷◌, length, take, drop, IsUtf8}
use Rattle.std.specs.Str.{bytes_eq}
use Rattle.psg_terms.specs.Names.{Name}
use Rattle.psg_comments.specs.Blanking.{IsBlanked}
use Rattle.psg_comments.specs.declared.finding.Comment.{Comment}
use Rattle.psg_keeping.specs.Writing.{IsKept}
use Rattle.psg_keeping.specs.declared.files.Known.{Known}

-- the fixed words of a language, and the token that begins its comments
pub record CommentRule : Type 0 where
  pub fixed : List Name
  pub token : Name

-- the bytes without one byte order mark at their beginning
abbrev pub unmarked : List ℕ → List ℕ
unmarked bytes = cond (bytes_eq (take 3 bytes) (239 ∷ 187 ∷ 191 ∷ [])) (drop 3 bytes) bytes

-- what is given for the bytes of a file, and what is known after it
pub data Opens (name read : List ℕ) : Option CommentRule → List ℕ → Option Known → Type 0 where
  plain : Opens name read None read None
  other : (rule : CommentRule) → (IsUtf8 (unmarked read) → ⊥) → Opens name read (Some rule) read None
  blanked : (rule : CommentRule) (comments : List Comment) (own : List ℕ) → IsUtf8 (unmarked read)
      → IsBlanked rule.fixed rule.token (unmarked read) comments own
      → Opens name read (Some rule) (take (length read - length (unmarked read)) read ++ own)
      (Some (record { name = name; text = unmarked read }))

-- what is written for the bytes of a file, and what is known after it
pub data Writes (rule : Option CommentRule) (known : Option Known) (name bytes : List ℕ)
    : List ℕ → Option Known → Type 0 where
  no_rule : rule ≡ None → Writes rule known name bytes bytes known
  not_known : ((k : Known) → known ≡ Some k → k.name ≡ name → ⊥) → Writes rule known name bytes bytes known
  no_text : (k : Known) → known ≡ Some k → (IsUtf8 k.text × IsUtf8 bytes → ⊥)
      → Writes rule known name bytes bytes known
  with_comments : (r : CommentRule) (k : Known) (text : List ℕ) → rule ≡ Some r → known ≡ Some k → k.name ≡ name
      → IsUtf8 k.text → IsUtf8 bytes → IsKept r.fixed r.token k.text bytes text
      → Writes rule known name bytes text (Some (record { name = name; text = text }))
