-- A header as it is written: its lines, and an empty one.
use Rattle.std.specs.Prelude.{ℕ, ◌≡◌, ◌≢◌, ◌+◌, ◌-◌, ◌<◌, ◌≤◌, ◌++◌, ◌⊎◌, List, [], ◌∷◌, length, slice_index, codes}
use Rattle.std.specs.Prelude.{true}
use Rattle.std.specs.List.{AllByRecursion}
use Rattle.std.specs.Str.{str_eq_ignore_ascii_case}
use Rattle.psg_protocol.specs.Headers.{most_bytes}

-- a line ends in a line feed, with or without a carriage return before it
abbrev pub IsEnd : List ℕ → Type 0
IsEnd ending = (ending ≡ 10 ∷ []) ⊎ (ending ≡ 13 ∷ 10 ∷ [])

-- a line that is not empty, without its end: no line feed is in it, and no carriage return ends it
pub record IsLine (text ending : List ℕ) : Type 0 where
  pub some : 0 < length text
  pub no_feed : AllByRecursion (λ b. b ≢ 10) text
  pub no_return : slice_index text (length text - 1) ≢ 13
  pub ends : IsEnd ending
  pub short : length text + length ending ≤ most_bytes

-- the bytes are those of a header with these lines
abbrev pub IsHeader : List (List ℕ) → List ℕ → Type 0
IsHeader [] bytes = IsEnd bytes
IsHeader (text ∷ texts) bytes =
    (ending : List ℕ) × (rest : List ℕ) × IsLine text ending × (bytes ≡ text ++ (ending ++ rest)) × IsHeader texts rest

-- the line has this name, in any case, and the value after a colon
pub record IsField (name text value : List ℕ) : Type 0 where
  pub given : List ℕ
  pub no_colon : AllByRecursion (λ b. b ≢ 58) given
  pub same : str_eq_ignore_ascii_case given name ≡ true
  pub whole : text ≡ given ++ 58 ∷ value

-- the last of the lines that are named `Content-Length` has this value
pub record HasLength (texts : List (List ℕ)) (value : List ℕ) : Type 0 where
  pub before : List (List ℕ)
  pub text : List ℕ
  pub after : List (List ℕ)
  pub whole : texts ≡ before ++ text ∷ after
  pub field : IsField (codes "Content-Length") text value
  pub last : AllByRecursion (λ other. (v : List ℕ) → IsField (codes "Content-Length") other v → ⊥) after
