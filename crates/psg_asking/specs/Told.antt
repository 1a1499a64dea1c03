-- What a reply says about a question.
use Rattle.std.specs.Prelude.{ℕ, ◌==◌, ◌++◌, cond, List, [], ◌∷◌, map, string_bytes, codes, bytes_eq, Option, Some}
use Rattle.std.specs.Prelude.{None}
use Rattle.std.specs.Prelude.{String, Vec, Result, Ok, Err}
use Rattle.std.specs.declared.alloc.Global.{Global}
use Rattle.std.specs.List.{filter, slice_split}
use Rattle.psg_terms.specs.Names.{Name, is_among}
use Rattle.psg_grammar.specs.Fragments.{Fragment}
use Rattle.psg_renaming.specs.Occurring.{occurring}
use Rattle.psg_session.specs.declared.refusal.Refusal.{Refusal}
use Rattle.psg_session.specs.Printing.{lines_in}
use Rattle.psg_session.specs.Replies.{Reply, answered, refused, feed_all}

-- those of the texts that are not empty
abbrev pub filled : List (List ℕ) → List (List ℕ)
filled [] = []
filled ([] ∷ texts) = filled texts
filled ((b ∷ text) ∷ texts) = (b ∷ text) ∷ filled texts

-- the words of a line; the line `none` says that there is none
abbrev pub words_of : List ℕ → List (List ℕ)
words_of line = cond (bytes_eq line (codes "none")) [] (filled (slice_split (λ b. b == 32) line))

abbrev pub words_in : List (List ℕ) → List (List ℕ)
words_in [] = []
words_in (line ∷ lines) = words_of line ++ words_in lines

-- the lines as they are written, and an empty one after them
abbrev pub written : List (List ℕ) → List (List ℕ)
written lines = lines_in (feed_all lines)

-- the refusal, if it is one
abbrev pub refusal_in : Reply → Option Refusal
refusal_in (refused refusal) = Some refusal
refusal_in (answered lines) = None

-- the lines that are answered, as they are written, except empty ones; or the refusal
abbrev pub lines_told : Reply → Result (List (List ℕ)) Refusal
lines_told (refused refusal) = Err refusal
lines_told (answered lines) = Ok (filled (written lines))

-- their words
abbrev pub words_told : Reply → Result (List (List ℕ)) Refusal
words_told (refused refusal) = Err refusal
words_told (answered lines) = Ok (words_in (written lines))

-- of the texts those that are among the names
abbrev pub among : List Name → Result (List (List ℕ)) Refusal → Result (List (List ℕ)) Refusal
among names (Ok texts) = Ok (filter (λ w. is_among names w) texts)
among names (Err refusal) = Err refusal

-- The names that occur in the program. In its repaired program there are names besides, which nobody wrote: those of
-- name places that are opened.
abbrev pub names_told : Fragment → Reply → Result (List (List ℕ)) Refusal
names_told tree reply = among (occurring tree) (words_told reply)

-- the texts that are returned
abbrev pub read_of : Result (Vec (String Global) Global) Refusal → Result (List (List ℕ)) Refusal
read_of (Ok texts) = Ok (map string_bytes texts.items)
read_of (Err refusal) = Err refusal

-- the texts, and none where it was refused
abbrev pub or_none : Result (List (List ℕ)) Refusal → List (List ℕ)
or_none (Ok texts) = texts
or_none (Err refusal) = []
