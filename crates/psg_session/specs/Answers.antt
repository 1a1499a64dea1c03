-- The lines that questions are answered with.
use Rattle.std.specs.Prelude.{ℕ, ◌==◌, cond, List, [], ◌∷◌, ◌++◌, map, get_or, codes}
use Rattle.psg_terms.specs.Names.{Name, is_among}
use Rattle.psg_terms.specs.Signature.{Signature}
use Rattle.psg_terms.specs.Terms.{Term}
use Rattle.psg_terms.specs.Text.{term_text}
use Rattle.psg_grammar.specs.declared.types.Definition.{Definition}
use Rattle.psg_grammar.specs.declared.types.Space.{Space}
use Rattle.psg_grammar.specs.Fragments.{Fragment}
use Rattle.psg_grammar.specs.Keys.{Key, name_in, space_of}
use Rattle.psg_grammar.specs.Regions.{declared_in, names_of}

-- the name of the space with the number
abbrev pub space_name : List Space → ℕ → Name
space_name spaces n = get_or (map (λ (s : Space). s.name) spaces) n []

-- a key as its name, in version 2 after the name of its space and a colon: `s:x`
abbrev pub key_text : Definition → Key → List ℕ
key_text def k = cond (def.version == 2) (space_name def.spaces (space_of k) ++ (58 ∷ name_in k)) (name_in k)

-- the text of each key with that of its entity, `x=int`, after a space
abbrev pub entities_text : Signature → List (List ℕ) → List Term → List ℕ
entities_text sig [] terms = []
entities_text sig (k ∷ ks) [] = []
entities_text sig (k ∷ ks) (t ∷ ts) = 32 ∷ (k ++ (61 ∷ (term_text sig t ++ entities_text sig ks ts)))

-- a row of a relation whose columns are the value and the entities of the keys with these texts
abbrev pub row_line : Signature → List (List ℕ) → List Term → List ℕ
row_line sig keys [] = []
row_line sig keys (value ∷ entities) = term_text sig value ++ entities_text sig keys entities

-- a line for each row, or `none`
abbrev pub rows_lines : Signature → List (List ℕ) → List (List Term) → List (List ℕ)
rows_lines sig keys [] = codes "none" ∷ []
rows_lines sig keys (row ∷ rows) = row_line sig keys row ∷ map (row_line sig keys) rows

-- the keys that are not declared
abbrev pub undeclared : List Key → List Key → List Key
undeclared declared [] = []
undeclared declared (k ∷ ks) = cond (is_among declared k) (undeclared declared ks) (k ∷ undeclared declared ks)

-- The keys that a fragment uses and its outermost region does not declare: they may be declared outside.
abbrev pub free_names : Definition → Fragment → List (List ℕ)
free_names def f = map (key_text def) (undeclared (declared_in def f) (names_of def f))

-- each name after a space
abbrev pub more_names : List Name → List ℕ
more_names [] = []
more_names (n ∷ ns) = 32 ∷ (n ++ more_names ns)

-- the names on one line, a space between two, or `none`
abbrev pub names_line : List Name → List ℕ
names_line [] = codes "none"
names_line (n ∷ ns) = n ++ more_names ns
