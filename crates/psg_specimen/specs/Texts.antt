-- The text of a refusal.
use Rattle.std.specs.Prelude.{ℕ, ◌==◌, cond, List, [], ◌∷◌, ◌++◌, codes, decimal, slice_get, option_map}
use Rattle.psg_terms.specs.Signature.{Symbol}
use Rattle.psg_grammar.specs.declared.types.Kind.{Kind}
use Rattle.psg_grammar.specs.declared.types.Kind.TheVariants as kinds
use Rattle.psg_grammar.specs.declared.types.Space.{Space}
use Rattle.psg_grammar.specs.declared.types.Definition.{Definition}
use Rattle.psg_grammar.specs.Kinds.{kind_name_of, op_name_of}
use Rattle.psg_class.specs.Refusal.{name_text, fault_text}
use Rattle.psg_specimen.specs.declared.fault.Site.{Site}
use Rattle.psg_specimen.specs.declared.fault.Site.TheVariants as sites
use Rattle.psg_specimen.specs.declared.fault.AcceptFault.{AcceptFault}
use Rattle.psg_specimen.specs.declared.fault.AcceptFault.TheVariants as faults

-- each word after a space
abbrev pub words : List (List ℕ) → List ℕ
words [] = []
words (w ∷ ws) = 32 ∷ (w ++ words ws)

-- the text of a refusal with these words
abbrev pub line : List (List ℕ) → List ℕ
line ws = codes "refused" ++ words ws

-- the words that say which case or declare row
abbrev pub site_words : Site → List (List ℕ)
site_words (sites.Hole r c) = codes "hole" ∷ decimal r ∷ codes "case" ∷ decimal c ∷ []
site_words (sites.Declare k) = codes "declare" ∷ decimal k ∷ []

-- the words that say which hole place
abbrev pub place_words : Site → ℕ → List (List ℕ)
place_words s h = site_words s ++ codes "place" ∷ decimal h ∷ []

module _ (def : Definition) where
  abbrev pub op_word : ℕ → List ℕ
  op_word o = name_text (op_name_of def o)

  abbrev pub kind_word : Kind → List ℕ
  kind_word kind = name_text (kind_name_of def kind)

  abbrev pub con_word : ℕ → List ℕ
  con_word c = name_text (option_map (λ (s : Symbol). s.name) (slice_get def.signature.symbols c))

  -- the space is written in version 2, where spaces have names
  abbrev pub space_words : ℕ → List (List ℕ)
  space_words s = cond (def.version == 1) []
      (name_text (option_map (λ (x : Space). x.name) (slice_get def.spaces s)) ∷ [])

  abbrev pub row_words : List ℕ → List ℕ → ℕ → List (List ℕ)
  row_words name row k = codes "Uncovered" ∷ name ∷ row ∷ decimal k ∷ []

  abbrev pub refusal_words : AcceptFault → List (List ℕ)
  refusal_words (faults.Scope o) = codes "Scope" ∷ op_word o ∷ []
  refusal_words (faults.Declaring o k) = codes "Declaring" ∷ op_word o ∷ codes "slot" ∷ decimal k ∷ []
  refusal_words (faults.NoRow kind) = codes "NoRow" ∷ kind_word kind ∷ []
  refusal_words (faults.UncoveredOp o k) = row_words (op_word o) (codes "row") k
  refusal_words (faults.UncoveredNil l k) = row_words (kind_word (kinds.List l)) (codes "nil") k
  refusal_words (faults.UncoveredCell l k) = row_words (kind_word (kinds.List l)) (codes "cell") k
  refusal_words (faults.Cases r) = codes "Cases" ∷ codes "hole" ∷ decimal r ∷ []
  refusal_words (faults.NotSmaller s h) = codes "NotSmaller" ∷ place_words s h
  refusal_words (faults.OpenHole s h) = codes "OpenHole" ∷ place_words s h
  refusal_words (faults.Large s) = codes "Large" ∷ site_words s
  refusal_words (faults.Weak s) = codes "Weak" ∷ site_words s
  refusal_words (faults.NotIt k) = codes "NotIt" ∷ site_words (sites.Declare k)
  refusal_words (faults.NoDeclare l s c) =
      codes "NoDeclare" ∷ kind_word (kinds.List l) ∷ (space_words s ++ con_word c.0 ∷ [])
  refusal_words (faults.NotClear k) = codes "NotClear" ∷ site_words (sites.Declare k)
  refusal_words (faults.Class f) = []
  refusal_words faults.Memory = []

  -- a refusal of the grammar class has its own text
  abbrev pub refusal_text : AcceptFault → List ℕ
  refusal_text (faults.Class f) = fault_text def f
  refusal_text fault = line (refusal_words fault)
