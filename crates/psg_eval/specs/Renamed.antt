-- A summary under another name: one name of its keys in place of another.
use Rattle.std.specs.Prelude.{ℕ, suc, ◌≡◌, Bool, false, not, List, [], ◌∷◌, ◌++◌, bytes_eq}
use Rattle.std.specs.List.{list_any}
use Rattle.psg_terms.specs.Names.{Name}
use Rattle.psg_terms.specs.Relations.{IsRelation}
use Rattle.psg_grammar.specs.declared.types.Definition.{Definition}
use Rattle.psg_relation.specs.Choices.{AllHaveSorts, IsProjected, picked}
use Rattle.psg_scope.specs.declared.header.NameCol.{NameCol}
use Rattle.psg_scope.specs.declared.header.Header.{Header}
use Rattle.psg_scope.specs.Headers.{IsOrdered, IsUnion, keep_if, keys}
use Rattle.psg_unify.specs.Pairs.{Pair as Columns}
use Rattle.psg_eval.specs.declared.renaming.Apart.{Apart}
use Rattle.psg_eval.specs.declared.summary.SummaryParts.{SummaryParts}
use Rattle.psg_eval.specs.Walks.{IsWalk}

-- whether a key has the name
abbrev pub is_name_of : List NameCol → Name → Bool
is_name_of cols n = list_any (λ (c : NameCol). bytes_eq c.name n) cols

-- the keys with the one name, under the other one
abbrev pub moved_names : Name → Name → List NameCol → List NameCol
moved_names from to [] = []
moved_names from to (c ∷ cs) = keep_if (bytes_eq c.name from) (record c { name = to }) (moved_names from to cs)

abbrev pub other_names : Name → List NameCol → List NameCol
other_names from [] = []
other_names from (c ∷ cs) = keep_if (not (bytes_eq c.name from)) c (other_names from cs)

-- their places, where the first key has the number i
abbrev pub moved_places : Name → ℕ → List NameCol → List ℕ
moved_places from i [] = []
moved_places from i (c ∷ cs) = keep_if (bytes_eq c.name from) i (moved_places from (suc i) cs)

abbrev pub other_places : Name → ℕ → List NameCol → List ℕ
other_places from i [] = []
other_places from i (c ∷ cs) = keep_if (not (bytes_eq c.name from)) i (other_places from (suc i) cs)

-- one more key
pub record GrowsBy (from to : Name) (old new : Apart) (key : NameCol) (column : ℕ) : Type 0 where
  pub moved : new.moved.items ≡ old.moved.items ++ moved_names from to (key ∷ [])
  pub moved_columns : new.moved_columns.items ≡ old.moved_columns.items ++ moved_places from column (key ∷ [])
  pub others : new.others.items ≡ old.others.items ++ other_names from (key ∷ [])
  pub other_columns : new.other_columns.items ≡ old.other_columns.items ++ other_places from column (key ∷ [])

abbrev pub moved_header : Name → Name → Header → Header
moved_header from to h = record { names = moved_names from to h.names; unfinished = []; twice = false }

abbrev pub other_header : Name → Header → Header
other_header from h = record { names = other_names from h.names; unfinished = h.unfinished; twice = h.twice }

-- The keys that are made of the two lists, each with its column, and the rows of these columns. No value is seen, so
-- the keys have the columns from 1 on.
pub record IsRenamed (def : Definition) (from to : Name) (old new : SummaryParts) : Type 0 where
  pub kind : new.kind ≡ old.kind
  pub seen : new.seen ≡ old.seen
  pub union : IsUnion (moved_header from to old.header) (other_header from old.header) new.header
  pub ordered : IsOrdered new.header
  pub pairs : List Columns
  pub columns : List ℕ
  pub walk : IsWalk 0 (moved_places from 1 old.header.names) (other_places from 1 old.header.names)
      (keys (moved_names from to old.header.names)) (keys (other_names from old.header.names)) (keys new.header.names)
      pairs columns
  pub rows : (sorts : List ℕ) → AllHaveSorts def.signature old.rel sorts
      → IsRelation def.signature (picked sorts (0 ∷ columns)) (IsProjected def.signature old.rel (0 ∷ columns)) new.rel
