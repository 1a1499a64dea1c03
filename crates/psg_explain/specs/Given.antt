-- What the rows of a step are made of: the given equations of each of its cases, and the columns that a row has there.
use Rattle.std.specs.Prelude.{ℕ, ◌==◌, ◌+◌, ◌-◌, Bool, true, false, cond, bytes_eq, List, [], ◌∷◌, ◌++◌}
use Rattle.std.specs.Option.{option_or}
use Rattle.std.specs.Prelude.{Option, Some, None, option_map, option_and_then, length, take, drop, map, slice_get}
use Rattle.psg_terms.specs.Names.{Name}
use Rattle.psg_terms.specs.Terms.{Term}
use Rattle.psg_terms.specs.Instances.{substitute}
use Rattle.psg_terms.specs.Renaming.{raised}
use Rattle.psg_terms.specs.Canonical.{first_occurrences}
use Rattle.psg_grammar.specs.declared.types.Kind.{Kind}
use Rattle.psg_grammar.specs.declared.types.Kind.TheVariants as kinds
use Rattle.psg_grammar.specs.declared.types.Row.{Row}
use Rattle.psg_grammar.specs.declared.types.HoleRow.{HoleRow}
use Rattle.psg_grammar.specs.declared.types.ListKind.{ListKind}
use Rattle.psg_grammar.specs.declared.types.Operator.{Operator}
use Rattle.psg_grammar.specs.declared.types.Definition.{Definition}
use Rattle.psg_grammar.specs.Fragments.{Fragment, hole, ending, cell}
use Rattle.psg_grammar.specs.Fragments.{anything, observed, top_operator}
use Rattle.psg_grammar.specs.Keys.{Key, in_order}
use Rattle.psg_grammar.specs.Lookups.{operator_at}
use Rattle.psg_grammar.specs.Regions.{names_inside, names_of}
use Rattle.psg_grammar.specs.Steps.{first_children}
use Rattle.psg_relation.specs.Choices.{pick}
use Rattle.psg_scope.specs.Headers.{keys}
use Rattle.psg_eval.specs.OwnRows.{positions, slot_terms, name_terms, whole_row}
use Rattle.psg_eval.specs.Trees.{own_names}
use Rattle.psg_explain.specs.declared.given.Case.{Case}
use Rattle.psg_explain.specs.declared.refutation.Label.TheVariants as labels
use Rattle.psg_explain.specs.declared.refutation.Subject.{Subject}
use Rattle.psg_explain.specs.declared.refutation.Subject.TheVariants as subjects
use Rattle.psg_explain.specs.Equations.{Equation}

-- ---- terms by keys

-- the term of the key's first place
abbrev pub beside : List Key → List Term → Key → Option Term
beside [] ts k = None
beside (n ∷ ns) [] k = None
beside (n ∷ ns) (t ∷ ts) k = cond (bytes_eq n k) (Some t) (beside ns ts k)

-- the terms of the keys, in order
abbrev pub key_terms : (Key → Option Term) → List Key → List Term
key_terms term [] = []
key_terms term (k ∷ ks) = pick (term k) (key_terms term ks)

-- an equation for each key of the left list that the right one has too, in the left one's order
abbrev pub key_equations : (Key → Option Term) → List Key → List Term → List Equation
key_equations term [] ts = []
key_equations term (k ∷ ks) [] = []
key_equations term (k ∷ ks) (t ∷ ts) = pick (option_map (λ u. (t, u)) (term k)) (key_equations term ks ts)

-- what the sides of an equation are, by the key
abbrev pub subject_of : Key → Subject
subject_of [] = subjects.Value
subject_of (s ∷ n) = subjects.Key s n

-- what each of these equations is of
abbrev pub key_subjects : (Key → Option Term) → List Key → List Term → List Subject
key_subjects term [] ts = []
key_subjects term (k ∷ ks) [] = []
key_subjects term (k ∷ ks) (t ∷ ts) = pick (option_map (λ u. subject_of k) (term k)) (key_subjects term ks ts)

-- an equation for each position whose key was before: the term of the key's first position, and its own
abbrev pub own_equations : List Key → List Term → List Key → List Term → List Equation
own_equations ns us [] ts = []
own_equations ns us (k ∷ ks) [] = []
own_equations ns us (k ∷ ks) (t ∷ ts) =
    pick (option_map (λ u. (u, t)) (beside ns us k)) (own_equations (ns ++ k ∷ []) (us ++ t ∷ []) ks ts)

-- what each of these equations is of
abbrev pub own_subjects : List Key → List Term → List Key → List Term → List Subject
own_subjects ns us [] ts = []
own_subjects ns us (k ∷ ks) [] = []
own_subjects ns us (k ∷ ks) (t ∷ ts) =
    pick (option_map (λ u. subject_of k) (beside ns us k)) (own_subjects (ns ++ k ∷ []) (us ++ t ∷ []) ks ts)

-- ---- rows of a step before and of a child

-- how many variables a canonical row has
abbrev pub variable_count : List Term → ℕ
variable_count row = length (first_occurrences row)

-- the row with its variables numbered on after n others
abbrev pub numbered_on : ℕ → List Term → List Term
numbered_on n row = map (substitute (raised n)) row

-- of what is after the value and the first wanted value: the other wanted values, and the entities of the keys
abbrev pub wanted_of : List Key → List Term → List Term
wanted_of ks more = take (length more - length ks) more

abbrev pub entities_of : List Key → List Term → List Term
entities_of ks more = drop (length more - length ks) more

-- The left row has the keys K, the right one the keys L, and together they have the keys M. The right one's variables
-- are numbered on already.
module _ (K L M : List Key) where
  abbrev pub pair_equations : List Term → List Term → List Equation
  pair_equations (value ∷ wanted ∷ more) (own ∷ entities) =
      (wanted, own) ∷ key_equations (beside L entities) K (entities_of K more)
  pair_equations left right = []

  abbrev pub pair_subjects : List Term → List Term → List Subject
  pair_subjects (value ∷ wanted ∷ more) (own ∷ entities) =
      subjects.Value ∷ key_subjects (beside L entities) K (entities_of K more)
  pair_subjects left right = []

  abbrev pub pair_columns : List Term → List Term → List Term
  pair_columns (value ∷ wanted ∷ more) (own ∷ entities) =
      (value ∷ wanted_of K more)
      ++ key_terms (λ k. option_or (beside K (entities_of K more) k) (beside L entities k)) M
  pair_columns left right = []

  abbrev pub pair_case : ℕ → ℕ → List Term → List Term → Case
  pair_case i j left right =
      let other : List Term = numbered_on (variable_count left) right in
      record {
        label = labels.Pair i j;
        subjects = pair_subjects left other;
        given = pair_equations left other;
        columns = pair_columns left other;
      }

  -- the pairs of a left row with the right ones, the first of which has the number j
  abbrev pub row_pairs : ℕ → ℕ → List Term → List (List Term) → List Case
  row_pairs i j left [] = []
  row_pairs i j left (right ∷ rest) = pair_case i j left right ∷ row_pairs i (j + 1) left rest

  -- the pairs of all left rows with all right ones, the first left one of which has the number i
  abbrev pub all_pairs : ℕ → List (List Term) → List (List Term) → List Case
  all_pairs i [] rights = []
  all_pairs i (left ∷ rest) rights = row_pairs i 0 left rights ++ all_pairs (i + 1) rest rights

-- the case of a row that stays as it is
abbrev pub plain_case : ℕ → List Term → Case
plain_case i row = record { label = labels.Row i; subjects = []; given = []; columns = row }

abbrev pub plain_cases : ℕ → List (List Term) → List Case
plain_cases i [] = []
plain_cases i (row ∷ rest) = plain_case i row ∷ plain_cases (i + 1) rest

-- the row with the entities of the keys M alone, of its keys K
abbrev pub closed_row : List Key → List Key → List Term → List Term
closed_row K M [] = []
closed_row K M (value ∷ entities) = value ∷ key_terms (beside K entities) M

-- ---- the cases of the steps

abbrev pub same_kind_as : Kind → Kind → Bool
same_kind_as (kinds.Phylum p) (kinds.Phylum q) = p == q
same_kind_as (kinds.List l) (kinds.List m) = l == m
same_kind_as _ _ = false

-- the rows of the definition's hole rows of the kind, in order
abbrev pub hole_rows_of : Kind → List HoleRow → List (List Term)
hole_rows_of kind [] = []
hole_rows_of kind (h ∷ rest) = cond (same_kind_as h.kind kind) ((h.term ∷ []) ∷ hole_rows_of kind rest)
    (hole_rows_of kind rest)

abbrev pub nil_rows_of : Option ListKind → List (List Term)
nil_rows_of None = []
nil_rows_of (Some l) = map (λ t. t ∷ []) l.nil_rows

abbrev pub cell_rows_of : Option ListKind → List (List Term)
cell_rows_of None = []
cell_rows_of (Some l) = map whole_row l.cell_rows

-- the operator's row of the number i, with these names
abbrev pub own_case : Operator → List Name → ℕ → Row → Case
own_case op names i row =
    let ks : List Key = keys (positions op.items names) in
    let entities : List Term = name_terms op.items row.columns in
    record {
      label = labels.Row i;
      subjects = own_subjects [] [] ks entities;
      given = own_equations [] [] ks entities;
      columns = (row.head ∷ slot_terms op.items row.columns) ++ key_terms (beside ks entities) (in_order ks);
    }

-- these rows, the first of which has the number i
abbrev pub own_cases : Operator → List Name → ℕ → List Row → List Case
own_cases op names i [] = []
own_cases op names i (row ∷ rest) = own_case op names i row ∷ own_cases op names (i + 1) rest

abbrev pub operator_cases : Option Operator → List Name → List Case
operator_cases None names = []
operator_cases (Some op) names = own_cases op names 0 op.rows

module _ (def : Definition) where
  -- step 0: the rows of the node itself
  abbrev pub first_cases : Fragment → List Case
  first_cases (hole p) = plain_cases 0 (hole_rows_of (kinds.Phylum p) def.hole_rows)
  first_cases (ending l true) = plain_cases 0 (hole_rows_of (kinds.List l) def.hole_rows)
  first_cases (ending l false) = plain_cases 0 (nil_rows_of (slice_get def.lists l))
  first_cases (cell l e r) = plain_cases 0 (cell_rows_of (slice_get def.lists l))
  first_cases anything = []
  first_cases (observed f) = []
  first_cases f = operator_cases (option_and_then (operator_at def) (top_operator f)) (own_names f)

  -- the keys of the node with its first n children
  abbrev pub keys_at : Fragment → ℕ → List Key
  keys_at f n = in_order (names_inside def (first_children n f))

  -- the step that adds the child n, which is t
  abbrev pub next_cases : Fragment → ℕ → Fragment → List (List Term) → List (List Term) → List Case
  next_cases f n t before child =
      all_pairs (keys_at f n) (names_of def t) (keys_at f (n + 1)) 0 before child

  -- the last step of a scope operator
  abbrev pub last_cases : Fragment → List (List Term) → List Case
  last_cases f before = plain_cases 0 (map (closed_row (in_order (names_inside def f)) (names_of def f)) before)
