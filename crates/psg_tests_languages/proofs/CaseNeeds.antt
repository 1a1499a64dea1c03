-- For the worked cases: the language of two spaces with one more item, `need`, which wants a bool; and entities.
use Rattle.std.proofs.Common.{◌≡◌, ℕ, zero, suc, ◌<◌, List, [], ◌∷◌, map, codes, Some, refl, sym, ap, ◌∙◌, subst, slice_get, arith}
use Rattle.std.proofs.lemmas.Option.{none-some}
use Rattle.psg_terms.specs.Terms.{Term, variable}
use Rattle.psg_terms.specs.Signature.{HasSort}
use Rattle.psg_terms.specs.Instances.{Substitution, substitute, IsGround, IsGrounding}
use Rattle.psg_grammar.specs.declared.types.Kind.TheVariants as kinds
use Rattle.psg_grammar.specs.declared.types.Item.TheVariants as items
use Rattle.psg_grammar.specs.declared.types.Row.{Row}
use Rattle.psg_grammar.specs.declared.types.Operator.{Operator}
use Rattle.psg_grammar.specs.declared.types.Space.{Space}
use Rattle.psg_grammar.specs.declared.types.Definition.{Definition}
use Rattle.psg_grammar.specs.Fragments.{Fragment, operator, with_child}
use Rattle.psg_grammar.specs.Keys.{Key, space_of}
use Rattle.psg_grammar.specs.Legal.{Entities, AreEntities, IsOfRow}
use Rattle.psg_grammar.specs.Open.{Choice, Holds}
use Rattle.psg_grammar.proofs.CaseLanguage.{sig, ok, int, bool, constant, row_of, op_of, sort_id, op_blk, op_let, op_mark, op_jump, op_ref, op_one, op_yes, spaces, one, let_of, ref_to}

-- `need` an expression that is a bool
abbrev pub op_need : Operator
op_need = op_of (codes "need") 1 (items.Word (codes "need") ∷ items.Slot (kinds.Phylum 0) ∷ []) (row_of ok (bool ∷ []) ∷ [])

abbrev pub needing : Definition
needing = record spaces { operators = op_blk ∷ op_let ∷ op_mark ∷ op_jump ∷ op_ref ∷ op_one ∷ op_yes ∷ op_need ∷ [] }

abbrev pub need : Fragment → Fragment
need e = with_child (operator 7) e

abbrev pub x : List ℕ
x = codes "x"

abbrev pub y : List ℕ
y = codes "y"

-- ---- types, entities, substitutions

-- what a value or an expression may be
pub record IsType (t : Term) : Type 0 where
  pub ground : IsGround t
  pub sorted : HasSort sig t 1

pub int_type : IsType int
int_type = record { ground = tt; sorted = (constant (codes "int") 1, refl, refl, refl) }

pub bool_type : IsType bool
bool_type = record { ground = tt; sorted = (constant (codes "bool") 1, refl, refl, refl) }

pub ok_sorted : HasSort sig ok 0
ok_sorted = (constant (codes "ok") 0, refl, refl, refl)

-- the value n is f n, and each label is ok
abbrev pub entities_by : (List ℕ → Term) → Entities
entities_by f [] = f []
entities_by f (zero ∷ n) = f n
entities_by f (suc s ∷ n) = ok

pub are_entities : (def : Definition) → def.signature ≡ sig → def.spaces ≡ spaces.spaces → (f : List ℕ → Term) → ((n : List ℕ) → IsType (f n)) → AreEntities def (entities_by f)
are_entities def of_sig of_spaces f each = record {
  ground = ground;
  sorted = λ n e found. subst (λ s. HasSort s (entities_by f n) e.sort.0) (sym of_sig) (sorted n e (subst (λ (xs : List Space). slice_get xs (space_of n) ≡ Some e) of_spaces found));
} where
  ground : (n : Key) → IsGround (entities_by f n)
  ground [] = (each []).ground
  ground (zero ∷ n) = (each n).ground
  ground (suc s ∷ n) = tt

  val_sort : (e : Space) → slice_get spaces.spaces 0 ≡ Some e → 1 ≡ e.sort.0
  val_sort e found =
      let val : Space = record { name = codes "val"; sort = sort_id 1 } in
      let same : val ≡ e = let some : Some val ≡ Some e = found in cc in
      ap (λ (s : Space). s.sort.0) same

  lab_sort : (e : Space) → slice_get spaces.spaces 1 ≡ Some e → 0 ≡ e.sort.0
  lab_sort e found =
      let lab : Space = record { name = codes "lab"; sort = sort_id 0 } in
      let same : lab ≡ e = let some : Some lab ≡ Some e = found in cc in
      ap (λ (s : Space). s.sort.0) same

  sorted : (n : Key) (e : Space) → slice_get spaces.spaces (space_of n) ≡ Some e → HasSort sig (entities_by f n) e.sort.0
  sorted [] e found = subst (HasSort sig (f [])) (val_sort e found) (each []).sorted
  sorted (zero ∷ n) e found = subst (HasSort sig (f n)) (val_sort e found) (each n).sorted
  sorted (suc zero ∷ n) e found = subst (HasSort sig ok) (lab_sort e found) ok_sorted
  sorted (suc (suc s) ∷ n) e found = absurd (none-some e found)

-- variables that are types become this one
abbrev pub terms_by : Term → Substitution
terms_by t zero n = ok
terms_by t (suc s) n = t

pub grounding : (t : Term) → IsType t → IsGrounding sig (terms_by t)
grounding t type = record { variable_free = free; sorted = sorted } where
  free : (s n : ℕ) → s < 2 → IsGround (terms_by t s n)
  free zero n lt = tt
  free (suc s) n lt = type.ground

  sorted : (s n : ℕ) → s < 2 → HasSort sig (terms_by t s n) s
  sorted zero n lt = ok_sorted
  sorted (suc zero) n lt = type.sorted
  sorted (suc (suc s)) n lt = absurd (omega arith)

-- ---- the rows

pub ok_row : IsOfRow sig (row_of ok (ok ∷ [])) ok (ok ∷ [])
ok_row = record { terms = terms_by int; grounding = grounding int int_type; head = refl; rest = refl }

pub cell_row : IsOfRow sig (row_of ok (ok ∷ ok ∷ [])) ok (ok ∷ ok ∷ [])
cell_row = record { terms = terms_by int; grounding = grounding int int_type; head = refl; rest = refl }

pub one_row : IsOfRow sig (row_of int []) int []
one_row = record { terms = terms_by int; grounding = grounding int int_type; head = refl; rest = refl }

pub yes_row : IsOfRow sig (row_of bool []) bool []
yes_row = record { terms = terms_by int; grounding = grounding int int_type; head = refl; rest = refl }

pub need_row : IsOfRow sig (row_of ok (bool ∷ [])) ok (bool ∷ [])
need_row = record { terms = terms_by int; grounding = grounding int int_type; head = refl; rest = refl }

pub let_row : (t : Term) → IsType t → IsOfRow sig (row_of ok (variable 1 1 ∷ variable 1 1 ∷ [])) ok (t ∷ t ∷ [])
let_row t type = record { terms = terms_by t; grounding = grounding t type; head = refl; rest = refl }

pub ref_row : (t : Term) → IsType t → IsOfRow sig (row_of (variable 1 1) (variable 1 1 ∷ [])) t (t ∷ [])
ref_row t type = record { terms = terms_by t; grounding = grounding t type; head = refl; rest = refl }

-- an operator with one row has no other
pub only_row : (def : Definition) (o : ℕ) (known op : Operator) (the row : Row) (r : ℕ) → slice_get def.operators o ≡ Some known → known.rows ≡ the ∷ []
    → slice_get def.operators o ≡ Some op → slice_get op.rows r ≡ Some row → row ≡ the
only_row def o known op the row r is rows found chosen =
    let same : op ≡ known = let f : Some op ≡ Some known = sym found ∙ is in cc in
    only r (subst (λ (xs : List Row). slice_get xs r ≡ Some row) (ap (λ (k : Operator). k.rows) same ∙ rows) chosen) where
      only : (k : ℕ) → slice_get (the ∷ []) k ≡ Some row → row ≡ the
      only zero e = let f : Some the ≡ Some row = e in cc
      only (suc k) e = absurd (none-some row e)

-- what need wants is a bool
pub needs_bool : (row : Row) (v u : Term) → row ≡ row_of ok (bool ∷ []) → IsOfRow sig row v (u ∷ []) → u ≡ bool
needs_bool row v u same h = let e : u ∷ [] ≡ bool ∷ [] = h.rest ∙ ap (λ (r : Row). map (substitute h.terms) r.columns) same in cc

-- a use has the value of its name
pub use_is_name : (row : Row) (v u : Term) → row ≡ row_of (variable 1 1) (variable 1 1 ∷ []) → IsOfRow sig row v (u ∷ []) → v ≡ u
use_is_name row v u same h =
    let e : u ∷ [] ≡ h.terms 1 1 ∷ [] = h.rest ∙ ap (λ (r : Row). map (substitute h.terms) r.columns) same in
    let f : v ≡ h.terms 1 1 = h.head ∙ ap (λ (r : Row). substitute h.terms r.head) same in
    cc

-- a declared value is that of its expression
pub let_is_value : (row : Row) (v u w : Term) → row ≡ row_of ok (variable 1 1 ∷ variable 1 1 ∷ []) → IsOfRow sig row v (u ∷ w ∷ []) → u ≡ w
let_is_value row v u w same h = let e : u ∷ w ∷ [] ≡ h.terms 1 1 ∷ h.terms 1 1 ∷ [] = h.rest ∙ ap (λ (r : Row). map (substitute h.terms) r.columns) same in cc

pub one_is_int : (row : Row) (v : Term) → row ≡ row_of int [] → IsOfRow sig row v [] → v ≡ int
one_is_int row v same h = h.head ∙ ap (λ (r : Row). substitute h.terms r.head) same

pub int_no_bool : int ≡ bool → ⊥
int_no_bool e = cc

-- ---- judgements of open fragments

-- `let x = one` makes x an int, and `need x` a bool
pub declares_int : (g : Entities) (c : Choice (let_of x one)) (v : Term) (before after : List Term) → Holds needing g (let_of x one) c [] v before after → g (0 ∷ x) ≡ int
declares_int g c v before after (u, mid, inner, (seen, h), ent, same, (seen2, h2)) =
    let_is_value h.row v (g (0 ∷ x)) u (only_row needing 1 op_let h.op _ h.row c.0 refl refl h.found h.chosen) h.value
    ∙ one_is_int h2.row u (only_row needing 5 op_one h2.op _ h2.row c.1 refl refl h2.found h2.chosen) h2.value

pub needs_bool_there : (g : Entities) (c : Choice (need (ref_to x))) (v : Term) (before after : List Term) → Holds needing g (need (ref_to x)) c [] v before after → g (0 ∷ x) ≡ bool
needs_bool_there g c v before after (u, mid, inner, (seen, h), ent, same, (seen2, h2)) =
    let wanted : u ≡ bool = needs_bool h.row v u (only_row needing 7 op_need h.op _ h.row c.0 refl refl h.found h.chosen) h.value in
    let used : u ≡ inner (0 ∷ x) = use_is_name h2.row u (inner (0 ∷ x)) (only_row needing 4 op_ref h2.op _ h2.row c.1 refl refl h2.found h2.chosen) h2.value in
    ap (λ (e : Entities). e (0 ∷ x)) (sym same) ∙ sym used ∙ wanted
