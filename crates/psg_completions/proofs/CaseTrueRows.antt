-- The rows of the language of numerals and blocks are true of its trees.
use Rattle.std.proofs.Common.{◌≡◌, inl, inr, ℕ, zero, suc, ◌<◌, [], ◌∷◌, slice_get, codes, Some, refl, ap, sym, ◌∙◌, subst, lit<, arith}
use Rattle.std.proofs.lemmas.Option.{none-some}
use Rattle.psg_terms.specs.Terms.{Term, variable}
use Rattle.psg_terms.specs.Signature.{HasSort, constructors_of}
use Rattle.psg_terms.specs.Instances.{Substitution, substitute, IsGround, IsGrounding}
use Rattle.psg_terms.specs.Relations.{IsIn, first, later}
use Rattle.psg_grammar.specs.declared.types.Kind.TheVariants as kinds
use Rattle.psg_grammar.specs.declared.types.Operator.{Operator}
use Rattle.psg_grammar.specs.declared.types.Row.{Row}
use Rattle.psg_grammar.specs.declared.types.ListKind.{ListKind}
use Rattle.psg_grammar.specs.declared.types.Case.{Case}
use Rattle.psg_grammar.specs.declared.types.HoleRow.{HoleRow}
use Rattle.psg_grammar.specs.declared.types.DeclareRow.{DeclareRow}
use Rattle.psg_grammar.specs.declared.types.Space.{Space}
use Rattle.psg_grammar.specs.declared.types.SpecimenHole.{SpecimenHole}
use Rattle.psg_grammar.specs.Keys.{space_of}
use Rattle.psg_grammar.specs.Legal.{AreEntities}
use Rattle.psg_grammar.specs.Open.{IsOfHoleRow}
use Rattle.psg_completions.specs.Cases.{HasCases, AreCases}
use Rattle.psg_completions.specs.Covered.{IsCoveredRow, IsCoveredNil, IsCoveredCell}
use Rattle.psg_completions.specs.Places.{IsPart, IsOfOneRow, IsSmallerPlace, IsOpenPlace}
use Rattle.psg_completions.specs.General.{IsGeneralCase, IsGeneralDeclare}
use Rattle.psg_completions.specs.Elements.{DeclaresOnce, HasDeclareRow, IsClear, IsDeclarable, IsClearRow}
use Rattle.psg_completions.specs.Conditions.{HasTrueRows}
use Rattle.psg_completions.proofs.Override.{override, override_grounding}
use Rattle.psg_completions.proofs.CaseNumerals.{sig, ok, none, next, any, row_of, op_zero, op_succ, op_def, op_use, op_blk, list_items, zero_tree, place, succ_tree, use_tree, empty_tree, case_of, hole_num, hole_item, hole_items, declare_of, the_space, numerals, ok_sorted, none_sorted, next_sorted}

-- ---- entities and values

-- a ground term for each variable
abbrev pub usual : Substitution
usual zero n = ok
usual (suc s) n = none

pub usual_ground : IsGrounding sig usual
usual_ground = record { variable_free = λ s n lt. ground s n; sorted = λ s n lt. sorted s n lt } where
  ground : (s n : ℕ) → IsGround (usual s n)
  ground zero n = tt
  ground (suc s) n = tt

  sorted : (s n : ℕ) → s < 2 → HasSort sig (usual s n) s
  sorted zero n lt = ok_sorted
  sorted (suc zero) n lt = none_sorted
  sorted (suc (suc s)) n lt = absurd (omega arith)

-- each name has the numeral
pub entities : (t : Term) → IsGround t → HasSort sig t 1 → AreEntities numerals (λ n. t)
entities t g h = record { ground = λ n. g; sorted = λ n e at. one (space_of n) e at } where
  one : (k : ℕ) (e : Space) → slice_get numerals.spaces k ≡ Some e → HasSort sig t e.sort.0
  one zero e at = let q : the_space ≡ e = cc in subst (λ (x : Space). HasSort sig t x.sort.0) q h
  one (suc k) e at = absurd (none-some e at)

any_ground : (f : Substitution) → IsGrounding sig f → IsGround (f 1 1)
any_ground f ground = ground.variable_free 1 1 (lit< tt)

any_sort : (f : Substitution) → IsGrounding sig f → HasSort sig (f 1 1) 1
any_sort f ground = ground.sorted 1 1 (lit< tt)

-- each numeral is a value of the row for numerals
num_value : (f : Substitution) → IsGrounding sig f → (t : Term) → IsGround t → HasSort sig t 1
    → IsOfHoleRow numerals (kinds.Phylum 0) 0 t
num_value f ground t g h =
    record {
      row = hole_num;
      chosen = refl;
      same = refl;
      value = (override f 1 1 t, override_grounding sig f 1 1 t ground g h, refl);
    }

item_value : (f : Substitution) → IsGrounding sig f → IsOfHoleRow numerals (kinds.Phylum 1) 1 ok
item_value f ground = record { row = hole_item; chosen = refl; same = refl; value = (f, ground, refl) }

items_value : (f : Substitution) → IsGrounding sig f → IsOfHoleRow numerals (kinds.List 0) 2 ok
items_value f ground = record { row = hole_items; chosen = refl; same = refl; value = (f, ground, refl) }

-- ---- hole rows miss no value

pub the_one : {X : Type 0} (x y : X) (k : ℕ) → slice_get (x ∷ []) k ≡ Some y → x ≡ y
the_one x y zero e = cc
the_one x y (suc k) e = absurd (none-some y e)

abbrev IsHead : ℕ → Substitution → Operator → Row → Type 0
IsHead r f op row = IsOfHoleRow numerals (kinds.Phylum op.phylum) r (substitute f row.head)

by_row : (op other : Operator) (single row : Row) (k r : ℕ) (f : Substitution) → op.rows ≡ single ∷ []
    → Some op ≡ Some other → slice_get other.rows k ≡ Some row → IsHead r f op single → IsHead r f other row
by_row op other single row k r f rows same chosen h =
    let is : op ≡ other = cc in
    let only : single ≡ row =
    the_one single row k (sym (ap (λ xs. slice_get xs k) rows) ∙ ap (λ (x : Operator). slice_get x.rows k) is
    ∙ chosen) in
    subst (λ x. IsHead r f other x) only (subst (λ x. IsHead r f x single) is h)

covered_row : (o k : ℕ) → IsCoveredRow numerals o k
covered_row zero k op at row chosen rs = (
  0,
  λ f ground hold. by_row op_zero op (row_of none []) row k 0 f refl at chosen
      (num_value f ground none tt none_sorted),
)
covered_row (suc zero) k op at row chosen rs = (
  0,
  λ f ground hold. by_row op_succ op (row_of (next any) (any ∷ [])) row k 0 f refl at chosen
      (num_value f ground (next (f 1 1)) (tt, any_ground f ground) (next_sorted (f 1 1) (any_sort f ground))),
)
covered_row (suc (suc zero)) k op at row chosen rs =
    (1, λ f ground hold. by_row op_def op (row_of ok (any ∷ any ∷ [])) row k 1 f refl at chosen (item_value f ground))
covered_row (suc (suc (suc zero))) k op at row chosen rs =
    (1, λ f ground hold. by_row op_use op (row_of ok (none ∷ [])) row k 1 f refl at chosen (item_value f ground))
covered_row (suc (suc (suc (suc zero)))) k op at row chosen rs =
    (1, λ f ground hold. by_row op_blk op (row_of ok (ok ∷ [])) row k 1 f refl at chosen (item_value f ground))
covered_row (suc (suc (suc (suc (suc o))))) k op at row chosen rs = absurd (none-some op at)

the_list : (l : ℕ) (list : ListKind) → slice_get numerals.lists l ≡ Some list → (l ≡ 0) × (list_items ≡ list)
the_list zero list e = (refl, (let q : list_items ≡ list = cc in q))
the_list (suc l) list e = absurd (none-some list e)

covered_nil : (l k : ℕ) → IsCoveredNil numerals l k
covered_nil l k list at row chosen = (
  2,
  λ f ground.
      let (z, e) = the_list l list at in
      let q : ok ≡ row = the_one ok row k (ap (λ (x : ListKind). slice_get x.nil_rows k) e ∙ chosen) in
      subst (λ m. IsOfHoleRow numerals (kinds.List m) 2 (substitute f row)) (sym z)
      (subst (λ t. IsOfHoleRow numerals (kinds.List 0) 2 (substitute f t)) q (items_value f ground)),
)

covered_cell : (l k : ℕ) → IsCoveredCell numerals l k
covered_cell l k list at row chosen a b = (
  2,
  λ f ground x y d hx hy.
      let (z, e) = the_list l list at in
      let q : row_of ok (ok ∷ ok ∷ []) ≡ row =
      the_one (row_of ok (ok ∷ ok ∷ [])) row k (ap (λ (x : ListKind). slice_get x.cell_rows k) e ∙ chosen) in
      subst (λ m. IsOfHoleRow numerals (kinds.List m) 2 (substitute f row.head)) (sym z)
      (subst (λ (t : Row). IsOfHoleRow numerals (kinds.List 0) 2 (substitute f t.head)) q (items_value f ground)),
)

-- ---- hole rows have no value too many

cases : (r : ℕ) → HasCases numerals r
cases zero row e =
    let q : hole_num ≡ row = cc in
    subst (AreCases sig) q (inr (
      1,
      1,
      refl,
      (
        record {
          made = record { name = codes "z"; arguments = []; sort = 1 };
          found = refl;
          arguments = [];
          term_is = refl;
          different = tt;
        },
        (
          record {
            made = record { name = codes "s"; arguments = 1 ∷ []; sort = 1 };
            found = refl;
            arguments = any ∷ [];
            term_is = refl;
            different = (inr (1, refl, refl, tt), tt);
          },
          tt,
        ),
      ),
    ))
cases (suc zero) row e = let q : hole_item ≡ row = cc in subst (AreCases sig) q (inl (case_of ok use_tree, refl, refl))
cases (suc (suc zero)) row e = let q : hole_items ≡ row = cc in
    subst (AreCases sig) q (inl (case_of ok empty_tree, refl, refl))
cases (suc (suc (suc r))) row e = absurd (none-some row e)

the_two : {X : Type 0} (P : X → Type 0) (x y z : X) (k : ℕ) → slice_get (x ∷ y ∷ []) k ≡ Some z → P x → P y → P z
the_two P x y z zero e p q = let same : x ≡ z = cc in subst P same p
the_two P x y z (suc zero) e p q = let same : y ≡ z = cc in subst P same q
the_two P x y z (suc (suc k)) e p q = absurd (none-some z e)

-- each case is one of the four, and each declare row one of the two
each_case : (P : Case → Type 0) → P (case_of none zero_tree) → P (case_of (next any) succ_tree)
    → P (case_of ok use_tree) → P (case_of ok empty_tree)
    → (r : ℕ) (row : HoleRow) → slice_get numerals.hole_rows r ≡ Some row → (c : ℕ) (one : Case)
    → slice_get row.cases c ≡ Some one → P one
each_case P a b d e zero row at c one chosen = let q : hole_num ≡ row = cc in
    the_two P (case_of none zero_tree) (case_of (next any) succ_tree) one c
    (ap (λ (x : HoleRow). slice_get x.cases c) q ∙ chosen) a b
each_case P a b d e (suc zero) row at c one chosen = let q : hole_item ≡ row = cc in
    subst P (the_one (case_of ok use_tree) one c (ap (λ (x : HoleRow). slice_get x.cases c) q ∙ chosen)) d
each_case P a b d e (suc (suc zero)) row at c one chosen = let q : hole_items ≡ row = cc in
    subst P (the_one (case_of ok empty_tree) one c (ap (λ (x : HoleRow). slice_get x.cases c) q ∙ chosen)) e
each_case P a b d e (suc (suc (suc r))) row at c one chosen = absurd (none-some row at)

each_declare : (P : DeclareRow → Type 0) → P (declare_of none zero_tree) → P (declare_of (next any) succ_tree)
    → (k : ℕ) (d : DeclareRow) → slice_get numerals.declare_rows k ≡ Some d → P d
each_declare P a b k d at = the_two P (declare_of none zero_tree) (declare_of (next any) succ_tree) d k at a b

-- the place of `succ` is smaller than its case's term, and open
place_part : (h : ℕ) (p : SpecimenHole) → slice_get (place ∷ []) h ≡ Some p → IsPart p.term (next any)
place_part h p e = subst (λ (x : SpecimenHole). IsPart x.term (next any)) (the_one place p h e) (inl refl)

place_open : (h : ℕ) (p : SpecimenHole) → slice_get (place ∷ []) h ≡ Some p → IsOfOneRow numerals p
place_open h p e =
    subst (IsOfOneRow numerals) (the_one place p h e)
    (record { number = 0; row = hole_num; chosen = refl; same = refl; is = (variable, refl) })

no_place : (P : SpecimenHole → Type 0) (h : ℕ) (p : SpecimenHole) → slice_get [] h ≡ Some p → P p
no_place P h p e = absurd (none-some p e)

general_zero : IsGeneralCase numerals (case_of none zero_tree)
general_zero = record {
  distinct = (refl, tt);
  choice = 0;
  general = λ f ground. record {
    outside = λ k. none;
    entities = entities none tt none_sorted;
    judged = record {
      inner = λ k. none;
      entities = entities none tt none_sorted;
      agree = refl;
      holds = (
        refl,
        record {
          op = op_zero;
          found = refl;
          row = row_of none [];
          chosen = refl;
          value = record { terms = f; grounding = ground; head = refl; rest = refl };
        },
      );
    };
  };
}

general_succ : IsGeneralCase numerals (case_of (next any) succ_tree)
general_succ = record {
  distinct = (refl, (tt, tt, λ e. refl));
  choice = (0, tt);
  general = λ f ground. record {
    outside = λ k. none;
    entities = entities none tt none_sorted;
    judged = record {
      inner = λ k. none;
      entities = entities none tt none_sorted;
      agree = refl;
      holds = (
        f 1 1,
        f 1 1 ∷ [],
        (λ k. none),
        (
          refl,
          record {
            op = op_succ;
            found = refl;
            row = row_of (next any) (any ∷ []);
            chosen = refl;
            value = record { terms = f; grounding = ground; head = refl; rest = refl };
          },
        ),
        entities none tt none_sorted,
        refl,
        (refl, refl),
      );
    };
  };
}

general_use : IsGeneralCase numerals (case_of ok use_tree)
general_use = record {
  distinct = (refl, tt);
  choice = 0;
  general = λ f ground. record {
    outside = λ k. none;
    entities = entities none tt none_sorted;
    judged = record {
      inner = λ k. none;
      entities = entities none tt none_sorted;
      agree = refl;
      holds = (
        refl,
        record {
          op = op_use;
          found = refl;
          row = row_of ok (none ∷ []);
          chosen = refl;
          value = record { terms = f; grounding = ground; head = refl; rest = refl };
        },
      );
    };
  };
}

general_empty : IsGeneralCase numerals (case_of ok empty_tree)
general_empty = record {
  distinct = (refl, tt);
  choice = 0;
  general = λ f ground. record {
    outside = λ k. none;
    entities = entities none tt none_sorted;
    judged = record {
      inner = λ k. none;
      entities = entities none tt none_sorted;
      agree = refl;
      holds =
          (refl, refl, record { kind = list_items; list = refl; row = ok; chosen = refl; value = (f, ground, refl) });
    };
  };
}

-- ---- elements that declare

declare_zero : IsGeneralDeclare numerals (declare_of none zero_tree)
declare_zero = record {
  distinct = (refl, (tt, tt, λ e. refl));
  choice = (0, 0);
  general = λ f ground. (
    record {
      outside = λ k. none;
      entities = entities none tt none_sorted;
      judged = record {
        inner = λ k. none;
        entities = entities none tt none_sorted;
        agree = refl;
        holds = (
          none,
          [],
          (λ k. none),
          (
            refl,
            record {
              op = op_def;
              found = refl;
              row = row_of ok (any ∷ any ∷ []);
              chosen = refl;
              value =
                  record {
                    terms = override f 1 1 none;
                    grounding = override_grounding sig f 1 1 none ground tt none_sorted;
                    head = refl;
                    rest = refl;
                  };
            },
          ),
          entities none tt none_sorted,
          refl,
          (
            refl,
            record {
              op = op_zero;
              found = refl;
              row = row_of none [];
              chosen = refl;
              value = record { terms = f; grounding = ground; head = refl; rest = refl };
            },
          ),
        );
      };
    },
    refl,
  );
}

declare_succ : IsGeneralDeclare numerals (declare_of (next any) succ_tree)
declare_succ = record {
  distinct = (refl, (tt, (tt, tt, λ e. refl), λ e. refl));
  choice = (0, (0, tt));
  general = λ f ground.
      let g = any_ground f ground in
      let h = next_sorted (f 1 1) (any_sort f ground) in
      let are = entities (next (f 1 1)) (tt, g) h in (
        record {
          outside = λ k. next (f 1 1);
          entities = are;
          judged = record {
            inner = λ k. next (f 1 1);
            entities = are;
            agree = refl;
            holds = (
              next (f 1 1),
              f 1 1 ∷ [],
              (λ k. next (f 1 1)),
              (
                refl,
                record {
                  op = op_def;
                  found = refl;
                  row = row_of ok (any ∷ any ∷ []);
                  chosen = refl;
                  value =
                      record {
                        terms = override f 1 1 (next (f 1 1));
                        grounding = override_grounding sig f 1 1 (next (f 1 1)) ground (tt, g) h;
                        head = refl;
                        rest =
                            refl;
                      };
                },
              ),
              are,
              refl,
              (
                f 1 1,
                f 1 1 ∷ [],
                (λ k. next (f 1 1)),
                (
                  refl,
                  record {
                    op = op_succ;
                    found = refl;
                    row = row_of (next any) (any ∷ []);
                    chosen = refl;
                    value = record { terms = f; grounding = ground; head = refl; rest = refl };
                  },
                ),
                are,
                refl,
                (refl, refl),
              ),
            );
          };
        },
        refl,
      );
}

some_declare : (l s c : ℕ) → l ≡ 0 → s ≡ 0 → IsIn c (constructors_of sig 1) → HasDeclareRow numerals l s c
some_declare l s c el es first = record {
  number = 0;
  row = declare_of none zero_tree;
  chosen = refl;
  of_list = sym el;
  of_space = sym es;
  over =
      record {
        made = record { name = codes "z"; arguments = []; sort = 1 };
        found = refl;
        arguments = [];
        term_is = refl;
        different = tt;
      };
}
some_declare l s c el es (later first) = record {
  number = 1;
  row = declare_of (next any) succ_tree;
  chosen = refl;
  of_list = sym el;
  of_space = sym es;
  over =
      record {
        made = record { name = codes "s"; arguments = 1 ∷ []; sort = 1 };
        found = refl;
        arguments = any ∷ [];
        term_is = refl;
        different = (inr (1, refl, refl, tt), tt);
      };
}
some_declare l s c el es (later (later h)) = elim h [ ]

only_space : (k : ℕ) (e : Space) → slice_get numerals.spaces k ≡ Some e → (k ≡ 0) × (the_space ≡ e)
only_space zero e at = (refl, (let q : the_space ≡ e = cc in q))
only_space (suc k) e at = absurd (none-some e at)

declarable : (l s c : ℕ) → IsDeclarable numerals l s c
declarable l s c list at un dec space there among =
    some_declare l s c (the_list l list at).0 (only_space s space there).0
    (subst (λ (x : Space). IsIn c (constructors_of sig x.sort.0)) (sym (only_space s space there).1) among)

clear : IsClear numerals list_items ok
clear =
    record {
      number = 0;
      row = row_of ok (ok ∷ ok ∷ []);
      chosen = refl;
      element = ok;
      rest = ok;
      columns = refl;
      head = refl;
      rest_is = inr (0, refl, refl);
      is = (variable, refl);
    }

clear_row : (k : ℕ) → IsClearRow numerals k
clear_row k d at list of =
    each_declare (λ d. (list : ListKind) → slice_get numerals.lists d.list ≡ Some list → IsClear numerals list d.value)
    one one k d at list of where
      one : (list : ListKind) → slice_get numerals.lists 0 ≡ Some list → IsClear numerals list ok
      one list e = subst (λ l. IsClear numerals l ok) (the_list 0 list e).1 clear

pub true_rows : HasTrueRows numerals
true_rows = record {
  rows = covered_row;
  nils = covered_nil;
  cells = covered_cell;
  cases = cases;
  smaller = each_case (λ one. (h : ℕ) → IsSmallerPlace one.specimen one.term h)
      (no_place (λ p. IsPart p.term none)) place_part (no_place (λ p. IsPart p.term ok))
      (no_place (λ p. IsPart p.term ok));
  open_places = (
    each_case (λ one. (h : ℕ) → IsOpenPlace numerals one.specimen h) (no_place (IsOfOneRow numerals)) place_open
        (no_place (IsOfOneRow numerals)) (no_place (IsOfOneRow numerals)),
    each_declare (λ d. (h : ℕ) → IsOpenPlace numerals d.specimen h) (no_place (IsOfOneRow numerals)) place_open,
  );
  general_cases = each_case (IsGeneralCase numerals) general_zero general_succ general_use general_empty;
  general_declares = each_declare (IsGeneralDeclare numerals) declare_zero declare_succ;
  declares = each_declare (DeclaresOnce numerals) refl refl;
  declarable = declarable;
  clear = clear_row;
}
