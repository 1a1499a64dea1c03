-- A use that only a further declaration in an unfinished block can serve has a completion; in a finished block it has
-- none.
use Rattle.std.proofs.Common.{◌≡◌, inl, inr, ℕ, zero, suc, Bool, true, false, List, [], ◌∷◌, map, slice_get, Some, refl, ap, sym, ◌∙◌, true≢false}
use Rattle.psg_terms.specs.Names.{Name}
use Rattle.psg_terms.specs.Terms.{Term}
use Rattle.psg_terms.specs.Signature.{HasSort}
use Rattle.psg_terms.specs.Instances.{substitute, IsGround}
use Rattle.psg_grammar.specs.declared.types.Kind.TheVariants as kinds
use Rattle.psg_grammar.specs.Fragments.{Fragment, ending, cell, operator, with_child, with_name}
use Rattle.psg_grammar.specs.Keys.{Key, space_of}
use Rattle.psg_grammar.specs.Regions.{unfinished_inside, IsDistinct}
use Rattle.psg_grammar.specs.WellFormed.{IsName, WellFormed}
use Rattle.psg_grammar.specs.Legal.{Entities, AreEntities, IsCompletable}
use Rattle.psg_grammar.specs.declared.types.Operator.{Operator}
use Rattle.psg_grammar.specs.declared.types.Row.{Row}
use Rattle.psg_grammar.specs.Open.{Choice, Holds, IsOpen, IsOfCellRow, IsOfOperatorRow}
use Rattle.psg_completions.proofs.LongNames.{fresh}
use Rattle.psg_completions.proofs.Law.{open_or_completable}
use Rattle.psg_completions.proofs.Override.{override, override_grounding}
use Rattle.psg_completions.proofs.CaseNumerals.{sig, ok, none, next, any, row_of, op_zero, op_succ, op_def, op_use, op_blk, list_items, hole_items, numerals, none_sorted, next_sorted, sound}
use Rattle.psg_completions.proofs.CaseTrueRows.{entities, the_one, true_rows, usual, usual_ground}

-- `use x ..` in a block, whose list ends so
abbrev part : Name → Bool → Fragment
part x u = with_child (operator 4) (cell 0 (with_name (operator 3) x) (ending 0 u))

-- `def x = succ zero ; { use x .. }`
abbrev tree : Name → Bool → Fragment
tree x u =
    cell 0 (with_child (with_name (operator 2) x) (with_child (operator 1) (operator 0)))
    (cell 0 (part x u) (ending 0 false))

formed : (x : Name) → IsName numerals x → (u : Bool) → WellFormed numerals (tree x u) (kinds.List 0)
formed x name u = (
  (
    refl,
    refl,
    list_items,
    refl,
    (
      kinds.Phylum 0,
      (inr (0, (op_def, refl, refl, refl)), name),
      (kinds.Phylum 0, (op_succ, refl, refl, refl), (op_zero, refl, refl, refl)),
    ),
    (
      refl,
      refl,
      list_items,
      refl,
      (
        kinds.List 0,
        (op_blk, refl, refl, refl),
        (
          refl,
          refl,
          list_items,
          refl,
          (inl (0, (op_use, refl, refl, refl)), name),
          (refl, refl, (list_items, refl, λ e. refl)),
          tt,
        ),
      ),
      (refl, refl, (list_items, refl, λ e. refl)),
      tt,
    ),
    tt,
  ),
  (((tt, (tt, tt))), ((tt, (tt, tt)), tt)),
)

abbrev one : Term
one = next none

abbrev outside : Entities
outside k = one

outside_are : AreEntities numerals outside
outside_are = entities one (tt, tt) (next_sorted none none_sorted)

-- inside the block what may still be declared is zero
abbrev in_space : ℕ → Term
in_space zero = none
in_space (suc s) = one

abbrev inside : Entities
inside k = in_space (space_of k)

inside_are : AreEntities numerals inside
inside_are = record {
  ground = λ n. ground (space_of n);
  sorted = λ n e at. sorted (space_of n) ((entities none tt none_sorted).sorted n e at) (outside_are.sorted n e at);
} where
  ground : (s : ℕ) → IsGround (in_space s)
  ground zero = tt
  ground (suc s) = (tt, tt)

  sorted : {r : ℕ} (s : ℕ) → HasSort sig none r → HasSort sig one r → HasSort sig (in_space s) r
  sorted zero p q = p
  sorted (suc s) p q = q

apart : (x : Name) (s : ℕ) → unfinished_inside numerals s (part x true) ≡ false → in_space s ≡ one
apart x zero e = absurd (true≢false e)
apart x (suc s) e = refl

cell_holds : IsOfCellRow numerals 0 0 ok ok ok
cell_holds =
    record {
      kind = list_items;
      list = refl;
      row = row_of ok (ok ∷ ok ∷ []);
      chosen = refl;
      value = record { terms = usual; grounding = usual_ground; head = refl; rest = refl };
    }

distinct : (x : Name) (u : Bool) → IsDistinct numerals (tree x u)
distinct x u = (
  refl,
  (
    (tt, (tt, tt, λ e. refl), λ e. refl),
    (λ e. refl),
    ((tt, (tt, (λ e. refl), tt), λ e. refl), (λ e. refl), tt),
  ),
)

open_tree : (x : Name) → IsOpen numerals (tree x true)
open_tree x = record {
  distinct = distinct x true;
  choice = (0, (0, (0, 0)), (0, (0, (0, 0, 2)), 0));
  outside = outside;
  entities = outside_are;
  value = ok;
  judged = record {
    inner = outside;
    entities = outside_are;
    agree = refl;
    holds = (
      refl,
      ok,
      ok,
      [],
      outside,
      cell_holds,
      outside_are,
      refl,
      (
        one,
        [],
        outside,
        (
          refl,
          record {
            op = op_def;
            found = refl;
            row = row_of ok (any ∷ any ∷ []);
            chosen = refl;
            value =
                record {
                  terms = override usual 1 1 one;
                  grounding = override_grounding sig usual 1 1 one usual_ground (tt, tt) (next_sorted none none_sorted);
                  head = refl;
                  rest = refl;
                };
          },
        ),
        outside_are,
        refl,
        (
          none,
          [],
          outside,
          (
            refl,
            record {
              op = op_succ;
              found = refl;
              row = row_of (next any) (any ∷ []);
              chosen = refl;
              value =
                  record {
                    terms = override usual 1 1 none;
                    grounding = override_grounding sig usual 1 1 none usual_ground tt none_sorted;
                    head = refl;
                    rest = refl;
                  };
            },
          ),
          outside_are,
          refl,
          (
            refl,
            record {
              op = op_zero;
              found = refl;
              row = row_of none [];
              chosen = refl;
              value = record { terms = usual; grounding = usual_ground; head = refl; rest = refl };
            },
          ),
        ),
      ),
      (
        refl,
        ok,
        ok,
        [],
        inside,
        cell_holds,
        inside_are,
        (λ n e none_there. apart x (space_of n) e),
        (
          ok,
          [],
          inside,
          (
            refl,
            record {
              op = op_blk;
              found = refl;
              row = row_of ok (ok ∷ []);
              chosen = refl;
              value = record { terms = usual; grounding = usual_ground; head = refl; rest = refl };
            },
          ),
          inside_are,
          refl,
          (
            refl,
            ok,
            ok,
            [],
            inside,
            cell_holds,
            inside_are,
            refl,
            (
              refl,
              record {
                op = op_use;
                found = refl;
                row = row_of ok (none ∷ []);
                chosen = refl;
                value = record { terms = usual; grounding = usual_ground; head = refl; rest = refl };
              },
            ),
            (refl, refl, record { row = hole_items; chosen = refl; same = refl; value = (usual, usual_ground, refl) }),
          ),
        ),
        (
          refl,
          refl,
          record {
            kind = list_items;
            list = refl;
            row = ok;
            chosen = refl;
            value = (usual, usual_ground, refl);
          },
        ),
      ),
    );
  };
}

-- what the block may still declare completes it
pub unfinished_block : (x : Name) → IsName numerals x → IsCompletable numerals (tree x true)
unfinished_block x name =
    (open_or_completable numerals sound true_rows (tree x true) (kinds.List 0) (formed x name true)).0 (open_tree x)

pub some_tree : (x : Name) × IsCompletable numerals (tree x true)
some_tree = let (x, name, free) = fresh numerals [] in (x, unfinished_block x name)

-- ---- a finished block

def_says : (r : ℕ) (v a b : Term) → IsOfOperatorRow numerals 2 r v (a ∷ b ∷ []) → a ≡ b
def_says r v a b h =
    let is : op_def ≡ h.op = (let q : Some op_def ≡ Some h.op = h.found in cc) in
    let row : row_of ok (any ∷ any ∷ []) ≡ h.row =
    the_one (row_of ok (any ∷ any ∷ [])) h.row r (ap (λ (x : Operator). slice_get x.rows r) is ∙ h.chosen) in
    let columns : a ∷ b ∷ [] ≡ h.value.terms 1 1 ∷ h.value.terms 1 1 ∷ [] =
    h.value.rest ∙ ap (λ (x : Row). map (substitute h.value.terms) x.columns) (sym row) in
    cc

succ_says : (r : ℕ) (v a : Term) → IsOfOperatorRow numerals 1 r v (a ∷ []) → v ≡ next a
succ_says r v a h =
    let is : op_succ ≡ h.op = (let q : Some op_succ ≡ Some h.op = h.found in cc) in
    let row : row_of (next any) (any ∷ []) ≡ h.row =
    the_one (row_of (next any) (any ∷ [])) h.row r (ap (λ (x : Operator). slice_get x.rows r) is ∙ h.chosen) in
    let columns : a ∷ [] ≡ h.value.terms 1 1 ∷ [] =
    h.value.rest ∙ ap (λ (x : Row). map (substitute h.value.terms) x.columns) (sym row) in
    let same : a ≡ h.value.terms 1 1 = cc in
    h.value.head ∙ ap (λ (x : Row). substitute h.value.terms x.head) (sym row) ∙ ap next (sym same)

use_says : (r : ℕ) (v a : Term) → IsOfOperatorRow numerals 3 r v (a ∷ []) → a ≡ none
use_says r v a h =
    let is : op_use ≡ h.op = (let q : Some op_use ≡ Some h.op = h.found in cc) in
    let row : row_of ok (none ∷ []) ≡ h.row =
    the_one (row_of ok (none ∷ [])) h.row r (ap (λ (x : Operator). slice_get x.rows r) is ∙ h.chosen) in
    let columns : a ∷ [] ≡ none ∷ [] =
    h.value.rest ∙ ap (λ (x : Row). map (substitute h.value.terms) x.columns) (sym row) in
    cc

-- the key of the name
abbrev key : Name → Key
key x = 0 ∷ x

-- what the definition gives the name, and what the use in the block needs
given : (g : Entities) (x : Name)
    (c : Choice (with_child (with_name (operator 2) x) (with_child (operator 1) (operator 0)))) (v : Term)
    (before after : List Term)
    → Holds numerals g (with_child (with_name (operator 2) x) (with_child (operator 1) (operator 0))) c [] v before
    after → (w : Term) × (g (key x) ≡ next w)
given g x c v before after (u, mid, i, (same, def_row), ents, agree, (w, m, j, (s, succ_row), are, agrees, end)) =
    (w, def_says c.0 v (g (key x)) u def_row ∙ succ_says c.1.0 u w succ_row)

needed : (g : Entities) (x : Name) (c : Choice (part x false)) (v : Term) (before after : List Term)
    → Holds numerals g (part x false) c [] v before after → g (key x) ≡ none
needed g x c v before after (
  u,
  mid,
  i,
  blk,
  ents,
  agree,
  (empty, first, others, m, j, row, are, same, (s, use_row), end),
) =
    sym (ap (λ (h : Entities). h (key x)) (same ∙ agree)) ∙ use_says c.1.1 first (j (key x)) use_row

wrong_tree : (x : Name) → IsOpen numerals (tree x false) → ⊥
wrong_tree x o = go o.judged.inner o.choice o.value o.judged.holds where
  go : (g : Entities) (c : Choice (tree x false)) (v : Term) → Holds numerals g (tree x false) c [] v [] [] → ⊥
  go g c v (
    empty,
    first,
    others,
    mid,
    i,
    row,
    ents,
    same,
    there,
    (empty', first', others', mid', j, row', ents', agree, inside_it, end),
  ) =
      let (w, gives) = given i x c.1 first [] mid there in
      let needs = needed j x c.2.1 first' mid mid' inside_it in
      let clash : none ≡ next w = sym needs ∙ agree (key x) refl refl ∙ sym (ap (λ (h : Entities). h (key x)) same)
      ∙ gives in
      cc

-- nothing completes it
pub finished_block : (x : Name) → IsName numerals x → IsCompletable numerals (tree x false) → ⊥
finished_block x name it =
    wrong_tree x ((open_or_completable numerals sound true_rows (tree x false) (kinds.List 0) (formed x name false)).1
    it)
