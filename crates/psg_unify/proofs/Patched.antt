-- Substitutions that give the values of cells, and all that a reading's variables have in common.
use Rattle.std.proofs.Common.{◌≡◌, inl, inr, ℕ, zero, suc, ◌<◌, ◌+◌, ◌-◌, ◌==◌, cond, Option, Some, None, List, [], ◌∷◌, map, slice_get, All, refl, ap, sym, ◌∙◌, subst, arith}
use Rattle.std.proofs.lemmas.Bool.{eqb-true, eq-eqb, cases_Bool}
use Rattle.std.proofs.lemmas.List.Elements.{All-weaker, All-head, All-tail}
use Rattle.psg_terms.specs.Terms.{Term, symbol}
use Rattle.psg_terms.specs.Signature.{Signature, HasSort}
use Rattle.psg_terms.specs.Canonical.{Variable, variables, variables_of}
use Rattle.psg_terms.specs.Instances.{Substitution, substitute, IsGround, IsGrounding}
use Rattle.psg_terms.proofs.Separate.{Choices}
use Rattle.psg_terms.proofs.Unique.{Each, each-append}
use Rattle.psg_terms.proofs.RenamingLaws.{variables-applied}
use Rattle.psg_terms.proofs.Renumbering.{AgreeAt, agree}
use Rattle.psg_pool.specs.declared.cells.CellId.{CellId}
use Rattle.psg_pool.specs.Cells.{Put, free, constructor, IsAmong, arguments_in, arguments_of}
use Rattle.psg_pool.specs.Bindings.{Kept, target_of, IsSound}
use Rattle.psg_pool.proofs.Places.{some_or_none, slice_get_none}
use Rattle.psg_unify.specs.Reading.{Reading, IsReading}
use Rattle.psg_unify.specs.Fitting.{Falls, sort_at, sort_in}
use Rattle.psg_unify.specs.Valuations.{IsValuation, Solves, by_cells}
use Rattle.psg_unify.proofs.Laws.{over_at, All-both}
use Rattle.psg_unify.proofs.Closing.{general, map-twice}

-- each variable of what a cell reads as is that of an open cell
module _ (kept : Kept) (sound : IsSound kept) (height : CellId → ℕ) (falls : Falls kept height) (read : Reading) (r : IsReading kept read) (P : Variable → Type 0)
    (every : (id : CellId) (s : ℕ) → slice_get kept.cells id.0 ≡ Some (free s) → P (s, id.0 + 1)) where
  abbrev HasEach : CellId → Type 0
  HasEach x = Each P (variables (read x))

  each_of_all : (ids : List CellId) → All HasEach ids → Each P (variables_of (map read ids))
  each_of_all [] h = tt
  each_of_all (x ∷ ids) h = each-append P (variables (read x)) (variables_of (map read ids)) (All-head HasEach x ids h) (each_of_all ids (All-tail HasEach x ids h))

  each_at : (id : CellId) → IsAmong kept.cells id → target_of kept.bindings id ≡ None → (o : Option Put) → slice_get kept.cells id.0 ≡ o → All HasEach (arguments_in o) → HasEach id
  each_at id i t None e h = absurd (omega (arith, i, slice_get_none kept.cells id.0 e))
  each_at id i t (Some (free s)) e h = subst (λ u. Each P (variables u)) (sym (r.open_cell id s e t)) (every id s e, tt)
  each_at id i t (Some (constructor c args)) e h =
      subst (Each P) (sym (ap variables (r.con_cell id c args e) ∙ variables-applied (symbol c) (map read args))) (each_of_all args h)

  each_within : (n : ℕ) (id : CellId) → height id < n → IsAmong kept.cells id → HasEach id
  each_within zero id a i = absurd (omega (arith, a))
  each_within (suc n) id a i = elim (some_or_none (target_of kept.bindings id)) [
    | inr s ↦
        let l = falls.bound id s.0 s.1 in
        subst (λ u. Each P (variables u)) (sym (r.bound_cell id s.0 s.1)) (each_within n s.0 (omega (arith, l, a)) (over_at kept.cells kept.bindings id s.0 sound.over s.1).1)
    | inl t ↦ each_at id i t (slice_get kept.cells id.0) refl
        (All-both (λ x. height x < height id) (λ x. x.0 < id.0) HasEach
        (λ x l m. each_within n x (omega (arith, l, a)) (omega (arith, m, i))) (arguments_of kept.cells id) (falls.con id) (sound.arguments id))
  ]

  pub read_each : (id : CellId) → IsAmong kept.cells id → Each P (variables (read id))
  read_each id i = each_within (suc (height id)) id (omega arith) i

  pub read_each_of : (ids : List CellId) → All (IsAmong kept.cells) ids → Each P (variables_of (map read ids))
  read_each_of ids i = each_of_all ids (All-weaker (IsAmong kept.cells) HasEach (λ x l. read_each x l) ids i)

abbrev pub chosen : Option ℕ → Term → Term → ℕ → Term
chosen None x y s = y
chosen (Some t) x y s = cond (t == s) x y

-- the value of the cell that a variable stands for, if the cell is of the variable's sort, and else a given term
abbrev pub patch : Signature → List Put → Reading → (ℕ → Term) → Substitution
patch sig cells v d s n = chosen (sort_at sig cells (record { 0 = n - 1 })) (v (record { 0 = n - 1 })) (d s) s

choose : (P : Term → Type 0) (o : Option ℕ) (x y : Term) (s : ℕ) → (o ≡ Some s → P x) → P y → P (chosen o x y s)
choose P None x y s f p = p
choose P (Some t) x y s f p = elim (cases_Bool (t == s)) [
  | inl e ↦ subst P (sym (ap (λ b. cond b x y) e)) (f (ap (λ (n : ℕ). Some n) (eqb-true t s e)))
  | inr e ↦ subst P (sym (ap (λ b. cond b x y) e)) p
]

-- each cell has a value of its sort without variables
abbrev pub IsFull : Signature → List Put → Reading → Type 0
IsFull sig cells v = (id : CellId) (s : ℕ) → sort_at sig cells id ≡ Some s → IsGround (v id) × HasSort sig (v id) s

pub patch-grounding : (sig : Signature) (cells : List Put) (v : Reading) (k : Choices sig) → IsFull sig cells v → IsGrounding sig (patch sig cells v k.some)
patch-grounding sig cells v k full = record {
  variable_free = λ s n lt. choose IsGround (sort_at sig cells (record { 0 = n - 1 })) (v (record { 0 = n - 1 })) (k.some s) s (λ e. (full (record { 0 = n - 1 }) s e).0) (k.some_ground s lt);
  sorted = λ s n lt. choose (λ t. HasSort sig t s) (sort_at sig cells (record { 0 = n - 1 })) (v (record { 0 = n - 1 })) (k.some s) s (λ e. (full (record { 0 = n - 1 }) s e).1) (k.some_sorted s lt);
}

patch-at : (sig : Signature) (cells : List Put) (v : Reading) (d : ℕ → Term) (id : CellId) (s : ℕ) → slice_get cells id.0 ≡ Some (free s) → AgreeAt (patch sig cells v d) (by_cells v) (s, id.0 + 1)
patch-at sig cells v d id s e =
    let same : (id.0 + 1) - 1 ≡ id.0 = omega arith in
    let sort : sort_at sig cells (record { 0 = (id.0 + 1) - 1 }) ≡ Some s = ap (λ n. sort_in sig (slice_get cells n)) same ∙ ap (sort_in sig) e in
    ap (λ o. chosen o (v (record { 0 = (id.0 + 1) - 1 })) (d s) s) sort ∙ ap (λ b. cond b (v (record { 0 = (id.0 + 1) - 1 })) (d s)) (eq-eqb s s refl)

-- the values of a pool's cells are those of its variables
module _ (sig : Signature) (kept : Kept) (sound : IsSound kept) (height : CellId → ℕ) (falls : Falls kept height) (read v : Reading) (r : IsReading kept read)
    (val : IsValuation kept.cells v) (sol : Solves kept.bindings v) (d : ℕ → Term) where
  value_of : (id : CellId) → IsAmong kept.cells id → v id ≡ substitute (patch sig kept.cells v d) (read id)
  value_of id i =
      general kept sound height falls read v r val sol (suc (height id)) id (omega arith) i
      ∙ sym (agree (patch sig kept.cells v d) (by_cells v) (read id)
      (read_each kept sound height falls read r (AgreeAt (patch sig kept.cells v d) (by_cells v)) (patch-at sig kept.cells v d) id i))

  pub values_of : (ids : List CellId) → All (IsAmong kept.cells) ids → map v ids ≡ map (substitute (patch sig kept.cells v d)) (map read ids)
  values_of ids i = map-twice v read (substitute (patch sig kept.cells v d)) ids
      (All-weaker (IsAmong kept.cells) (λ x. v x ≡ substitute (patch sig kept.cells v d) (read x)) (λ x l. value_of x l) ids i)
