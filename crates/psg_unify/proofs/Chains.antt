-- How many bindings lead on from a cell.
use Rattle.std.proofs.Common.{◌≡◌, inl, inr, ℕ, zero, suc, ◌<◌, ◌≤◌, ◌==◌, ◌||◌, Bool, true, false, Option, Some, None, List, length, refl, ap, sym, ◌∙◌, subst, arith}
use Rattle.std.proofs.lemmas.Bool.{eq-eqb, eqb-true, or_right, false_from_ne_true, cases_Bool}
use Rattle.std.proofs.lemmas.Option.{slice_get_within}
use Rattle.psg_pool.specs.declared.cells.CellId.{CellId}
use Rattle.psg_pool.specs.declared.cells.Binding.{Binding}
use Rattle.psg_pool.specs.Cells.{Put, free}
use Rattle.psg_pool.specs.Bindings.{Kept, IsSound, target_of, Leads, arrived, followed, Ends, unbound, bound}
use Rattle.psg_pool.proofs.Following.{ends_round}
use Rattle.psg_unify.specs.Counting.{count_below}
use Rattle.psg_unify.proofs.Counts.{count_most, count_less}
use Rattle.psg_unify.proofs.Laws.{over_at}

-- the steps from a cell, of which this many are counted at most
abbrev pub steps : List Binding → Option CellId → ℕ → ℕ
steps bs None n = 0
steps bs (Some id) zero = 0
steps bs (Some id) (suc n) = suc (steps bs (target_of bs id) n)

abbrev steps_left : List Binding → CellId → ℕ → ℕ
steps_left bs id n = steps bs (target_of bs id) n

-- how many steps there are
abbrev chain : (bs : List Binding) (id : CellId) → Ends bs id → ℕ
chain bs _ (unbound id n) = 0
chain bs _ (bound id next t rest) = suc (chain bs next rest)

all_counted : (bs : List Binding) (id : CellId) (e : Ends bs id) (n : ℕ) → chain bs id e ≤ n → steps_left bs id n ≡ chain bs id e
all_counted bs _ (unbound id u) n l = ap (λ o. steps bs o n) u
all_counted bs _ (bound id next t rest) zero l = absurd (omega (arith, l))
all_counted bs _ (bound id next t rest) (suc n) l =
    ap (λ o. steps bs o (suc n)) t ∙ ap (λ (k : ℕ). suc k) (all_counted bs next rest n (omega (arith, l)))

-- the cell of this number is bound on the way
abbrev is_passed : (bs : List Binding) (id : CellId) → Ends bs id → ℕ → Bool
is_passed bs _ (unbound id n) k = false
is_passed bs _ (bound id next t rest) k = (id.0 == k) || is_passed bs next rest k

passed_leads : (bs : List Binding) (id : CellId) (e : Ends bs id) (k : ℕ) → is_passed bs id e k ≡ true → Leads bs id (record { 0 = k })
passed_leads bs _ (unbound id n) k h = absurd (cc)
passed_leads bs _ (bound id next t rest) k h = elim (cases_Bool (id.0 == k)) [
  | inl same ↦ subst (λ (n : ℕ). Leads bs id (record { 0 = n })) (eqb-true id.0 k same) (arrived id)
  | inr f ↦ followed id next (record { 0 = k }) t (passed_leads bs next rest k (ap (λ (b : Bool). b || is_passed bs next rest k) (sym f) ∙ h))
]

-- no cell is passed twice
chain_most : (cells : List Put) (bs : List Binding) → ((id to : CellId) → target_of bs id ≡ Some to → id.0 < length cells) → (id : CellId) (e : Ends bs id) → chain bs id e ≤ count_below (length cells) (is_passed bs id e)
chain_most cells bs there _ (unbound id n) = omega arith
chain_most cells bs there _ (bound id next t rest) =
    let before = chain_most cells bs there next rest in
    let less = count_less (length cells) (is_passed bs id (bound id next t rest)) (is_passed bs next rest) (λ k _ h. or_right (id.0 == k) (is_passed bs next rest k) h)
    id.0 (there id next t) (ap (λ (b : Bool). b || is_passed bs next rest id.0) (eq-eqb id.0 id.0 refl))
    (false_from_ne_true (is_passed bs next rest id.0) (λ h. ends_round bs id next (bound id next t rest) t (passed_leads bs next rest id.0 h))) in
    omega (arith, before, less)

-- a cell that is bound is there
pub bound_there : (kept : Kept) → IsSound kept → (id to : CellId) → target_of kept.bindings id ≡ Some to → id.0 < length kept.cells
bound_there kept sound id to t = let over = over_at kept.cells kept.bindings id to sound.over t in slice_get_within kept.cells id.0 (free over.0.0) over.0.1

chain_within : (kept : Kept) → IsSound kept → (id : CellId) (e : Ends kept.bindings id) → chain kept.bindings id e ≤ length kept.cells
chain_within kept sound id e =
    let most = chain_most kept.cells kept.bindings (bound_there kept sound) id e in
    let all = count_most (length kept.cells) (is_passed kept.bindings id e) in
    omega (arith, most, all)

-- a step leaves fewer
fewer : (kept : Kept) → IsSound kept → (id to : CellId) → Ends kept.bindings id → target_of kept.bindings id ≡ Some to
    → steps kept.bindings (target_of kept.bindings to) (length kept.cells) < steps kept.bindings (target_of kept.bindings id) (length kept.cells)
fewer kept sound _ to (unbound id n) t = (let none : None ≡ Some to = sym n ∙ t in absurd (cc))
fewer kept sound _ to (bound id next u rest) t =
    let is : Some next ≡ Some to = sym u ∙ t in
    let same : next ≡ to = cc in
    let long = all_counted kept.bindings id (bound id next u rest) (length kept.cells) (chain_within kept sound id (bound id next u rest)) in
    let short = all_counted kept.bindings next rest (length kept.cells) (chain_within kept sound next rest) in
    subst (λ (x : CellId). steps kept.bindings (target_of kept.bindings x) (length kept.cells) < steps kept.bindings (target_of kept.bindings id) (length kept.cells)) same (omega (arith, long, short))

pub fewer_steps : (kept : Kept) → IsSound kept → (id to : CellId) → target_of kept.bindings id ≡ Some to
    → steps kept.bindings (target_of kept.bindings to) (length kept.cells) < steps kept.bindings (target_of kept.bindings id) (length kept.cells)
fewer_steps kept sound id to t = fewer kept sound id to (sound.ends id) t

pub target_there : (kept : Kept) → IsSound kept → (id to : CellId) → target_of kept.bindings id ≡ Some to → to.0 < length kept.cells
target_there kept sound id to t = (over_at kept.cells kept.bindings id to sound.over t).1
