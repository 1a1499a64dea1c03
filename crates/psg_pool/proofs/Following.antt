-- Following bindings comes to an end.
use Rattle.std.proofs.Common.{◌≡◌, inl, inr, ℕ, ◌==◌, Some, None, List, [], ◌∷◌, ◌++◌, take, drop, refl, ap, sym, ◌∙◌, subst}
use Rattle.std.proofs.lemmas.Bool.{eqb-true, cases_Bool}
use Rattle.std.proofs.lemmas.List.{take-append-drop}
use Rattle.psg_pool.specs.declared.cells.CellId.{CellId}
use Rattle.psg_pool.specs.declared.cells.Binding.{Binding}
use Rattle.psg_pool.specs.Bindings.{target_of, Leads, arrived, followed, Ends, unbound, bound}
use Rattle.psg_pool.proofs.Places.{some_or_none}
use Rattle.psg_pool.proofs.Links.{target_of_here, target_of_there}

-- what is bound stays bound to the same under more bindings
pub target_of-append : (bs more : List Binding) (id target : CellId) → target_of bs id ≡ Some target → target_of (bs ++ more) id ≡ Some target
target_of-append [] more id target e = cc
target_of-append (b ∷ rest) more id target e = elim (cases_Bool (b.bound.0 == id.0)) [
  | inl t ↦ target_of_here b (rest ++ more) id (eqb-true b.bound.0 id.0 t) ∙ sym (target_of_here b rest id (eqb-true b.bound.0 id.0 t)) ∙ e
  | inr f ↦ target_of_there b (rest ++ more) id f ∙ target_of-append rest more id target (sym (target_of_there b rest id f) ∙ e)
]

-- for a cell that is not bound the bindings behind count
pub target_of-append_none : (bs more : List Binding) (id : CellId) → target_of bs id ≡ None → target_of (bs ++ more) id ≡ target_of more id
target_of-append_none [] more id e = refl
target_of-append_none (b ∷ rest) more id e = elim (cases_Bool (b.bound.0 == id.0)) [
  | inl t ↦ let n : Some b.target ≡ None = sym (target_of_here b rest id (eqb-true b.bound.0 id.0 t)) ∙ e in cc
  | inr f ↦ target_of_there b (rest ++ more) id f ∙ target_of-append_none rest more id (sym (target_of_there b rest id f) ∙ e)
]

-- fewer bindings come to an end sooner
pub ends_fewer : (bs more : List Binding) (id : CellId) → Ends (bs ++ more) id → Ends bs id
ends_fewer bs more _ (unbound id e) = elim (some_or_none (target_of bs id)) [
  | inl n ↦ unbound id n
  | inr s ↦ let x : Some s.0 ≡ None = sym (target_of-append bs more id s.0 s.1) ∙ e in cc
]
ends_fewer bs more _ (bound id next e rest) = elim (some_or_none (target_of bs id)) [
  | inl n ↦ unbound id n
  | inr s ↦
      let x : Some s.0 ≡ Some next = sym (target_of-append bs more id s.0 s.1) ∙ e in
      let same : s.0 ≡ next = cc in
      bound id next (s.1 ∙ ap (λ (t : CellId). Some t) same) (ends_fewer bs more next rest)
]

pub ends_take : (bs : List Binding) (m : ℕ) (id : CellId) → Ends bs id → Ends (take m bs) id
ends_take bs m id e = ends_fewer (take m bs) (drop m bs) id (subst (λ (l : List Binding). Ends l id) (sym (take-append-drop m bs)) e)

-- from a cell that does not lead to the newly bound one, nothing changes
pub ends_apart : (bs : List Binding) (b : Binding) (id : CellId) → Ends bs id → (Leads bs id b.bound → ⊥) → Ends (bs ++ b ∷ []) id
ends_apart bs b _ (unbound id e) apart = elim (cases_Bool (b.bound.0 == id.0)) [
  | inl t ↦
      let same : id ≡ b.bound = sym (ap (λ n. record { 0 = n }) (eqb-true b.bound.0 id.0 t)) in
      absurd (apart (subst (λ (to : CellId). Leads bs id to) same (arrived id)))
  | inr f ↦ unbound id (target_of-append_none bs (b ∷ []) id e ∙ target_of_there b [] id f)
]
ends_apart bs b _ (bound id next e rest) apart =
    bound id next (target_of-append bs (b ∷ []) id next e) (ends_apart bs b next rest (λ l. apart (followed id next b.bound e l)))

-- a binding whose target does not lead back to the bound cell keeps all ends
pub ends_bound : (bs : List Binding) (b : Binding) → ((id : CellId) → Ends bs id) → (Leads bs b.target b.bound → ⊥) → (id : CellId) → Ends bs id
    → Ends (bs ++ b ∷ []) id
ends_bound bs b all apart _ (unbound id e) = elim (cases_Bool (b.bound.0 == id.0)) [
  | inl t ↦
      bound id b.target (target_of-append_none bs (b ∷ []) id e ∙ target_of_here b [] id (eqb-true b.bound.0 id.0 t))
      (ends_apart bs b b.target (all b.target) apart)
  | inr f ↦ unbound id (target_of-append_none bs (b ∷ []) id e ∙ target_of_there b [] id f)
]
ends_bound bs b all apart _ (bound id next e rest) =
    bound id next (target_of-append bs (b ∷ []) id next e) (ends_bound bs b all apart next rest)

-- bindings lead one step on from where they lead to
pub leads_on : (bs : List Binding) (from to next : CellId) → target_of bs to ≡ Some next → Leads bs from to → Leads bs from next
leads_on bs from _ next e (arrived _) = followed from next next e (arrived next)
leads_on bs from to next e (followed _ step _ s rest) = followed from step next s (leads_on bs step to next e rest)

-- bindings that come to an end do not lead round
pub ends_round : (bs : List Binding) (id next : CellId) → Ends bs id → target_of bs id ≡ Some next → Leads bs next id → ⊥
ends_round bs _ next (unbound id e) t l = let x : Some next ≡ None = sym t ∙ e in cc
ends_round bs _ next (bound id to e rest) t l =
    let x : Some to ≡ Some next = sym e ∙ t in
    let same : to ≡ next = cc in
    goes_on id next e t l (subst (λ (k : CellId). Leads bs k id) (sym same) l) (λ k s m. ends_round bs to k rest s m) where
      goes_on : (id next : CellId) → target_of bs id ≡ Some to → target_of bs id ≡ Some next → Leads bs next id → Leads bs to id
          → ((k : CellId) → target_of bs to ≡ Some k → Leads bs k to → ⊥) → ⊥
      goes_on id next e t l (arrived _) h = h to e (arrived to)
      goes_on id next e t l (followed _ k _ s m) h = h k s (leads_on bs k id to e m)
