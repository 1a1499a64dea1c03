-- A well-formed tree is walked along its plan.
use Rattle.std.proofs.Common.{◌≡◌, ◌↔◌, inl, inr, ℕ, List, [], ◌∷◌, refl, subst}
use Rattle.psg_grammar.specs.declared.types.Kind.{Kind}
use Rattle.psg_grammar.specs.declared.types.Kind.TheVariants as kinds
use Rattle.psg_grammar.specs.declared.types.Item.{Item}
use Rattle.psg_grammar.specs.declared.types.Item.TheVariants as items
use Rattle.psg_grammar.specs.declared.types.Definition.{Definition}
use Rattle.psg_grammar.specs.Fragments.{Fragment, hole, ending, cell, operator, with_child, with_name, with_number, with_text, anything, observed}
use Rattle.psg_grammar.specs.WellFormed.{Fits, IsPlain, IsUnobserved}
use Rattle.psg_cache.proofs.Each.{not_nil}
use Rattle.psg_explain.specs.declared.refutation.Claim.{Claim}
use Rattle.psg_explain.specs.Plans.{Flow, Flows, halted, planned, rows_claimed, through}
use Rattle.psg_explain.specs.Refutations.{ClaimTo, IsClaim}
use Rattle.psg_explain.specs.Walks.{At, Walk, ended}
use Rattle.psg_explain.proofs.PlanLaws.{IsFront, IsRest, IsWalked, walk_of}
use Rattle.psg_explain.proofs.PlanWalks.{walks_from, walks_to}

module _ (def : Definition) where
  no_list : (f : Fragment) (i : Item) (more : List Item) (l : ℕ) → Fits def f (i ∷ more) (kinds.List l) → ⊥
  no_list (hole p) i more l h = not_nil i more h.0
  no_list (ending m u) i more l h = not_nil i more h.0
  no_list (cell m e r) i more l h = not_nil i more h.0
  no_list (operator o) i more l (op, found, e, k) = absurd (cc)
  no_list (with_child f t) i more l (k, hf, ht) = no_list f (items.Slot k) (i ∷ more) l hf
  no_list (with_name f n) i more l (inl (s, h), name) = no_list f (items.Refers s) (i ∷ more) l h
  no_list (with_name f n) i more l (inr (s, h), name) = no_list f (items.Declares s) (i ∷ more) l h
  no_list (with_number f n) i more l (h, small) = no_list f items.Number (i ∷ more) l h
  no_list (with_text f t) i more l (h, text) = no_list f items.Text (i ∷ more) l h
  no_list anything i more l h = h
  no_list (observed f) i more l h = not_nil i more h.0

  mutual
    pub walked_of : (f : Fragment) (kind : Kind) → Fits def f [] kind → IsPlain f → IsWalked f
    walked_of (hole p) kind h p' = tt
    walked_of (ending l u) kind h p = tt
    walked_of (cell l e r) kind (a, b, k, at, he, hr, un) (pe, pr) = (walked_of e (kinds.Phylum k.element) he pe, rest_of r l hr pr un)
    walked_of (operator o) kind h p = tt
    walked_of (with_child f t) kind (k, hf, ht) (pf, pt) = (front_of f (items.Slot k) [] kind hf pf, walked_of t k ht pt)
    walked_of (with_name f n) kind (inl (s, h), name) p = front_of f (items.Refers s) [] kind h p
    walked_of (with_name f n) kind (inr (s, h), name) p = front_of f (items.Declares s) [] kind h p
    walked_of (with_number f n) kind (h, small) p = front_of f items.Number [] kind h p
    walked_of (with_text f t) kind (h, text) p = front_of f items.Text [] kind h p
    walked_of anything kind h p = h
    walked_of (observed f) kind h p = p

    front_of : (f : Fragment) (i : Item) (more : List Item) (kind : Kind) → Fits def f (i ∷ more) kind → IsPlain f → IsFront f
    front_of (operator o) i more kind h p = tt
    front_of (with_child f t) i more kind (k, hf, ht) (pf, pt) = (front_of f (items.Slot k) (i ∷ more) kind hf pf, walked_of t k ht pt)
    front_of (with_name f n) i more kind (inl (s, h), name) p = front_of f (items.Refers s) (i ∷ more) kind h p
    front_of (with_name f n) i more kind (inr (s, h), name) p = front_of f (items.Declares s) (i ∷ more) kind h p
    front_of (with_number f n) i more kind (h, small) p = front_of f items.Number (i ∷ more) kind h p
    front_of (with_text f t) i more kind (h, text) p = front_of f items.Text (i ∷ more) kind h p
    front_of (hole q) i more kind h p = not_nil i more h.0
    front_of (ending l u) i more kind h p = not_nil i more h.0
    front_of (cell l e r) i more kind h p = not_nil i more h.0
    front_of anything i more kind h p = h
    front_of (observed f) i more kind h p = p

    rest_of : (f : Fragment) (l : ℕ) → Fits def f [] (kinds.List l) → IsPlain f → IsUnobserved f → IsRest f
    rest_of (ending m u) l h p n = tt
    rest_of (cell m e r) l (a, b, k, at, he, hr, un) (pe, pr) n = (walked_of e (kinds.Phylum k.element) he pe, rest_of r m hr pr un)
    rest_of (hole q) l h p n = absurd (other q l h.1)
      where
        other : (q l : ℕ) → ◌≡◌ {A = Kind} (kinds.List l) (kinds.Phylum q) → ⊥
        other q l e = absurd (cc)
    rest_of (operator o) l (op, found, e, k) p n = absurd (cc)
    rest_of (with_child f t) l (k, hf, ht) p n = absurd (no_list f (items.Slot k) [] l hf)
    rest_of (with_name f m) l (inl (s, h), name) p n = absurd (no_list f (items.Refers s) [] l h)
    rest_of (with_name f m) l (inr (s, h), name) p n = absurd (no_list f (items.Declares s) [] l h)
    rest_of (with_number f m) l (h, small) p n = absurd (no_list f items.Number [] l h)
    rest_of (with_text f m) l (h, text) p n = absurd (no_list f items.Text [] l h)
    rest_of anything l h p n = h
    rest_of (observed f) l h p n = p

  -- claims that end at a step without rows are those of the plan's steps
  pub claims_planned : (path : List ℕ) (f : Fragment) (claims : List Claim) (last : At) → IsWalked f
      → ClaimTo def path f claims last ↔ Flows def rows_claimed (IsClaim def) [] (planned def 0 path f) claims (halted last)
  claims_planned path f claims last walked = (there, back)
    where
      back : Flows def rows_claimed (IsClaim def) [] (planned def 0 path f) claims (halted last) → ClaimTo def path f claims last
      back h = walks_from def rows_claimed (IsClaim def) f path 0 [] claims (halted last) walked refl h

      on : (q : Flow Claim) → Flows def rows_claimed (IsClaim def) [] (planned def 0 path f) claims q → ◌≡◌ {A = Walk Claim} (ended last) (walk_of q)
          → Flows def rows_claimed (IsClaim def) [] (planned def 0 path f) claims (halted last)
      on (through now left) h e = absurd (cc)
      on (halted other) h e =
          let same : other ≡ last = cc in
          subst (λ (a : At). Flows def rows_claimed (IsClaim def) [] (planned def 0 path f) claims (halted a)) same h

      there : ClaimTo def path f claims last → Flows def rows_claimed (IsClaim def) [] (planned def 0 path f) claims (halted last)
      there h = let (q, fl, e) = walks_to def rows_claimed (IsClaim def) f path 0 [] claims (ended last) walked refl h in on q fl e
