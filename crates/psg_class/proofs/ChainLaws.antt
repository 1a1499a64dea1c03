-- The chains of links by the rows that they begin in.
use Rattle.std.proofs.Common.{◌≡◌, ◌≢◌, ℕ, zero, suc, ◌+◌, ◌<◌, ◌≤◌, ◌==◌, Bool, true, false, cond, List, [], ◌∷◌, ◌++◌, length, get_or, set, replicate, refl, sym, ◌∙◌, ap, subst, arith, add-one, true≢false, eqb-true, eq-eqb}
use Rattle.std.proofs.Math.Seq.{get_or-append_seam}
use Rattle.std.proofs.lemmas.List.{get_or_append_left, get_or-replicate, length-set, get_or-set_same, get_or-set_other}
use Rattle.psg_class.specs.Grids.{LeadTo, begins_in, places_from}
use Rattle.psg_class.specs.declared.grid.Link.{Link}

-- each row has a way to its links below a bound
abbrev pub AllLead : List Link → ℕ → ℕ → List ℕ → List ℕ → Type 0
AllLead links stop bound first next =
    (row : ℕ) → row < length first → LeadTo next stop (get_or first row 0) (places_from links row bound)

-- before the first link each row leads to the stop
pub none_lead : (links : List Link) (stop height : ℕ) (first next : List ℕ) → first ≡ replicate height stop → next ≡ []
    → length first ≡ height → AllLead links stop 0 first next
none_lead links stop height first next is none size row lt =
    subst (λ f. get_or f row 0 ≡ stop) (sym is) (get_or-replicate height row stop 0 (subst (λ k. row < k) size lt))

-- a number is put after those that a way goes by
still_lead : (links : List Link) (row n stop y : ℕ) (next : List ℕ) → n ≤ length next → (place : ℕ)
    → LeadTo next stop place (places_from links row n) → LeadTo (next ++ y ∷ []) stop place (places_from links row n)
still_lead links row zero stop y next small place way = way
still_lead links row (suc n) stop y next small place way =
    by (begins_in links n == row) (λ p w. still_lead links row n stop y next (omega (arith, small)) p w) way where
      by : (b : Bool) → ((p : ℕ) → LeadTo next stop p (places_from links row n) → LeadTo (next ++ y ∷ []) stop p (places_from links row n))
          → LeadTo next stop place (cond b (n ∷ places_from links row n) (places_from links row n))
          → LeadTo (next ++ y ∷ []) stop place (cond b (n ∷ places_from links row n) (places_from links row n))
      by true more (here, rest) = (
        here,
        subst (λ z. LeadTo (next ++ y ∷ []) stop z (places_from links row n)) (sym (get_or_append_left next (y ∷ []) 0 n (omega (arith, small))))
            (more (get_or next n 0) rest),
      )
      by false more rest = more place rest

-- one more link is put in front of those of its row
more_lead : (links : List Link) (stop n : ℕ) (first next : List ℕ) → length next ≡ n → begins_in links n < length first
    → AllLead links stop n first next → (row : ℕ) → row < length first
    → LeadTo (next ++ get_or first (begins_in links n) 0 ∷ []) stop (get_or (set first (begins_in links n) n) row 0) (places_from links row (suc n))
more_lead links stop n first next len inside ways row lt = by (begins_in links n == row) refl where
  from : ℕ
  from = begins_in links n

  rest : List ℕ
  rest = places_from links row n

  y : ℕ
  y = get_or first from 0

  by : (b : Bool) → (from == row) ≡ b → LeadTo (next ++ y ∷ []) stop (get_or (set first from n) row 0) (cond b (n ∷ rest) rest)
  by true e =
      let same : from ≡ row = eqb-true from row e in
      let last : get_or (next ++ y ∷ []) n 0 ≡ y = ap (λ k. get_or (next ++ y ∷ []) k 0) (sym len) ∙ get_or-append_seam next y [] 0 in
      let old : LeadTo next stop y rest = subst (λ r. LeadTo next stop (get_or first r 0) rest) (sym same) (ways row lt) in (
        subst (λ r. get_or (set first from n) r 0 ≡ n) same (get_or-set_same first from n 0 inside),
        subst (λ z. LeadTo (next ++ y ∷ []) stop z rest) (sym last) (still_lead links row n stop y next (omega (arith, len)) y old),
      )
  by false e =
      let other : row ≢ from = λ f. true≢false (sym (eq-eqb from row (sym f)) ∙ e) in
      subst (λ z. LeadTo (next ++ y ∷ []) stop z rest) (sym (get_or-set_other first from row n 0 other))
      (still_lead links row n stop y next (omega (arith, len)) (get_or first row 0) (ways row lt))

-- the same after a round of the loop
pub chain_round : (links : List Link) (stop n : ℕ) (first next first' next' : List ℕ) (link : Link) (entry : ℕ)
    → n < length links → link ≡ get_or links n (record { to = 0; from = 0 }) → length next ≡ n → link.from < length first
    → entry ≡ get_or first link.from 0 → first' ≡ set first link.from n → next' ≡ next ++ entry ∷ []
    → AllLead links stop n first next → AllLead links stop (n + 1) first' next'
chain_round links stop n first next first' next' link entry lt at len inside at' is is' ways row lt' =
    subst (λ k. LeadTo next' stop (get_or first' row 0) (places_from links row k)) (sym (add-one n))
    (subst (λ f. LeadTo next' stop (get_or f row 0) (places_from links row (suc n))) (sym (is ∙ ap (λ r. set first r n) from))
    (subst (λ m. LeadTo m stop (get_or (set first (begins_in links n) n) row 0) (places_from links row (suc n))) (sym (is' ∙ ap (λ y. next ++ y ∷ []) put))
    (more_lead links stop n first next len (subst (λ r. r < length first) from inside) ways row (subst (λ k. row < k) size lt')))) where
      from : link.from ≡ begins_in links n
      from = ap (λ (l : Link). l.from) at

      put : entry ≡ get_or first (begins_in links n) 0
      put = at' ∙ ap (λ r. get_or first r 0) from

      size : length first' ≡ length first
      size = ap (λ (l : List ℕ). length l) is ∙ length-set first link.from n
