-- Which part in front of a stop is tried first, and where reading goes on.
use Rattle.std.proofs.Common.{◌≡◌, ◌↔◌, ◌⊎◌, inl, inr, ℕ, zero, suc, ◌+◌, ◌<◌, ◌≤◌, List, [], ◌∷◌, ◌++◌, length, take, drop, get_or, Option, Some, None, slice_get, refl, ap, ap₂, sym, ◌∙◌, subst, append_assoc, append-nil, arith}
use Rattle.std.specs.List.{AllByRecursion}
use Rattle.std.proofs.lemmas.Bool.{cases_lt}
use Rattle.std.proofs.lemmas.List.{take_all}
use Rattle.psg_terms.specs.Relations.{IsIn, first, later}
use Rattle.psg_terms.proofs.Lists.{drop_item, in_left, in_right, take_item}
use Rattle.psg_grammar.specs.declared.types.Kind.{Kind}
use Rattle.psg_grammar.specs.declared.types.Kind.TheVariants as kinds
use Rattle.psg_grammar.specs.declared.types.Phylum.{Phylum}
use Rattle.psg_grammar.specs.declared.types.Definition.{Definition}
use Rattle.psg_class.specs.Terminals.{Token, placeholder}
use Rattle.psg_class.specs.Yields.{Yields}
use Rattle.psg_parse.specs.Stops.{Begins, IsStop, MayEnd}
use Rattle.psg_recover.specs.declared.candidates.Candidate.{Candidate}
use Rattle.psg_recover.specs.Candidates.{AreCandidates, AreCandidatesTo, AreInTurn, GoesOnWith, IsCandidate, IsFirst, IsTriedBefore}
use Rattle.psg_recover.specs.Grammars.{quiet}
use Rattle.psg_recover.specs.Recovery.{ComesFirst, GoesOnAt, HasNone, IsBest, IsResumption}

-- ---- lists

each_in : {X : Type 0} (P : X → Type 0) (xs : List X) (x : X) → AllByRecursion P xs → IsIn x xs → P x
each_in P (y ∷ xs) x (p, h) first = p
each_in P (y ∷ xs) x (p, h) (later i) = each_in P xs x h i
each_in P [] x h i = elim i [ ]

each_push : {X : Type 0} (P : X → Type 0) (xs : List X) (x : X) → AllByRecursion P xs → P x → AllByRecursion P (xs ++ x ∷ [])
each_push P [] x h p = (p, tt)
each_push P (y ∷ xs) x (q, h) p = (q, each_push P xs x h p)

each_kept : {X : Type 0} (P R : X → Type 0) → ((x : X) → P x → R x) → (xs : List X) → AllByRecursion P xs → AllByRecursion R xs
each_kept P R keeps [] h = tt
each_kept P R keeps (x ∷ xs) (p, h) = (keeps x p, each_kept P R keeps xs h)

in_or : {X : Type 0} (x : X) (xs ys : List X) → IsIn x (xs ++ ys) → IsIn x xs ⊎ IsIn x ys
in_or x [] ys i = inr i
in_or x (y ∷ xs) ys first = inl first
in_or x (y ∷ xs) ys (later i) = elim (in_or x xs ys i) [ inl a ↦ inl (later a) | inr b ↦ inr b ]

take_drop : {X : Type 0} (n : ℕ) (xs : List X) → take n xs ++ drop n xs ≡ xs
take_drop zero xs = refl
take_drop (suc n) [] = refl
take_drop (suc n) (x ∷ xs) = ap (λ l. x ∷ l) (take_drop n xs)

token_at : (ts : List Token) (k : ℕ) → k < length ts → (t : Token) × (slice_get ts k ≡ Some t) × (rest : List Token) × (ts ≡ (take k ts ++ t ∷ []) ++ rest)
token_at [] k lt = absurd (omega (arith, lt))
token_at (t ∷ ts) zero lt = (t, refl, ts, refl)
token_at (t ∷ ts) (suc k) lt = let (u, at, rest, e) = token_at ts k (omega (arith, lt)) in (u, at, rest, ap (λ l. t ∷ l) e)

-- ---- the first member

module _ {X : Type 0} (P : X → Type 0) (xs : List X) where
  pub none_in : (i : ℕ) (x : X) → i < length xs → x ≡ get_or xs i x → ((y : X) → IsIn y (take i xs) → P y → ⊥) → (P x → ⊥) → (y : X) → IsIn y (take (i + 1) xs) → P y → ⊥
  none_in i x lt at none never y among holds = by (in_or y (take i xs) (x ∷ []) (subst (IsIn y) (take_item xs i x lt at) among))
    where
      same : (z : X) → IsIn y (z ∷ []) → z ≡ x → ⊥
      same y first e = never (subst P e holds)
      same z (later i) e = elim i [ ]

      by : IsIn y (take i xs) ⊎ IsIn y (x ∷ []) → ⊥
      by (inl a) = none y a holds
      by (inr b) = same x b refl

  pub first_at : (i : ℕ) (x : X) → i < length xs → x ≡ get_or xs i x → P x → ((y : X) → IsIn y (take i xs) → P y → ⊥) → IsFirst P xs x
  first_at i x lt at holds none = record {
    front = take i xs;
    behind = drop (i + 1) xs;
    split = sym (take_drop i xs) ∙ ap (λ (l : List X). take i xs ++ l) (drop_item xs i x lt at);
    holds = holds;
    none = none;
  }

  pub none_of_all : (i : ℕ) → length xs ≤ i → ((y : X) → IsIn y (take i xs) → P y → ⊥) → (y : X) → IsIn y xs → P y → ⊥
  none_of_all i le none y among = none y (subst (IsIn y) (sym (take_all i xs le)) among)

-- ---- how far tokens begin a tree

module _ (def : Definition) (kind : Kind) where
  pub begins_front : (xs ys : List Token) → Begins def kind 0 (xs ++ ys) → Begins def kind 0 xs
  begins_front xs ys b = record { more = ys ++ b.more; tree = b.tree; nesting = b.nesting; yields = subst (Yields def b.tree kind 0 b.nesting) (append_assoc xs ys b.more) b.yields }

  pub may_begin : (xs : List Token) → MayEnd def kind 0 xs → Begins def kind 0 xs
  may_begin xs (tree, nesting, yields) = record { more = []; tree = tree; nesting = nesting; yields = subst (Yields def tree kind 0 nesting) (sym (append-nil xs)) yields }

  pub begins_iff : (ts : List Token) (k : ℕ) → IsStop def kind 0 ts k → (k ≡ length ts) ↔ Begins def kind 0 ts
  begins_iff ts k s = (
    (λ e. subst (Begins def kind 0) (take_all k ts (omega (arith, e))) s.front),
    (λ b. elim (cases_lt k (length ts)) [
      | inl lt ↦ (let (t, at, rest, e) = token_at ts k lt in absurd (s.stops t t at refl (begins_front (take k ts ++ t ∷ []) rest (subst (Begins def kind 0) e b))))
      | inr le ↦ (let i = s.inside in omega (arith, i, le))
    ]),
  )

-- the candidate of this place and phylum
abbrev of : ℕ → ℕ → Candidate
of i p = record { from = i; phylum = p }

same : (x y : Candidate) → x.from ≡ y.from → x.phylum ≡ y.phylum → x ≡ y
same x y e d = ap₂ of e d

module _ (def : Definition) (kind : Kind) (ts : List Token) (k : ℕ) where
  abbrev Fits : Candidate → Type 0
  Fits c = IsCandidate def kind ts k c

  -- ---- the candidates in turn

  turn_push : (cs : List Candidate) (c : Candidate) → AreInTurn def kind cs → AllByRecursion (λ (d : Candidate). IsTriedBefore def kind c.from c.phylum d) cs → AreInTurn def kind (cs ++ c ∷ [])
  turn_push [] c h b = (tt, tt)
  turn_push (d ∷ cs) c (one, h) (p, b) = (each_push (λ (e : Candidate). IsTriedBefore def kind e.from e.phylum d) cs c one p, turn_push cs c h b)

  pub candidates_none : AreCandidatesTo def kind ts k k 0 []
  candidates_none = record { each = tt; before = tt; all = λ c fits before. by c fits before; in_turn = tt }
    where
      by : (c : Candidate) → Fits c → IsTriedBefore def kind k 0 c → IsIn c []
      by c fits (inl lt) = absurd (let b = fits.back in omega (arith, lt, b))
      by c fits (inr (e, lt)) = absurd (omega (arith, lt))

  -- one phylum more, which is tried or not
  module _ (from p : ℕ) (found : List Candidate) (h : AreCandidatesTo def kind ts k from p found) where
    before_next : (c : Candidate) → IsTriedBefore def kind from p c → IsTriedBefore def kind from (p + 1) c
    before_next c (inl lt) = inl lt
    before_next c (inr (e, lt)) = inr (e, omega (arith, lt))

    or_this : (c : Candidate) → IsTriedBefore def kind from (p + 1) c → IsTriedBefore def kind from p c ⊎ ((c.from ≡ from) × (c.phylum ≡ p))
    or_this c (inl lt) = inl (inl lt)
    or_this c (inr (e, lt)) = elim (cases_lt c.phylum p) [ inl less ↦ inl (inr (e, less)) | inr le ↦ inr (sym e, omega (arith, lt, le)) ]

    pub candidates_less : (c : Candidate) → c.from ≡ from → c.phylum ≡ p → (Fits c → ⊥) → AreCandidatesTo def kind ts k from (p + 1) found
    candidates_less c e d never = record {
      each = h.each;
      before = each_kept (IsTriedBefore def kind from p) (IsTriedBefore def kind from (p + 1)) before_next found h.before;
      all = λ x fits before. elim (or_this x before) [
        | inl a ↦ h.all x fits a
        | inr b ↦ absurd (never (subst Fits (same x c (b.0 ∙ sym e) (b.1 ∙ sym d)) fits))
      ];
      in_turn = h.in_turn;
    }

    pub candidates_more : (c : Candidate) (new : List Candidate) → new ≡ found ++ c ∷ [] → c.from ≡ from → c.phylum ≡ p → Fits c → AreCandidatesTo def kind ts k from (p + 1) new
    candidates_more c new is e d fits = subst (AreCandidatesTo def kind ts k from (p + 1)) (sym is) (record {
      each = each_push Fits found c h.each fits;
      before = each_push (IsTriedBefore def kind from (p + 1)) found c (each_kept (IsTriedBefore def kind from p) (IsTriedBefore def kind from (p + 1)) before_next found h.before) (inr (sym e, omega (arith, d)));
      all = λ x own before. elim (or_this x before) [
        | inl a ↦ in_left x found (c ∷ []) (h.all x own a)
        | inr b ↦ in_right x found (c ∷ []) (subst (λ (z : Candidate). IsIn x (z ∷ [])) (same x c (b.0 ∙ sym e) (b.1 ∙ sym d)) first)
      ];
      in_turn = turn_push found c h.in_turn (subst (λ (q : ℕ). AllByRecursion (λ (z : Candidate). IsTriedBefore def kind c.from q z) found) (sym d) (subst (λ (q : ℕ). AllByRecursion (λ (z : Candidate). IsTriedBefore def kind q p z) found) (sym e) h.before));
    })

  phylum_within : {X : Type 0} (xs : List X) (i : ℕ) (x : X) → slice_get xs i ≡ Some x → i < length xs
  phylum_within [] i x e = absurd (cc)
  phylum_within (y ∷ xs) zero x e = omega arith
  phylum_within (y ∷ xs) (suc i) x e = let lt = phylum_within xs i x e in omega (arith, lt)

  -- those that begin one token earlier are next
  pub candidates_earlier : (from : ℕ) (found : List Candidate) → AreCandidatesTo def kind ts k (from + 1) (length def.phyla) found → AreCandidatesTo def kind ts k from 0 found
  candidates_earlier from found h = record {
    each = h.each;
    before = each_kept (IsTriedBefore def kind (from + 1) (length def.phyla)) (IsTriedBefore def kind from 0) down found h.before;
    all = λ c fits before. h.all c fits (up c fits before);
    in_turn = h.in_turn;
  }
    where
      down : (c : Candidate) → IsTriedBefore def kind (from + 1) (length def.phyla) c → IsTriedBefore def kind from 0 c
      down c (inl lt) = inl (omega (arith, lt))
      down c (inr (e, lt)) = inl (omega (arith, e))

      up : (c : Candidate) → Fits c → IsTriedBefore def kind from 0 c → IsTriedBefore def kind (from + 1) (length def.phyla) c
      up c fits (inr (e, lt)) = absurd (omega (arith, lt))
      up c fits (inl lt) = elim (cases_lt (from + 1) c.from) [
        | inl more ↦ inl more
        | inr le ↦ inr (omega (arith, lt, le), phylum_within def.phyla c.phylum fits.phylum fits.there)
      ]

  pub candidates_all : (found : List Candidate) → AreCandidatesTo def kind ts k 0 (length def.phyla) found → AreCandidates def kind ts k found
  candidates_all found h = record { each = h.each; all = λ c fits. h.all c fits (any c fits); in_turn = h.in_turn }
    where
      any : (c : Candidate) → Fits c → IsTriedBefore def kind 0 (length def.phyla) c
      any c fits = elim (cases_lt 0 c.from) [
        | inl lt ↦ inl lt
        | inr le ↦ inr (omega (arith, le), phylum_within def.phyla c.phylum fits.phylum fits.there)
      ]

  -- ---- where reading goes on

  pub follows_from : (row : List Token) (o : Option Token) → GoesOnAt def kind row o → Begins (quiet def) kind 0 row
  follows_from row None h = may_begin (quiet def) kind row h
  follows_from row (Some t) h = begins_front (quiet def) kind row (t ∷ []) h

  pub candidate_of : (j i p : ℕ) (phylum : Phylum) → IsResumption def kind ts k j i p phylum → Fits (of i p) × GoesOnWith def kind ts j (of i p)
  candidate_of j i p phylum r = (
    record { phylum = phylum; there = r.there; stands = r.stands; back = r.back; part = r.part; follows = follows_from (take i ts ++ placeholder phylum.name ∷ []) (slice_get ts j) r.goes_on },
    record { phylum = phylum; there = r.there; goes_on = r.goes_on },
  )

  phylum_one : (a b : Phylum) (o : Option Phylum) → o ≡ Some a → o ≡ Some b → a ≡ b
  phylum_one a b o e d = let g : Some a ≡ Some b = sym e ∙ d in cc

  pub resumption_of : (j : ℕ) (c : Candidate) → k ≤ j → j ≤ length ts → Fits c → (goes : GoesOnWith def kind ts j c) → IsResumption def kind ts k j c.from c.phylum goes.phylum
  resumption_of j c behind inside fits goes = record { there = goes.there; stands = fits.stands; behind = behind; inside = inside; back = fits.back; part = fits.part; goes_on = goes.goes_on }

  -- a candidate that is there comes first only where it is in front
  turn_of : (front behind : List Candidate) (c d : Candidate) → AreInTurn def kind (front ++ c ∷ behind) → IsIn d (front ++ c ∷ behind) → IsTriedBefore def kind c.from c.phylum d → IsIn d front
  turn_of [] behind c d (one, h) first before = absurd (self c before)
    where
      self : (x : Candidate) → IsTriedBefore def kind x.from x.phylum x → ⊥
      self x (inl lt) = omega (arith, lt)
      self x (inr (e, lt)) = omega (arith, lt)
  turn_of [] behind c d (one, h) (later i) before = absurd (both (each_in (λ (e : Candidate). IsTriedBefore def kind e.from e.phylum c) behind d one i) before)
    where
      both : IsTriedBefore def kind d.from d.phylum c → IsTriedBefore def kind c.from c.phylum d → ⊥
      both (inl a) (inl b) = omega (arith, a, b)
      both (inl a) (inr (e, b)) = omega (arith, a, e)
      both (inr (e, a)) (inl b) = omega (arith, e, b)
      both (inr (e, a)) (inr (g, b)) = omega (arith, a, b)
  turn_of (x ∷ front) behind c d (one, h) first before = first
  turn_of (x ∷ front) behind c d (one, h) (later i) before = later (turn_of front behind c d h i before)

  -- with none of them reading goes on at the tokens before this one
  abbrev pub IsNoneUpTo : List Candidate → ℕ → Type 0
  IsNoneUpTo found n = (j : ℕ) → k ≤ j → j < n → (c : Candidate) → IsIn c found → GoesOnWith def kind ts j c → ⊥

  pub none_before : (found : List Candidate) → IsNoneUpTo found k
  none_before found j le lt c among goes = omega (arith, le, lt)

  module _ (found : List Candidate) (h : AreCandidates def kind ts k found) where
    pub none_up_to : (n : ℕ) → IsNoneUpTo found n → ((c : Candidate) → IsIn c found → GoesOnWith def kind ts n c → ⊥) → IsNoneUpTo found (n + 1)
    none_up_to n before here j le lt c among goes = elim (cases_lt j n) [
      | inl less ↦ before j le less c among goes
      | inr more ↦ here c among (subst (λ (m : ℕ). GoesOnWith def kind ts m c) (let e : j ≡ n = omega (arith, lt, more) in e) goes)
    ]

    pub has_none : (n : ℕ) → length ts < n → IsNoneUpTo found n → HasNone def kind ts k
    has_none n lt none j i p phylum r =
        let (fits, goes) = candidate_of j i p phylum r in
        let inside = r.inside in
        none j r.behind (omega (arith, inside, lt)) (of i p) (h.all (of i p) fits) goes

    pub is_best : (j : ℕ) (c : Candidate) → k ≤ j → j ≤ length ts → IsNoneUpTo found j → (it : IsFirst (GoesOnWith def kind ts j) found c) → IsBest def kind ts k j c.from c.phylum it.holds.phylum
    is_best j c behind inside none it = record {
      resumes = resumption_of j c behind inside (each_in Fits found c h.each (subst (IsIn c) (sym it.split) (in_right c it.front (c ∷ it.behind) first))) it.holds;
      first = by;
    }
      where
        earlier : (i p : ℕ) → Fits (of i p) → GoesOnWith def kind ts j (of i p) → IsTriedBefore def kind c.from c.phylum (of i p) → ⊥
        earlier i p fits goes before =
            it.none (of i p) (turn_of it.front it.behind c (of i p) (subst (AreInTurn def kind) it.split h.in_turn) (subst (IsIn (of i p)) it.split (h.all (of i p) fits)) before) goes

        by : (j' i' p' : ℕ) (other : Phylum) → IsResumption def kind ts k j' i' p' other → ComesFirst def kind j' i' p' j c.from c.phylum → ⊥
        by j' i' p' other r (inl lt) = let (fits, goes) = candidate_of j' i' p' other r in none j' r.behind lt (of i' p') (h.all (of i' p') fits) goes
        by j' i' p' other r (inr (e, inl lt)) =
            let (fits, goes) = candidate_of j' i' p' other r in
            earlier i' p' fits (subst (λ (m : ℕ). GoesOnWith def kind ts m (of i' p')) e goes) (inl lt)
        by j' i' p' other r (inr (e, inr (d, lt))) =
            let (fits, goes) = candidate_of j' i' p' other r in
            earlier i' p' fits (subst (λ (m : ℕ). GoesOnWith def kind ts m (of i' p')) e goes) (inr (sym d, lt))
