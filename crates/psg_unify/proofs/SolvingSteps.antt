-- Steps of a solver of equations over cells.
use Rattle.std.proofs.Common.{◌≡◌, ◌≢◌, ◌⊎◌, inl, inr, ℕ, zero, suc, ◌<◌, ◌≤◌, ◌+◌, Option, Some, None, IfNone, List, [], ◌∷◌, ◌++◌, reverse, map, length, drop, slice_get, All, refl, ap, ap₂, sym, ◌∙◌, subst, arith, append-nil, append_assoc}
use Rattle.std.proofs.lemmas.List.{reverse-append}
use Rattle.std.proofs.lemmas.Option.{none-some}
use Rattle.std.proofs.lemmas.List.Elements.{All-weaker, All-cons, All-head, All-tail, All-append, All-push}
use Rattle.psg_terms.specs.Sizes.{size}
use Rattle.psg_terms.specs.Signature.{Signature, Symbol}
use Rattle.psg_terms.specs.Relations.{first, later}
use Rattle.psg_pool.specs.declared.cells.CellId.{CellId}
use Rattle.psg_pool.specs.declared.cells.Binding.{Binding}
use Rattle.psg_pool.specs.Cells.{Put, constructor, IsAmong, arguments_in, arguments_of}
use Rattle.psg_pool.specs.Bindings.{Kept, target_of, IsSound, Holds}
use Rattle.psg_pool.specs.declared.cells.Cell.TheVariants.{Bound, Con}
use Rattle.psg_unify.specs.declared.classes.Classes.{Classes}
use Rattle.psg_unify.specs.Reading.{Reading}
use Rattle.psg_unify.specs.Fitting.{IsPutOf, IsOfOneSort, sort_at}
use Rattle.psg_unify.specs.Valuations.{IsValuation, Solves, Equation, Equals, HoldsBelow, EqualsBelow, AreLinked, itself, onward, back, Follows, stays, over_binding, over_link, IsState}
use Rattle.psg_unify.specs.Joined.{IsNext, IsStep, AreThere, AreThereBoth, AreSortedAlike, IsFrom, IsSolving}
use Rattle.psg_unify.specs.Meeting.{pairs_of, IsMoreBound, StaysSolving, HasNoValuation, CanSolve, IsNextApart}
use Rattle.psg_unify.specs.Climbing.{IsEnd, IsGoing}
use Rattle.psg_unify.proofs.Climbs.{going_ends}
use Rattle.psg_unify.proofs.Laws.{over_at, with_bindings}
use Rattle.psg_unify.proofs.SortsRead.{all_at, sort_of_target}
use Rattle.psg_unify.proofs.Closing.{in_all, linked_below, linked_equal, state_linked, state_apart, state_bound, state_clash}

-- one way after another
pub follows_both : (bs : List Binding) (apart : List Equation) (a b c : CellId) → Follows bs apart a b → Follows bs apart b c → Follows bs apart a c
follows_both bs apart a _ c (stays _) k = k
follows_both bs apart a b c (over_binding _ x _ e rest) k = over_binding a x c e (follows_both bs apart x b c rest k)
follows_both bs apart a b c (over_link _ x _ l rest) k = over_link a x c l (follows_both bs apart x b c rest k)

-- one step more
pub follows_step : (kept : Kept) (classes : Classes) (apart : List Equation) (a b c : CellId) → ((x to : CellId) → IsNext classes x to → AreLinked apart x to) → IsStep kept classes b c
    → Follows kept.bindings apart a b → Follows kept.bindings apart a c
follows_step kept classes apart a b c linked s h =
    follows_both kept.bindings apart a b c h (elim s [
      | inl t ↦ over_binding b c c t (stays c)
      | inr n ↦ over_link b c c (linked b c n) (stays c)
    ])

-- a step leads to a cell that is there
pub step_there : (kept : Kept) (classes : Classes) (id to : CellId) → IsSound kept → AreThere kept.cells classes → IsStep kept classes id to → IsAmong kept.cells to
step_there kept classes id to sound there s = elim s [
  | inl t ↦ (over_at kept.cells kept.bindings id to sound.over t).1
  | inr n ↦ there id to n
]

module _ (bs : List Binding) (apart : List Equation) (v : Reading) (sol : Solves bs v) where
  pub follow_equal : (a b : CellId) → Follows bs apart a b → Equals v apart → v a ≡ v b
  follow_equal a _ (stays _) h = refl
  follow_equal a b (over_binding _ x _ e rest) h = sol a x e ∙ follow_equal x b rest h
  follow_equal a b (over_link _ x _ l rest) h = linked_equal v apart a x l h ∙ follow_equal x b rest h

  pub follow_below : (n : ℕ) (a b : CellId) → Follows bs apart a b → EqualsBelow n v apart → (size (v a) < n) ⊎ (size (v b) < n) → v a ≡ v b
  follow_below n a _ (stays _) h l = refl
  follow_below n a b (over_binding _ x _ e rest) h l =
      let one : v a ≡ v x = sol a x e in
      let k = ap size one in
      one ∙ follow_below n x b rest h (elim l [ inl m ↦ inl (omega (arith, k, m)) | inr m ↦ inr m ])
  follow_below n a b (over_link _ x _ d rest) h l = elim l [
    | inl m ↦ (let one : v a ≡ v x = linked_below v n apart a x d h (inl m) in let k = ap size one in one ∙ follow_below n x b rest h (inl (omega (arith, k, m))))
    | inr m ↦ (let other : v x ≡ v b = follow_below n x b rest h (inr m) in let k = ap size other in linked_below v n apart a x d h (inr (omega (arith, k, m))) ∙ other)
  ]

-- an equation of the cells at which two ways end, in place of the cells at which they begin
pub state_follows : (cells : List Put) (old : List Binding) (asked : List Equation) (bs : List Binding) (apart left : List Equation) (a b x y : CellId) → Follows bs apart a x → Follows bs apart b y
    → IsState cells old asked bs apart ((a, b) ∷ left) → IsState cells old asked bs apart ((x, y) ∷ left)
state_follows cells old asked bs apart left a b x y fa fb st = record {
  to = λ v val past e.
      let o = st.to v val past e in (
        o.0,
        o.1,
        All-cons (λ (p : Equation). v p.0 ≡ v p.1) (x, y) left
            (sym (follow_equal bs apart v o.0 a x fa o.1) ∙ All-head (λ (p : Equation). v p.0 ≡ v p.1) (a, b) left o.2 ∙ follow_equal bs apart v o.0 b y fb o.1)
            (All-tail (λ (p : Equation). v p.0 ≡ v p.1) (a, b) left o.2),
      );
  back = λ v val sol ha hl. st.back v val sol ha
      (All-cons (λ (p : Equation). v p.0 ≡ v p.1) (a, b) left
      (follow_equal bs apart v sol a x fa ha ∙ All-head (λ (p : Equation). v p.0 ≡ v p.1) (x, y) left hl ∙ sym (follow_equal bs apart v sol b y fb ha))
      (All-tail (λ (p : Equation). v p.0 ≡ v p.1) (x, y) left hl));
  guarded = λ v val sol n ha hl. st.guarded v val sol n ha
      (All-cons (HoldsBelow n v) (a, b) left
      (λ l. elim l [
        | inl m ↦ (
            let e : v a ≡ v x = follow_below bs apart v sol n a x fa ha (inl m) in
            let k = ap size e in
            let both : v x ≡ v y = All-head (HoldsBelow n v) (x, y) left hl (inl (omega (arith, k, m))) in
            let j = ap size both in
            e ∙ both ∙ sym (follow_below bs apart v sol n b y fb ha (inr (omega (arith, k, m, j)))))
        | inr m ↦ (
            let e : v b ≡ v y = follow_below bs apart v sol n b y fb ha (inl m) in
            let k = ap size e in
            let both : v x ≡ v y = All-head (HoldsBelow n v) (x, y) left hl (inr (omega (arith, k, m))) in
            let j = ap size both in
            follow_below bs apart v sol n a x fa ha (inr (omega (arith, k, m, j))) ∙ both ∙ sym e)
      ])
      (All-tail (HoldsBelow n v) (x, y) left hl));
}

-- an equation the other way round
pub state_swap : (cells : List Put) (old : List Binding) (asked : List Equation) (bs : List Binding) (apart left : List Equation) (a b : CellId)
    → IsState cells old asked bs apart ((a, b) ∷ left) → IsState cells old asked bs apart ((b, a) ∷ left)
state_swap cells old asked bs apart left a b st = record {
  to = λ v val past e.
      let o = st.to v val past e in
      (o.0, o.1, All-cons (λ (p : Equation). v p.0 ≡ v p.1) (b, a) left (sym (All-head (λ (p : Equation). v p.0 ≡ v p.1) (a, b) left o.2)) (All-tail (λ (p : Equation). v p.0 ≡ v p.1) (a, b) left o.2));
  back = λ v val sol ha hl. st.back v val sol ha
      (All-cons (λ (p : Equation). v p.0 ≡ v p.1) (a, b) left (sym (All-head (λ (p : Equation). v p.0 ≡ v p.1) (b, a) left hl)) (All-tail (λ (p : Equation). v p.0 ≡ v p.1) (b, a) left hl));
  guarded = λ v val sol n ha hl. st.guarded v val sol n ha
      (All-cons (HoldsBelow n v) (a, b) left
      (λ l. sym (All-head (HoldsBelow n v) (b, a) left hl (elim l [ inl m ↦ inr m | inr m ↦ inl m ])))
      (All-tail (HoldsBelow n v) (b, a) left hl));
}

-- sorts along links and ways
linked_sorts : (sig : Signature) (cells : List Put) (apart : List Equation) (a b : CellId) → All (AreSortedAlike sig cells) apart → AreLinked apart a b → sort_at sig cells a ≡ sort_at sig cells b
linked_sorts sig cells apart a _ h (itself _) = refl
linked_sorts sig cells apart a b h (onward _ x _ i rest) = in_all (AreSortedAlike sig cells) (a, x) apart i h ∙ linked_sorts sig cells apart x b h rest
linked_sorts sig cells apart a b h (back _ x _ i rest) = sym (in_all (AreSortedAlike sig cells) (x, a) apart i h) ∙ linked_sorts sig cells apart x b h rest

follow_sorts : (sig : Signature) (cells : List Put) (bs : List Binding) (apart : List Equation) (a b : CellId) → All (IsOfOneSort sig cells) bs → All (AreSortedAlike sig cells) apart
    → Follows bs apart a b → sort_at sig cells a ≡ sort_at sig cells b
follow_sorts sig cells bs apart a _ k h (stays _) = refl
follow_sorts sig cells bs apart a b k h (over_binding _ x _ e rest) = sort_of_target sig cells bs a x k e ∙ follow_sorts sig cells bs apart x b k h rest
follow_sorts sig cells bs apart a b k h (over_link _ x _ l rest) = linked_sorts sig cells apart a x h l ∙ follow_sorts sig cells bs apart x b k h rest

-- more links
linked_more : (apart : List Equation) (p : Equation) (a b : CellId) → AreLinked apart a b → AreLinked (p ∷ apart) a b
linked_more apart p a _ (itself _) = itself a
linked_more apart p a b (onward _ x _ i rest) = onward a x b (later i) (linked_more apart p x b rest)
linked_more apart p a b (back _ x _ i rest) = back a x b (later i) (linked_more apart p x b rest)

pub linked_here : (apart : List Equation) (a b : CellId) → AreLinked ((a, b) ∷ apart) a b
linked_here apart a b = onward a b b first (itself b)

pub linked_back : (apart : List Equation) (a b : CellId) → AreLinked ((a, b) ∷ apart) b a
linked_back apart a b = back b a a first (itself a)

-- arguments side by side
sides_sorts : (sig : Signature) (cells : List Put) (xs ys : List CellId) → map (sort_at sig cells) xs ≡ map (sort_at sig cells) ys → All (AreSortedAlike sig cells) (pairs_of xs ys)
sides_sorts sig cells [] ys e = λ k d l. absurd (omega (arith, l))
sides_sorts sig cells (x ∷ xs) [] e = λ k d l. absurd (omega (arith, l))
sides_sorts sig cells (x ∷ xs) (y ∷ ys) e =
    let one : sort_at sig cells x ≡ sort_at sig cells y = cc in
    let rest : map (sort_at sig cells) xs ≡ map (sort_at sig cells) ys = cc in
    All-cons (AreSortedAlike sig cells) (x, y) (pairs_of xs ys) one (sides_sorts sig cells xs ys rest)

sides_there : (cells : List Put) (xs ys : List CellId) → All (IsAmong cells) xs → All (IsAmong cells) ys → All (AreThereBoth cells) (pairs_of xs ys)
sides_there cells [] ys h k = λ k d l. absurd (omega (arith, l))
sides_there cells (x ∷ xs) [] h k = λ k d l. absurd (omega (arith, l))
sides_there cells (x ∷ xs) (y ∷ ys) h k =
    All-cons (AreThereBoth cells) (x, y) (pairs_of xs ys) (All-head (IsAmong cells) x xs h, All-head (IsAmong cells) y ys k)
    (sides_there cells xs ys (All-tail (IsAmong cells) x xs h) (All-tail (IsAmong cells) y ys k))

lengths_alike : {X : Type 0} (f : CellId → X) (xs ys : List CellId) → map f xs ≡ map f ys → length xs ≡ length ys
lengths_alike f [] [] e = refl
lengths_alike f [] (y ∷ ys) e = cc
lengths_alike f (x ∷ xs) [] e = cc
lengths_alike f (x ∷ xs) (y ∷ ys) e = let rest : map f xs ≡ map f ys = cc in ap suc (lengths_alike f xs ys rest)

arguments_there : (kept : Kept) (id : CellId) (c : ℕ) (args : List CellId) → IsSound kept → IsAmong kept.cells id → slice_get kept.cells id.0 ≡ Some (constructor c args) → All (IsAmong kept.cells) args
arguments_there kept id c args sound i e =
    All-weaker (λ (a : CellId). a.0 < id.0) (IsAmong kept.cells) (λ a l. omega (arith, l, i)) args (subst (λ o. All (λ (a : CellId). a.0 < id.0) (arguments_in o)) e (sound.arguments id))

-- arguments of two cells of one constructor have the same sorts
pub same_sorts : (sig : Signature) (cells : List Put) (x y : CellId) (c : ℕ) (xs ys : List CellId) → All (IsPutOf sig cells) cells → slice_get cells x.0 ≡ Some (constructor c xs) → slice_get cells y.0 ≡ Some (constructor c ys)
    → map (sort_at sig cells) xs ≡ map (sort_at sig cells) ys
same_sorts sig cells x y c xs ys puts ex ey =
    let p = all_at (IsPutOf sig cells) cells x.0 (constructor c xs) puts ex in
    let q = all_at (IsPutOf sig cells) cells y.0 (constructor c ys) puts ey in
    let e : Some p.0 ≡ Some q.0 = sym p.1 ∙ q.1 in
    let same : p.0 ≡ q.0 = cc in
    p.2 ∙ ap (λ (s : Symbol). map (λ (n : ℕ). Some n) s.arguments) same ∙ sym q.2

module _ (sig : Signature) (base : ℕ) (old : List Binding) (asked : List Equation) where
  -- the ends of both ways
  pub solving_ends : (now : Kept) (classes : Classes) (apart left : List Equation) (a b x y : CellId) → Follows now.bindings apart a x → Follows now.bindings apart b y → IsAmong now.cells x → IsAmong now.cells y
      → IsSolving sig base old asked now classes apart ((a, b) ∷ left) → IsSolving sig base old asked now classes apart ((x, y) ∷ left)
  solving_ends now classes apart left a b x y fa fb ix iy s = record {
    state = state_follows now.cells old asked now.bindings apart left a b x y fa fb s.state;
    linked = s.linked;
    there = s.there;
    apart_sorts = s.apart_sorts;
    puts = s.puts;
    sorts = s.sorts;
    left_sorts = All-cons (AreSortedAlike sig now.cells) (x, y) left
        (sym (follow_sorts sig now.cells now.bindings apart a x s.sorts s.apart_sorts fa) ∙ All-head (AreSortedAlike sig now.cells) (a, b) left s.left_sorts
        ∙ follow_sorts sig now.cells now.bindings apart b y s.sorts s.apart_sorts fb)
        (All-tail (AreSortedAlike sig now.cells) (a, b) left s.left_sorts);
    left_there = All-cons (AreThereBoth now.cells) (x, y) left (ix, iy) (All-tail (AreThereBoth now.cells) (a, b) left s.left_there);
    more = s.more;
    bindings_are = s.bindings_are;
    from = s.from;
  }

  -- the other way round
  pub solving_swap : (now : Kept) (classes : Classes) (apart left : List Equation) (x y : CellId) → IsSolving sig base old asked now classes apart ((x, y) ∷ left) → IsSolving sig base old asked now classes apart ((y, x) ∷ left)
  solving_swap now classes apart left x y s = record {
    state = state_swap now.cells old asked now.bindings apart left x y s.state;
    linked = s.linked;
    there = s.there;
    apart_sorts = s.apart_sorts;
    puts = s.puts;
    sorts = s.sorts;
    left_sorts = All-cons (AreSortedAlike sig now.cells) (y, x) left (sym (All-head (AreSortedAlike sig now.cells) (x, y) left s.left_sorts)) (All-tail (AreSortedAlike sig now.cells) (x, y) left s.left_sorts);
    left_there = (let h = All-head (AreThereBoth now.cells) (x, y) left s.left_there in
        All-cons (AreThereBoth now.cells) (y, x) left (h.1, h.0) (All-tail (AreThereBoth now.cells) (x, y) left s.left_there));
    more = s.more;
    bindings_are = s.bindings_are;
    from = s.from;
  }

  -- one cell on both sides
  pub solving_same : (now : Kept) (classes : Classes) (apart left : List Equation) (x y : CellId) → x.0 ≡ y.0 → IsSolving sig base old asked now classes apart ((x, y) ∷ left) → IsSolving sig base old asked now classes apart left
  solving_same now classes apart left x y e s = record {
    state = state_linked now.cells old asked now.bindings apart left x y (subst (AreLinked apart x) (ap (λ (n : ℕ). record { 0 = n }) e) (itself x)) s.state;
    linked = s.linked;
    there = s.there;
    apart_sorts = s.apart_sorts;
    puts = s.puts;
    sorts = s.sorts;
    left_sorts = All-tail (AreSortedAlike sig now.cells) (x, y) left s.left_sorts;
    left_there = All-tail (AreThereBoth now.cells) (x, y) left s.left_there;
    more = s.more;
    bindings_are = s.bindings_are;
    from = s.from;
  }

  -- a free cell was bound to the other one
  pub solving_bound : (now new : Kept) (classes : Classes) (apart left : List Equation) (b : Binding) → target_of now.bindings b.bound ≡ None → new.cells ≡ now.cells → new.bindings ≡ now.bindings ++ b ∷ []
      → base ≤ b.bound.0 → base ≤ b.target.0 → IsSolving sig base old asked now classes apart ((b.bound, b.target) ∷ left) → IsSolving sig base old asked new classes apart left
  solving_bound now new classes apart left b n ec eb lb lt s =
      let is : new ≡ with_bindings now (now.bindings ++ b ∷ []) = ap₂ (λ x y. record { cells = x; bindings = y }) ec eb in
      subst (λ k. IsSolving sig base old asked k classes apart left) (sym is) (record {
        state = state_bound now.cells old asked now.bindings apart left b n s.state;
        linked = s.linked;
        there = s.there;
        apart_sorts = s.apart_sorts;
        puts = s.puts;
        sorts = All-push (IsOfOneSort sig now.cells) now.bindings b s.sorts (All-head (AreSortedAlike sig now.cells) (b.bound, b.target) left s.left_sorts);
        left_sorts = All-tail (AreSortedAlike sig now.cells) (b.bound, b.target) left s.left_sorts;
        left_there = All-tail (AreThereBoth now.cells) (b.bound, b.target) left s.left_there;
        more = s.more ++ b ∷ [];
        bindings_are = ap (λ l. l ++ b ∷ []) s.bindings_are ∙ append_assoc old s.more (b ∷ []);
        from = All-push (IsFrom base) s.more b s.from (lb, lt);
      })

  -- two constructor cells were joined and taken apart
  pub solving_apart : (now : Kept) (classes joined : Classes) (apart left : List Equation) (x y p q : CellId) (c : ℕ) (xs ys : List CellId) → IsSound now
      → slice_get now.cells x.0 ≡ Some (constructor c xs) → slice_get now.cells y.0 ≡ Some (constructor c ys)
      → AreLinked ((x, y) ∷ apart) p q → IsAmong now.cells q → ((id next : CellId) → IsNext joined id next → IsNext classes id next ⊎ ((id ≡ p) × (next ≡ q)))
      → IsSolving sig base old asked now classes apart ((x, y) ∷ left) → IsSolving sig base old asked now joined ((x, y) ∷ apart) (pairs_of xs ys ++ left)
  solving_apart now classes joined apart left x y p q c xs ys sound ex ey l iq h s =
      let alike = same_sorts sig now.cells x y c xs ys s.puts ex ey in
      let there = All-head (AreThereBoth now.cells) (x, y) left s.left_there in
      record {
        state = state_apart now.cells old asked now.bindings apart left x y c xs ys ex ey (lengths_alike (sort_at sig now.cells) xs ys alike) s.state;
        linked = λ id to n. elim (h id to n) [
          | inl k ↦ linked_more apart (x, y) id to (s.linked id to k)
          | inr k ↦ subst (λ z. AreLinked ((x, y) ∷ apart) z to) (sym k.0) (subst (AreLinked ((x, y) ∷ apart) p) (sym k.1) l)
        ];
        there = λ id to n. elim (h id to n) [
          | inl k ↦ s.there id to k
          | inr k ↦ subst (IsAmong now.cells) (sym k.1) iq
        ];
        apart_sorts = All-cons (AreSortedAlike sig now.cells) (x, y) apart (All-head (AreSortedAlike sig now.cells) (x, y) left s.left_sorts) s.apart_sorts;
        puts = s.puts;
        sorts = s.sorts;
        left_sorts = All-append (AreSortedAlike sig now.cells) (pairs_of xs ys) left (sides_sorts sig now.cells xs ys alike) (All-tail (AreSortedAlike sig now.cells) (x, y) left s.left_sorts);
        left_there = All-append (AreThereBoth now.cells) (pairs_of xs ys) left
            (sides_there now.cells xs ys (arguments_there now x c xs sound there.0 ex) (arguments_there now y c ys sound there.1 ey)) (All-tail (AreThereBoth now.cells) (x, y) left s.left_there);
        more = s.more;
        bindings_are = s.bindings_are;
        from = s.from;
      }

-- a class that is as before leads where it led before
pub next_same : (c d : Classes) (id to : CellId) → d.base ≡ c.base → d.next ≡ c.next → IsNext d id to → IsNext c id to
next_same c d id to b n (k, e, g) = (k, e ∙ ap (λ (m : ℕ). m + k) b, ap (λ l. slice_get l k) (ap (λ v. v.items) (sym n)) ∙ g)

-- all pairs are dropped
pub no_pairs : (xs ys : List CellId) (n : ℕ) → length xs ≡ n → drop n (pairs_of xs ys) ≡ []
no_pairs [] ys zero e = refl
no_pairs [] ys (suc n) e = refl
no_pairs (x ∷ xs) ys zero e = absurd (omega (arith, e))
no_pairs (x ∷ xs) [] (suc n) e = refl
no_pairs (x ∷ xs) (y ∷ ys) (suc n) e = no_pairs xs ys n (omega (arith, e))

-- the pair at a place
pair_at : (xs ys : List CellId) (k : ℕ) (a b : CellId) → slice_get xs k ≡ Some a → slice_get ys k ≡ Some b → drop k (pairs_of xs ys) ≡ (a, b) ∷ drop (suc k) (pairs_of xs ys)
pair_at [] ys k a b ea eb = let none : None ≡ Some a = ea in cc
pair_at (x ∷ xs) [] k a b ea eb = let none : None ≡ Some b = eb in cc
pair_at (x ∷ xs) (y ∷ ys) zero a b ea eb =
    let one : x ≡ a = cc in
    let other : y ≡ b = cc in
    ap₂ (λ p q. (p, q) ∷ pairs_of xs ys) one other
pair_at (x ∷ xs) (y ∷ ys) (suc k) a b ea eb = pair_at xs ys k a b ea eb

-- the pair before is pushed
pub pushed_pair : (left after old : List Equation) (xs ys : List CellId) (k j : ℕ) (a b : CellId) → k ≡ suc j → slice_get xs j ≡ Some a → slice_get ys j ≡ Some b → after ≡ left ++ (a, b) ∷ []
    → reverse left ≡ drop k (pairs_of xs ys) ++ old → reverse after ≡ drop j (pairs_of xs ys) ++ old
pushed_pair left after old xs ys k j a b n ea eb e h =
    ap reverse e ∙ reverse-append left ((a, b) ∷ [])
    ∙ ap (λ l. (a, b) ∷ l) (h ∙ ap (λ m. drop m (pairs_of xs ys) ++ old) n)
    ∙ sym (ap (λ l. l ++ old) (pair_at xs ys j a b ea eb))

-- an equation the other way round may be solved in place of another one
pub stays_swap : (old new : Kept) (before after : Classes) (left more : List Equation) (x y : CellId) → StaysSolving old new before after ((y, x) ∷ left) more → StaysSolving old new before after ((x, y) ∷ left) more
stays_swap old new before after left more x y h = λ sig bs asked apart s. h sig bs asked apart (solving_swap sig before.base bs asked old before apart left x y s)

-- two cells of one constructor are joined and taken apart
pub takes_apart : (now : Kept) (classes joined : Classes) (left after : List Equation) (x y p q : CellId) (c n : ℕ) → IsSound now → IsAmong now.cells q → Holds now x (Con c n) → Holds now y (Con c n)
    → after ≡ pairs_of (arguments_of now.cells x) (arguments_of now.cells y) ++ left → ((apart : List Equation) → AreLinked ((x, y) ∷ apart) p q)
    → ((id next : CellId) → IsNext joined id next → IsNext classes id next ⊎ ((id ≡ p) × (next ≡ q))) → StaysSolving now now classes joined ((x, y) ∷ left) after
takes_apart now classes joined left after x y p q c n sound iq hx hy e l h = λ sig bs asked apart s. (
  (x, y) ∷ apart,
  subst (IsSolving sig classes.base bs asked now joined ((x, y) ∷ apart)) (sym e)
      (solving_apart sig classes.base bs asked now classes joined apart left x y p q c (arguments_of now.cells x) (arguments_of now.cells y) sound hx.0 hy.0 (l apart) iq h s),
)

-- classes whose heights alone changed
pub stays_raised : (old new : Kept) (before raised : Classes) (left more : List Equation) → raised.base ≡ before.base → raised.next ≡ before.next → StaysSolving old new before before left more
    → StaysSolving old new before raised left more
stays_raised old new before raised left more b n h = λ sig bs asked apart s.
    let k = h sig bs asked apart s in (
      k.0,
      record {
        state = k.1.state;
        linked = λ id to m. k.1.linked id to (next_same before raised id to b n m);
        there = λ id to m. k.1.there id to (next_same before raised id to b n m);
        apart_sorts = k.1.apart_sorts;
        puts = k.1.puts;
        sorts = k.1.sorts;
        left_sorts = k.1.left_sorts;
        left_there = k.1.left_there;
        more = k.1.more;
        bindings_are = k.1.bindings_are;
        from = k.1.from;
      },
    )

-- a free cell was bound, and its target raised
pub stays_bound : (old new : Kept) (before raised : Classes) (left : List Equation) (x y : CellId) → target_of old.bindings x ≡ None → new.cells ≡ old.cells → new.bindings ≡ old.bindings ++ record { bound = x; target = y } ∷ []
    → before.base ≤ x.0 → before.base ≤ y.0 → raised.base ≡ before.base → raised.next ≡ before.next → StaysSolving old new before raised ((x, y) ∷ left) left
stays_bound old new before raised left x y n ec eb lx ly b m =
    stays_raised old new before raised ((x, y) ∷ left) left b m
    (λ sig bs asked apart s. (apart, solving_bound sig before.base bs asked old new before apart left (record { bound = x; target = y }) n ec eb lx ly s))

-- two cells of different constructors
pub clash : (now : Kept) (classes : Classes) (left : List Equation) (x y : CellId) (c d m n : ℕ) → Holds now x (Con c m) → Holds now y (Con d n) → c ≢ d → HasNoValuation now classes ((x, y) ∷ left)
clash now classes left x y c d m n hx hy ne = λ sig bs asked apart s v val past e.
    state_clash now.cells bs asked now.bindings apart left x y c d (arguments_of now.cells x) (arguments_of now.cells y) hx.0 hy.0 ne s.state v val past e

-- an equation of one cell
pub stays_same : (now : Kept) (classes : Classes) (left : List Equation) (x y : CellId) → x.0 ≡ y.0 → StaysSolving now now classes classes ((x, y) ∷ left) left
stays_same now classes left x y e = λ sig bs asked apart s. (apart, solving_same sig classes.base bs asked now classes apart left x y e s)

pub more_none : (now : Kept) → IsMoreBound now now
more_none now = record { bindings = []; bindings_are = sym (append-nil now.bindings); cells_are = refl }

pub more_both : (old mid new : Kept) → IsMoreBound old mid → IsMoreBound mid new → IsMoreBound old new
more_both old mid new p q = record {
  bindings = p.bindings ++ q.bindings;
  bindings_are = q.bindings_are ∙ ap (λ l. l ++ q.bindings) p.bindings_are ∙ append_assoc old.bindings p.bindings q.bindings;
  cells_are = q.cells_are ∙ p.cells_are;
}

-- what is known while a stack of equations is solved that was another one before
pub record IsUnder (start now : Kept) (begin classes : Classes) (all left : List Equation) : Type 0 where
  pub stays : StaysSolving start now begin classes all left
  pub more : IsMoreBound start now
  pub base : classes.base ≡ begin.base

pub under_begins : (now : Kept) (classes : Classes) (left : List Equation) → IsUnder now now classes classes left left
under_begins now classes left = record { stays = λ sig bs asked apart s. (apart, s); more = more_none now; base = refl }

-- the equation on top can be looked at
pub under_can : (start now : Kept) (begin classes : Classes) (all left : List Equation) → CanSolve start begin all → IsUnder start now begin classes all left → CanSolve now classes left
under_can start now begin classes all left c u =
    let k = u.stays c.sig c.bs c.asked c.apart c.solving in
    record {
      sig = c.sig;
      bs = c.bs;
      asked = c.asked;
      apart = k.0;
      solving = subst (λ (b : ℕ). IsSolving c.sig b c.bs c.asked now classes k.0 left) (sym u.base) k.1;
    }

-- a step more
pub under_step : (start now new : Kept) (begin classes after : Classes) (all left more : List Equation) → after.base ≡ classes.base → IsMoreBound now new → StaysSolving now new classes after left more
    → IsUnder start now begin classes all left → IsUnder start new begin after all more
under_step start now new begin classes after all left more b m h u = record {
  stays = λ sig bs asked apart s.
      let k = u.stays sig bs asked apart s in
      let j = h sig bs asked k.0 (subst (λ (n : ℕ). IsSolving sig n bs asked now classes k.0 left) (sym u.base) k.1) in
      (j.0, subst (λ (n : ℕ). IsSolving sig n bs asked new after j.0 more) u.base j.1);
  more = more_both start now new u.more m;
  base = b ∙ u.base;
}

-- and where no valuation is left, there was none before
pub under_none : (start now : Kept) (begin classes : Classes) (all left : List Equation) → IsUnder start now begin classes all left → HasNoValuation now classes left → HasNoValuation start begin all
under_none start now begin classes all left u h = λ sig bs asked apart s v val past e.
    let k = u.stays sig bs asked apart s in
    h sig bs asked k.0 (subst (λ (n : ℕ). IsSolving sig n bs asked now classes k.0 left) (sym u.base) k.1) v
    (subst (λ ps. IsValuation ps v) (sym u.more.cells_are) val) past e

-- the ends of both ways in place of the cells of the equation
pub stays_ends : (now : Kept) (classes : Classes) (left : List Equation) (a b x y : CellId)
    → ((apart : List Equation) → ((p q : CellId) → IsNext classes p q → AreLinked apart p q) → Follows now.bindings apart a x)
    → ((apart : List Equation) → ((p q : CellId) → IsNext classes p q → AreLinked apart p q) → Follows now.bindings apart b y)
    → IsAmong now.cells x → IsAmong now.cells y → StaysSolving now now classes classes ((a, b) ∷ left) ((x, y) ∷ left)
stays_ends now classes left a b x y fa fb ix iy = λ sig bs asked apart s.
    (apart, solving_ends sig classes.base bs asked now classes apart left a b x y (fa apart s.linked) (fb apart s.linked) ix iy s)

-- the equation on top of the stack
pub top_equation : (left rest : List Equation) (p : Equation) → left ≡ rest ++ p ∷ [] → reverse left ≡ p ∷ reverse rest
top_equation left rest p e = ap reverse e ∙ reverse-append rest (p ∷ [])

-- the ends of both ways are left in place of the equation
pub under_ends : (start now : Kept) (begin classes : Classes) (all items rest : List Equation) (p : Equation) (x y : CellId) → items ≡ rest ++ p ∷ []
    → ((apart : List Equation) → ((p q : CellId) → IsNext classes p q → AreLinked apart p q) → Follows now.bindings apart p.0 x)
    → ((apart : List Equation) → ((p q : CellId) → IsNext classes p q → AreLinked apart p q) → Follows now.bindings apart p.1 y)
    → IsAmong now.cells x → IsAmong now.cells y → IsUnder start now begin classes all (reverse items) → IsUnder start now begin classes all ((x, y) ∷ reverse rest)
under_ends start now begin classes all items rest p x y e fa fb ix iy u =
    under_step start now now begin classes classes all (p ∷ reverse rest) ((x, y) ∷ reverse rest) refl (more_none now) (stays_ends now classes (reverse rest) p.0 p.1 x y fa fb ix iy)
    (subst (IsUnder start now begin classes all) (top_equation items rest p e) u)

-- the cells of the equation on top are there, and those to which cells were joined
pub under_there : (start now : Kept) (begin classes : Classes) (all items rest : List Equation) (p : Equation) → items ≡ rest ++ p ∷ [] → CanSolve start begin all → IsUnder start now begin classes all (reverse items)
    → AreThereBoth now.cells p × AreThere now.cells classes
under_there start now begin classes all items rest p e c u =
    let k = (under_can start now begin classes all (p ∷ reverse rest) c (subst (IsUnder start now begin classes all) (top_equation items rest p e) u)).solving in
    (All-head (AreThereBoth now.cells) p (reverse rest) k.left_there, k.there)

-- nothing is left
pub under_done : (start now : Kept) (begin classes : Classes) (all items : List Equation) → length items ≡ 0 → IsUnder start now begin classes all (reverse items) → StaysSolving start now begin classes all []
under_done start now begin classes all [] e u = u.stays
under_done start now begin classes all (p ∷ items) e u = absurd (omega (arith, e))

-- a way ends here, so the cell is not bound
pub not_bound_here : (kept : Kept) (id to : CellId) → target_of kept.bindings id ≡ None → Holds kept id (Bound to) → ⊥
not_bound_here kept id to e h = none-some to (sym e ∙ h.1)

-- cells of one constructor have as many arguments
pub same_count : (kept : Kept) (classes : Classes) (left : List Equation) (x y : CellId) (c d m n : ℕ) → CanSolve kept classes ((x, y) ∷ left) → Holds kept x (Con c m) → Holds kept y (Con d n) → c ≡ d → Holds kept y (Con c m)
same_count kept classes left x y c d m n can hx hy e =
    let s = can.solving in
    let ey : slice_get kept.cells y.0 ≡ Some (constructor c (arguments_of kept.cells y)) = subst (λ k. slice_get kept.cells y.0 ≡ Some (constructor k (arguments_of kept.cells y))) (sym e) hy.0 in
    let l = lengths_alike (sort_at can.sig kept.cells) (arguments_of kept.cells x) (arguments_of kept.cells y)
    (same_sorts can.sig kept.cells x y c (arguments_of kept.cells x) (arguments_of kept.cells y) s.puts hx.0 ey) in
    (ey, sym l ∙ hx.1, hy.2)

-- of a cell nothing is asked but what is known
pub if_none_known : {V P : Type 0} (o : Option V) → P → IfNone o P
if_none_known None p = p
if_none_known (Some v) p = tt

-- the equation on top, where its ends are two cells
pub next_here : (now : Kept) (classes : Classes) (all items rest : List Equation) (p : Equation) (x y : CellId) → items ≡ rest ++ p ∷ [] → CanSolve now classes all
    → ((apart : List Equation) → ((p q : CellId) → IsNext classes p q → AreLinked apart p q) → Follows now.bindings apart p.0 x)
    → ((apart : List Equation) → ((p q : CellId) → IsNext classes p q → AreLinked apart p q) → Follows now.bindings apart p.1 y)
    → IsEnd now classes x → IsEnd now classes y → x.0 ≢ y.0 → IsGoing now classes (reverse items)
    → IsUnder now now classes classes all (reverse items) → IsNextApart now classes all (x, y) (reverse rest)
next_here now classes all items rest p x y e can fa fb ex ey ne g u =
    let w = under_ends now now classes classes all items rest p x y e fa fb ex.there ey.there u in
    record {
      stays = w.stays;
      can = under_can now now classes classes all ((x, y) ∷ reverse rest) can w;
      first_end = ex;
      second_end = ey;
      other = ne;
      going = going_ends now classes p x y (reverse rest) ex ey (subst (IsGoing now classes) (top_equation items rest p e) g);
    }

-- an equation of one end was dropped
pub under_dropped : (now : Kept) (classes : Classes) (all items rest : List Equation) (p : Equation) (x y : CellId) → items ≡ rest ++ p ∷ []
    → ((apart : List Equation) → ((p q : CellId) → IsNext classes p q → AreLinked apart p q) → Follows now.bindings apart p.0 x)
    → ((apart : List Equation) → ((p q : CellId) → IsNext classes p q → AreLinked apart p q) → Follows now.bindings apart p.1 y)
    → IsAmong now.cells x → IsAmong now.cells y → x.0 ≡ y.0
    → IsUnder now now classes classes all (reverse items) → IsUnder now now classes classes all (reverse rest)
under_dropped now classes all items rest p x y e fa fb ix iy same u =
    under_step now now now classes classes classes all ((x, y) ∷ reverse rest) (reverse rest) refl (more_none now) (stays_same now classes (reverse rest) x y same)
    (under_ends now now classes classes all items rest p x y e fa fb ix iy u)

-- the next equation is looked at
pub under_next : (start now : Kept) (begin classes : Classes) (all left after : List Equation) (p : Equation) → IsNextApart now classes left p after → IsUnder start now begin classes all left
    → IsUnder start now begin classes all (p ∷ after)
under_next start now begin classes all left after p n u = under_step start now now begin classes classes all left (p ∷ after) refl (more_none now) n.stays u

-- and where there is none, nothing is left
pub under_nothing : (start now : Kept) (begin classes : Classes) (all left : List Equation) → StaysSolving now now classes classes left [] → IsUnder start now begin classes all left → StaysSolving start now begin classes all []
under_nothing start now begin classes all left h u = (under_step start now now begin classes classes all left [] refl (more_none now) h u).stays
