-- An open fragment has a legal completion.
use Rattle.std.proofs.Common.{◌≡◌, inl, inr, ℕ, ◌+◌, ◌≤◌, Bool, true, false, cond, ◌||◌, List, [], ◌∷◌, slice_get, bytes_eq, Some, refl, ap, sym, ◌∙◌, subst, true≢false, arith}
use Rattle.std.proofs.lemmas.Bool.{cases_Bool, or_cases}
use Rattle.psg_terms.proofs.DeclareLaws.{bytes_eq-same, bytes_eq-refl}
use Rattle.psg_terms.specs.Terms.{Term}
use Rattle.psg_grammar.specs.declared.types.Kind.{Kind}
use Rattle.psg_grammar.specs.declared.types.Item.{Item}
use Rattle.psg_grammar.specs.declared.types.ListKind.{ListKind}
use Rattle.psg_grammar.specs.declared.types.Definition.{Definition}
use Rattle.psg_grammar.specs.Fragments.{Fragment, hole, ending, cell, operator, with_child, with_name, with_number, with_text, anything, observed}
use Rattle.psg_grammar.specs.Keys.{Key, space_of, name_in}
use Rattle.psg_terms.specs.Names.{is_among}
use Rattle.psg_completions.specs.Counts.{one_if, count}
use Rattle.psg_grammar.specs.Lookups.{is_scope, key_of, key_at}
use Rattle.psg_grammar.specs.Declaring.{is_declaring}
use Rattle.psg_grammar.specs.Regions.{declared_inside, declared_in}
use Rattle.psg_grammar.specs.WellFormed.{Fits, IsName}
use Rattle.psg_grammar.specs.Fillings.{Fills}
use Rattle.psg_grammar.specs.Legal.{Entities, AreEntities, IsCompletableAs}
use Rattle.psg_grammar.specs.Open.{IsOpenAs}
use Rattle.psg_grammar.specs.Placed.{FitsPlaces}
use Rattle.psg_completions.proofs.NameLaws.{among_left, among_right, among_one, among_parts}
use Rattle.psg_grammar.proofs.MixedEntities.{mixed, mixed_entities}
use Rattle.psg_completions.proofs.Counting.{Renaming, AllAre, once_of, of_once}
use Rattle.psg_completions.proofs.Growth.{Element, CanGrow, Grown, Child, Supplied}
use Rattle.psg_completions.proofs.Growing.{grow_whole}
use Rattle.psg_completions.proofs.Tops.{next_is}
use Rattle.psg_completions.proofs.FreshNames.{all_names}
use Rattle.psg_grammar.specs.Sound.{IsSound}
use Rattle.psg_completions.specs.Conditions.{HasTrueRows}
use Rattle.psg_completions.proofs.Usable.{usable_declare}
use Rattle.psg_completions.proofs.ElementRows.{value_sorted, declare_row}
use Rattle.psg_completions.proofs.Taken.{supply}
use Rattle.psg_completions.proofs.Declared.{element_of}
use Rattle.psg_grammar.specs.declared.types.Kind.TheVariants as kinds
use Rattle.psg_grammar.specs.declared.types.Item.TheVariants as items

-- each name once
abbrev pub once_each : List Key → List Key
once_each [] = []
once_each (n ∷ ns) = cond (is_among ns n) (once_each ns) (n ∷ once_each ns)

once_count : (m : Key) (xs : List Key) → count m (once_each xs) ≡ one_if (is_among xs m)
once_count m [] = refl
once_count m (x ∷ xs) =
    let d : count m (once_each xs) ≡ one_if (is_among xs m) = once_count m xs in
    elim (cases_Bool (bytes_eq x m)) [
      | inl t ↦
          let whole : one_if (is_among (x ∷ xs) m) ≡ 1 = ap (λ b. one_if (b || is_among xs m)) t in
          let same : is_among xs x ≡ is_among xs m = ap (is_among xs) (bytes_eq-same x m t) in
          elim (cases_Bool (is_among xs m)) [
            | inl u ↦
                let a : count m (once_each (x ∷ xs)) ≡ count m (once_each xs) =
                ap (λ b. count m (cond b (once_each xs) (x ∷ once_each xs))) (same ∙ u) in
                let b : one_if (is_among xs m) ≡ 1 = ap one_if u in
                omega (arith, whole, a, b, d)
            | inr u ↦
                let a : count m (once_each (x ∷ xs)) ≡ one_if (bytes_eq x m) + count m (once_each xs) =
                ap (λ b. count m (cond b (once_each xs) (x ∷ once_each xs))) (same ∙ u) in
                let b : one_if (is_among xs m) ≡ 0 = ap one_if u in
                let c : one_if (bytes_eq x m) ≡ 1 = ap one_if t in
                omega (arith, whole, a, b, c, d)
          ]
      | inr f ↦
          let whole : one_if (is_among (x ∷ xs) m) ≡ one_if (is_among xs m) = ap (λ b. one_if (b || is_among xs m)) f in
          let z : one_if (bytes_eq x m) ≡ 0 = ap one_if f in
          let a : count m (once_each (x ∷ xs)) ≡ count m (once_each xs) = skip z (is_among xs x) in
          omega (arith, whole, a, d)
    ] where
      skip : one_if (bytes_eq x m) ≡ 0 → (b : Bool)
          → count m (cond b (once_each xs) (x ∷ once_each xs)) ≡ count m (once_each xs)
      skip z true = refl
      skip z false = omega (arith, z)

once_all : (mine : Key → Bool) (xs : List Key) → ((n : Key) → is_among xs n ≡ true → mine n ≡ true)
    → AllAre mine (once_each xs)
once_all mine [] h = tt
once_all mine (x ∷ xs) h =
    go (once_all mine xs (λ n e. h n (later (bytes_eq x n) (is_among xs n) e))) (is_among xs x) where
      later : (a b : Bool) → b ≡ true → a || b ≡ true
      later true b e = refl
      later false b e = e

      go : AllAre mine (once_each xs) → (b : Bool) → AllAre mine (cond b (once_each xs) (x ∷ once_each xs))
      go k true = k
      go k false = (h x (ap (λ b. b || is_among xs x) (bytes_eq-refl x)), k)

-- keys that stay as they are
abbrev unchanged : (Key → Bool) → Renaming
unchanged mine = record { to = λ n. n; back = λ n. n; mine = mine }

one_of : (x n : Key) → is_among (x ∷ []) n ≡ true → x ≡ n
one_of x n e = elim (or_cases (bytes_eq x n) false e) [ inl t ↦ bytes_eq-same x n t | inr t ↦ absurd (true≢false (sym t)) ]

module _ (def : Definition) where
  fits_places : (f : Fragment) (more : List Item) (kind : Kind) → Fits def f more kind
      → FitsPlaces def (Unit {0}) f more kind [] []
  fits_places (hole p) more kind (a, b, c, d) = (tt, a, b, refl, c, d)
  fits_places (ending l true) more kind (a, b, c) = (tt, a, b, refl, c)
  fits_places (ending l false) more kind (a, b, c) = (a, b, refl, c)
  fits_places (cell l e r) more kind (a, b, k, found, we, wr, free) =
      (a, b, [], k, found, fits_places e [] (kinds.Phylum k.element) we, fits_places r [] (kinds.List l) wr)
  fits_places (operator o) more kind (op, found, m, k) = (refl, op, found, m, k)
  fits_places (with_child f t) more kind (k, wf, wt) =
      (k, [], fits_places f (items.Slot k ∷ more) kind wf, fits_places t [] k wt)
  fits_places (with_name f n) more kind (inl (sp, w), name) = inl (sp, fits_places f (items.Refers sp ∷ more) kind w)
  fits_places (with_name f n) more kind (inr (sp, w), name) = inr (sp, fits_places f (items.Declares sp ∷ more) kind w)
  fits_places (with_number f n) more kind (w, small) = (fits_places f (items.Number ∷ more) kind w, small)
  fits_places (with_text f n) more kind (w, text) = (fits_places f (items.Text ∷ more) kind w, text)
  fits_places anything more kind w = absurd w
  fits_places (observed f) more kind (e, w) = (tt, e, fits_places f [] kind w)

  -- the key of a name
  refers_key : (f : Fragment) (sp : ℕ) (x : Key) (more : List Item) (kind : Kind)
      → Fits def f (items.Refers sp ∷ more) kind → key_at def f x ≡ sp ∷ x
  refers_key f sp x more kind w = ap (λ i. key_of i x) (next_is def f (items.Refers sp) more kind w)

  declares_key : (f : Fragment) (sp : ℕ) (x : Key) (more : List Item) (kind : Kind)
      → Fits def f (items.Declares sp ∷ more) kind → key_at def f x ≡ sp ∷ x
  declares_key f sp x more kind w = ap (λ i. key_of i x) (next_is def f (items.Declares sp) more kind w)

  abbrev IsKey : Key → Type 0
  IsKey k = (k ≡ space_of k ∷ name_in k) × IsName def (name_in k)

  is_key : (sp : ℕ) (x k : Key) → k ≡ sp ∷ x → IsName def x → IsKey k
  is_key sp x k e name = subst IsKey (sym e) (refl, name)

  -- the keys of a well-formed tree are keys
  are_names : (f : Fragment) (more : List Item) (kind : Kind) → Fits def f more kind → (n : Key)
      → is_among (all_names def f) n ≡ true → IsKey n
  are_names (hole p) more kind w n e = absurd (true≢false (sym e))
  are_names (ending l u) more kind w n e = absurd (true≢false (sym e))
  are_names (cell l a r) more kind (x, y, k, found, wa, wr, free) n e =
      elim (among_parts (all_names def a) (all_names def r) n e)
      [ inl t ↦ are_names a [] (kinds.Phylum k.element) wa n t | inr t ↦ are_names r [] (kinds.List l) wr n t ]
  are_names (operator o) more kind w n e = absurd (true≢false (sym e))
  are_names (with_child f t) more kind (k, wf, wt) n e =
      elim (among_parts (all_names def f) (all_names def t) n e)
      [ inl x ↦ are_names f (items.Slot k ∷ more) kind wf n x | inr x ↦ are_names t [] k wt n x ]
  are_names (with_name f x) more kind (inl (sp, w), name) n e =
      elim (among_parts (all_names def f) (key_at def f x ∷ []) n e) [
        | inl t ↦ are_names f (items.Refers sp ∷ more) kind w n t
        | inr t ↦ is_key sp x n
            (sym (one_of (key_at def f x) n t) ∙ refers_key f sp x more kind w) name
      ]
  are_names (with_name f x) more kind (inr (sp, w), name) n e =
      elim (among_parts (all_names def f) (key_at def f x ∷ []) n e) [
        | inl t ↦ are_names f (items.Declares sp ∷ more) kind w n t
        | inr t ↦ is_key sp x n
            (sym (one_of (key_at def f x) n t) ∙ declares_key f sp x more kind w) name
      ]
  are_names (with_number f x) more kind (w, small) n e = are_names f (items.Number ∷ more) kind w n e
  are_names (with_text f x) more kind (w, text) n e = are_names f (items.Text ∷ more) kind w n e
  are_names anything more kind w n e = absurd w
  are_names (observed f) more kind w n e = are_names f [] kind w.1 n e

  same_names : (mine : Key → Bool) (f : Fragment) (more : List Item) (kind : Kind) → Fits def f more kind
      → ((n : Key) → is_among (all_names def f) n ≡ true → mine n ≡ true) → CanGrow def (unchanged mine) f
  same_names mine (hole p) more kind w h = tt
  same_names mine (ending l u) more kind w h = tt
  same_names mine (cell l a r) more kind (x, y, k, found, wa, wr, free) h = (
    same_names mine a [] (kinds.Phylum k.element) wa
        (λ n e. h n (among_left (all_names def a) (all_names def r) n e)),
    same_names mine r [] (kinds.List l) wr (λ n e. h n (among_right (all_names def a) (all_names def r) n e)),
    free,
  )
  same_names mine (operator o) more kind w h = tt
  same_names mine (with_child f t) more kind (k, wf, wt) h = (
    same_names mine f (items.Slot k ∷ more) kind wf
        (λ n e. h n (among_left (all_names def f) (all_names def t) n e)),
    same_names mine t [] k wt (λ n e. h n (among_right (all_names def f) (all_names def t) n e)),
  )
  same_names mine (with_name f x) more kind (inl (sp, w), name) h =
      let (a, b) = is_key sp x (key_at def f x) (refers_key f sp x more kind w) name in (
        same_names mine f (items.Refers sp ∷ more) kind w
            (λ n e. h n (among_left (all_names def f) (key_at def f x ∷ []) n e)),
        h (key_at def f x) (among_right (all_names def f) (key_at def f x ∷ []) (key_at def f x)
            (among_one (key_at def f x))),
        refl,
        a,
        b,
      )
  same_names mine (with_name f x) more kind (inr (sp, w), name) h =
      let (a, b) = is_key sp x (key_at def f x) (declares_key f sp x more kind w) name in (
        same_names mine f (items.Declares sp ∷ more) kind w
            (λ n e. h n (among_left (all_names def f) (key_at def f x ∷ []) n e)),
        h (key_at def f x) (among_right (all_names def f) (key_at def f x ∷ []) (key_at def f x)
            (among_one (key_at def f x))),
        refl,
        a,
        b,
      )
  same_names mine (with_number f x) more kind (w, small) h = same_names mine f (items.Number ∷ more) kind w h
  same_names mine (with_text f x) more kind (w, text) h = same_names mine f (items.Text ∷ more) kind w h
  same_names mine anything more kind w h = absurd w
  same_names mine (observed f) more kind w h = same_names mine f [] kind w.1 h

  fills_of_grown : (mine : Key → Bool) (f t : Fragment) (more : List Item) (kind : Kind) → Fits def f more kind
      → Grown def (unchanged mine) f t → Fills def f t
  fills_of_grown mine (hole p) t more kind w g = g
  fills_of_grown mine (ending l true) t more kind w g = g
  fills_of_grown mine (ending l false) t more kind w g = g
  fills_of_grown mine (cell l a r) t more kind (x, y, k, found, wa, wr, free) (a', r', e, ga, gr) = (
    a',
    r',
    e,
    fills_of_grown mine a a' [] (kinds.Phylum k.element) wa ga,
    fills_of_grown mine r r' [] (kinds.List l) wr gr,
  )
  fills_of_grown mine (operator o) t more kind w g = g
  fills_of_grown mine (with_child f c) t more kind (k, wf, wc) (f', c', e, gf, gc) =
      (f', c', e, fills_of_grown mine f f' (items.Slot k ∷ more) kind wf gf, fills_of_grown mine c c' [] k wc gc)
  fills_of_grown mine (with_name f x) t more kind (inl (sp, w), name) (f', e, g) = (
    f',
    e ∙ ap (λ k. with_name f' (name_in k)) (refers_key f sp x more kind w),
    fills_of_grown mine f f' (items.Refers sp ∷ more) kind w g,
  )
  fills_of_grown mine (with_name f x) t more kind (inr (sp, w), name) (f', e, g) = (
    f',
    e ∙ ap (λ k. with_name f' (name_in k)) (declares_key f sp x more kind w),
    fills_of_grown mine f f' (items.Declares sp ∷ more) kind w g,
  )
  fills_of_grown mine (with_number f x) t more kind (w, small) (f', e, g) =
      (f', e, fills_of_grown mine f f' (items.Number ∷ more) kind w g)
  fills_of_grown mine (with_text f x) t more kind (w, text) (f', e, g) =
      (f', e, fills_of_grown mine f f' (items.Text ∷ more) kind w g)
  fills_of_grown mine anything t more kind w g = absurd w
  fills_of_grown mine (observed f) t more kind w (f', e, g) = (f', e, fills_of_grown mine f f' [] kind w.1 g)

module _ (def : Definition) (sound : IsSound def) (true_rows : HasTrueRows def) where
  element : (l : ℕ) (kind : ListKind) → slice_get def.lists l ≡ Some kind → kind.unfinished ≡ true → (g : Entities)
      → AreEntities def g → (n : Key) → is_declaring def (space_of n) (kinds.List l) ≡ true → IsKey def n
      → (avoid : List Key) → is_among avoid n ≡ true
      → Element def l n (g n) avoid
  element l kind list un g eg n dec name avoid known =
      let (k, d, chosen, at, of_space, (f, ground, e_is)) =
      declare_row def sound true_rows l kind list un (space_of n) dec (g n) (eg.ground n) (eg.sorted n) in
      let of_list = ap (slice_get def.lists) at ∙ list in
      let good = usable_declare def sound true_rows k d kind chosen of_list in
      subst (λ l. Element def l n (g n) avoid) at
      (subst (λ e. Element def d.list n e avoid) (sym e_is)
      (element_of def sound true_rows d kind f n avoid of_list good ground
      (name.0 ∙ ap (λ s. s ∷ name_in n) (sym of_space), name.1) known))

  abbrev stock_of : (f : Fragment) (kind : Kind) → Fits def f [] kind
      → Supplied def (unchanged (is_among (all_names def f))) (Unit {0})
  stock_of f kind w = record {
    over = λ m e. refl;
    spaces = λ m e. refl;
    sorted = λ a l r list v at h. value_sorted def sound l r list v at h;
    supply = λ a. supply def sound true_rows;
    declare =
        λ a l list at un g eg n mn dec avoid kept. element l list at un g eg n dec (are_names def f [] kind w n mn)
        avoid (kept n mn);
    all = once_each (all_names def f);
    all_mine = once_all (is_among (all_names def f)) (all_names def f) (λ n e. e);
    listed = λ a m e. once_count m (all_names def f) ∙ ap one_if e;
    seen = λ us. us;
    looks = λ a u us. refl;
    skips = λ no u us. absurd (no tt);
  }

  -- The law: what is open has a legal completion.
  pub completable_of_open : (f : Fragment) (kind : Kind) → Fits def f [] kind → (seen : List Term)
      → IsOpenAs def f seen → IsCompletableAs def f seen
  completable_of_open f kind w seen o =
      let mine = is_among (all_names def f) in
      let named = same_names def (is_among (all_names def f)) f [] kind w (λ n e. e) in
      let j = o.judged in
      let c = grow_whole def (unchanged (is_among (all_names def f))) (Unit {0}) (stock_of f kind w)
      f o.choice o.outside j.inner o.value seen [] kind [] [] (fits_places def f [] kind w) named o.distinct.1
      (λ e. o.distinct.0) j.entities j.agree (λ no. absurd (no tt)) j.holds (all_names def f) (λ m e. e) in
      built named c where
        built : CanGrow def (unchanged (is_among (all_names def f))) f
            → Child def (unchanged (is_among (all_names def f))) (Unit {0}) f o.outside kind o.value seen []
            (all_names def f) [] → IsCompletableAs def f seen
        built named c = record {
          tree = c.tree;
          fills = fills_of_grown def (is_among (all_names def f)) f c.tree [] kind w c.grown;
          distinct = (
            elim (cases_Bool (is_scope def c.tree)) [
              | inl e ↦ c.separate e
              | inr e ↦ of_once (declared_inside def c.tree)
                  (λ m. subst (λ b. count m (cond b [] (declared_inside def c.tree)) ≤ 1) e (once m))
            ],
            c.below,
          );
          outside = mixed c.new c.given o.outside;
          entities = mixed_entities def c.new c.given o.outside c.entities o.entities;
          value = o.value;
          legal =
              (let i =
              c.legal (mixed c.new c.given o.outside) (mixed_entities def c.new c.given o.outside c.entities o.entities)
              (λ m e. ap (λ b. cond b (c.given m) (o.outside m)) (old m e))
              (λ m e. sym (ap (λ b. cond b (c.given m) (o.outside m)) e)) in
              record { inner = i.inner; entities = i.entities; agree = i.agree; legal = i.legal });
        } where
          old : (m : Key) → is_among (all_names def f) m ≡ true → is_among c.new m ≡ false
          old m e = elim (cases_Bool (is_among c.new m)) [ inl t ↦ absurd (true≢false (sym e ∙ c.apart m t)) | inr t ↦ t ]

          few : (m : Key) (b : Bool) → count m (cond b [] (declared_inside def f)) ≤ 1
          few m true = omega arith
          few m false = once_of m (declared_inside def f) o.distinct.0

          once : (m : Key) → count m (declared_in def c.tree) ≤ 1
          once m = elim (cases_Bool (is_among c.new m)) [
            | inl y ↦ c.once m y
            | inr y ↦
                let a : count m (declared_in def c.tree) ≡ count m (declared_in def f) + count m [] = c.declares m y in
                let b : count m (declared_in def f) ≤ 1 = few m (is_scope def f) in
                omega (arith, a, b)
          ]
