-- How often keys are declared in what grows, and where there are places.
use Rattle.std.proofs.Common.{◌≡◌, inl, inr, ℕ, ◌+◌, ◌≤◌, Bool, true, false, cond, ◌&&◌, not, List, [], ◌∷◌, ◌++◌, map, bytes_eq, refl, ap, sym, ◌∙◌, true≢false, arith}
use Rattle.std.proofs.lemmas.Bool.{cases_Bool, or_cases}
use Rattle.psg_terms.proofs.DeclareLaws.{bytes_eq-same}
use Rattle.psg_terms.specs.Names.{is_among}
use Rattle.psg_grammar.specs.declared.types.Kind.{Kind}
use Rattle.psg_grammar.specs.declared.types.Item.{Item}
use Rattle.psg_grammar.specs.declared.types.Definition.{Definition}
use Rattle.psg_grammar.specs.Fragments.{Fragment, hole, ending, cell, operator, with_child, with_name, with_number, with_text, anything, observed}
use Rattle.psg_grammar.specs.Keys.{Key}
use Rattle.psg_grammar.specs.Lookups.{is_scope}
use Rattle.psg_grammar.specs.Regions.{unfinished_inside}
use Rattle.psg_grammar.specs.Legal.{Entities, AreEntities}
use Rattle.psg_grammar.specs.Placed.{FitsPlaces}
use Rattle.psg_completions.proofs.NameLaws.{without, among_left, among_right, among_parts, none_left, none_right}
use Rattle.psg_grammar.proofs.MixedEntities.{SameOn, mixed, mixed_entities}
use Rattle.psg_completions.proofs.Counting.{AllAre, tally_append, image, Own, image_mine, Renaming}
use Rattle.psg_completions.specs.Counts.{one_if, count}
use Rattle.psg_completions.proofs.Growth.{Kept, IsPlace}
use Rattle.psg_grammar.specs.declared.types.Kind.TheVariants as kinds
use Rattle.psg_grammar.specs.declared.types.Item.TheVariants as items

pub count_without : (m : Key) (xs gone : List Key) → count m (without xs gone) ≡ cond (is_among gone m) 0 (count m xs)
count_without m [] gone = zero_cond (is_among gone m) where
  zero_cond : (b : Bool) → count m [] ≡ cond b 0 (count m [])
  zero_cond true = refl
  zero_cond false = refl
count_without m (x ∷ xs) gone =
    let d : count m (without xs gone) ≡ cond (is_among gone m) 0 (count m xs) = count_without m xs gone in
    elim (cases_Bool (bytes_eq x m)) [
      | inl t ↦
          let same : is_among gone x ≡ is_among gone m = ap (is_among gone) (bytes_eq-same x m t) in
          elim (cases_Bool (is_among gone m)) [
            | inl u ↦
                let a : count m (without (x ∷ xs) gone) ≡ count m (without xs gone) =
                ap (λ b. count m (cond b (without xs gone) (x ∷ without xs gone))) (same ∙ u) in
                let b : cond (is_among gone m) 0 (count m xs) ≡ 0 = ap (λ b. cond b 0 (count m xs)) u in
                let c : cond (is_among gone m) 0 (count m (x ∷ xs)) ≡ 0 = ap (λ b. cond b 0 (count m (x ∷ xs))) u in
                a ∙ d ∙ b ∙ sym c
            | inr u ↦
                let a : count m (without (x ∷ xs) gone) ≡ one_if (bytes_eq x m) + count m (without xs gone) =
                ap (λ b. count m (cond b (without xs gone) (x ∷ without xs gone))) (same ∙ u) in
                let b : cond (is_among gone m) 0 (count m xs) ≡ count m xs = ap (λ b. cond b 0 (count m xs)) u in
                let c : cond (is_among gone m) 0 (count m (x ∷ xs)) ≡ count m (x ∷ xs) =
                ap (λ b. cond b 0 (count m (x ∷ xs))) u in
                omega (arith, a, b, c, d)
          ]
      | inr f ↦
          let z : one_if (bytes_eq x m) ≡ 0 = ap one_if f in
          let a : count m (without (x ∷ xs) gone) ≡ count m (without xs gone) = skip z (is_among gone x) in
          let c : cond (is_among gone m) 0 (count m xs) ≡ cond (is_among gone m) 0 (count m (x ∷ xs)) =
          ap (cond (is_among gone m) 0) (let y : count m xs ≡ count m (x ∷ xs) = omega (arith, z) in y) in
          a ∙ d ∙ c
    ] where
      skip : one_if (bytes_eq x m) ≡ 0 → (b : Bool)
          → count m (cond b (without xs gone) (x ∷ without xs gone)) ≡ count m (without xs gone)
      skip z true = refl
      skip z false = omega (arith, z)

module _ (names : Renaming) where
  pub mine_count : (m : Key) (extra : List Key) → AllAre names.mine extra → names.mine m ≡ false → count m extra ≡ 0
  mine_count m [] h e = refl
  mine_count m (x ∷ xs) (p, h) e =
      let d : count m xs ≡ 0 = mine_count m xs h e in
      elim (cases_Bool (bytes_eq x m)) [
        | inl t ↦ absurd (true≢false (sym p ∙ ap names.mine (bytes_eq-same x m t) ∙ e))
        | inr f ↦ let c : one_if (bytes_eq x m) ≡ 0 = ap one_if f in omega (arith, c, d)
      ]

  pub kept_more : (avoid new : List Key) → Kept names avoid → Kept names (avoid ++ new)
  kept_more avoid new k m e = among_left avoid new m (k m e)

  -- what is new is not mine
  pub not_mine : (avoid : List Key) (m : Key) → Kept names avoid → is_among avoid m ≡ false → names.mine m ≡ false
  not_mine avoid m k e = elim (cases_Bool (names.mine m)) [
    | inl t ↦ absurd (true≢false (sym (k m t) ∙ e))
    | inr f ↦ f
  ]

  -- numbers of declarations in two parts together
  pub add_declares : (avoid new new' : List Key) (xs ys us vs extra extra' whole : List Key)
      → ((m : Key) → is_among new m ≡ false → count m xs ≡ image names m us + count m extra)
      → ((m : Key) → is_among new' m ≡ false → count m ys ≡ image names m vs + count m extra')
      → ((m : Key) → count m extra + count m extra' ≡ count m whole)
      → (m : Key) → is_among (new ++ new') m ≡ false → count m (xs ++ ys) ≡ image names m (us ++ vs) + count m whole
  add_declares avoid new new' xs ys us vs extra extra' whole a b w m e =
      let p : count m xs ≡ image names m us + count m extra = a m (none_left new new' m e) in
      let q : count m ys ≡ image names m vs + count m extra' = b m (none_right new new' m e) in
      let s : count m (xs ++ ys) ≡ count m xs + count m ys = tally_append (λ x. bytes_eq x m) xs ys in
      let t : image names m (us ++ vs) ≡ image names m us + image names m vs =
      tally_append (λ x. bytes_eq (names.to x) m) us vs in
      let z : count m extra + count m extra' ≡ count m whole = w m in
      omega (arith, p, q, s, t, z)

  pub add_once : (avoid new new' : List Key) (xs ys us vs extra extra' : List Key) → Kept names avoid
      → AllAre names.mine extra → AllAre names.mine extra' → Own names us → Own names vs
      → ((m : Key) → is_among new m ≡ true → is_among avoid m ≡ false)
      → ((m : Key) → is_among new' m ≡ true → is_among (avoid ++ new) m ≡ false)
      → ((m : Key) → is_among new m ≡ false → count m xs ≡ image names m us + count m extra)
      → ((m : Key) → is_among new' m ≡ false → count m ys ≡ image names m vs + count m extra')
      → ((m : Key) → is_among new m ≡ true → count m xs ≤ 1) → ((m : Key) → is_among new' m ≡ true → count m ys ≤ 1)
      → (m : Key) → is_among (new ++ new') m ≡ true → count m (xs ++ ys) ≤ 1
  add_once avoid new new' xs ys us vs extra extra' k ax ax' ou ov ap1 ap2 a b oa ob m e =
      let s : count m (xs ++ ys) ≡ count m xs + count m ys = tally_append (λ x. bytes_eq x m) xs ys in
      elim (cases_Bool (is_among new m)) [
        | inl t ↦
            let nm = not_mine avoid m k (ap1 m t) in
            let fresh : is_among new' m ≡ false =
            elim (cases_Bool (is_among new' m))
            [ inl u ↦ absurd (true≢false (sym t ∙ none_right avoid new m (ap2 m u))) | inr u ↦ u ] in
            let q : count m ys ≡ image names m vs + count m extra' = b m fresh in
            let z : image names m vs ≡ 0 = image_mine names m vs ov nm in
            let y : count m extra' ≡ 0 = mine_count m extra' ax' nm in
            let o : count m xs ≤ 1 = oa m t in
            omega (arith, s, q, z, y, o)
        | inr f ↦
            let there : is_among new' m ≡ true =
            elim (among_parts new new' m e) [ inl u ↦ absurd (true≢false (sym u ∙ f)) | inr u ↦ u ] in
            let nm = not_mine avoid m k (none_left avoid new m (ap2 m there)) in
            let q : count m xs ≡ image names m us + count m extra = a m f in
            let z : image names m us ≡ 0 = image_mine names m us ou nm in
            let y : count m extra ≡ 0 = mine_count m extra ax nm in
            let o : count m ys ≤ 1 = ob m there in
            omega (arith, s, q, z, y, o)
      ]

  pub all_without : (xs gone : List Key) → AllAre names.mine xs → AllAre names.mine (without xs gone)
  all_without [] gone h = tt
  all_without (x ∷ xs) gone (p, h) = go (all_without xs gone h) (is_among gone x) where
    go : AllAre names.mine (without xs gone) → (b : Bool)
        → AllAre names.mine (cond b (without xs gone) (x ∷ without xs gone))
    go k true = k
    go k false = (p, k)

  pub count_image : (m : Key) (xs : List Key) → count m (map names.to xs) ≡ image names m xs
  count_image m [] = refl
  count_image m (x ∷ xs) = ap (λ k. one_if (bytes_eq (names.to x) m) + k) (count_image m xs)

module _ (def : Definition) where
  -- two parts, the second of which avoids the first one's new names
  pub record Both (avoid new new' : List Key) (given given' : Entities) : Type 0 where
    pub apart : (m : Key) → is_among (new ++ new') m ≡ true → is_among avoid m ≡ false
    pub entities : AreEntities def (mixed new given given')
    pub first : (h : Entities) → SameOn (new ++ new') (mixed new given given') h → SameOn new given h
    pub second : (h : Entities) → SameOn (new ++ new') (mixed new given given') h → SameOn new' given' h

  pub both : (avoid new new' : List Key) (given given' : Entities) → AreEntities def given → AreEntities def given'
      → ((m : Key) → is_among new m ≡ true → is_among avoid m ≡ false)
      → ((m : Key) → is_among new' m ≡ true → is_among (avoid ++ new) m ≡ false) → Both avoid new new' given given'
  both avoid new new' given given' p q a b = record {
    apart = λ m e. elim (among_parts new new' m e) [ inl t ↦ a m t | inr t ↦ none_left avoid new m (b m t) ];
    entities = mixed_entities def new given given' p q;
    first = λ h s m e. sym (ap (λ x. cond x (given m) (given' m)) e) ∙ s m (among_left new new' m e);
    second = λ h s m e. sym (ap (λ x. cond x (given m) (given' m)) (none_right avoid new m (b m e)))
        ∙ s m (among_right new new' m e);
  }

  module _ (Allowed : Type 0) where
    -- before a part stands no place
    pub no_place : (f : Fragment) (i : Item) (more : List Item) (kind : Kind) (ks ks' : List Kind)
        → FitsPlaces def Allowed f (i ∷ more) kind ks ks' → IsPlace f ≡ false
    no_place (hole p) i more kind ks ks' h = let e : i ∷ more ≡ [] = h.1 in cc
    no_place (ending l true) i more kind ks ks' h = let e : i ∷ more ≡ [] = h.1 in cc
    no_place (ending l false) i more kind ks ks' h = refl
    no_place (cell l e r) i more kind ks ks' h = refl
    no_place (operator o) i more kind ks ks' h = refl
    no_place (with_child f t) i more kind ks ks' h = refl
    no_place (with_name f n) i more kind ks ks' h = refl
    no_place (with_number f n) i more kind ks ks' h = refl
    no_place (with_text f n) i more kind ks ks' h = refl
    no_place anything i more kind ks ks' h = let e : i ∷ more ≡ [] = h.1 in cc
    no_place (observed f) i more kind ks ks' h = let e : i ∷ more ≡ [] = h.1 in cc

    -- only where places are allowed a region is unfinished
    pub allowed : (s : ℕ) (f : Fragment) (more : List Item) (kind : Kind) (ks ks' : List Kind)
        → FitsPlaces def Allowed f more kind ks ks' → unfinished_inside def s f ≡ true → Allowed
    allowed s (hole p) more kind ks ks' h u = h.0
    allowed s (ending l true) more kind ks ks' h u = h.0
    allowed s (ending l false) more kind ks ks' h u = absurd (true≢false (sym u))
    allowed s (cell l e r) more kind ks ks' (a, b, mid, k, found, he, hr) u =
        elim (or_cases (not (is_scope def e) && unfinished_inside def s e) (unfinished_inside def s r) u) [
          | inl p ↦ allowed s e [] (kinds.Phylum k.element) ks mid he
              (and_right (not (is_scope def e)) (unfinished_inside def s e) p)
          | inr p ↦ allowed s r [] (kinds.List l) mid ks' hr p
        ] where
          and_right : (a b : Bool) → (a && b) ≡ true → b ≡ true
          and_right true b e = e
          and_right false b e = absurd (true≢false (sym e))
    allowed s (operator o) more kind ks ks' h u = absurd (true≢false (sym u))
    allowed s (with_child f t) more kind ks ks' (k, mid, hf, ht) u =
        elim (or_cases (unfinished_inside def s f) (not (is_scope def t) && unfinished_inside def s t) u) [
          | inl p ↦ allowed s f (items.Slot k ∷ more) kind ks mid hf p
          | inr p ↦ allowed s t [] k mid ks' ht (and_right (not (is_scope def t)) (unfinished_inside def s t) p)
        ] where
          and_right : (a b : Bool) → (a && b) ≡ true → b ≡ true
          and_right true b e = e
          and_right false b e = absurd (true≢false (sym e))
    allowed s (with_name f n) more kind ks ks' (inl (sp, h)) u = allowed s f (items.Refers sp ∷ more) kind ks ks' h u
    allowed s (with_name f n) more kind ks ks' (inr (sp, h)) u = allowed s f (items.Declares sp ∷ more) kind ks ks' h u
    allowed s (with_number f n) more kind ks ks' (h, sm) u = allowed s f (items.Number ∷ more) kind ks ks' h u
    allowed s (with_text f n) more kind ks ks' (h, sm) u = allowed s f (items.Text ∷ more) kind ks ks' h u
    allowed s anything more kind ks ks' h u = absurd (true≢false (sym u))
    allowed s (observed f) more kind ks ks' h u = h.0
