-- Children of what grows, with the keys that a scope operator ends.
use Rattle.std.proofs.Common.{◌≡◌, inl, inr, ℕ, ◌+◌, ◌≤◌, Bool, true, false, cond, ◌&&◌, not, List, [], map, slice_get, refl, ap, sym, ◌∙◌, subst, true≢false, arith}
use Rattle.std.proofs.lemmas.Bool.{cases_Bool}
use Rattle.psg_terms.specs.Terms.{Term}
use Rattle.psg_terms.specs.Signature.{HasSort}
use Rattle.psg_terms.specs.Instances.{IsGround}
use Rattle.psg_terms.specs.Names.{is_among}
use Rattle.psg_grammar.specs.declared.types.Kind.{Kind}
use Rattle.psg_grammar.specs.declared.types.Definition.{Definition}
use Rattle.psg_grammar.specs.Fragments.{Fragment}
use Rattle.psg_grammar.specs.Keys.{Key, space_of}
use Rattle.psg_grammar.specs.Lookups.{is_scope}
use Rattle.psg_grammar.specs.Regions.{declared_inside, unfinished_inside, AreDistinct}
use Rattle.psg_grammar.specs.Legal.{Entities, AreEntities, Within, AgreeOutside}
use Rattle.psg_grammar.specs.Open.{Agrees, AgreeOpen}
use Rattle.psg_completions.proofs.NameLaws.{without, only}
use Rattle.psg_completions.proofs.Counting.{AllAre, none_are, all_only, all_kept, count_only, none_among, among_none, once_of, of_once, image, image_below, image_none, Renaming}
use Rattle.psg_completions.specs.Counts.{count}
use Rattle.psg_completions.proofs.Growth.{adds, Room, Kept, CanGrow, own_declared, Node, Child, Grows, GrowsBeside, Supplied}
use Rattle.psg_completions.proofs.GrowthCounts.{count_without, mine_count, not_mine, all_without, count_image}

module _ (def : Definition) (names : Renaming) (Allowed : Type 0) (stock : Supplied def names Allowed) where
  -- entities inside a scope operator: those of the judgement for the names that are mine, and otherwise those outside
  abbrev pub lift : Entities → Entities → Entities
  lift inner h m = cond (names.mine m) (inner (names.back m)) (h m)

  pub lift_entities : (inner h : Entities) → AreEntities def inner → AreEntities def h → AreEntities def (lift inner h)
  lift_entities inner h p q = record {
    ground = λ m. elim (cases_Bool (names.mine m)) [
      | inl e ↦ subst (λ b. IsGround (cond b (inner (names.back m)) (h m))) (sym e) (p.ground (names.back m))
      | inr e ↦ subst (λ b. IsGround (cond b (inner (names.back m)) (h m))) (sym e) (q.ground m)
    ];
    sorted = λ m s at. elim (cases_Bool (names.mine m)) [
      | inl e ↦ subst (λ b. HasSort def.signature (cond b (inner (names.back m)) (h m)) s.sort.0) (sym e)
          (p.sorted (names.back m) s (ap (slice_get def.spaces) (stock.spaces m e) ∙ at))
      | inr e ↦ subst (λ b. HasSort def.signature (cond b (inner (names.back m)) (h m)) s.sort.0) (sym e)
          (q.sorted m s at)
    ];
  }

  -- a scope operator, in whose region these names are declared besides
  pub scope_child : (t : Fragment) (g inner : Entities) (kind : Kind) (v : Term) (before after : List Term)
      (avoid extra : List Key) → is_scope def t ≡ true → AreEntities def inner → Kept names avoid
      → ((m : Key) → image names m (declared_inside def t) + count m extra ≤ 1)
      → ((m : Key) → names.mine m ≡ true → image names m (declared_inside def t) + count m extra ≡ 0
      → inner (names.back m) ≡ g (names.back m))
      → (n : Node def names Allowed t inner [] kind [] v before after avoid extra)
      → is_scope def n.tree ≡ is_scope def t → Child def names Allowed t g kind v before after avoid []
  scope_child t g inner kind v before after avoid extra scope ei kept few agree n top = record {
    tree = n.tree;
    grown = n.grown;
    fits = n.fits;
    complete = n.complete;
    plain = n.plain;
    new = n.new;
    apart = n.apart;
    given = n.given;
    entities = n.entities;
    below = n.below;
    separate = λ e. of_once (declared_inside def n.tree) (λ m. elim (cases_Bool (is_among n.new m)) [
      | inl y ↦ n.once m y
      | inr y ↦ let a : count m (declared_inside def n.tree) ≡ image names m (declared_inside def t) + count m extra =
          n.declares m y in let b : image names m (declared_inside def t) + count m extra ≤ 1 = few m in
          omega (arith, a, b)
    ]);
    declares = λ m e.
        let a : count m (adds def n.tree) ≡ 0 =
        ap (λ b. count m (cond b [] (declared_inside def n.tree))) (top ∙ scope) in
        let b : image names m (adds def t) ≡ 0 = ap (λ b. image names m (cond b [] (declared_inside def t))) scope in
        omega (arith, a, b);
    once =
        λ m e. (let a : count m (adds def n.tree) ≡ 0 =
        ap (λ b. count m (cond b [] (declared_inside def n.tree))) (top ∙ scope) in omega (arith, a));
    legal = λ h eh li same.
        let hi = lift inner h in
        let ehi = lift_entities inner h ei eh in
        record {
          inner = lift inner h;
          entities = ehi;
          agree =
              subst (λ b. Within b (AgreeOutside (declared_inside def n.tree)) h (lift inner h)) (sym (top ∙ scope))
              (λ m none. elim (cases_Bool (names.mine m)) [
                | inl y ↦
                    let fresh : is_among n.new m ≡ false =
                    elim (cases_Bool (is_among n.new m))
                    [ inl w ↦ absurd (true≢false (sym y ∙ not_mine names avoid m kept (n.apart m w))) | inr w ↦ w ] in
                    let a : count m (declared_inside def n.tree) ≡ image names m (declared_inside def t) + count m extra =
                    n.declares m fresh in
                    let b : count m (declared_inside def n.tree) ≡ 0 = none_among m (declared_inside def n.tree) none in
                    let z : image names m (declared_inside def t) + count m extra ≡ 0 = omega (arith, a, b) in
                    ap (λ b. cond b (inner (names.back m)) (h m)) y ∙ agree m y z ∙ sym (li m y)
                | inr y ↦ ap (λ b. cond b (inner (names.back m)) (h m)) y
              ]);
          legal =
              n.legal (lift inner h) ehi (λ m y. ap (λ b. cond b (inner (names.back m)) (h m)) y)
              (λ m y. same m y
              ∙ sym (ap (λ b. cond b (inner (names.back m)) (h m)) (not_mine names avoid m kept (n.apart m y))));
        };
  }

  pub child_node : (t : Fragment) (g inner : Entities) (kind : Kind) (v : Term) (before after : List Term)
      → CanGrow def names t → AreDistinct (is_scope def t) (declared_inside def t) → AreEntities def inner
      → Agrees def t g inner
      → ((s : ℕ) → unfinished_inside def s t ≡ true → Allowed)
      → Grows def names Allowed t inner [] kind [] v before after
      → ((avoid extra : List Key) (n : Node def names Allowed t inner [] kind [] v before after avoid extra)
      → is_scope def n.tree ≡ is_scope def t) → GrowsBeside def names Allowed t g kind v before after
  child_node t g inner kind v before after named distinct ei agr al grows top avoid extra kept am room =
      go (is_scope def t) refl where
        go : (s : Bool) → is_scope def t ≡ s → Child def names Allowed t g kind v before after avoid extra
        go false e =
            let eq : inner ≡ g =
            subst (λ b. Within b (AgreeOpen (λ s. unfinished_inside def s t) (declared_inside def t)) g inner) e agr in
            let room' : Room def t extra =
            subst (λ b. AllAre (λ k. not b && unfinished_inside def (space_of k) t) extra) e room in
            let n = grows avoid extra kept am room' in
            let plain : adds def n.tree ≡ declared_inside def n.tree =
            ap (λ b. cond b [] (declared_inside def n.tree)) (top avoid extra n ∙ e) in
            let plain' : adds def t ≡ declared_inside def t = ap (λ b. cond b [] (declared_inside def t)) e in
            record {
              tree = n.tree;
              grown = n.grown;
              fits = n.fits;
              complete = n.complete;
              plain = n.plain;
              new = n.new;
              apart = n.apart;
              given = n.given;
              entities = n.entities;
              below = n.below;
              separate = λ x. absurd (true≢false (sym x ∙ top avoid extra n ∙ e));
              declares = λ m x. ap (count m) plain ∙ n.declares m x
                  ∙ ap (λ k. k + count m extra) (ap (image names m) (sym plain'));
              once = λ m x. subst (λ k. k ≤ 1) (sym (ap (count m) plain)) (n.once m x);
              legal = λ h eh li same. record {
                inner = h;
                entities = eh;
                agree =
                    subst (λ b. Within b (AgreeOutside (declared_inside def n.tree)) h h) (sym (top avoid extra n ∙ e))
                    refl;
                legal = n.legal h eh (λ m y. li m y ∙ ap (λ i. i (names.back m)) (sym eq)) same;
              };
            }
        go true e =
            let gone : extra ≡ [] =
            none_are (λ k. not true && unfinished_inside def (space_of k) t) extra (λ k. refl)
            (subst (λ b. AllAre (λ k. not b && unfinished_inside def (space_of k) t) extra) e room) in
            let gaps = without stock.all (map names.to (declared_inside def t)) in
            let n =
            grows avoid (only (λ k. unfinished_inside def (space_of k) t)
            (without stock.all (map names.to (declared_inside def t)))) kept
            (all_kept (λ k. unfinished_inside def (space_of k) t) names.mine
            (without stock.all (map names.to (declared_inside def t)))
            (all_without names stock.all (map names.to (declared_inside def t)) stock.all_mine))
            (all_only (λ k. unfinished_inside def (space_of k) t)
            (without stock.all (map names.to (declared_inside def t)))) in
            subst (λ x. Child def names Allowed t g kind v before after avoid x) (sym gone)
            (scope_child t g inner kind v before after avoid
            (only (λ k. unfinished_inside def (space_of k) t)
            (without stock.all (map names.to (declared_inside def t)))) e ei kept
            (λ m. sums m) (λ m y z. agrees m y z) n
            (top avoid (only (λ k. unfinished_inside def (space_of k) t)
            (without stock.all (map names.to (declared_inside def t)))) n)) where
              few : (m : Key) → image names m (declared_inside def t) ≤ 1
              few m =
                  let a : image names m (declared_inside def t) ≤ count (names.back m) (declared_inside def t) =
                  image_below names m (declared_inside def t) (own_declared def names t named) in
                  let b : count (names.back m) (declared_inside def t) ≤ 1 =
                  once_of (names.back m) (declared_inside def t) (distinct e) in
                  omega (arith, a, b)

              all_once : Allowed → (m : Key) → count m stock.all ≤ 1
              all_once allow m = elim (cases_Bool (names.mine m)) [
                | inl y ↦ let o : count m stock.all ≡ 1 = stock.listed allow m y in omega (arith, o)
                | inr y ↦ let o : count m stock.all ≡ 0 = mine_count names m stock.all stock.all_mine y in omega (arith, o)
              ]

              here : (m : Key)
                  → count m (only (λ k. unfinished_inside def (space_of k) t)
                  (without stock.all (map names.to (declared_inside def t)))) ≡ cond (unfinished_inside def (space_of m) t)
                  (count m (without stock.all (map names.to (declared_inside def t)))) 0
              here m =
                  count_only m (λ k. unfinished_inside def (space_of k) t)
                  (without stock.all (map names.to (declared_inside def t)))

              sums : (m : Key) → image names m (declared_inside def t) + count m
                  (only (λ k. unfinished_inside def (space_of k) t)
                  (without stock.all (map names.to (declared_inside def t)))) ≤ 1
              sums m =
                  let a : image names m (declared_inside def t) ≤ 1 = few m in
                  let x : count m (only (λ k. unfinished_inside def (space_of k) t)
                  (without stock.all (map names.to (declared_inside def t)))) ≡ cond
                  (unfinished_inside def (space_of m) t)
                  (count m (without stock.all (map names.to (declared_inside def t)))) 0 = here m in
                  elim (cases_Bool (unfinished_inside def (space_of m) t)) [
                    | inr u ↦ let w : cond (unfinished_inside def (space_of m) t)
                        (count m (without stock.all (map names.to (declared_inside def t)))) 0 ≡ 0 =
                        ap (λ b. cond b (count m (without stock.all (map names.to (declared_inside def t)))) 0) u in
                        omega (arith, a, x, w)
                    | inl u ↦
                        let allow = al (space_of m) u in
                        let w : cond (unfinished_inside def (space_of m) t)
                        (count m (without stock.all (map names.to (declared_inside def t)))) 0 ≡ count m
                        (without stock.all (map names.to (declared_inside def t))) =
                        ap (λ b. cond b (count m (without stock.all (map names.to (declared_inside def t)))) 0) u in
                        let w' : count m (without stock.all (map names.to (declared_inside def t))) ≡ cond
                        (is_among (map names.to (declared_inside def t)) m) 0 (count m stock.all) =
                        count_without m stock.all (map names.to (declared_inside def t)) in
                        elim (cases_Bool (is_among (map names.to (declared_inside def t)) m)) [
                          | inl y ↦ let b : cond (is_among (map names.to (declared_inside def t)) m) 0
                              (count m stock.all) ≡ 0 = ap (λ b. cond b 0 (count m stock.all)) y in
                              omega (arith, a, x, w, w', b)
                          | inr y ↦
                              let b : cond (is_among (map names.to (declared_inside def t)) m) 0
                              (count m stock.all) ≡ count m stock.all = ap (λ b. cond b 0 (count m stock.all)) y in
                              let c : image names m (declared_inside def t) ≡ 0 =
                              sym (count_image names m (declared_inside def t))
                              ∙ none_among m (map names.to (declared_inside def t)) y in
                              let d : count m stock.all ≤ 1 = all_once allow m in
                              omega (arith, x, w, w', b, c, d)
                        ]
                  ]

              agrees : (m : Key) → names.mine m ≡ true
                  → image names m (declared_inside def t) + count m
                  (only (λ k. unfinished_inside def (space_of k) t)
                  (without stock.all (map names.to (declared_inside def t)))) ≡ 0 → inner (names.back m) ≡ g (names.back m)
              agrees m y z =
                  let c : image names m (declared_inside def t) ≡ 0 = omega (arith, z) in
                  let d : count m (only (λ k. unfinished_inside def (space_of k) t)
                  (without stock.all (map names.to (declared_inside def t)))) ≡ 0 = omega (arith, z) in
                  elim (cases_Bool (unfinished_inside def (space_of m) t)) [
                    | inr u ↦
                        let none : is_among (declared_inside def t) (names.back m) ≡ false =
                        image_none names m (declared_inside def t) (stock.over m y) c in
                        let open_agree : AgreeOpen (λ s. unfinished_inside def s t) (declared_inside def t) g inner =
                        subst (λ b. Within b (AgreeOpen (λ s. unfinished_inside def s t) (declared_inside def t)) g
                        inner) e agr in
                        open_agree (names.back m) (ap (λ s. unfinished_inside def s t) (stock.spaces m y) ∙ u) none
                    | inl u ↦
                        let x : count m (only (λ k. unfinished_inside def (space_of k) t)
                        (without stock.all (map names.to (declared_inside def t)))) ≡ cond
                        (unfinished_inside def (space_of m) t)
                        (count m (without stock.all (map names.to (declared_inside def t)))) 0 = here m in
                        let w : cond (unfinished_inside def (space_of m) t)
                        (count m (without stock.all (map names.to (declared_inside def t)))) 0 ≡ count m
                        (without stock.all (map names.to (declared_inside def t))) =
                        ap (λ b. cond b (count m (without stock.all (map names.to (declared_inside def t)))) 0) u in
                        let w' : count m (without stock.all (map names.to (declared_inside def t))) ≡ cond
                        (is_among (map names.to (declared_inside def t)) m) 0 (count m stock.all) =
                        count_without m stock.all (map names.to (declared_inside def t)) in
                        let f : is_among (map names.to (declared_inside def t)) m ≡ false =
                        among_none m (map names.to (declared_inside def t))
                        (count_image names m (declared_inside def t) ∙ c) in
                        let b : cond (is_among (map names.to (declared_inside def t)) m) 0 (count m stock.all) ≡ count m
                        stock.all = ap (λ b. cond b 0 (count m stock.all)) f in
                        let o : count m stock.all ≡ 1 = stock.listed (al (space_of m) u) m y in
                        absurd (let k : 1 ≤ 0 = omega (arith, x, w, w', b, o, d) in omega (arith, k))
                  ]
