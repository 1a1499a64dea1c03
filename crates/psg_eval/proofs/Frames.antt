-- The judgement depends on the entities of a node's own keys alone.
use Rattle.std.proofs.Common.{◌≡◌, inl, inr, ℕ, Bool, true, false, cond, ◌||◌, ◌&&◌, not, List, [], ◌∷◌, ◌++◌, refl, ap, ap₂, sym, ◌∙◌, subst}
use Rattle.std.proofs.lemmas.Bool.{cases_Bool, or_right, or_parts, or_left}
use Rattle.psg_terms.specs.Names.{is_among}
use Rattle.psg_terms.specs.Terms.{Term}
use Rattle.psg_terms.specs.Signature.{HasSort}
use Rattle.psg_terms.specs.Instances.{IsGround}
use Rattle.psg_terms.proofs.DeclareLaws.{is_among-append}
use Rattle.psg_grammar.specs.declared.types.Definition.{Definition}
use Rattle.psg_grammar.specs.Fragments.{Fragment, hole, ending, cell, operator, with_child, with_name, with_number, with_text, anything, observed}
use Rattle.psg_grammar.specs.Keys.{Key, space_of, outward}
use Rattle.psg_grammar.specs.Lookups.{is_scope, key_at}
use Rattle.psg_grammar.specs.Regions.{declared_inside, unfinished_inside, names_inside, passing}
use Rattle.psg_grammar.specs.Legal.{Entities, AreEntities, Within}
use Rattle.psg_grammar.specs.Open.{Choice, Holds, Agrees, AgreeOpen}
use Rattle.psg_grammar.proofs.MixedEntities.{SameOn}
use Rattle.psg_scope.proofs.KeyLists.{key_refl}
use Rattle.psg_scope.proofs.HeaderLaws.{outward-among}

pub among_left : (xs ys : List Key) (n : Key) → is_among xs n ≡ true → is_among (xs ++ ys) n ≡ true
among_left xs ys n e = is_among-append xs ys n ∙ or_left (is_among xs n) (is_among ys n) e

pub among_right : (xs ys : List Key) (n : Key) → is_among ys n ≡ true → is_among (xs ++ ys) n ≡ true
among_right xs ys n e = is_among-append xs ys n ∙ or_right (is_among xs n) (is_among ys n) e

pub among_one : (n : Key) → is_among (n ∷ []) n ≡ true
among_one n = ap (λ b. b || false) (key_refl n)

passes_by : (a b c : Bool) → a ≡ true → b ≡ false → c ≡ false → (a && not (b || c)) ≡ true
passes_by true false false i j k = refl
passes_by true false true i j k = sym k
passes_by true true c i j k = sym j
passes_by false b c i j k = i

pub among_outward : (unfinished : ℕ → Bool) (declared xs : List Key) (n : Key) → is_among xs n ≡ true → unfinished (space_of n) ≡ false → is_among declared n ≡ false
    → is_among (outward unfinished declared xs) n ≡ true
among_outward unfinished declared xs n i j k = outward-among n xs declared unfinished ∙ passes_by (is_among xs n) (unfinished (space_of n)) (is_among declared n) i j k

module _ (def : Definition) where
  -- Entities inside a child for other entities outside it, where these are the same for the names that pass outward.
  pub record Moved (t : Fragment) (h inner : Entities) : Type 0 where
    pub inside : Entities
    pub entities : AreEntities def inside
    pub agrees : Agrees def t h inside
    pub same : SameOn (names_inside def t) inner inside

  -- inside, the declared keys and those of unfinished spaces are as within; the others as outside
  abbrev theirs : (ℕ → Bool) → List Key → Entities → Entities → Entities
  theirs unfinished declared inner h n = cond (unfinished (space_of n) || is_among declared n) (inner n) (h n)

  theirs_entities : (unfinished : ℕ → Bool) (declared : List Key) (g h : Entities) → AreEntities def g → AreEntities def h → AreEntities def (theirs unfinished declared g h)
  theirs_entities unfinished declared g h p q = record {
    ground = λ n. elim (cases_Bool (unfinished (space_of n) || is_among declared n)) [
      | inl e ↦ subst (λ b. IsGround (cond b (g n) (h n))) (sym e) (p.ground n)
      | inr e ↦ subst (λ b. IsGround (cond b (g n) (h n))) (sym e) (q.ground n)
    ];
    sorted = λ n s at. elim (cases_Bool (unfinished (space_of n) || is_among declared n)) [
      | inl e ↦ subst (λ b. HasSort def.signature (cond b (g n) (h n)) s.sort.0) (sym e) (p.sorted n s at)
      | inr e ↦ subst (λ b. HasSort def.signature (cond b (g n) (h n)) s.sort.0) (sym e) (q.sorted n s at)
    ];
  }

  moved_by : (t : Fragment) (scope : Bool) (unfinished : ℕ → Bool) (g h inner : Entities) → AreEntities def h → AreEntities def inner
      → Within scope (AgreeOpen unfinished (declared_inside def t)) g inner → SameOn (passing scope unfinished (declared_inside def t) (names_inside def t)) g h
      → (inside : Entities) × AreEntities def inside × Within scope (AgreeOpen unfinished (declared_inside def t)) h inside × SameOn (names_inside def t) inner inside
  moved_by t false unfinished g h inner eh ei agr same = (h, eh, refl, λ n e. ap (λ k. k n) agr ∙ same n e)
  moved_by t true unfinished g h inner eh ei agr same = (
    theirs unfinished (declared_inside def t) inner h,
    theirs_entities unfinished (declared_inside def t) inner h ei eh,
    (λ n u e. ap (λ b. cond b (inner n) (h n)) (ap₂ (λ a b. a || b) u e)),
    λ n e. elim (cases_Bool (unfinished (space_of n) || is_among (declared_inside def t) n)) [
      | inl d ↦ sym (ap (λ b. cond b (inner n) (h n)) d)
      | inr d ↦
          let (u, k) = or_parts (unfinished (space_of n)) (is_among (declared_inside def t) n) d in
          agr n u k ∙ same n (among_outward unfinished (declared_inside def t) (names_inside def t) n e u k) ∙ sym (ap (λ b. cond b (inner n) (h n)) d)
    ],
  )

  pub moved : (t : Fragment) (g h inner : Entities) → AreEntities def h → AreEntities def inner → Agrees def t g inner
      → SameOn (passing (is_scope def t) (λ s. unfinished_inside def s t) (declared_inside def t) (names_inside def t)) g h → Moved t h inner
  moved t g h inner eh ei agr same =
      let (inside, ents, agrees, on) = moved_by t (is_scope def t) (λ s. unfinished_inside def s t) g h inner eh ei agr same in
      record { inside = inside; entities = ents; agrees = agrees; same = on }

  -- what holds under some entities holds under others that are the same for the names inside
  pub holds_frame : (f : Fragment) (c : Choice f) (g h : Entities) (columns : List Term) (v : Term) (before after : List Term) → AreEntities def h → SameOn (names_inside def f) g h
      → Holds def g f c columns v before after → Holds def h f c columns v before after
  holds_frame (hole p) c g h columns v before after eh same it = it
  holds_frame (ending l true) c g h columns v before after eh same it = it
  holds_frame (ending l false) c g h columns v before after eh same it = it
  holds_frame (cell l e r) c g h columns v before after eh same (none, first, others, mid, inner, row, ei, agr, he, hr) =
      let outward = passing (is_scope def e) (λ s. unfinished_inside def s e) (declared_inside def e) (names_inside def e) in
      let m = moved e g h inner eh ei agr (λ n a. same n (among_left outward (names_inside def r) n a)) in (
        none,
        first,
        others,
        mid,
        m.inside,
        row,
        m.entities,
        m.agrees,
        holds_frame e c.1 inner m.inside [] first before mid m.entities m.same he,
        holds_frame r c.2 g h [] others mid after eh (λ n a. same n (among_right outward (names_inside def r) n a)) hr,
      )
  holds_frame (operator o) c g h columns v before after eh same it = it
  holds_frame (with_child f t) c g h columns v before after eh same (u, mid, inner, hf, ei, agr, ht) =
      let outward = passing (is_scope def t) (λ s. unfinished_inside def s t) (declared_inside def t) (names_inside def t) in
      let m = moved t g h inner eh ei agr (λ n a. same n (among_right (names_inside def f) outward n a)) in (
        u,
        mid,
        m.inside,
        holds_frame f c.0 g h (u ∷ columns) v before mid eh (λ n a. same n (among_left (names_inside def f) outward n a)) hf,
        m.entities,
        m.agrees,
        holds_frame t c.1 inner m.inside [] u mid after m.entities m.same ht,
      )
  holds_frame (with_name f x) c g h columns v before after eh same it =
      let here : g (key_at def f x) ≡ h (key_at def f x) = same (key_at def f x) (among_right (names_inside def f) (key_at def f x ∷ []) (key_at def f x) (among_one (key_at def f x))) in
      subst (λ y. Holds def h f c (y ∷ columns) v before after) here (holds_frame f c g h (g (key_at def f x) ∷ columns) v before after eh (λ n a. same n (among_left (names_inside def f) (key_at def f x ∷ []) n a)) it)
  holds_frame (with_number f x) c g h columns v before after eh same it = holds_frame f c g h columns v before after eh same it
  holds_frame (with_text f x) c g h columns v before after eh same it = holds_frame f c g h columns v before after eh same it
  holds_frame anything c g h columns v before after eh same it = it
  holds_frame (observed f) c g h columns v before after eh same (mid, e, it) = (mid, e, holds_frame f c g h columns v mid after eh same it)
