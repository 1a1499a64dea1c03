-- Headers of parts made one, and of what passes outward: there are such headers.
use Rattle.std.proofs.Common.{◌≡◌, inl, inr, ℕ, suc, ◌<◌, ◌==◌, ◌||◌, ◌&&◌, Bool, true, false, cond, List, [], ◌∷◌, ◌++◌, map, Some, slice_get, refl, sym, ◌∙◌, ap, subst, arith}
use Rattle.std.specs.List.{AllByRecursion}
use Rattle.std.proofs.lemmas.Bool.{cases_order, or_cases, eqb-true}
use Rattle.std.proofs.Math.Bool.{or_assoc, or_self_left}
use Rattle.psg_grammar.specs.Keys.{Key, outward}
use Rattle.psg_scope.specs.Headers.{AreAscending, ArePlaces, has_space, IsHeader, IsOrdered, IsUnion, PassesOutward, key_of, keys}
use Rattle.psg_scope.specs.Merging.{merge, clashes}
use Rattle.psg_scope.specs.declared.header.Header.{Header}
use Rattle.psg_scope.specs.declared.header.NameCol.{NameCol}
use Rattle.psg_scope.proofs.HeaderLaws.{closed, joined, kept-rising, kept-undeclared, kept_cols, outward_keys, union_keys}
use Rattle.psg_scope.proofs.KeyLists.{or-swap}
use Rattle.psg_scope.proofs.MergeLaws.{clashes-common, merge-declared, merge-rising}
use Rattle.psg_scope.proofs.SpaceLaws.{all-has, all-of}

-- ---- spaces

above_all : (x y : ℕ) (ys : List ℕ) → x < y → AllByRecursion (λ t. y < t) ys → AllByRecursion (λ t. x < t) ys
above_all x y [] l h = tt
above_all x y (z ∷ zs) l h = let more = h.0 in (omega (arith, l, more), above_all x y zs l h.1)

-- one more space
put_space : (x : ℕ) (xs : List ℕ) → AreAscending xs
    → (ys : List ℕ) × AreAscending ys × ((s : ℕ) → has_space ys s ≡ ((x == s) || has_space xs s))
put_space x [] up = (x ∷ [], (tt, tt), λ s. refl)
put_space x (y ∷ ys) up = elim (cases_order x y) [
  | inl same ↦ (
    y ∷ ys,
    up,
    λ s. sym (or_self_left (y == s) (has_space ys s)) ∙ ap (λ z. (z == s) || ((y == s) || has_space ys s)) (sym same),
  )
  | inr order ↦ elim order [
    | inl less ↦ (x ∷ y ∷ ys, ((less, above_all x y ys less up.0), up), λ s. refl)
    | inr more ↦
        let (zs, rise, has) = put_space x ys up.1 in (
          y ∷ zs,
          (
            all-of (λ t. y < t) zs (λ t e. elim (or_cases (x == t) (has_space ys t) (sym (has t) ∙ e)) [
              | inl here ↦ subst (λ z. y < z) (eqb-true x t here) more
              | inr there ↦ all-has (λ z. y < z) ys t up.0 there
            ]),
            rise,
          ),
          λ s. ap (λ b. (y == s) || b) (has s) ∙ or-swap (y == s) (x == s) (has_space ys s),
        )
  ]
]

some_union : (xs ys : List ℕ) → AreAscending ys
    → (all : List ℕ) × AreAscending all × ((s : ℕ) → has_space all s ≡ (has_space xs s || has_space ys s))
some_union [] ys up = (ys, up, λ s. refl)
some_union (x ∷ xs) ys up =
    let (zs, rise, has) = some_union xs ys up in
    let (all, rises, are) = put_space x zs rise in (
      all,
      rises,
      λ s. are s ∙ ap (λ b. (x == s) || b) (has s) ∙ sym (or_assoc (x == s) (has_space xs s)
          (has_space ys s)),
    )

-- those of a list that pass a test
pub some_filtered : (test : ℕ → Bool) (xs : List ℕ)
    → (all : List ℕ) × AreAscending all × ((s : ℕ) → has_space all s ≡ (has_space xs s && test s))
some_filtered test [] = ([], tt, λ s. refl)
some_filtered test (x ∷ xs) = by (test x) refl (some_filtered test xs) where
  taken : (s : ℕ) (b h : Bool) → test x ≡ true → (x == s) ≡ b → (b || (h && test s)) ≡ ((b || h) && test s)
  taken s true h t e = sym (ap test (sym (eqb-true x s e)) ∙ t)
  taken s false h t e = refl

  left : (s : ℕ) (b h : Bool) → test x ≡ false → (x == s) ≡ b → (h && test s) ≡ ((b || h) && test s)
  left s true true t e = refl
  left s true false t e = sym (ap test (sym (eqb-true x s e)) ∙ t)
  left s false h t e = refl

  by : (b : Bool) → test x ≡ b
      → ((all : List ℕ) × AreAscending all × ((s : ℕ) → has_space all s ≡ (has_space xs s && test s)))
      → (all : List ℕ) × AreAscending all × ((s : ℕ) → has_space all s ≡ (has_space (x ∷ xs) s && test s))
  by true t (zs, rise, has) =
      let (all, rises, are) = put_space x zs rise in
      (all, rises, λ s. are s ∙ ap (λ b. (x == s) || b) (has s) ∙ taken s (x == s) (has_space xs s) t refl)
  by false t (zs, rise, has) = (zs, rise, λ s. has s ∙ left s (x == s) (has_space xs s) t refl)

-- ---- two parts of a region

-- whatever the two regions are, the header is that of both
abbrev pub JoinsRegions : Header → Header → Header → Type 0
JoinsRegions left right joint = (names others declared others_declared : List Key) (unfinished others_unfinished : ℕ
    → Bool)
    → IsHeader names declared unfinished left → IsHeader others others_declared others_unfinished right
    → IsHeader (names ++ others) (declared ++ others_declared) (λ s. unfinished s || others_unfinished s) joint

pub record Joint (left right : Header) : Type 0 where
  pub header : Header
  pub merged : header.names ≡ merge left.names right.names
  pub union : IsUnion left right header
  pub ordered : IsOrdered header
  pub region : JoinsRegions left right header

pub some_joint : (left right : Header) → IsOrdered left → IsOrdered right → Joint left right
some_joint left right lo ro =
    let (spaces, up, has) = some_union left.unfinished right.unfinished ro.spaces_rise in
    let h : Header = record {
      names = merge left.names right.names;
      unfinished = spaces;
      twice = (left.twice || right.twice) || clashes left.names right.names;
    } in
    record {
      header = h;
      merged = refl;
      union = record {
        keys_are = union_keys left.names right.names lo.keys_rise ro.keys_rise;
        declares = λ k. merge-declared left.names right.names k;
        spaces = has;
        spaces_rise = up;
        repeats = ap (λ b. (left.twice || right.twice) || b) (clashes-common left.names right.names lo.keys_rise
            ro.keys_rise);
      };
      ordered = record { keys_rise = merge-rising left.names right.names lo.keys_rise ro.keys_rise; spaces_rise = up };
      region = λ n m d e u v a b. joined a b refl has up refl;
    }

-- ---- what passes outward

abbrev pub ClosesRegion : Header → Header → Type 0
ClosesRegion inside outside = (names declared : List Key) (unfinished : ℕ → Bool)
    → IsHeader names declared unfinished inside
    → IsHeader (outward unfinished declared names) [] (λ _. false) outside

pub record Outer (inside : Header) : Type 0 where
  pub header : Header
  pub region : ClosesRegion inside header
  pub passes : PassesOutward inside header
  pub ordered : IsOrdered header
  pub kept : List ℕ
  pub places : ArePlaces inside.names kept (keys header.names)

shifted : (k : Key) (ks : List Key) (ps : List ℕ)
    → map (λ p. slice_get (k ∷ ks) p) (map suc ps) ≡ map (λ p. slice_get ks p) ps
shifted k ks [] = refl
shifted k ks (p ∷ ps) = ap (λ xs. slice_get ks p ∷ xs) (shifted k ks ps)

-- the keys that are kept have places
some_places : (u : ℕ → Bool) (cols : List NameCol) → (ps : List ℕ) × ArePlaces cols ps (keys (kept_cols u cols))
some_places u [] = ([], refl)
some_places u (c ∷ cs) =
    let (ps, are) = some_places u cs in
    let more : map (λ p. slice_get (keys (c ∷ cs)) p) (map suc ps) ≡ map Some (keys (kept_cols u cs)) =
    shifted (key_of c) (keys cs) ps ∙ are in
    by (u c.space || c.declared) ps more
  where
    by : (b : Bool) (ps : List ℕ)
        → map (λ p. slice_get (keys (c ∷ cs)) p) (map suc ps) ≡ map Some (keys (kept_cols u cs))
        → (qs : List ℕ) × ArePlaces (c ∷ cs) qs (keys (cond b (kept_cols u cs) (c ∷ kept_cols u cs)))
    by true ps more = (map suc ps, more)
    by false ps more = (0 ∷ map suc ps, ap (λ xs. Some (key_of c) ∷ xs) more)

pub some_outer : (inside : Header) → IsOrdered inside → Outer inside
some_outer inside order =
    let u : ℕ → Bool = has_space inside.unfinished in
    let (kept, at) = some_places (has_space inside.unfinished) inside.names in
    record {
      header = record { names = kept_cols u inside.names; unfinished = []; twice = false };
      region = λ n d v is. closed is refl refl refl;
      passes = record {
        keys_are = outward_keys inside.names u order.keys_rise;
        undeclared = λ k. kept-undeclared k inside.names u;
        finished = refl;
        once = refl;
      };
      ordered = record { keys_rise = kept-rising inside.names u order.keys_rise; spaces_rise = tt };
      kept = kept;
      places = at;
    }
