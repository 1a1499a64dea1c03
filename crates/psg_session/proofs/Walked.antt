-- The columns of keys that two lists make one, and of an operator's own keys.
use Rattle.std.proofs.Common.{◌≡◌, ℕ, suc, false, ◌+◌, ◌-◌, ◌∷◌, List, [], ◌++◌, length, refl, sym, ◌∙◌, ap, subst, arith}
use Rattle.std.specs.declared.cmp.Ordering.{Ordering}
use Rattle.std.specs.declared.cmp.Ordering.TheVariants.{Less, Equal, Greater}
use Rattle.std.proofs.lemmas.List.{length-map}
use Rattle.psg_grammar.specs.Keys.{Key, key_cmp}
use Rattle.psg_unify.specs.Pairs.{Pair as Columns}
use Rattle.psg_scope.specs.Headers.{both, declared_keys, IsHeader, IsOrdered, key_of, keys}
use Rattle.psg_scope.specs.Merging.{by_order, merge, merge_with}
use Rattle.psg_scope.specs.declared.header.Header.{Header}
use Rattle.psg_scope.specs.declared.header.NameCol.{NameCol}
use Rattle.psg_scope.proofs.HeaderLaws.{of_halves, of_none, of_single}
use Rattle.psg_scope.proofs.KeyOrder.{key_exact}
use Rattle.psg_eval.specs.Own.{IsOwn, own_none, own_one, own_two}
use Rattle.psg_eval.specs.Walks.{IsLayout, IsWalk, run, walk_both, walk_left, walk_none, walk_right}
use Rattle.psg_eval.proofs.Walking.{run-length}
use Rattle.psg_session.proofs.Heads.{some_joint}

-- ---- two lists made one

module _ (offset : ℕ) where
  abbrev pub Walk : List NameCol → List NameCol → List NameCol → List ℕ → List ℕ → Type 0
  Walk left right made A B =
      (pairs : List Columns) × (keep : List ℕ) × IsWalk offset A B (keys left) (keys right) (keys made) pairs keep

  walk_rights : (right : List NameCol) (B : List ℕ) → length B ≡ length right → Walk [] right right [] B
  walk_rights [] [] e = ([], [], walk_none)
  walk_rights (y ∷ ys) (b ∷ B) e =
      let (pairs, keep, w) = walk_rights ys B (omega (arith, e)) in (
        pairs,
        (offset + b) ∷ keep,
        walk_right b (key_of y)
            w,
      )
  walk_rights [] (b ∷ B) e = absurd (omega (arith, e))
  walk_rights (y ∷ ys) [] e = absurd (omega (arith, e))

  module _ (x : NameCol) (xs : List NameCol) (a : ℕ) (A : List ℕ)
      (behind : (ys : List NameCol) (B : List ℕ) → length B ≡ length ys → Walk xs ys (merge xs ys) A B) where
    walk_by : (y : NameCol) (ys made : List NameCol) (b : ℕ) (B : List ℕ) (o : Ordering)
        → key_cmp (key_of x) (key_of y) ≡ o → length (b ∷ B) ≡ length (y ∷ ys) → Walk (x ∷ xs) ys made (a ∷ A) B
        → Walk (x ∷ xs) (y ∷ ys) (by_order o (x ∷ merge xs (y ∷ ys)) (both x y ∷ merge xs ys) (y ∷ made)) (a ∷ A)
        (b ∷ B)
    walk_by y ys made b B Less o e greater =
        let (pairs, keep, w) = behind (y ∷ ys) (b ∷ B) e in (pairs, a ∷ keep, walk_left a (key_of x) w)
    walk_by y ys made b B Equal o e greater =
        let (pairs, keep, w) = behind ys B (omega (arith, e)) in
        let same : key_of x ≡ key_of y = key_exact (key_of x) (key_of y) tt tt o in (
          (a, b) ∷ pairs,
          a ∷ keep,
          subst (λ k. IsWalk offset (a ∷ A) (b ∷ B) (key_of x ∷ keys xs) (k ∷ keys ys) (key_of x ∷ keys (merge xs ys))
              ((a, b) ∷ pairs) (a ∷ keep)) same
              (walk_both a b (key_of x) w),
        )
    walk_by y ys made b B Greater o e (pairs, keep, w) = (pairs, (offset + b) ∷ keep, walk_right b (key_of y) w)

    walk_with : (ys : List NameCol) (B : List ℕ) → length B ≡ length ys
        → Walk (x ∷ xs) ys (merge_with x (merge xs) ys) (a ∷ A) B
    walk_with [] [] e = let (pairs, keep, w) = behind [] [] refl in (pairs, a ∷ keep, walk_left a (key_of x) w)
    walk_with (y ∷ ys) (b ∷ B) e =
        walk_by y ys (merge_with x (merge xs) ys) b B (key_cmp (key_of x)
        (key_of y)) refl e (walk_with ys B (omega (arith, e)))
    walk_with [] (b ∷ B) e = absurd (omega (arith, e))
    walk_with (y ∷ ys) [] e = absurd (omega (arith, e))

  pub some_walk : (left right : List NameCol) (A B : List ℕ) → length A ≡ length left → length B ≡ length right
      → Walk left right (merge left right) A B
  some_walk [] right [] B e d = walk_rights right B d
  some_walk (x ∷ xs) right (a ∷ A) B e d =
      walk_with x xs a A (λ ys C f. some_walk xs ys A C (omega (arith, e)) f) right B d
  some_walk [] right (a ∷ A) B e d = absurd (omega (arith, e))
  some_walk (x ∷ xs) right [] B e d = absurd (omega (arith, e))

  pub walk_many : {A B : List ℕ} {K L M : List Key} {pairs : List Columns} {keep : List ℕ}
      → IsWalk offset A B K L M pairs keep → length keep ≡ length M
  walk_many walk_none = refl
  walk_many (walk_left a k w) = ap suc (walk_many w)
  walk_many (walk_right b k w) = ap suc (walk_many w)
  walk_many (walk_both a b k w) = ap suc (walk_many w)

-- ---- the columns of a child's rows

keys_many : (cols : List NameCol) → length (keys cols) ≡ length cols
keys_many cols = length-map cols key_of

pub some_layout : (seen wanted more : ℕ) (left right joint : List NameCol) → joint ≡ merge left right
    → (pairs : List Columns) × (keep : List ℕ) × IsLayout seen wanted more (keys left) (keys right)
    (keys joint) pairs keep
some_layout seen wanted more left right joint merged =
    let n : ℕ = length (keys left) in
    let m : ℕ = length (keys right) in
    let (pairs, keep, w) = some_walk (1 + seen + wanted + length (keys left)) left right (run (1 + seen + wanted)
    (length (keys left))) (run (1 + more) (length (keys right)))
    (run-length (1 + seen + wanted) n ∙ keys_many left) (run-length (1 + more) m ∙ keys_many right) in (
      (1 + seen, 0) ∷ pairs,
      run 0 (1 + seen) ++ run (1 + seen + wanted + length (keys left) + 1) more ++ run (1 + seen + 1)
          (wanted - 1) ++ keep,
      record {
        on_keys = pairs;
        of_keys = keep;
        walk = subst (λ z. IsWalk (1 + seen + wanted + length (keys left)) (run (1 + seen + wanted)
            (length (keys left))) (run (1 + more) (length (keys right)))
            (keys left) (keys right) (keys z) pairs keep) (sym merged) w;
        pairs_are = refl;
        keep_is = refl;
      },
    )

-- ---- an operator's own keys

-- header, columns and pairs of positions with these columns
pub record PlainKeys (positions : List NameCol) (cs : List ℕ) : Type 0 where
  pub header : Header
  pub region : IsHeader (keys positions) (declared_keys positions) (λ _. false) header
  pub ordered : IsOrdered header
  pub columns : List ℕ
  pub pairs : List Columns
  pub own : IsOwn (keys positions) cs (keys header.names) columns pairs
  pub many : length columns ≡ length header.names

pub some_keys : (positions : List NameCol) (cs : List ℕ) → length cs ≡ length positions → PlainKeys positions cs
some_keys [] [] e = record {
  header = record { names = []; unfinished = []; twice = false };
  region = of_none [] refl;
  ordered = record { keys_rise = tt; spaces_rise = tt };
  columns = [];
  pairs = [];
  own = own_none;
  many = refl;
}
some_keys (p ∷ ps) (c ∷ cs) e =
    let rest = some_keys ps cs (omega (arith, e)) in
    let one : Header = record { names = p ∷ []; unfinished = []; twice = false } in
    let j = some_joint one rest.header (record { keys_rise = (tt, tt); spaces_rise = tt }) rest.ordered in
    let (pairs, keep, w) = some_walk 0 (p ∷ []) rest.header.names (c ∷ []) rest.columns refl rest.many in
    let walk : IsWalk 0 (c ∷ []) rest.columns (key_of p ∷ []) (keys rest.header.names)
    (keys j.header.names) pairs keep =
    subst (λ z. IsWalk 0 (c ∷ []) rest.columns (key_of p ∷ []) (keys rest.header.names) (keys z) pairs keep)
    (sym j.merged) w in
    record {
      header = j.header;
      region = of_halves (p ∷ ps) (p ∷ []) ps j.header refl
          (j.region (keys (p ∷ [])) (keys ps) (declared_keys (p ∷ [])) (declared_keys ps) (λ _. false) (λ _. false)
          (of_single (p ∷ []) p refl) rest.region);
      ordered = j.ordered;
      columns = keep;
      pairs = [] ++ rest.pairs ++ pairs;
      own = own_two (own_one (key_of p) c) rest.own walk;
      many = walk_many 0 walk ∙ keys_many j.header.names;
    }
some_keys [] (c ∷ cs) e = absurd (omega (arith, e))
some_keys (p ∷ ps) [] e = absurd (omega (arith, e))
