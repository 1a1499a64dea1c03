-- Summaries of trees with other names: of a tree whose keys stay it is the same one.
use Rattle.std.proofs.Common.{◌≡◌, inl, inr, ℕ, ◌+◌, Bool, true, false, cond, not, ◌&&◌, List, [], ◌∷◌, map, bytes_eq, refl, ap, ap₂, sym, ◌∙◌, subst, true≢false}
use Rattle.std.proofs.lemmas.Bool.{or_cases, or_right, or_left}
use Rattle.std.specs.Cmp.{second_so}
use Rattle.std.specs.List.{AllByRecursion}
use Rattle.psg_terms.specs.Names.{Name, is_among, has_twice}
use Rattle.psg_grammar.specs.declared.types.Kind.{Kind}
use Rattle.psg_grammar.specs.declared.types.Definition.{Definition}
use Rattle.psg_grammar.specs.Fragments.{Fragment, hole, ending, cell, operator, with_child, with_name, with_number, with_text, anything, observed}
use Rattle.psg_grammar.specs.Keys.{Key, in_order}
use Rattle.psg_grammar.specs.Kinds.{IsOfKind}
use Rattle.psg_grammar.specs.Lookups.{is_scope}
use Rattle.psg_grammar.specs.Regions.{declared_inside, declared_in, names_inside, passing, unfinished_inside}
use Rattle.psg_grammar.specs.Sound.{IsSound}
use Rattle.psg_scope.specs.declared.header.NameCol.{NameCol}
use Rattle.psg_scope.specs.Headers.{IsKey, is_declared, key_of, keys}
use Rattle.psg_scope.proofs.HeaderLaws.{header-among}
use Rattle.psg_scope.proofs.KeyLists.{key_refl}
use Rattle.psg_relation.specs.Fewer.{FewerColumns}
use Rattle.psg_eval.specs.declared.summary.SummaryParts.{SummaryParts}
use Rattle.psg_eval.specs.Summaries.{IsHeaderOf, IsSummaryOf}
use Rattle.psg_eval.specs.Trees.{seen_in}
use Rattle.psg_renaming.proofs.Permuting.{Permutation}
use Rattle.psg_renaming.proofs.Turned.{turned, new_key, same_scope, declared_new, unfinished_new, names_new, passing_of}
use Rattle.psg_renaming.proofs.Relating.{whole_kept}

-- ---- lists

pub each_of : (P : Name → Type 0) (ms : List Name) → ((n : Name) → is_among ms n ≡ true → P n) → AllByRecursion P ms
each_of P [] k = tt
each_of P (m ∷ ms) k = (
  k m (or_left (bytes_eq m m) (is_among ms m) (key_refl m)),
  each_of P ms (λ n e. k n (or_right (bytes_eq m n) (is_among ms n) e)),
)

-- a declared key is a key
pub declared_key : (cols : List NameCol) (k : Key) → is_declared cols k ≡ true → is_among (keys cols) k ≡ true
declared_key [] k e = absurd (true≢false (sym e))
declared_key (c ∷ cols) k e = elim (or_cases (c.declared && bytes_eq (key_of c) k) (is_declared cols k) e) [
  | inl a ↦ or_left (bytes_eq (key_of c) k) (is_among (keys cols) k) (second_so c.declared (bytes_eq (key_of c) k) a)
  | inr b ↦ or_right (bytes_eq (key_of c) k) (is_among (keys cols) k) (declared_key cols k b)
]

module _ (p : Permutation) where
  all_stay : (ks : List Key) → AllByRecursion (λ k. new_key p k ≡ k) ks → map (new_key p) ks ≡ ks
  all_stay [] h = refl
  all_stay (k ∷ ks) (a, h) = ap₂ (λ x xs. x ∷ xs) a (all_stay ks h)

  pub kind_turned : (def : Definition) (f : Fragment) (k : Kind) → IsOfKind def f k → IsOfKind def (turned p f) k
  kind_turned def (hole q) k h = h
  kind_turned def (ending l u) k h = h
  kind_turned def (cell l e r) k h = h
  kind_turned def (operator o) k h = h
  kind_turned def (with_child f t) k h = kind_turned def f k h
  kind_turned def (with_name f n) k h = kind_turned def f k h
  kind_turned def (with_number f n) k h = kind_turned def f k h
  kind_turned def (with_text f t) k h = kind_turned def f k h
  kind_turned def anything k h = h
  kind_turned def (observed f) k h = kind_turned def f k h

  pub kind_back : (def : Definition) (f : Fragment) (k : Kind) → IsOfKind def (turned p f) k → IsOfKind def f k
  kind_back def (hole q) k h = h
  kind_back def (ending l u) k h = h
  kind_back def (cell l e r) k h = h
  kind_back def (operator o) k h = h
  kind_back def (with_child f t) k h = kind_back def f k h
  kind_back def (with_name f n) k h = kind_back def f k h
  kind_back def (with_number f n) k h = kind_back def f k h
  kind_back def (with_text f t) k h = kind_back def f k h
  kind_back def anything k h = h
  kind_back def (observed f) k h = kind_back def f k h

  pub seen_turned : (f : Fragment) → seen_in (turned p f) ≡ seen_in f
  seen_turned (hole q) = refl
  seen_turned (ending l u) = refl
  seen_turned (cell l e r) = ap₂ (λ a b. a + b) (seen_turned e) (seen_turned r)
  seen_turned (operator o) = refl
  seen_turned (with_child f t) = ap₂ (λ a b. a + b) (seen_turned f) (seen_turned t)
  seen_turned (with_name f n) = seen_turned f
  seen_turned (with_number f n) = seen_turned f
  seen_turned (with_text f t) = seen_turned f
  seen_turned anything = refl
  seen_turned (observed f) = ap (λ n. 1 + n) (seen_turned f)

  module _ (def : Definition) where
    none_declared : (b : Bool) (ks : List Key) → cond b [] (map (new_key p) ks) ≡ map (new_key p) (cond b [] ks)
    none_declared true ks = refl
    none_declared false ks = refl

    pub declares_turned : (f : Fragment) → declared_in def (turned p f) ≡ map (new_key p) (declared_in def f)
    declares_turned f =
        ap₂ (λ b ks. cond b [] ks) (same_scope p def f) (declared_new p def f) ∙ none_declared (is_scope def f) (declared_inside def f)

    abbrev pub region_keys : Fragment → List Key
    region_keys t = passing (is_scope def t) (λ s. unfinished_inside def s t) (declared_inside def t) (names_inside def t)

    pub keys_turned : (f : Fragment) → region_keys (turned p f) ≡ map (new_key p) (region_keys f)
    keys_turned f = passing_of p def f (names_new p def f)

    pub spaces_turned : (f : Fragment) (s : ℕ) → (not (is_scope def (turned p f)) && unfinished_inside def s (turned p f)) ≡ (not (is_scope def f) && unfinished_inside def s f)
    spaces_turned f s = ap₂ (λ b u. not b && u) (same_scope p def f) (unfinished_new p def f s)

    -- ---- where the keys stay

    module _ (f : Fragment) (s : SummaryParts) (is : IsSummaryOf def f s) (stay : (k : Key) → is_among (keys s.header.names) k ≡ true → new_key p k ≡ k) where
      names_stay : map (new_key p) (region_keys f) ≡ region_keys f
      names_stay = all_stay (region_keys f) (each_of (λ k. new_key p k ≡ k) (region_keys f) (λ k e. stay k (header-among is.header k ∙ e)))

      declared_stay : map (new_key p) (declared_in def f) ≡ declared_in def f
      declared_stay = all_stay (declared_in def f) (each_of (λ k. new_key p k ≡ k) (declared_in def f)
          (λ k e. stay k (declared_key s.header.names k (is.header.declares k ∙ e))))

      ordered_stay : map (new_key p) (in_order (region_keys f)) ≡ in_order (region_keys f)
      ordered_stay = all_stay (in_order (region_keys f)) (each_of (λ k. new_key p k ≡ k) (in_order (region_keys f))
          (λ k e. stay k (ap (λ l. is_among l k) is.header.keys_are ∙ e)))

      header_stays : IsHeaderOf def (turned p f) s.header
      header_stays =
          let same : region_keys (turned p f) ≡ region_keys f = keys_turned f ∙ names_stay in
          let declared : declared_in def (turned p f) ≡ declared_in def f = declares_turned f ∙ declared_stay in
          record {
            whole = subst (AllByRecursion IsKey) (sym same) is.header.whole;
            keys_are = is.header.keys_are ∙ ap in_order (sym same);
            declares = λ k. is.header.declares k ∙ ap (λ l. is_among l k) (sym declared);
            spaces = λ n. is.header.spaces n ∙ sym (spaces_turned f n);
            ascending = is.header.ascending;
            repeats = is.header.repeats ∙ ap has_twice (sym declared);
          }

      -- the tree with other names has the same summary
      pub summary_stays : p.to [] ≡ [] → IsSound def → FewerColumns def.signature → IsSummaryOf def (turned p f) s
      summary_stays empty sound fewer =
          let (sorts, rel) = is.rows in
          record {
            kind = kind_turned def f s.kind is.kind;
            header = header_stays;
            seen = is.seen ∙ sym (seen_turned f);
            rows = (
              sorts,
              whole_kept p empty def sound fewer f (ordered_stay ∙ ap in_order (sym names_stay)) sorts s.rel rel,
            );
          }
