-- A change has one reading.
use Rattle.std.proofs.Common.{◌≡◌, ℕ, zero, suc, ◌+◌, ◌<◌, ◌≤◌, List, [], ◌∷◌, ◌++◌, length, Option, Some, slice_get, refl, ap, ap₂, sym, ◌∙◌, subst, arith}
use Rattle.std.specs.Str.{chars}
use Rattle.psg_grammar.specs.declared.types.Definition.{Definition}
use Rattle.psg_grammar.specs.Fragments.{Fragment}
use Rattle.psg_grammar.specs.Paths.{Path}
use Rattle.psg_grammar.specs.WellFormed.{fixed_words}
use Rattle.psg_lexis.proofs.Laws.{only_tokens, no_fault_with_tokens}
use Rattle.psg_unparse.specs.Spots.{Placed, placed_in, IsPlacedAt}
use Rattle.psg_unparse.specs.Listing.{IsListing}
use Rattle.psg_unparse.proofs.Listed.{listing}
use Rattle.psg_unparse.specs.declared.spans.Span.{Span}
use Rattle.psg_textedit.specs.Regions.{Typing, IsInnermost, IsClean, IsUnclean, Counts, CountsText, has_tokens, has_none, Widens, stops, gives_up, widens, IsReading, has_no_place, reads, region_of}
use Rattle.psg_textedit.specs.Laws.{ReadingIsOne}

-- ---- paths

pub nil_snoc : (path : Path) (k : ℕ) → [] ≡ path ++ k ∷ [] → ⊥
nil_snoc [] k e = absurd (cc)
nil_snoc (j ∷ path) k e = absurd (cc)

pub snoc_once : (a b : Path) (j k : ℕ) → a ++ j ∷ [] ≡ b ++ k ∷ [] → a ≡ b
snoc_once [] [] j k e = refl
snoc_once [] (y ∷ b) j k e = let tail : [] ≡ b ++ k ∷ [] = cc in absurd (nil_snoc b k tail)
snoc_once (x ∷ a) [] j k e = let tail : [] ≡ a ++ j ∷ [] = cc in absurd (nil_snoc a j tail)
snoc_once (x ∷ a) (y ∷ b) j k e =
    let head : x ≡ y = cc in
    let rest : a ++ j ∷ [] ≡ b ++ k ∷ [] = cc in
    let tail : a ≡ b = snoc_once a b j k rest in cc

-- ---- the innermost node

same_number : (a b : ℕ) → (a < b → ⊥) → (b < a → ⊥) → a ≡ b
same_number zero zero h k = refl
same_number zero (suc b) h k = absurd (h (omega arith))
same_number (suc a) zero h k = absurd (k (omega arith))
same_number (suc a) (suc b) h k = ap suc (same_number a b (λ l. h (omega (arith, l))) (λ l. k (omega (arith, l))))

not_first : (spans : List Span) (e : Typing) (a b : Path) (x : IsInnermost spans e a) (y : IsInnermost spans e b)
    → x.number < y.number → ⊥
not_first spans e a b x y h =
    let low : length x.span.path < length b = y.first x.number x.span h x.found x.encloses in
    let high : length y.span.path ≤ length a = x.deepest y.number y.span y.found y.encloses in
    omega (arith, low, high, ap length x.path_is, ap length y.path_is)

pub innermost_once : (spans : List Span) (e : Typing) (a b : Path) → IsInnermost spans e a → IsInnermost spans e b → a ≡ b
innermost_once spans e a b x y =
    let same : x.number ≡ y.number = same_number x.number y.number (not_first spans e a b x y) (not_first spans e b a y x) in
    let both : Some x.span ≡ Some y.span = sym x.found ∙ ap (slice_get spans) same ∙ y.found in
    let one : x.span ≡ y.span = cc in
    sym x.path_is ∙ ap (λ (s : Span). s.path) one ∙ y.path_is

-- ---- widening

pub counts_once : (def : Definition) (text : List ℕ) (m n : ℕ) → CountsText def text m → CountsText def text n → m ≡ n
counts_once def text _ _ (has_tokens ts a) (has_tokens us b) =
    ap length (only_tokens (fixed_words def) (chars text) 0 ts us a b)
counts_once def text _ _ (has_tokens ts a) (has_none b) =
    absurd (no_fault_with_tokens (fixed_words def) (chars text) 0 ts b.0 a b.1)
counts_once def text _ _ (has_none a) (has_tokens us b) =
    absurd (no_fault_with_tokens (fixed_words def) (chars text) 0 us a.0 b a.1)
counts_once def text _ _ (has_none a) (has_none b) = refl

module _ (def : Definition) (f : Fragment) (e : Typing) (listed : IsListing def f) where
  pub placed_once : (path : Path) (p q : Placed) → IsPlacedAt def f path p → IsPlacedAt def f path q → p ≡ q
  placed_once path p q a b =
      let same : a.0 ≡ b.0 = listed.once a.0 b.0 p q a.1 b.1 (a.2 ∙ sym b.2) in
      let both : Some p ≡ Some q = sym a.1 ∙ ap (slice_get (placed_in def f)) same ∙ b.1 in
      cc

  same_counts : (path : Path) (p q : Placed) (m n : ℕ) → IsPlacedAt def f path p → IsPlacedAt def f path q
      → Counts def f e p m → Counts def f e q n → m ≡ n
  same_counts path p q m n a b c d =
      counts_once def (region_of def f e p) m n c (subst (λ x. Counts def f e x n) (sym (placed_once path p q a b)) d)

  not_both : (path : Path) (p q : Placed) (tree : Fragment) (nesting : ℕ) → IsPlacedAt def f path p
      → IsPlacedAt def f path q → IsClean def f e p tree nesting → IsUnclean def f e q → ⊥
  not_both path p q tree nesting a b clean unclean =
      unclean tree nesting (subst (λ x. IsClean def f e x tree nesting) (placed_once path p q a b) clean)

  pub widens_once : (path : Path) (a b : Option Path) (m n : ℕ) → Widens def f e path a m → Widens def f e path b n
      → (a ≡ b) × (m ≡ n)
  widens_once path _ _ m n (stops p tree d at clean c) (stops q other g there pure k) =
      (refl, same_counts path p q m n at there c k)
  widens_once _ _ _ m n (stops p tree d at clean c) (gives_up q there unclean k) =
      absurd (not_both [] p q tree d at there clean unclean)
  widens_once path _ _ m _ (stops p tree d at clean c) (widens x y q parent j is there unclean k w) =
      absurd (not_both path p q tree d at there clean unclean)
  widens_once _ _ _ m n (gives_up p at unclean c) (stops q other g there pure k) =
      absurd (not_both [] q p other g there at pure unclean)
  widens_once _ _ _ m n (gives_up p at unclean c) (gives_up q there spoilt k) = (refl, same_counts [] p q m n at there c k)
  widens_once _ _ _ m _ (gives_up p at unclean c) (widens x y q parent j is there spoilt k w) =
      absurd (nil_snoc parent j is)
  widens_once path _ _ _ n (widens x y p parent i is at unclean c v) (stops q other g there pure k) =
      absurd (not_both path q p other g there at pure unclean)
  widens_once _ _ _ _ n (widens x y p parent i is at unclean c v) (gives_up q there spoilt k) = absurd (nil_snoc parent i is)
  widens_once path a b _ _ (widens x y p parent i is at unclean c v) (widens z t q other j so there spoilt k w) =
      let same : parent ≡ other = snoc_once parent other i j (sym is ∙ so) in
      let rest = widens_once parent a b y t v (subst (λ r. Widens def f e r b t) (sym same) w) in
      let here : x ≡ z = same_counts path p q x z at there c k in
      (rest.0, ap₂ (λ s r. s + r) here rest.1)

  pub reading_once : (a b : Option Path) (m n : ℕ) → IsReading def f e a m → IsReading def f e b n → (a ≡ b) × (m ≡ n)
  reading_once _ _ _ _ (has_no_place x) (has_no_place y) = (refl, refl)
  reading_once _ _ _ n (has_no_place x) (reads path inside is w) = absurd (inside x)
  reading_once _ _ m _ (reads path inside is w) (has_no_place y) = absurd (inside y)
  reading_once a b m n (reads path inside is w) (reads other within so v) =
      let same : path ≡ other = innermost_once _ e path other is so in
      widens_once path a b m n w (subst (λ r. Widens def f e r b n) (sym same) v)

pub one_reading : (def : Definition) (f : Fragment) → ReadingIsOne def f
one_reading def f kind formed e a b m n x y = reading_once def f e (listing def f kind formed) a b m n x y
