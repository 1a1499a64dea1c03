-- The order of keys.
use Rattle.std.proofs.Common.{◌≡◌, ℕ, List, [], ◌∷◌, refl, sym, ap, ◌∙◌}
use Rattle.std.specs.Cmp.{IsTotalOrder, nat_cmp_total, alike_right, tied_itself}
use Rattle.std.specs.Cmp.Lexicographic.{slice_cmp, nat_list_cmp_total}
use Rattle.std.specs.Ordering.{nat_cmp, ordering_reverse}
use Rattle.std.specs.declared.cmp.Ordering.{Ordering}
use Rattle.std.specs.declared.cmp.Ordering.TheVariants.{Less, Equal, Greater}
use Rattle.std.proofs.lemmas.Map.Lookups.{exact_bytes, exact_unsigned}
use Rattle.psg_grammar.specs.Keys.{Key, space_of, name_in, key_cmp, then_by}
use Rattle.psg_scope.specs.Headers.{IsKey}

names : IsTotalOrder (slice_cmp nat_cmp)
names = nat_list_cmp_total

then_less : (a b : Ordering) → a ≡ Less → then_by a b ≡ Less
then_less a b e = ap (λ r. then_by r b) e

then_equal : (a b : Ordering) → a ≡ Equal → then_by a b ≡ b
then_equal a b e = ap (λ r. then_by r b) e

then_turned : (a b : Ordering) → then_by (ordering_reverse a) (ordering_reverse b) ≡ ordering_reverse (then_by a b)
then_turned Less b = refl
then_turned Equal b = refl
then_turned Greater b = refl

turned : (n m : Key) → key_cmp n m ≡ ordering_reverse (key_cmp m n)
turned n m =
    ap (λ r. then_by r (nat_cmp (space_of n) (space_of m))) (names.antisymm (name_in n) (name_in m))
    ∙ ap (then_by (ordering_reverse (slice_cmp nat_cmp (name_in m) (name_in n)))) (nat_cmp_total.antisymm (space_of n) (space_of m))
    ∙ then_turned (slice_cmp nat_cmp (name_in m) (name_in n)) (nat_cmp (space_of m) (space_of n))

chained : (n m p : Key) (a b : Ordering) → slice_cmp nat_cmp (name_in n) (name_in m) ≡ a → slice_cmp nat_cmp (name_in m) (name_in p) ≡ b
    → then_by a (nat_cmp (space_of n) (space_of m)) ≡ Less → then_by b (nat_cmp (space_of m) (space_of p)) ≡ Less → key_cmp n p ≡ Less
chained n m p Less Less e f h k = then_less _ _ (names.trans (name_in n) (name_in m) (name_in p) e f)
chained n m p Less Equal e f h k = then_less _ _ (sym (alike_right names (name_in m) (name_in p) (name_in n) f) ∙ e)
chained n m p Less Greater e f h k = absurd (cc)
chained n m p Equal Less e f h k = then_less _ _ (names.congr (name_in n) (name_in m) (name_in p) e ∙ f)
chained n m p Equal Equal e f h k =
    then_equal _ _ (names.congr (name_in n) (name_in m) (name_in p) e ∙ f) ∙ nat_cmp_total.trans (space_of n) (space_of m) (space_of p) h k
chained n m p Equal Greater e f h k = absurd (cc)
chained n m p Greater b e f h k = absurd (cc)

congruent : (n m p : Key) (a : Ordering) → slice_cmp nat_cmp (name_in n) (name_in m) ≡ a
    → then_by a (nat_cmp (space_of n) (space_of m)) ≡ Equal → key_cmp n p ≡ key_cmp m p
congruent n m p Less e h = absurd (cc)
congruent n m p Equal e h =
    ap (λ r. then_by r (nat_cmp (space_of n) (space_of p))) (names.congr (name_in n) (name_in m) (name_in p) e)
    ∙ ap (then_by (slice_cmp nat_cmp (name_in m) (name_in p))) (nat_cmp_total.congr (space_of n) (space_of m) (space_of p) h)
congruent n m p Greater e h = absurd (cc)

pub key_total : IsTotalOrder key_cmp
key_total = record {
  antisymm = turned;
  trans = λ n m p h k. chained n m p (slice_cmp nat_cmp (name_in n) (name_in m)) (slice_cmp nat_cmp (name_in m) (name_in p)) refl refl h k;
  congr = λ n m p h. congruent n m p (slice_cmp nat_cmp (name_in n) (name_in m)) refl h;
}

-- keys that tie are equal
exact_by : (s t : ℕ) (n m : List ℕ) (a : Ordering) → slice_cmp nat_cmp n m ≡ a → then_by a (nat_cmp s t) ≡ Equal → s ∷ n ≡ t ∷ m
exact_by s t n m Less e h = absurd (cc)
exact_by s t n m Equal e h =
    let p : n ≡ m = exact_bytes n m e in
    let q : s ≡ t = exact_unsigned s t h in
    cc
exact_by s t n m Greater e h = absurd (cc)

pub key_exact : (n m : Key) → IsKey n → IsKey m → key_cmp n m ≡ Equal → n ≡ m
key_exact [] m h k e = absurd h
key_exact (s ∷ n) [] h k e = absurd k
key_exact (s ∷ n) (t ∷ m) h k e = exact_by s t n m (slice_cmp nat_cmp n m) refl e

pub key_same : (n : Key) → key_cmp n n ≡ Equal
key_same n = tied_itself key_total n

pub key_turned_back : (n m : Key) → key_cmp n m ≡ Less → key_cmp m n ≡ Greater
key_turned_back n m e = turned m n ∙ ap ordering_reverse e

pub key_turned : (n m : Key) → key_cmp n m ≡ Greater → key_cmp m n ≡ Less
key_turned n m e = turned m n ∙ ap ordering_reverse e
