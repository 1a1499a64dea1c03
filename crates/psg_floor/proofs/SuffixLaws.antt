-- How what is known of a list's suffixes grows by an element.
use Rattle.std.proofs.Common.{◌≡◌, ℕ, zero, suc, ◌+◌, ◌<◌, Bool, true, false, ◌||◌, List, [], ◌∷◌, ◌++◌, inl, inr, map, Some, length, get_or, slice_get, refl, sym, ap, subst, ◌∙◌, append_assoc, append-nil, arith}
use Rattle.std.specs.List.{AllByRecursion}
use Rattle.std.proofs.lemmas.Bool.{cases_lt}
use Rattle.std.proofs.lemmas.List.{get_or_append_left, length-map, map-append, nil_from_length}
use Rattle.std.proofs.Math.Seq.{get_or-append_seam}
use Rattle.psg_terms.proofs.Lists.{each_push, slice_get-end}
use Rattle.psg_grammar.specs.Keys.{Key}
use Rattle.psg_scope.specs.declared.header.NameCol.{NameCol}
use Rattle.psg_scope.specs.declared.header.Header.{Header}
use Rattle.psg_scope.specs.Headers.{declared_keys, IsHeader, IsOrdered, keep_if, key_of, keys}
use Rattle.psg_floor.specs.declared.suffixes.Suffix.{Suffix}
use Rattle.psg_floor.specs.Suffixes.{all_positions, IsHeaderOf, IsSomeSuffix, IsSuffix, key_count}

keep_if-append : (c : NameCol) (ks ms : List Key) → keep_if c.declared (key_of c) ks ++ ms ≡ keep_if c.declared (key_of c) (ks ++ ms)
keep_if-append c ks ms = by_flag c.declared
  where
    by_flag : (b : Bool) → keep_if b (key_of c) ks ++ ms ≡ keep_if b (key_of c) (ks ++ ms)
    by_flag true = refl
    by_flag false = refl

pub declared_keys-append : (cols others : List NameCol) → declared_keys (cols ++ others) ≡ declared_keys cols ++ declared_keys others
declared_keys-append [] others = refl
declared_keys-append (c ∷ cols) others =
    ap (keep_if c.declared (key_of c)) (declared_keys-append cols others) ∙ sym (keep_if-append c (declared_keys cols) (declared_keys others))

-- the header of an element's positions and those behind it
pub behind_element : (element behind : List NameCol) (h : Header)
    → IsHeader (keys element ++ keys behind) (declared_keys element ++ declared_keys behind) (λ _. false || false) h
    → IsHeaderOf (element ++ behind) h
behind_element element behind h is =
    subst (λ ks. IsHeader ks (declared_keys (element ++ behind)) (λ _. false) h) (sym (map-append key_of element behind))
    (subst (λ ds. IsHeader (keys element ++ keys behind) ds (λ _. false) h) (sym (declared_keys-append element behind)) is)

-- a header has as many keys as the positions have
pub key_count-header : (elements : List (List NameCol)) (h : Header) → IsHeaderOf (all_positions elements) h → length h.names ≡ key_count elements
key_count-header elements h is = sym (length-map h.names key_of) ∙ ap length is.keys_are

pub length_push : {X : Type 0} (xs : List X) (x : X) → length (xs ++ x ∷ []) ≡ suc (length xs)
length_push [] x = refl
length_push (y ∷ xs) x = ap suc (length_push xs x)

get_front : {X : Type 0} (xs ys : List X) (k : ℕ) → k < length xs → slice_get (xs ++ ys) k ≡ slice_get xs k
get_front [] ys k lt = absurd (omega (arith, lt))
get_front (x ∷ xs) ys zero lt = refl
get_front (x ∷ xs) ys (suc k) lt = get_front xs ys k (omega (arith, lt))

-- elements that a function gives, and the next one
pub made_more : {X : Type 0} (f : ℕ → X) (xs : List X) (x : X) (n : ℕ) → length xs ≡ n
    → ((k : ℕ) → k < n → slice_get xs k ≡ Some (f k)) → x ≡ f n
    → (k : ℕ) → k < n + 1 → slice_get (xs ++ x ∷ []) k ≡ Some (f k)
made_more f xs x n len old is k lt = elim (cases_lt k n) [
  | inl below ↦ get_front xs (x ∷ []) k (omega (arith, len, below)) ∙ old k below
  | inr above ↦
      let at : k ≡ n = omega (arith, lt, above) in
      ap (slice_get (xs ++ x ∷ [])) (at ∙ sym len) ∙ slice_get-end xs x ∙ ap Some (is ∙ ap f (sym at))
]

-- a row that shares the terms of another one, and the next term
pub shared_more : {X : Type 0} (row rest : List X) (d x : X) (n : ℕ) → length row ≡ n
    → ((k : ℕ) → k < n → get_or row k d ≡ get_or rest k d) → x ≡ get_or rest n d
    → (k : ℕ) → k < n + 1 → get_or (row ++ x ∷ []) k d ≡ get_or rest k d
shared_more row rest d x n len old is k lt = elim (cases_lt k n) [
  | inl below ↦ get_or_append_left row (x ∷ []) d k (omega (arith, len, below)) ∙ old k below
  | inr above ↦
      let at : k ≡ n = omega (arith, lt, above) in
      ap (λ i. get_or (row ++ x ∷ []) i d) (at ∙ sym len) ∙ get_or-append_seam row x [] d ∙ is ∙ ap (λ i. get_or rest i d) (sym at)
]

-- What is known when the elements behind some are walked over: their suffix, and those behind each of them.
pub record IsWalked (elements left : List (List NameCol)) (whole : Suffix) (rests : List Suffix) : Type 0 where
  pub behind : List (List NameCol)
  pub split : left ++ behind ≡ elements
  pub is : IsSuffix behind whole
  pub ordered : IsOrdered whole.header
  pub count : length rests ≡ length behind
  pub all : AllByRecursion (IsSomeSuffix elements) rests

pub walked_none : (elements : List (List NameCol)) (whole : Suffix) → IsSuffix [] whole → IsOrdered whole.header → IsWalked elements elements whole []
walked_none elements whole is ordered =
    record { behind = []; split = append-nil elements; is = is; ordered = ordered; count = refl; all = tt }

pub walked_next : (elements left front : List (List NameCol)) (element : List NameCol) (whole next : Suffix) (rests : List Suffix)
    → left ≡ front ++ element ∷ [] → IsWalked elements left whole rests
    → ((behind : List (List NameCol)) → IsSuffix behind whole → IsSuffix (element ∷ behind) next) → IsOrdered next.header
    → IsWalked elements front next (rests ++ whole ∷ [])
walked_next elements left front element whole next rests split old is ordered = record {
  behind = element ∷ old.behind;
  split = sym (append_assoc front (element ∷ []) old.behind) ∙ ap (λ l. l ++ old.behind) (sym split) ∙ old.split;
  is = is old.behind old.is;
  ordered = ordered;
  count = length_push rests whole ∙ ap suc old.count;
  all = each_push (IsSomeSuffix elements) rests whole old.all (record { before = left; behind = old.behind; split = old.split; is = old.is });
}

pub walked_all : (elements left : List (List NameCol)) (whole : Suffix) (rests : List Suffix) → length left ≡ 0 → IsWalked elements left whole rests
    → IsSuffix elements whole × (length rests ≡ length elements)
walked_all elements left whole rests none old =
    let whole_list : old.behind ≡ elements = ap (λ l. l ++ old.behind) (sym (nil_from_length left none)) ∙ old.split in
    (subst (λ es. IsSuffix es whole) whole_list old.is, old.count ∙ ap length whole_list)
