-- The place of a name in a list that has none twice.
use Rattle.std.proofs.Common.{◌≡◌, ◌⊎◌, inl, inr, ℕ, zero, suc, ◌+◌, ◌<◌, Bool, true, false, ◌||◌, cond, List, [], ◌∷◌, ◌++◌, length, map, Option, Some, None, slice_get, option_map, position, bytes_eq, refl, ap, sym, ◌∙◌, subst, true≢false, zero-add, arith}
use Rattle.std.proofs.lemmas.Bool.{cases_Bool, or_left, or_parts, or_right}
use Rattle.std.specs.List.{position_from}
use Rattle.std.proofs.lemmas.Iterator.Adapters.{position_from-zero}
use Rattle.std.proofs.lemmas.Option.{none-some, slice_get-map, slice_get_within}
use Rattle.std.proofs.lemmas.Slice.Eq.{bytes_eq-Decides}
use Rattle.psg_terms.proofs.Lists.{slice_get-front}
use Rattle.psg_terms.specs.Names.{Name, is_among, has_twice}
use Rattle.psg_grammar.specs.declared.types.Kind.{Kind}
use Rattle.psg_grammar.specs.declared.types.Kind.TheVariants as kinds
use Rattle.psg_grammar.specs.declared.types.Phylum.{Phylum}
use Rattle.psg_grammar.specs.declared.types.ListKind.{ListKind}
use Rattle.psg_grammar.specs.declared.types.Operator.{Operator}
use Rattle.psg_grammar.specs.declared.types.Definition.{Definition}
use Rattle.psg_grammar.specs.Kinds.{kind_name_of, op_name_of}
use Rattle.psg_grammar.specs.Sound.{kind_names}

-- a test comes out one way or the other
-- ---- a search by name

module _ {X : Type 0} (name_of : X → Name) (n : Name) where
  abbrev test : X → Bool
  test x = bytes_eq (name_of x) n

  found_from : (xs : List X) (m i : ℕ) → position_from test m xs ≡ Some i → (k : ℕ) × (i ≡ m + k) × (option_map name_of (slice_get xs k) ≡ Some n)
  found_from [] m i e = absurd (none-some i e)
  found_from (x ∷ xs) m i e = elim (cases_Bool (test x)) [
    | inl t ↦
        let f : Some m ≡ Some i = subst (λ b. cond b (Some m) (position_from test (m + 1) xs) ≡ Some i) t e in
        let g : m ≡ i = cc in
        (0, omega (arith, g), ap Some ((bytes_eq-Decides (name_of x) n).0 t))
    | inr t ↦
        let f : position_from test (m + 1) xs ≡ Some i = subst (λ b. cond b (Some m) (position_from test (m + 1) xs) ≡ Some i) t e in
        let (k, at, named) = found_from xs (m + 1) i f in
        (suc k, omega (arith, at), named)
  ]

  missing_from : (xs : List X) (m : ℕ) → position_from test m xs ≡ None → (k : ℕ) → option_map name_of (slice_get xs k) ≡ Some n → ⊥
  missing_from [] m e k named = none-some n named
  missing_from (x ∷ xs) m e zero named =
      let same : name_of x ≡ n = let f : Some (name_of x) ≡ Some n = named in cc in
      let t : test x ≡ true = (bytes_eq-Decides (name_of x) n).1 same in
      none-some m (sym (subst (λ b. cond b (Some m) (position_from test (m + 1) xs) ≡ None) t e))
  missing_from (x ∷ xs) m e (suc k) named = elim (cases_Bool (test x)) [
    | inl t ↦ none-some m (sym (subst (λ b. cond b (Some m) (position_from test (m + 1) xs) ≡ None) t e))
    | inr t ↦ missing_from xs (m + 1) (subst (λ b. cond b (Some m) (position_from test (m + 1) xs) ≡ None) t e) k named
  ]

  -- the element at the place has the name
  pub place_found : (xs : List X) (i : ℕ) → position test xs ≡ Some i → option_map name_of (slice_get xs i) ≡ Some n
  place_found xs i e =
      let (k, at, named) = found_from xs 0 i (sym (position_from-zero test xs) ∙ e) in
      let same : k ≡ i = omega (arith, at) in
      subst (λ j. option_map name_of (slice_get xs j) ≡ Some n) same named

  -- without a place no element has it
  pub place_missing : (xs : List X) → position test xs ≡ None → (k : ℕ) → option_map name_of (slice_get xs k) ≡ Some n → ⊥
  place_missing xs e k named = missing_from xs 0 (sym (position_from-zero test xs) ∙ e) k named

  -- the same by what a search answered in an equal list
  pub found_by : (xs ys : List X) (r : Option ℕ) (i : ℕ) → xs ≡ ys → r ≡ position test xs → r ≡ Some i → option_map name_of (slice_get ys i) ≡ Some n
  found_by xs ys r i same by e = subst (λ zs. option_map name_of (slice_get zs i) ≡ Some n) same (place_found xs i (sym by ∙ e))

  pub missing_by : (xs ys : List X) (r : Option ℕ) → xs ≡ ys → r ≡ position test xs → r ≡ None → (k : ℕ) → option_map name_of (slice_get ys k) ≡ Some n → ⊥
  missing_by xs ys r same by e k named = place_missing xs (sym by ∙ e) k (subst (λ zs. option_map name_of (slice_get zs k) ≡ Some n) (sym same) named)

-- ---- a name that no list has twice

among_at : (xs : List Name) (n : Name) (k : ℕ) → slice_get xs k ≡ Some n → is_among xs n ≡ true
among_at [] n k e = absurd (none-some n e)
among_at (x ∷ xs) n zero e =
    let same : x ≡ n = let f : Some x ≡ Some n = e in cc in
    or_left (bytes_eq x n) (is_among xs n) ((bytes_eq-Decides x n).1 same)
among_at (x ∷ xs) n (suc k) e = or_right (bytes_eq x n) (is_among xs n) (among_at xs n k e)

once_first : (xs : List Name) (x n : Name) → is_among xs x || has_twice xs ≡ false → x ≡ n → (k : ℕ) → slice_get xs k ≡ Some n → ⊥
once_first xs x n once same k e =
    let there : is_among xs x ≡ true = among_at xs x k (e ∙ ap Some (sym same)) in
    true≢false (sym (or_left (is_among xs x) (has_twice xs) there) ∙ once)

pub once : (xs : List Name) → has_twice xs ≡ false → (i j : ℕ) (n : Name) → slice_get xs i ≡ Some n → slice_get xs j ≡ Some n → i ≡ j
once [] h i j n e f = absurd (none-some n e)
once (x ∷ xs) h zero zero n e f = refl
once (x ∷ xs) h zero (suc j) n e f = absurd (once_first xs x n h (let g : Some x ≡ Some n = e in cc) j f)
once (x ∷ xs) h (suc i) zero n e f = absurd (once_first xs x n h (let g : Some x ≡ Some n = f in cc) i e)
once (x ∷ xs) h (suc i) (suc j) n e f = ap suc (once xs (or_parts (is_among xs x) (has_twice xs) h).1 i j n e f)

-- ---- kinds and operators

get_right : {X : Type 0} (xs ys : List X) (x : X) (k : ℕ) → slice_get ys k ≡ Some x → slice_get (xs ++ ys) (length xs + k) ≡ Some x
get_right [] ys x k e = subst (λ j. slice_get ys j ≡ Some x) (sym (zero-add k)) e
get_right (y ∷ xs) ys x k e = let z : length (y ∷ xs) + k ≡ suc (length xs + k) = omega arith in subst (λ j. slice_get (y ∷ (xs ++ ys)) j ≡ Some x) (sym z) (get_right xs ys x k e)

abbrev phylum_names : Definition → List Name
phylum_names def = map (λ (p : Phylum). p.name) def.phyla

abbrev list_names : Definition → List Name
list_names def = map (λ (l : ListKind). l.name) def.lists

-- where the name of the kind stands
place : Definition → Kind → ℕ
place def (kinds.Phylum p) = p
place def (kinds.List l) = length (phylum_names def) + l

name_at : (def : Definition) (kind : Kind) (n : Name) → kind_name_of def kind ≡ Some n → slice_get (kind_names def) (place def kind) ≡ Some n
unfolding place
name_at def (kinds.Phylum p) n e = slice_get-front (phylum_names def) (list_names def) p n (slice_get-map (λ (p : Phylum). p.name) def.phyla p ∙ e)
name_at def (kinds.List l) n e = get_right (phylum_names def) (list_names def) n l (slice_get-map (λ (l : ListKind). l.name) def.lists l ∙ e)

apart : (def : Definition) (p l : ℕ) (n : Name) → kind_name_of def (kinds.Phylum p) ≡ Some n → p ≡ length (phylum_names def) + l → ⊥
apart def p l n e same =
    let lt : p < length (phylum_names def) = slice_get_within (phylum_names def) p n (slice_get-map (λ (p : Phylum). p.name) def.phyla p ∙ e) in
    absurd (omega arith)

-- two kinds of one name are one
pub only_kind : (def : Definition) → has_twice (kind_names def) ≡ false → (a b : Kind) (n : Name) → kind_name_of def a ≡ Some n → kind_name_of def b ≡ Some n → a ≡ b
unfolding place
only_kind def h a b n e f = same a b e f (once (kind_names def) h (place def a) (place def b) n (name_at def a n e) (name_at def b n f)) where
  same : (a b : Kind) → kind_name_of def a ≡ Some n → kind_name_of def b ≡ Some n → place def a ≡ place def b → a ≡ b
  same (kinds.Phylum p) (kinds.Phylum q) e f g = ap kinds.Phylum g
  same (kinds.Phylum p) (kinds.List l) e f g = absurd (apart def p l n e g)
  same (kinds.List l) (kinds.Phylum p) e f g = absurd (apart def p l n f (sym g))
  same (kinds.List k) (kinds.List l) e f g = ap kinds.List (let z : k ≡ l = omega (arith, g) in z)

pub only_op : (def : Definition) → has_twice (map (λ (o : Operator). o.name) def.operators) ≡ false → (a b : ℕ) (n : Name) → op_name_of def a ≡ Some n → op_name_of def b ≡ Some n → a ≡ b
only_op def h a b n e f =
    once (map (λ (o : Operator). o.name) def.operators) h a b n (slice_get-map (λ (o : Operator). o.name) def.operators a ∙ e) (slice_get-map (λ (o : Operator). o.name) def.operators b ∙ f)
