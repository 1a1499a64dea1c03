-- What the pairs and kept columns of a layout make of two rows.
use Rattle.std.proofs.Common.{◌≡◌, ℕ, ◌+◌, ◌-◌, zero, suc, List, [], ◌∷◌, ◌++◌, length, refl, ap, ap₂, sym, ◌∙◌, subst, Some, slice_get, append_assoc, length-append, arith}
use Rattle.std.proofs.lemmas.List.{append-nil}
use Rattle.psg_terms.proofs.Lists.{slice_get-front, slice_get-middle}
use Rattle.psg_grammar.specs.Keys.{Key}
use Rattle.psg_unify.specs.Pairs.{Pair as Columns}
use Rattle.psg_eval.specs.Walks.{IsLayout, IsWalk, run}
use Rattle.psg_eval.proofs.Walking.{Along, Matches, Picks, picks_append, picks_run, walk_pairs, walk_to}

pub layout_of : (seen wanted more : ℕ) (K L M : List Key) (s m a b : ℕ) (left right keep : List ℕ) (ps pairs : List Columns) (ks : List ℕ)
    → s ≡ seen → m ≡ more → a ≡ length K → b ≡ length L → left ≡ run (1 + s + wanted) a → right ≡ run (1 + m) b → IsWalk (1 + s + wanted + a) left right K L M ps ks
    → pairs ≡ (1 + s, 0) ∷ ps → keep ≡ run 0 (1 + s) ++ run (1 + s + wanted + a + 1) m ++ run (1 + s + 1) (wanted - 1) ++ ks → IsLayout seen wanted more K L M pairs keep
layout_of seen wanted more K L M s m a b left right keep ps pairs ks es em ea eb el er w ep ek = record {
  on_keys = ps;
  of_keys = ks;
  walk =
      let l : left ≡ run (1 + seen + wanted) (length K) = el ∙ ap₂ (λ x y. run (1 + x + wanted) y) es ea in
      let r : right ≡ run (1 + more) (length L) = er ∙ ap₂ (λ x y. run (1 + x) y) em eb in
      subst (λ x. IsWalk (1 + seen + wanted + length K) x (run (1 + more) (length L)) K L M ps ks) l
      (subst (λ x. IsWalk (1 + seen + wanted + length K) left x K L M ps ks) r
      (subst (λ x. IsWalk (1 + seen + wanted + x) left right K L M ps ks) ea (subst (λ x. IsWalk (1 + x + wanted + a) left right K L M ps ks) es w)));
  pairs_are = ep ∙ (let front : ℕ → List Columns = λ x. (1 + x, 0) ∷ ps in ap front es);
  keep_is =
      ek ∙ ap (λ x. run 0 (1 + x) ++ run (1 + x + wanted + a + 1) m ++ run (1 + x + 1) (wanted - 1) ++ ks) es
      ∙ ap₂ (λ x y. run 0 (1 + seen) ++ run (1 + seen + wanted + x + 1) y ++ run (1 + seen + 1) (wanted - 1) ++ ks) ea em;
}

-- ---- lists cut at a place

pub cut : {X : Type 0} (m k : ℕ) (xs : List X) → length xs ≡ m + k → (front : List X) × (back : List X) × (xs ≡ front ++ back) × (length front ≡ m) × (length back ≡ k)
cut zero k xs e = ([], xs, refl, refl, e ∙ (let d : zero + k ≡ k = omega arith in d))
cut (suc m) k [] e = absurd (omega arith)
cut (suc m) k (x ∷ xs) e =
    let (front, back, s, f, b) = cut m k xs (omega arith) in
    (x ∷ front, back, ap (λ l. x ∷ l) s, omega arith, b)

pub some_first : {X : Type 0} (n : ℕ) (xs : List X) → length xs ≡ suc n → (x : X) × (rest : List X) × (xs ≡ x ∷ rest) × (length rest ≡ n)
some_first n [] e = absurd (omega arith)
some_first n (x ∷ xs) e = (x, xs, refl, omega arith)

get-behind : {X : Type 0} (p q : List X) (b : ℕ) (x : X) → slice_get q b ≡ Some x → slice_get (p ++ q) (length p + b) ≡ Some x
get-behind [] q b x e = let d : zero + b ≡ b = omega arith in ap (slice_get q) d ∙ e
get-behind (y ∷ p) q b x e = let d : suc (length p) + b ≡ suc (length p + b) = omega arith in ap (slice_get (y ∷ (p ++ q))) d ∙ get-behind p q b x e

-- ---- the columns of two rows by their parts

module _ {X : Type 0} (v : X) (seen : List X) (u : X) (others P : List X) (w : X) (more Q : List X) where
  abbrev pub left_row : List X
  left_row = ((v ∷ seen) ++ (u ∷ others)) ++ P

  abbrev pub right_row : List X
  right_row = (w ∷ more) ++ Q

  abbrev pub both_rows : List X
  both_rows = left_row ++ right_row

  width_is : length left_row ≡ 1 + length seen + (1 + length others) + length P
  width_is = omega (arith, length-append ((v ∷ seen) ++ (u ∷ others)) P, length-append (v ∷ seen) (u ∷ others))

  first_values : both_rows ≡ [] ++ ((v ∷ seen) ++ ((u ∷ others) ++ (P ++ right_row)))
  first_values = append_assoc ((v ∷ seen) ++ (u ∷ others)) P right_row ∙ append_assoc (v ∷ seen) (u ∷ others) (P ++ right_row)

  other_values : both_rows ≡ ((v ∷ seen) ++ u ∷ []) ++ (others ++ (P ++ right_row))
  other_values = first_values ∙ sym (append_assoc (v ∷ seen) (u ∷ []) (others ++ (P ++ right_row)))

  more_values : both_rows ≡ (left_row ++ w ∷ []) ++ (more ++ Q)
  more_values = sym (append_assoc left_row (w ∷ []) (more ++ Q))

  pub front_picks : (s n m a : ℕ) → s ≡ length seen → n ≡ length (u ∷ others) → m ≡ length more → a ≡ length P
      → Picks both_rows (run 0 (1 + s) ++ run (1 + s + n + a + 1) m ++ run (1 + s + 1) (n - 1)) (((v ∷ seen) ++ more) ++ others)
  front_picks s n m a es en em ea =
      picks_append both_rows (run 0 (1 + s) ++ run (1 + s + n + a + 1) m) (run (1 + s + 1) (n - 1)) ((v ∷ seen) ++ more) others
      (picks_append both_rows (run 0 (1 + s)) (run (1 + s + n + a + 1) m) (v ∷ seen) more
      (picks_run both_rows [] (v ∷ seen) ((u ∷ others) ++ (P ++ right_row)) 0 (1 + s) first_values refl (omega arith))
      (picks_run both_rows (left_row ++ w ∷ []) more Q (1 + s + n + a + 1) m more_values (omega (arith, width_is, length-append left_row (w ∷ []))) em))
      (picks_run both_rows ((v ∷ seen) ++ u ∷ []) others (P ++ right_row) (1 + s + 1) (n - 1) other_values (omega (arith, length-append (v ∷ seen) (u ∷ []))) (omega arith))

  pub left_picks : (s n a : ℕ) → s ≡ length seen → n ≡ length (u ∷ others) → a ≡ length P → Picks left_row (run (1 + s + n) a) P
  left_picks s n a es en ea =
      picks_run left_row ((v ∷ seen) ++ (u ∷ others)) P [] (1 + s + n) a (ap (λ l. ((v ∷ seen) ++ (u ∷ others)) ++ l) (sym (append-nil P)))
      (omega (arith, length-append (v ∷ seen) (u ∷ others))) ea

  pub right_picks : (m b : ℕ) → m ≡ length more → b ≡ length Q → Picks right_row (run (1 + m) b) Q
  right_picks m b em eb = picks_run right_row (w ∷ more) Q [] (1 + m) b (ap (λ l. (w ∷ more) ++ l) (sym (append-nil Q))) (omega arith) eb

  pub wanted_at : (s : ℕ) → s ≡ length seen → slice_get left_row (1 + s) ≡ Some u
  wanted_at s es =
      let e : left_row ≡ (v ∷ seen) ++ (u ∷ (others ++ P)) = append_assoc (v ∷ seen) (u ∷ others) P in
      let d : 1 + s ≡ length (v ∷ seen) = omega arith in
      ap₂ slice_get e d ∙ slice_get-middle (v ∷ seen) u (others ++ P)

  pub left_in : (a : ℕ) (x : X) → slice_get left_row a ≡ Some x → slice_get both_rows a ≡ Some x
  left_in a x e = slice_get-front left_row right_row a x e

  pub right_in : (offset : ℕ) → offset ≡ length left_row → (b : ℕ) (x : X) → slice_get right_row b ≡ Some x → slice_get both_rows (offset + b) ≡ Some x
  right_in offset eo b x e = ap (λ n. slice_get both_rows (n + b)) eo ∙ get-behind left_row right_row b x e

  module _ (s n m : ℕ) (K L M : List Key) (pairs : List Columns) (keep : List ℕ) (l : IsLayout s n m K L M pairs keep)
      (es : s ≡ length seen) (en : n ≡ length (u ∷ others)) (em : m ≡ length more) (ek : length K ≡ length P) (el : length L ≡ length Q) where
    pub offset_is : 1 + s + n + length K ≡ length left_row
    offset_is = omega (arith, width_is)

    -- the kept columns, where what stands beside the keys is along them
    pub layout_picks : (R : Key → X → Type 0) → Along R K P → Along R L Q → (E : List X) × Picks both_rows l.of_keys E × Along R M E × Picks both_rows keep ((((v ∷ seen) ++ more) ++ others) ++ E)
    layout_picks R hk hl =
        let (E, pe, me) = walk_to R (1 + s + n + length K) left_row right_row both_rows left_in (right_in (1 + s + n + length K) offset_is) P Q l.walk
        (left_picks s n (length K) es en ek) hk (right_picks m (length L) em el) hl in (
          E,
          pe,
          me,
          subst (λ k. Picks both_rows k ((((v ∷ seen) ++ more) ++ others) ++ E)) (sym l.keep_is)
              (picks_append both_rows (run 0 (1 + s) ++ run (1 + s + n + length K + 1) m ++ run (1 + s + 1) (n - 1)) l.of_keys (((v ∷ seen) ++ more) ++ others) E (front_picks s n m (length K) es en em ek) pe),
        )

    pub layout_pairs : (R : Key → X → Type 0) → ((k : Key) (x y : X) → R k x → R k y → x ≡ y) → Along R K P → Along R L Q → u ≡ w → Matches left_row right_row pairs
    layout_pairs R f hk hl same =
        let inner = walk_pairs R (1 + s + n + length K) left_row right_row both_rows left_in (right_in (1 + s + n + length K) offset_is) f P Q l.walk
        (left_picks s n (length K) es en ek) hk (right_picks m (length L) em el) hl in
        subst (Matches left_row right_row) (sym l.pairs_are) ((u, wanted_at s es, ap Some (sym same)), inner)
