-- The level that is wanted at a child, from the items of its operator that are left.
use Rattle.std.proofs.Common.{◌≡◌, inl, inr, ℕ, zero, suc, ◌+◌, ◌-◌, ◌<◌, ◌≤◌, cond, List, [], ◌∷◌, ◌++◌, length, length-append, take, drop, get_or, Option, Some, None, slice_get, Bool, true, false, option_and_then, refl, ap, sym, ◌∙◌, subst, arith}
use Rattle.std.proofs.lemmas.Bool.Decides.{eqb_tells}
use Rattle.std.proofs.lemmas.List.{take_more}
use Rattle.psg_grammar.proofs.PathLaws.{step}
use Rattle.std.specs.List.{AllByRecursion}
use Rattle.std.specs.Prelude.{MatchOption}
use Rattle.psg_lexis.specs.declared.token.Spanned.{Spanned}
use Rattle.psg_grammar.specs.declared.types.Kind.{Kind}
use Rattle.psg_grammar.specs.declared.types.Kind.TheVariants as kinds
use Rattle.psg_grammar.specs.Kinds.{IsOfKind}
use Rattle.psg_tree.specs.declared.tree.Shape.{Shape}
use Rattle.psg_tree.specs.declared.tree.Shape.TheVariants.{Op, List as ListOf}
use Rattle.psg_grammar.specs.declared.types.Definition.{Definition}
use Rattle.psg_grammar.specs.declared.types.Item.{Item}
use Rattle.psg_grammar.specs.declared.types.Operator.{Operator}
use Rattle.psg_grammar.specs.Fragments.{Fragment, operator, with_child, with_name, with_number, with_text, children_of}
use Rattle.psg_grammar.specs.Lookups.{is_part, operator_at}
use Rattle.psg_grammar.specs.Paths.{Path, node_at}
use Rattle.psg_grammar.specs.Sizes.{depth_of}
use Rattle.psg_tree.specs.declared.tree.Part.{Part}
use Rattle.psg_tree.specs.declared.tree.Part.TheVariants.{Sub, Name, Number, Text}
use Rattle.psg_tree.specs.Shapes.{with_parts, list_of, tree_of}
use Rattle.psg_unparse.specs.Rows.{from_part, behind_first, items_in, left, wanted, wanted_of, operator_of}
use Rattle.psg_unparse.specs.Walking.{count_of, level_wanted}
use Rattle.psg_unparse.proofs.Printing.{wanted-of}
use Rattle.psg_textedit.specs.Surroundings.{wanted_in, inner_level, is_in_brackets, more_around, Surrounds, at_top, in_child}
use Rattle.psg_textedit.proofs.Spots.{one_or_none}
use Rattle.psg_textedit.proofs.Depths.{child_low}
use Rattle.psg_textedit.specs.Places.{wanted_among}

abbrev IsOperator : Fragment → Type 0
IsOperator (operator o) = Unit {0}
IsOperator (with_child f t) = IsOperator f
IsOperator (with_name f n) = IsOperator f
IsOperator (with_number f n) = IsOperator f
IsOperator (with_text f t) = IsOperator f
IsOperator _ = ⊥

module _ (def : Definition) where
  -- later parts change nothing of the children that are there
  kept : (f : Fragment) (ps : List Part) (k : ℕ) → k < length (children_of f) → wanted_in def (with_parts f ps) k ≡ wanted_in def f k
  kept f [] k h = refl
  kept f (Sub t ∷ ps) k h =
      let size : length (children_of f ++ t ∷ []) ≡ length (children_of f) + 1 = length-append (children_of f) (t ∷ []) in
      kept (with_child f t) ps k (omega (arith, size, h))
      ∙ elim (eqb_tells (length (children_of f)) k) [
        | inl q ↦ absurd (omega (arith, q.1, h))
        | inr q ↦ ap (λ b. cond b (wanted def f) (wanted_in def f k)) q.0
      ]
  kept f (Name n ∷ ps) k h = kept (with_name f n) ps k h
  kept f (Number n ∷ ps) k h = kept (with_number f n) ps k h
  kept f (Text t ∷ ps) k h = kept (with_text f t) ps k h

  none_more : (f : Fragment) (k : ℕ) → IsOperator f → length (children_of f) ≤ k → wanted_in def f k ≡ 0
  none_more (operator o) k is h = refl
  none_more (with_child f t) k is h =
      let size : length (children_of f ++ t ∷ []) ≡ length (children_of f) + 1 = length-append (children_of f) (t ∷ []) in
      elim (eqb_tells (length (children_of f)) k) [
        | inl q ↦ absurd (omega (arith, q.1, h, size))
        | inr q ↦ ap (λ b. cond b (wanted def f) (wanted_in def f k)) q.0 ∙ none_more f k is (omega (arith, h, size))
      ]
  none_more (with_name f n) k is h = none_more f k is h
  none_more (with_number f n) k is h = none_more f k is h
  none_more (with_text f t) k is h = none_more f k is h
  none_more _ k is h = absurd is

  among : (f : Fragment) (o : Option Operator) (ps : List Part) (k j : ℕ) → IsOperator f → operator_of def f ≡ o
      → j ≡ length (children_of f) + k → wanted_among o (left def f) ps k ≡ wanted_in def (with_parts f ps) j
  among f o [] k j is top e = sym (none_more f j is (omega (arith, e)))
  among f o (Sub t ∷ ps) zero j is top e =
      let size : length (children_of f ++ t ∷ []) ≡ length (children_of f) + 1 = length-append (children_of f) (t ∷ []) in
      let here : length (children_of f) ≡ j = omega (arith, e) in
      ap (λ x. wanted_of x (left def f)) (sym top)
      ∙ elim (eqb_tells (length (children_of f)) j) [
        | inl q ↦ sym (ap (λ b. cond b (wanted def f) (wanted_in def f j)) q.0)
        | inr q ↦ absurd (q.1 here)
      ]
      ∙ sym (kept (with_child f t) ps j (omega (arith, size, here)))
  among f o (Sub t ∷ ps) (suc k) j is top e =
      let size : length (children_of f ++ t ∷ []) ≡ length (children_of f) + 1 = length-append (children_of f) (t ∷ []) in
      among (with_child f t) o ps k j is top (omega (arith, e, size))
  among f o (Name n ∷ ps) k j is top e = among (with_name f n) o ps k j is top e
  among f o (Number n ∷ ps) k j is top e = among (with_number f n) o ps k j is top e
  among f o (Text t ∷ ps) k j is top e = among (with_text f t) o ps k j is top e

  pub wanted_parts : (op : ℕ) (ps : List Part) (k : ℕ)
      → wanted_among (operator_at def op) (from_part (items_in (operator_at def op))) ps k
      ≡ wanted_in def (with_parts (operator op) ps) k
  wanted_parts op ps k =
      let same : k ≡ 0 + k = omega arith in
      among (operator op) (operator_at def op) ps k k tt refl same

  pub wanted_list : (l : ℕ) (es : List Fragment) (u : Bool) (k : ℕ) → 0 ≡ wanted_in def (list_of l es u) k
  wanted_list l [] u k = refl
  wanted_list l (e ∷ es) u k = refl

  -- ---- the way down

  pub way_on : (f : Fragment) (level around : ℕ) (path : Path) (n t : Fragment) (l a k : ℕ)
      → Surrounds def f level around path n l a → slice_get (children_of n) k ≡ Some t
      → Surrounds def f level around (path ++ k ∷ []) t (inner_level def t (wanted_in def n k)) (a + more_around def t (wanted_in def n k))
  way_on f level around _ _ t _ _ k at_top got = in_child k t got at_top
  way_on f level around _ n t l a k (in_child {path = path} i u gotten w) got =
      in_child i u gotten
      (way_on u (inner_level def u (wanted_in def f i)) (around + more_around def u (wanted_in def f i)) path n t l a k w got)

  pub way_node : (f : Fragment) (level around : ℕ) (path : Path) (n : Fragment) (l a : ℕ)
      → Surrounds def f level around path n l a → node_at f path ≡ Some n
  way_node f level around _ _ _ _ at_top = refl
  way_node f level around _ n l a (in_child {path = path} i u got w) =
      ap (option_and_then (λ t. node_at t path)) got
      ∙ way_node u (inner_level def u (wanted_in def f i)) (around + more_around def u (wanted_in def f i)) path n l a w

  more_low : (t : Fragment) (w : ℕ) → more_around def t w ≤ 1
  more_low t w = one_or_none (is_in_brackets def t w)

  -- the brackets round a node and its depth are together no more than the whole's depth
  pub way_low : (f : Fragment) (level around : ℕ) (path : Path) (n : Fragment) (l a : ℕ)
      → Surrounds def f level around path n l a → a + depth_of n ≤ around + depth_of f
  way_low f level around _ _ _ _ at_top = omega arith
  way_low f level around _ n l a (in_child {path = path} i u got w) =
      let rest = way_low u (inner_level def u (wanted_in def f i)) (around + more_around def u (wanted_in def f i)) path n l a w in
      omega (arith, rest, child_low f i u got, more_low u (wanted_in def f i))

-- a path that leads nowhere leads nowhere when it goes on
pub node_on : (f : Fragment) (path : Path) (n : Fragment) (k : ℕ) (rest : Path) → node_at f path ≡ Some n
    → slice_get (children_of n) k ≡ None → node_at f (path ++ k ∷ rest) ≡ None
node_on f [] n k rest e none =
    let same : f ≡ n = (let both : Some f ≡ Some n = e in cc) in
    ap (λ x. option_and_then (λ t. node_at t rest) (slice_get (children_of x) k)) same
    ∙ ap (option_and_then (λ t. node_at t rest)) none
node_on f (i ∷ path) n k rest e none =
    let (t, got, further) = step (slice_get (children_of f) i) path n e in
    ap (option_and_then (λ u. node_at u (path ++ k ∷ rest))) got ∙ node_on t path n k rest further none

-- ---- kinds

kind_parts : (def : Definition) (f : Fragment) (ps : List Part) (kind : Kind) → IsOfKind def (with_parts f ps) kind → IsOfKind def f kind
kind_parts def f [] kind h = h
kind_parts def f (Sub t ∷ ps) kind h = kind_parts def (with_child f t) ps kind h
kind_parts def f (Name n ∷ ps) kind h = kind_parts def (with_name f n) ps kind h
kind_parts def f (Number n ∷ ps) kind h = kind_parts def (with_number f n) ps kind h
kind_parts def f (Text t ∷ ps) kind h = kind_parts def (with_text f t) ps kind h

pub op_kind : (def : Definition) (s : Shape) (o : ℕ) (ps : List Part) (f : Fragment) (p : ℕ) → s ≡ Op o ps → tree_of s ≡ f
    → MatchOption (operator_at def o) (p ≡ 0) (λ x. p ≡ x.phylum) → (kind : Kind) → IsOfKind def f kind → kinds.Phylum p ≡ kind
op_kind def s o ps f p e t m kind h =
    let is : IsOfKind def (with_parts (operator o) ps) kind = subst (λ x. IsOfKind def x kind) (sym (sym (ap tree_of e) ∙ t)) h in
    let (op, found, of) = kind_parts def (operator o) ps kind is in
    let same : p ≡ op.phylum = subst (λ x. MatchOption x (p ≡ 0) (λ y. p ≡ y.phylum)) found m in
    ap kinds.Phylum same ∙ sym of

pub list_kind : (def : Definition) (s : Shape) (l : ℕ) (es : List Fragment) (u : Bool) (f : Fragment) → s ≡ ListOf l es u
    → tree_of s ≡ f → (kind : Kind) → IsOfKind def f kind → kinds.List l ≡ kind
list_kind def s l es u f e t kind h = by es (subst (λ x. IsOfKind def x kind) (sym (sym (ap tree_of e) ∙ t)) h) where
  by : (xs : List Fragment) → IsOfKind def (list_of l xs u) kind → kinds.List l ≡ kind
  by [] k = sym k
  by (x ∷ xs) k = sym k

-- ---- lists of tokens

pub all_at : (P : Spanned → Type 0) (ts : List Spanned) → ((k : ℕ) (s : Spanned) → slice_get ts k ≡ Some s → P s)
    → AllByRecursion P ts
all_at P [] h = tt
all_at P (t ∷ ts) h = (h 0 t refl, all_at P ts (λ k s e. h (suc k) s e))

-- ---- items

pub part_first : (rest behind all : List Item) (i : Item) → from_part rest ≡ from_part all → rest ≡ i ∷ behind
    → is_part i ≡ true → rest ≡ from_part all
part_first rest behind all i h e p =
    e ∙ sym (ap from_part e ∙ ap (λ b. cond b (i ∷ behind) (from_part behind)) p) ∙ h

pub part_later : (rest behind all : List Item) (i : Item) → from_part rest ≡ from_part all → rest ≡ i ∷ behind
    → is_part i ≡ false → from_part behind ≡ from_part all
part_later rest behind all i h e p =
    sym (ap from_part e ∙ ap (λ b. cond b (i ∷ behind) (from_part behind)) p) ∙ h

pub no_part : (rest all : List Item) → from_part rest ≡ from_part all → length rest ≡ 0 → rest ≡ from_part all
no_part [] all h e = h
no_part (i ∷ rest) all h e = absurd (omega (arith, e))

-- ---- elements by number

-- ---- the loop over an operator's parts

less_none : (k : ℕ) → k ≡ k - 0
less_none k = omega arith

wanted_one : (o : Option Operator) (rest : List Item) (p : Part) (more : List Part) (k : ℕ) → k < count_of p
    → wanted_among o rest (p ∷ more) k ≡ wanted_of o rest
wanted_one o rest (Sub t) more zero h = refl
wanted_one o rest (Sub t) more (suc k) h = absurd (omega (arith, h))
wanted_one o rest (Name n) more k h = absurd (omega (arith, h))
wanted_one o rest (Number n) more k h = absurd (omega (arith, h))
wanted_one o rest (Text t) more k h = absurd (omega (arith, h))

wanted_next : (o : Option Operator) (rest : List Item) (p : Part) (more : List Part) (k : ℕ) → count_of p ≤ k
    → wanted_among o rest (p ∷ more) k ≡ wanted_among o (from_part (behind_first rest)) more (k - count_of p)
wanted_next o rest (Sub t) more zero h = absurd (omega (arith, h))
wanted_next o rest (Sub t) more (suc k) h =
    let same : k ≡ suc k - 1 = omega arith in ap (wanted_among o (from_part (behind_first rest)) more) same
wanted_next o rest (Name n) more k h = ap (wanted_among o (from_part (behind_first rest)) more) (less_none k)
wanted_next o rest (Number n) more k h = ap (wanted_among o (from_part (behind_first rest)) more) (less_none k)
wanted_next o rest (Text t) more k h = ap (wanted_among o (from_part (behind_first rest)) more) (less_none k)

pub split_at : {X : Type 0} (xs : List X) (k : ℕ) (d : X) → k < length xs → xs ≡ take k xs ++ get_or xs k d ∷ drop (k + 1) xs
split_at [] k d h = absurd (omega (arith, h))
split_at (x ∷ xs) zero d h = refl
split_at (x ∷ xs) (suc k) d h =
    let more : suc (k + 1) ≡ suc k + 1 = omega arith in
    ap (λ ys. x ∷ ys) (split_at xs k d (omega (arith, h)))
    ∙ ap (λ n. x ∷ (take k xs ++ get_or xs k d ∷ drop n (x ∷ xs))) more

module _ (def : Definition) (op : ℕ) (items rest : List Item) (parts more : List Part) (item : Part) (at left number : ℕ) (is : items ≡ items_in (operator_at def op)) (next : drop at parts ≡ item ∷ more) (kept_so : wanted_among (operator_at def op) rest (drop at parts) left ≡ wanted_among (operator_at def op) (from_part (items_in (operator_at def op))) parts number) where
  -- the wanted subtree is this part
  pub wanted_here : (level : ℕ) → left < count_of item
      → level ≡ level_wanted (operator_at def op) (length items - length rest)
      → level ≡ wanted_among (operator_at def op) (from_part (items_in (operator_at def op))) parts number
  wanted_here level own e =
      e ∙ wanted-of def (operator_at def op) rest (length items - length rest) (ap (λ xs. length xs - length rest) is)
      ∙ sym (wanted_one (operator_at def op) rest item more left own)
      ∙ ap (λ ps. wanted_among (operator_at def op) rest ps left) (sym next) ∙ kept_so

  -- or a later one
  pub wanted_later : (after : List Item) (less : ℕ) → count_of item ≤ left → less ≡ left - count_of item
      → after ≡ from_part (behind_first rest) → wanted_among (operator_at def op) after more less
      ≡ wanted_among (operator_at def op) (from_part (items_in (operator_at def op))) parts number
  wanted_later after less own e f =
      ap (λ r. wanted_among (operator_at def op) r more less) f
      ∙ ap (wanted_among (operator_at def op) (from_part (behind_first rest)) more) e
      ∙ sym (wanted_next (operator_at def op) rest item more left own)
      ∙ ap (λ ps. wanted_among (operator_at def op) rest ps left) (sym next) ∙ kept_so

-- ---- the loop over a path

module _ (def : Definition) (f : Fragment) (path : Path) (i : ℕ) (n : Fragment) (l a d : ℕ) (way : Surrounds def f 0 0 (take i path) n l a) (lt : i < length path) where
  pub way_lost : slice_get (children_of n) (get_or path i d) ≡ None → node_at f path ≡ None
  way_lost none =
      ap (node_at f) (split_at path i d lt)
      ∙ node_on f (take i path) n (get_or path i d) (drop (i + 1) path) (way_node def f 0 0 (take i path) n l a way) none

  pub way_kept : (t node : Fragment) (w level around : ℕ) → slice_get (children_of n) (get_or path i d) ≡ Some t
      → w ≡ wanted_in def n (get_or path i d) → node ≡ t → level ≡ inner_level def t w → around ≡ a + more_around def t w
      → Surrounds def f 0 0 (take (i + 1) path) node level around
  way_kept t node w level around got e same el ea =
      let there : Surrounds def f 0 0 (take i path ++ get_or path i d ∷ []) t (inner_level def t (wanted_in def n (get_or path i d)))
      (a + more_around def t (wanted_in def n (get_or path i d))) =
      way_on def f 0 0 (take i path) n t l a (get_or path i d) way got in
      let moved : Surrounds def f 0 0 (take (i + 1) path) t (inner_level def t (wanted_in def n (get_or path i d)))
      (a + more_around def t (wanted_in def n (get_or path i d))) =
      subst (λ q. Surrounds def f 0 0 q t (inner_level def t (wanted_in def n (get_or path i d)))
      (a + more_around def t (wanted_in def n (get_or path i d)))) (sym (take_more path i d lt)) there in
      let by_w : Surrounds def f 0 0 (take (i + 1) path) t (inner_level def t w) (a + more_around def t w) =
      subst (λ x. Surrounds def f 0 0 (take (i + 1) path) t (inner_level def t x) (a + more_around def t x)) (sym e) moved in
      subst (λ x. Surrounds def f 0 0 (take (i + 1) path) x level around) (sym same)
      (subst (λ x. Surrounds def f 0 0 (take (i + 1) path) t x around) (sym el)
      (subst (Surrounds def f 0 0 (take (i + 1) path) t (inner_level def t w)) (sym ea) by_w))
