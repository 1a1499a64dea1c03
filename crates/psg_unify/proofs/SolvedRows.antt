-- Two rows in a pool, and what the solved pool says of them.
use Rattle.std.proofs.Common.{◌≡◌, inl, inr, ℕ, cond, nat_le, true, false, Some, None, List, [], ◌∷◌, ◌++◌, map, length, slice_get, All, refl, ap, ap₂, sym, ◌∙◌, subst, arith, append-nil, length-append}
use Rattle.std.specs.Option.{option_map}
use Rattle.std.proofs.lemmas.Bool.Decides.{nat_tests}
use Rattle.std.proofs.lemmas.Option.{slice_get-map, slice_get_within, same_Some}
use Rattle.std.proofs.lemmas.List.Elements.{All-weaker, All-cons, All-head, All-tail}
use Rattle.std.proofs.lemmas.Bool.{cases_Bool}
use Rattle.std.proofs.lemmas.List.{map-append, length-map}
use Rattle.psg_terms.specs.Terms.{Term, symbol, applied}
use Rattle.psg_terms.specs.Signature.{Signature, HasSort, HaveSorts}
use Rattle.psg_terms.specs.Canonical.{Variable, variables_of, is_noted}
use Rattle.psg_terms.specs.Instances.{Substitution, substitute, IsGround, IsGrounding, AllGroundInstancesIn}
use Rattle.psg_terms.specs.Renaming.{numbering}
use Rattle.psg_terms.proofs.Applied.{applied-substitute}
use Rattle.psg_terms.proofs.InstanceLaws.{Takes-substitute, ground-substitute}
use Rattle.psg_terms.proofs.Unique.{Each, each-map, each-among}
use Rattle.psg_terms.proofs.Renumbering.{renumbered_same, renumbered_above, IsAtMost, IsAbove, AgreeAt, agree_in}
use Rattle.psg_pool.specs.declared.cells.CellId.{CellId}
use Rattle.psg_pool.specs.Cells.{Put, free, IsAmong}
use Rattle.psg_pool.specs.Bindings.{Kept, IsSound}
use Rattle.psg_pool.proofs.Places.{some_or_none}
use Rattle.psg_unify.specs.declared.classes.Classes.{Classes}
use Rattle.psg_unify.specs.Pairs.{Pair, AgreeOn, AreOfEqualSort, IsAgreeing}
use Rattle.psg_unify.specs.Reading.{Reading, IsReading}
use Rattle.psg_unify.specs.Fitting.{Fits, sort_at, sort_in}
use Rattle.psg_unify.specs.Valuations.{Equation, Equals, IsValuation, Solves, IsState}
use Rattle.psg_unify.specs.Joined.{IsNext, AreSortedAlike, IsSolving}
use Rattle.psg_unify.specs.Asking.{AskFor, ArePut}
use Rattle.psg_unify.proofs.Laws.{with_cells, read_by, has_reading, reading_before}
use Rattle.psg_unify.proofs.SortsRead.{all_at, cell_sorts}
use Rattle.psg_unify.proofs.MadeCells.{sorts_back}
use Rattle.psg_unify.proofs.Closing.{state_begin}
use Rattle.psg_unify.proofs.Patched.{read_each_of, IsFull}

-- one substitution for the numbers up to n, and one for those above
abbrev pub joint : ℕ → Substitution → Substitution → Substitution
joint n g h s m = cond (nat_le m n) (g s m) (h s m)

pub joint-low : (n : ℕ) (g h : Substitution) (x : Variable) → IsAtMost n x → AgreeAt (joint n g h) g x
joint-low n g h x l = let t : nat_le x.1 n ≡ true = grind (arith, nat_tests) in ap (λ b. cond b (g x.0 x.1) (h x.0 x.1)) t

pub joint-high : (n : ℕ) (g h : Substitution) (x : Variable) → IsAbove n x → AgreeAt (joint n g h) h x
joint-high n g h x l = let t : nat_le x.1 n ≡ false = grind (arith, nat_tests) in ap (λ b. cond b (g x.0 x.1) (h x.0 x.1)) t

pub joint-grounding : (sig : Signature) (n : ℕ) (g h : Substitution) → IsGrounding sig g → IsGrounding sig h → IsGrounding sig (joint n g h)
joint-grounding sig n g h hg hh = record {
  variable_free = λ s m lt. elim (nat_le m n) as (λ b. IsGround (cond b (g s m) (h s m))) [ true ↦ hg.variable_free s m lt | false ↦ hh.variable_free s m lt ];
  sorted = λ s m lt. elim (nat_le m n) as (λ b. HasSort sig (cond b (g s m) (h s m)) s) [ true ↦ hg.sorted s m lt | false ↦ hh.sorted s m lt ];
}

map-same : (v read : Reading) (f : Term → Term) (xs : List CellId) → ((x : CellId) → v x ≡ f (read x)) → map v xs ≡ map f (map read xs)
map-same v read f [] h = refl
map-same v read f (x ∷ xs) h = ap₂ (λ y ys. y ∷ ys) (h x) (map-same v read f xs h)

-- what stands at a place of a row of values
value_at : {Y : Type 0} (v : CellId → Y) (xs : List CellId) (i : ℕ) (x : CellId) → slice_get xs i ≡ Some x → slice_get (map v xs) i ≡ Some (v x)
value_at v xs i x e = slice_get-map v xs i ∙ ap (option_map v) e

-- the equations say that the rows agree on the pairs
module _ (v : Reading) (lefts rights : List CellId) where
  pub asked_agree : (pairs : List Pair) (equations : List Equation) → AskFor lefts rights pairs equations → Equals v equations → AgreeOn pairs (map v lefts) (map v rights)
  asked_agree [] [] a h = tt
  asked_agree [] (e ∷ equations) a h = absurd a
  asked_agree (p ∷ pairs) [] a h = absurd a
  asked_agree (p ∷ pairs) (e ∷ equations) (x, y, a) h = (
    value_at v lefts p.0 e.0 x ∙ ap (λ (t : Term). Some t) (All-head (λ (q : Equation). v q.0 ≡ v q.1) e equations h) ∙ sym (value_at v rights p.1 e.1 y),
    asked_agree pairs equations a (All-tail (λ (q : Equation). v q.0 ≡ v q.1) e equations h),
  )

  pub agree_asked : (pairs : List Pair) (equations : List Equation) → AskFor lefts rights pairs equations → AgreeOn pairs (map v lefts) (map v rights) → Equals v equations
  agree_asked [] [] a h = λ k d l. absurd (omega (arith, l))
  agree_asked [] (e ∷ equations) a h = absurd a
  agree_asked (p ∷ pairs) [] a h = absurd a
  agree_asked (p ∷ pairs) (e ∷ equations) (x, y, a) (same, h) =
      All-cons (λ (q : Equation). v q.0 ≡ v q.1) e equations
      (same_Some (v e.0) (v e.1) (sym (value_at v lefts p.0 e.0 x) ∙ same ∙ value_at v rights p.1 e.1 y))
      (agree_asked pairs equations a h)

-- what holds of the cells of both rows holds of those of the equations
pub asked_both : (P : CellId → Type 0) (lefts rights : List CellId) (pairs : List Pair) (equations : List Equation) → All P lefts → All P rights
    → AskFor lefts rights pairs equations → All (λ (e : Equation). P e.0 × P e.1) equations
asked_both P lefts rights [] [] l r a = λ k d m. absurd (omega (arith, m))
asked_both P lefts rights [] (e ∷ equations) l r a = absurd a
asked_both P lefts rights (p ∷ pairs) [] l r a = absurd a
asked_both P lefts rights (p ∷ pairs) (e ∷ equations) l r (x, y, a) =
    All-cons (λ (q : Equation). P q.0 × P q.1) e equations (all_at P lefts p.0 e.0 l x, all_at P rights p.1 e.1 r y)
    (asked_both P lefts rights pairs equations l r a)

-- and of equal sorts
asked_sorts : (sig : Signature) (cells : List Put) (lefts rights : List CellId) (ls rs : List ℕ) (pairs : List Pair) (equations : List Equation)
    → map (sort_at sig cells) lefts ≡ map (λ (n : ℕ). Some n) ls → map (sort_at sig cells) rights ≡ map (λ (n : ℕ). Some n) rs → AreOfEqualSort ls rs pairs
    → AskFor lefts rights pairs equations → All (AreSortedAlike sig cells) equations
asked_sorts sig cells lefts rights ls rs [] [] el er h a = λ k d m. absurd (omega (arith, m))
asked_sorts sig cells lefts rights ls rs [] (e ∷ equations) el er h a = absurd a
asked_sorts sig cells lefts rights ls rs (p ∷ pairs) [] el er h a = absurd a
asked_sorts sig cells lefts rights ls rs (p ∷ pairs) (e ∷ equations) el er (s, h) (x, y, a) =
    All-cons (AreSortedAlike sig cells) e equations
    (one lefts ls p.0 e.0 el x s.1 ∙ sym (one rights rs p.1 e.1 er y s.2))
    (asked_sorts sig cells lefts rights ls rs pairs equations el er h a) where
      one : (ids : List CellId) (ns : List ℕ) (i : ℕ) (id : CellId) → map (sort_at sig cells) ids ≡ map (λ (n : ℕ). Some n) ns → slice_get ids i ≡ Some id → slice_get ns i ≡ Some s.0 → sort_at sig cells id ≡ Some s.0
      one ids ns i id e at sort =
          same_Some (sort_at sig cells id) (Some s.0) (sym (value_at (sort_at sig cells) ids i id at) ∙ ap (λ l. slice_get l i) e
          ∙ slice_get-map (λ (n : ℕ). Some n) ns i ∙ ap (option_map (λ (n : ℕ). Some n)) sort)

-- a cell of a sort is there
sorted_there : (sig : Signature) (cells : List Put) (id : CellId) (s : ℕ) → sort_at sig cells id ≡ Some s → IsAmong cells id
sorted_there sig cells id s e = elim (some_or_none (slice_get cells id.0)) [
  | inl n ↦ (let x : None ≡ Some s = sym (ap (sort_in sig) n) ∙ e in cc)
  | inr p ↦ slice_get_within cells id.0 p.0 p.1
]

-- values of a fitting pool's cells under a substitution
pub full_under : (sig : Signature) (kept : Kept) (sound : IsSound kept) (fits : Fits sig kept) (read : Reading) → IsReading kept read → (f : Substitution) → IsGrounding sig f
    → IsFull sig kept.cells (λ id. substitute f (read id))
full_under sig kept sound fits read r f g id s e =
    let own = cell_sorts sig kept sound fits read r id (sorted_there sig kept.cells id s e) s e in
    (ground-substitute sig f g (read id) [] s own, Takes-substitute sig f g.sorted (read id) [] s own)

pub valuation_under : (kept : Kept) (read : Reading) → IsReading kept read → (f : Substitution) → IsValuation kept.cells (λ id. substitute f (read id))
valuation_under kept read r f id c args e =
    ap (substitute f) (r.con_cell id c args e) ∙ applied-substitute f (symbol c) (map read args)
    ∙ ap (applied (symbol c)) (sym (map-same (λ x. substitute f (read x)) read (substitute f) args (λ x. refl)))

-- values of the pool's cells under which the rows agree
pub record HasValues (sig : Signature) (pairs : List Pair) (put : Kept) (lefts rights : List CellId) (values : List Term) : Type 0 where
  pub v : Reading
  pub valuation : IsValuation put.cells v
  pub solves : Solves put.bindings v
  pub agree : AgreeOn pairs (map v lefts) (map v rights)
  pub full : IsFull sig put.cells v
  pub values_are : values ≡ map v (lefts ++ rights)

module _ (sig : Signature) (left right : List Term) (pairs : List Pair) (old mid put : Kept) (lefts rights : List CellId) (p : ArePut sig left right pairs old mid put lefts rights) where
  put_is : put ≡ with_cells mid (mid.cells ++ p.two.longer.cells)
  put_is = ap₂ (λ x y. record { cells = x; bindings = y }) p.two.longer.cells_are p.two.longer.bindings_are

  mid_reading : (read : Reading) → IsReading put read → IsReading mid read
  mid_reading read r = reading_before mid p.two.longer.cells read (subst (λ k. IsReading k read) put_is r)

  pub left_among : All (IsAmong put.cells) lefts
  left_among = All-weaker (IsAmong mid.cells) (IsAmong put.cells)
      (λ x l. let e = ap (λ (c : List Put). length c) p.two.longer.cells_are in omega (arith, l, e, length-append mid.cells p.two.longer.cells)) lefts p.one.among

  abbrev pub read_put : Reading
  read_put = read_by put p.two.fits.height p.two.fits.falls

  pub reads_put : IsReading put read_put
  reads_put = has_reading put p.two.fits.height p.two.fits.falls p.two.sound

  pub left_same : (read : Reading) → IsReading put read → (ss : List ℕ) → HaveSorts sig left ss
      → AllGroundInstancesIn sig left (map read lefts) × AllGroundInstancesIn sig (map read lefts) left × HaveSorts sig (map read lefts) ss
  left_same read r ss h = renumbered_same sig p.signature (length old.cells) [] p.one.known left (map read lefts) ss h (p.one.read_as read (mid_reading read r))

  pub right_same : (read : Reading) → IsReading put read → (ss : List ℕ) → HaveSorts sig right ss
      → AllGroundInstancesIn sig right (map read rights) × AllGroundInstancesIn sig (map read rights) right × HaveSorts sig (map read rights) ss
  right_same read r ss h = renumbered_same sig p.signature (length mid.cells) [] p.two.known right (map read rights) ss h (p.two.read_as read r)

  left_low : (read : Reading) → IsReading put read → Each (IsAtMost (length mid.cells)) (variables_of (map read lefts))
  left_low read r = read_each_of mid p.one.sound p.one.fits.height p.one.fits.falls read (mid_reading read r) (IsAtMost (length mid.cells))
      (λ id s e. let l = slice_get_within mid.cells id.0 (free s) e in omega (arith, l)) lefts p.one.among

  right_high : (read : Reading) → IsReading put read → Each (IsAbove (length mid.cells)) (variables_of (map read rights))
  right_high read r = renumbered_above sig p.signature (length mid.cells) p.two.known right (map read rights) (p.two.read_as read r)

  -- no variable is in both rows
  pub rows_apart : (read : Reading) → IsReading put read → (x : Variable) → is_noted x (variables_of (map read lefts)) ≡ true → is_noted x (variables_of (map read rights)) ≡ false
  rows_apart read r x h = elim (cases_Bool (is_noted x (variables_of (map read rights)))) [
    | inl t ↦
        let low = each-among (IsAtMost (length mid.cells)) x (variables_of (map read lefts)) (left_low read r) h in
        let high = each-among (IsAbove (length mid.cells)) x (variables_of (map read rights)) (right_high read r) t in
        absurd (omega (arith, low, high))
    | inr f ↦ f
  ]

  pub left_sorts : (ss : List ℕ) → HaveSorts sig left ss → map (sort_at sig put.cells) lefts ≡ map (λ (n : ℕ). Some n) ss
  left_sorts ss h = sorts_back sig put p.two.sound p.two.fits read_put reads_put lefts ss left_among (left_same read_put reads_put ss h).2

  pub right_sorts : (ss : List ℕ) → HaveSorts sig right ss → map (sort_at sig put.cells) rights ≡ map (λ (n : ℕ). Some n) ss
  right_sorts ss h = sorts_back sig put p.two.sound p.two.fits read_put reads_put rights ss p.two.among (right_same read_put reads_put ss h).2

  pub left_length : length lefts ≡ length left
  left_length = sym (length-map lefts read_put) ∙ ap (λ (l : List Term). length l) (p.one.read_as read_put (mid_reading read_put reads_put)).made ∙ length-map left (substitute (numbering sig (length old.cells) p.one.known))

  pub right_length : length rights ≡ length right
  right_length = sym (length-map rights read_put) ∙ ap (λ (l : List Term). length l) (p.two.read_as read_put reads_put).made ∙ length-map right (substitute (numbering sig (length mid.cells) p.two.known))

  pub put_bindings : put.bindings ≡ old.bindings
  put_bindings = p.two.longer.bindings_are ∙ p.one.longer.bindings_are

  -- ground instances that agree are values of the cells
  pub agreeing_values : (values : List Term) → IsAgreeing sig left right pairs values → HasValues sig pairs put lefts rights values
  agreeing_values values (l, r, il, ir, agree, e) =
      let gl = (left_same read_put reads_put p.joinable.left_sorts p.joinable.left_sorted).0 l il in
      let gr = (right_same read_put reads_put p.joinable.right_sorts p.joinable.right_sorted).0 r ir in
      let n : ℕ = length mid.cells in
      let f : Substitution = joint n gl.0 gr.0 in
      let grounds : IsGrounding sig f = joint-grounding sig n gl.0 gr.0 gl.1 gr.1 in
      let v : Reading = λ id. substitute f (read_put id) in
      let on_left : map v lefts ≡ l =
      map-same v read_put (substitute f) lefts (λ x. refl)
      ∙ agree_in f gl.0 (map read_put lefts) (each-map (IsAtMost n) (AgreeAt f gl.0) (joint-low n gl.0 gr.0) (variables_of (map read_put lefts)) (left_low read_put reads_put)) ∙ sym gl.2 in
      let on_right : map v rights ≡ r =
      map-same v read_put (substitute f) rights (λ x. refl)
      ∙ agree_in f gr.0 (map read_put rights) (each-map (IsAbove n) (AgreeAt f gr.0) (joint-high n gl.0 gr.0) (variables_of (map read_put rights)) (right_high read_put reads_put)) ∙ sym gr.2 in
      record {
        v = v;
        valuation = valuation_under put read_put reads_put f;
        solves = λ id to t. ap (substitute f) (reads_put.bound_cell id to t);
        agree = subst (λ a. AgreeOn pairs a (map v rights)) (sym on_left) (subst (AgreeOn pairs l) (sym on_right) agree);
        full = full_under sig put p.two.sound p.two.fits read_put reads_put f grounds;
        values_are = e ∙ ap₂ (λ a b. a ++ b) (sym on_left) (sym on_right) ∙ sym (map-append v lefts rights);
      }

  -- the solver can begin
  pub solving_begins : (equations : List Equation) (classes : Classes) (base : ℕ) → AskFor lefts rights pairs equations → ((id to : CellId) → IsNext classes id to → ⊥)
      → IsSolving sig base old.bindings equations put classes [] equations
  solving_begins equations classes base a none = record {
    state = subst (λ b. IsState put.cells old.bindings equations b [] equations) (sym put_bindings) (state_begin put.cells old.bindings equations);
    linked = λ id to n. absurd (none id to n);
    there = λ id to n. absurd (none id to n);
    apart_sorts = λ k d l. absurd (omega (arith, l));
    puts = p.two.fits.puts;
    sorts = p.two.fits.sorts;
    left_sorts = asked_sorts sig put.cells lefts rights p.joinable.left_sorts p.joinable.right_sorts pairs equations
        (left_sorts p.joinable.left_sorts p.joinable.left_sorted) (right_sorts p.joinable.right_sorts p.joinable.right_sorted) p.joinable.equal a;
    left_there = asked_both (IsAmong put.cells) lefts rights pairs equations left_among p.two.among a;
    more = [];
    bindings_are = put_bindings ∙ sym (append-nil old.bindings);
    from = λ k d l. absurd (omega (arith, l));
  }
