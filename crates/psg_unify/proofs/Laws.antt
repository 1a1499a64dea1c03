-- What keeps a pool fitting, and what it reads as.
use Rattle.std.proofs.Common.{◌≡◌, inl, inr, ℕ, zero, suc, ◌<◌, ◌==◌, ◌+◌, Option, Some, None, List, [], ◌∷◌, ◌++◌, map, length, take, slice_get, All, refl, ap, ap₂, sym, ◌∙◌, subst, arith, length-append}
use Rattle.std.proofs.lemmas.Bool.{eqb-true, cases_Bool}
use Rattle.std.proofs.lemmas.List.Elements.{All-weaker, All-cons, All-head, All-tail, All-push, All-take}
use Rattle.std.proofs.Math.Seq.{take-append_seam, take-length}
use Rattle.psg_terms.specs.Terms.{Term, variable, symbol, applied}
use Rattle.psg_pool.specs.declared.cells.CellId.{CellId}
use Rattle.psg_pool.specs.declared.cells.Binding.{Binding}
use Rattle.psg_pool.specs.Cells.{Put, free, constructor, IsAmong, IsPutFree, arguments_in, arguments_of}
use Rattle.psg_pool.specs.Bindings.{Kept, target_of, IsSound, IsOver}
use Rattle.psg_pool.proofs.Places.{some_or_none, slice_get_none, slice_get-append}
use Rattle.psg_pool.proofs.Links.{target_of_here, target_of_there}
use Rattle.psg_pool.proofs.Following.{target_of-append}
use Rattle.psg_unify.specs.Reading.{Reading, IsReading}
use Rattle.psg_terms.specs.Signature.{Signature, HasSort, HaveSorts}
use Rattle.psg_pool.specs.Marks.{Lengths, IsReleasable}
use Rattle.psg_unify.specs.Fitting.{Fits, Falls, IsPutOf, IsOfOneSort, sort_at, sort_in}
use Rattle.psg_unify.specs.Solved.{IsGrown}

abbrev pub with_cells : Kept → List Put → Kept
with_cells kept cells = record { cells = cells; bindings = kept.bindings }

abbrev pub cut : ℕ → ℕ → Kept → Kept
cut cells bindings kept = record { cells = take cells kept.cells; bindings = take bindings kept.bindings }

abbrev pub with_bindings : Kept → List Binding → Kept
with_bindings kept bs = record { cells = kept.cells; bindings = bs }

-- fewer bindings: cells fall as before
pub falls_fewer : (kept : Kept) (bs more : List Binding) (height : CellId → ℕ) → kept.bindings ≡ bs ++ more → Falls kept height → Falls (with_bindings kept bs) height
falls_fewer kept bs more height e f = record {
  bound = λ id to t. f.bound id to (subst (λ l. target_of l id ≡ Some to) (sym e) (target_of-append bs more id to t));
  con = f.con;
}

-- what was put, with its arguments read
abbrev pub as_put : Reading → CellId → Option Put → Term
as_put read id None = symbol 0
as_put read id (Some (free s)) = variable s (id.0 + 1)
as_put read id (Some (constructor c args)) = applied (symbol c) (map read args)

-- where a bound cell's target is read, or else what was put
abbrev pub as_bound : Reading → Term → Option CellId → Term
as_bound read t None = t
as_bound read t (Some to) = read to

-- the term of a cell, followed for so many steps
abbrev pub read_within : ℕ → Kept → CellId → Term
read_within zero kept id = symbol 0
read_within (suc n) kept id =
    as_bound (read_within n kept) (as_put (read_within n kept) id (slice_get kept.cells id.0)) (target_of kept.bindings id)

map-same : {X Y : Type 0} (f g : X → Y) (xs : List X) → All (λ x. f x ≡ g x) xs → map f xs ≡ map g xs
map-same f g [] h = refl
map-same f g (x ∷ xs) h = ap₂ (λ y ys. y ∷ ys) (h 0 x (omega arith)) (map-same f g xs (λ k d l. h (suc k) d (omega (arith, l))))

as_bound-same : (f g : Reading) (t u : Term) (o : Option CellId) → ((to : CellId) → o ≡ Some to → f to ≡ g to) → (o ≡ None → t ≡ u) → as_bound f t o ≡ as_bound g u o
as_bound-same f g t u None h k = k refl
as_bound-same f g t u (Some to) h k = h to refl

as_put-same : (f g : Reading) (id : CellId) (o : Option Put) → All (λ a. f a ≡ g a) (arguments_in o) → as_put f id o ≡ as_put g id o
as_put-same f g id None h = refl
as_put-same f g id (Some (free s)) h = refl
as_put-same f g id (Some (constructor c args)) h = ap (applied (symbol c)) (map-same f g args h)

as_bound-is : (x : Term) (f : Reading) (t : Term) (o : Option CellId) → ((to : CellId) → o ≡ Some to → x ≡ f to) → (o ≡ None → x ≡ t) → x ≡ as_bound f t o
as_bound-is x f t None h k = k refl
as_bound-is x f t (Some to) h k = h to refl

pub All-both : {X : Type 0} (P Q R : X → Type 0) → ((x : X) → P x → Q x → R x) → (xs : List X) → All P xs → All Q xs → All R xs
All-both P Q R f [] p q = λ k d l. absurd (omega (arith, l))
All-both P Q R f (x ∷ xs) p q = All-cons R x xs (f x (All-head P x xs p) (All-head Q x xs q)) (All-both P Q R f xs (All-tail P x xs p) (All-tail Q x xs q))

-- what is bound was put free, and its target is there
pub over_at : (cells : List Put) (bs : List Binding) (id to : CellId) → All (IsOver cells) bs → target_of bs id ≡ Some to → IsPutFree cells id × IsAmong cells to
over_at cells [] id to h e = cc
over_at cells (b ∷ rest) id to h e =
    let own : IsOver cells b = h 0 b (omega arith) in
    let others : All (IsOver cells) rest = λ k d l. h (suc k) d (omega (arith, l)) in
    elim (cases_Bool (b.bound.0 == id.0)) [
      | inl t ↦
          let here : Some b.target ≡ Some to = sym (target_of_here b rest id (eqb-true b.bound.0 id.0 t)) ∙ e in
          let same : b.target ≡ to = cc in
          (subst (λ n. (s : ℕ) × (slice_get cells n ≡ Some (free s))) (eqb-true b.bound.0 id.0 t) own.0, subst (IsAmong cells) same own.1)
      | inr f ↦ over_at cells rest id to others (sym (target_of_there b rest id f) ∙ e)
    ]

-- a constructor cell is not bound
con_unbound : (kept : Kept) → IsSound kept → (id : CellId) (c : ℕ) (args : List CellId) → slice_get kept.cells id.0 ≡ Some (constructor c args) → target_of kept.bindings id ≡ None
con_unbound kept sound id c args e = elim (some_or_none (target_of kept.bindings id)) [
  | inl n ↦ n
  | inr s ↦
      let o = over_at kept.cells kept.bindings id s.0 sound.over s.1 in
      let x : Some (constructor c args) ≡ Some (free o.0.0) = sym e ∙ o.0.1 in cc
]

module _ (kept : Kept) (height : CellId → ℕ) (falls : Falls kept height) where
  -- above its height a cell reads the same
  steady : (n m : ℕ) (id : CellId) → height id < n → height id < m → read_within n kept id ≡ read_within m kept id
  steady zero m id a b = absurd (omega (arith, a))
  steady (suc n) zero id a b = absurd (omega (arith, b))
  steady (suc n) (suc m) id a b =
      as_bound-same (read_within n kept) (read_within m kept)
      (as_put (read_within n kept) id (slice_get kept.cells id.0)) (as_put (read_within m kept) id (slice_get kept.cells id.0))
      (target_of kept.bindings id)
      (λ to e. let l = falls.bound id to e in steady n m to (omega (arith, l, a)) (omega (arith, l, b)))
      (λ e. as_put-same (read_within n kept) (read_within m kept) id (slice_get kept.cells id.0)
      (All-weaker (λ x. height x < height id) (λ x. read_within n kept x ≡ read_within m kept x)
      (λ x l. steady n m x (omega (arith, l, a)) (omega (arith, l, b))) (arguments_of kept.cells id) (falls.con id)))

  abbrev pub read_by : Reading
  read_by id = read_within (suc (height id)) kept id

  args_in : (id : CellId) (c : ℕ) (args : List CellId) → slice_get kept.cells id.0 ≡ Some (constructor c args) → All (λ a. height a < height id) args
  args_in id c args e = subst (λ o. All (λ a. height a < height id) (arguments_in o)) e (falls.con id)

  -- a pool whose cells fall reads as something
  pub has_reading : IsSound kept → IsReading kept read_by
  has_reading sound = record {
    open_cell = λ id s e n.
        ap (as_bound (read_within (height id) kept) (as_put (read_within (height id) kept) id (slice_get kept.cells id.0))) n
        ∙ ap (as_put (read_within (height id) kept) id) e;
    bound_cell = λ id to e.
        let l = falls.bound id to e in
        ap (as_bound (read_within (height id) kept) (as_put (read_within (height id) kept) id (slice_get kept.cells id.0))) e
        ∙ steady (height id) (suc (height to)) to l (omega arith);
    con_cell = λ id c args e.
        ap (as_bound (read_within (height id) kept) (as_put (read_within (height id) kept) id (slice_get kept.cells id.0))) (con_unbound kept sound id c args e)
        ∙ ap (as_put (read_within (height id) kept) id) e
        ∙ ap (applied (symbol c)) (map-same (read_within (height id) kept) read_by args
        (All-weaker (λ x. height x < height id) (λ x. read_within (height id) kept x ≡ read_by x)
        (λ x l. steady (height id) (suc (height x)) x l (omega arith)) args (args_in id c args e)));
  }

  module _ (read : Reading) (r : IsReading kept read) (sound : IsSound kept) where
    by_put : (id : CellId) → IsAmong kept.cells id → target_of kept.bindings id ≡ None → (o : Option Put) → slice_get kept.cells id.0 ≡ o → read id ≡ as_put read id o
    by_put id i t None e = absurd (omega (arith, i, slice_get_none kept.cells id.0 e))
    by_put id i t (Some (free s)) e = r.open_cell id s e t
    by_put id i t (Some (constructor c args)) e = r.con_cell id c args e

    -- whatever reads the pool reads its cells alike
    pub only_reading : (n : ℕ) (id : CellId) → height id < n → IsAmong kept.cells id → read id ≡ read_within n kept id
    only_reading zero id a i = absurd (omega (arith, a))
    only_reading (suc n) id a i =
        as_bound-is (read id) (read_within n kept) (as_put (read_within n kept) id (slice_get kept.cells id.0)) (target_of kept.bindings id)
        (λ to e. r.bound_cell id to e ∙ only_reading n to (let l = falls.bound id to e in omega (arith, l, a)) (over_at kept.cells kept.bindings id to sound.over e).1)
        (λ t. by_put id i t (slice_get kept.cells id.0) refl
        ∙ as_put-same read (read_within n kept) id (slice_get kept.cells id.0)
        (All-both (λ x. height x < height id) (λ x. x.0 < id.0) (λ x. read x ≡ read_within n kept x)
        (λ x l m. only_reading n x (omega (arith, l, a)) (omega (arith, m, i))) (arguments_of kept.cells id) (falls.con id) (sound.arguments id)))

-- what reads a pool reads it also without the cells that were put last
pub reading_before : (kept : Kept) (more : List Put) (read : Reading) → IsReading (with_cells kept (kept.cells ++ more)) read → IsReading kept read
reading_before kept more read r = record {
  open_cell = λ id s e n. r.open_cell id s (slice_get-append kept.cells more id.0 (free s) e) n;
  bound_cell = r.bound_cell;
  con_cell = λ id c args e. r.con_cell id c args (slice_get-append kept.cells more id.0 (constructor c args) e);
}

-- release to the lengths of a pool that has grown since gives that pool
pub restored : (old new : Kept) → IsGrown old new → cut (length old.cells) (length old.bindings) new ≡ old
restored old new g =
    ap₂ (λ c b. record { cells = c; bindings = b })
    (ap (take (length old.cells)) g.cells_are ∙ take-append_seam old.cells g.cells)
    (ap (take (length old.bindings)) g.bindings_are ∙ take-append_seam old.bindings g.bindings)

-- and it may be released so
pub releasable : (old new : Kept) (mark : Lengths) → IsReleasable old mark → mark.cells ≡ length old.cells → mark.bindings ≡ length old.bindings → IsGrown old new → IsReleasable new mark
releasable old new mark r c b g = record {
  cells = let e = ap (λ (l : List Put). length l) g.cells_are in omega (arith, c, e, length-append old.cells g.cells);
  bindings = let e = ap (λ (l : List Binding). length l) g.bindings_are in omega (arith, b, e, length-append old.bindings g.bindings);
  stay = subst (All (λ (b : Binding). (b.bound.0 < mark.cells) × (b.target.0 < mark.cells)))
      (ap (λ n. take n old.bindings) b ∙ take-length old.bindings ∙ sym (take-append_seam old.bindings g.bindings)
      ∙ ap (λ n. take n (old.bindings ++ g.bindings)) (sym b) ∙ ap (take mark.bindings) (sym g.bindings_are)) r.stay;
}

-- sorts of cells that are there stay
sort_at-append : (sig : Signature) (cells more : List Put) (id : CellId) (n : ℕ) → sort_at sig cells id ≡ Some n → sort_at sig (cells ++ more) id ≡ Some n
sort_at-append sig cells more id n e = elim (some_or_none (slice_get cells id.0)) [
  | inl o ↦ let x : None ≡ Some n = ap (sort_in sig) (sym o) ∙ e in cc
  | inr s ↦ ap (sort_in sig) (slice_get-append cells more id.0 s.0 s.1) ∙ sym (ap (sort_in sig) s.1) ∙ e
]

sorts-append : (sig : Signature) (cells more : List Put) (args : List CellId) (ns : List ℕ) → map (sort_at sig cells) args ≡ map (λ (n : ℕ). Some n) ns → map (sort_at sig (cells ++ more)) args ≡ map (λ (n : ℕ). Some n) ns
sorts-append sig cells more [] [] e = refl
sorts-append sig cells more [] (n ∷ ns) e = cc
sorts-append sig cells more (a ∷ args) [] e = cc
sorts-append sig cells more (a ∷ args) (n ∷ ns) e =
    let here : sort_at sig cells a ≡ Some n = cc in
    let rest : map (sort_at sig cells) args ≡ map (λ (n : ℕ). Some n) ns = cc in
    ap₂ (λ x xs. x ∷ xs) (sort_at-append sig cells more a n here) (sorts-append sig cells more args ns rest)

put-append : (sig : Signature) (cells more : List Put) (p : Put) → IsPutOf sig cells p → IsPutOf sig (cells ++ more) p
put-append sig cells more (free s) h = h
put-append sig cells more (constructor c args) (s, e, h) = (s, e, sorts-append sig cells more args s.arguments h)

-- without bindings of the new cells, a pool with more cells that fall fits
pub fits_more : (sig : Signature) (kept : Kept) (p : Put) (height : CellId → ℕ) → Fits sig kept → IsPutOf sig kept.cells p
    → All (IsOfOneSort sig (kept.cells ++ p ∷ [])) kept.bindings → Falls (with_cells kept (kept.cells ++ p ∷ [])) height
    → Fits sig (with_cells kept (kept.cells ++ p ∷ []))
fits_more sig kept p height f h s falls = record {
  puts = All-push (IsPutOf sig (kept.cells ++ p ∷ [])) kept.cells p
      (All-weaker (IsPutOf sig kept.cells) (IsPutOf sig (kept.cells ++ p ∷ [])) (put-append sig kept.cells (p ∷ [])) kept.cells f.puts)
      (put-append sig kept.cells (p ∷ []) p h);
  sorts = s;
  height = height;
  falls = falls;
}

free_arguments : (cells : List Put) (s : ℕ) (id : CellId) → arguments_of (cells ++ free s ∷ []) id ≡ arguments_of cells id
free_arguments [] s id = elim (id.0) as (λ n. arguments_in (slice_get (free s ∷ []) n) ≡ []) [ zero ↦ refl | suc n ↦ refl ]
free_arguments (p ∷ cells) s id = elim (id.0) as (λ n. arguments_in (slice_get (p ∷ cells ++ free s ∷ []) n) ≡ arguments_in (slice_get (p ∷ cells) n)) [ zero ↦ refl | suc n ↦ free_arguments cells s (record { 0 = n }) ]

pub one_sort-append : (sig : Signature) (cells more : List Put) (b : Binding) (s : ℕ) → sort_at sig cells b.bound ≡ Some s → IsOfOneSort sig cells b → IsOfOneSort sig (cells ++ more) b
one_sort-append sig cells more b s e h = sort_at-append sig cells more b.bound s e ∙ sym (sort_at-append sig cells more b.target s (sym h ∙ e))

-- a fitting pool with one more free cell fits
pub fits_free : (sig : Signature) (kept : Kept) (s : ℕ) → IsSound kept → Fits sig kept → s < length sig.sorts → Fits sig (with_cells kept (kept.cells ++ free s ∷ []))
fits_free sig kept s sound f h =
    fits_more sig kept (free s) f.height f h
    (All-both (IsOver kept.cells) (IsOfOneSort sig kept.cells) (IsOfOneSort sig (kept.cells ++ free s ∷ []))
    (λ b o e. one_sort-append sig kept.cells (free s ∷ []) b o.0.0 (ap (sort_in sig) o.0.1) e) kept.bindings sound.over f.sorts)
    (record {
      bound = f.falls.bound;
      con = λ id. subst (All (λ a. f.height a < f.height id)) (sym (free_arguments kept.cells s id)) (f.falls.con id);
    })

-- fewer bindings fit
pub fits_fewer : (sig : Signature) (kept : Kept) (bs more : List Binding) → kept.bindings ≡ bs ++ more → Fits sig kept → Fits sig (with_bindings kept bs)
fits_fewer sig kept bs more e f = record {
  puts = f.puts;
  sorts = subst (All (IsOfOneSort sig kept.cells)) (ap (take (length bs)) e ∙ take-append_seam bs more) (All-take (IsOfOneSort sig kept.cells) (length bs) kept.bindings f.sorts);
  height = f.height;
  falls = falls_fewer kept bs more f.height e f.falls;
}

-- var(x) over a free cell that is bound to int reads as var(int), and without the binding as var of the cell's variable
abbrev small : List Put
small = free 1 ∷ constructor 4 (record { 0 = 0 } ∷ []) ∷ constructor 1 [] ∷ []

bound_reads : read_within 3 (record { cells = small; bindings = record { bound = record { 0 = 0 }; target = record { 0 = 2 } } ∷ [] }) (record { 0 = 1 }) ≡ applied (symbol 4) (symbol 1 ∷ [])
bound_reads = refl

open_reads : read_within 3 (record { cells = small; bindings = [] }) (record { 0 = 1 }) ≡ applied (symbol 4) (variable 1 1 ∷ [])
open_reads = refl

-- the empty pool fits every signature
pub fits_empty : (sig : Signature) → Fits sig (record { cells = []; bindings = [] })
fits_empty sig = record {
  puts = λ k d l. absurd (omega (arith, l));
  sorts = λ k d l. absurd (omega (arith, l));
  height = λ id. 0;
  falls = record {
    bound = λ id to e. absurd (none_some id to e);
    con = λ id k d l. absurd (nothing id k l);
  };
} where
  none_some : (id to : CellId) → target_of [] id ≡ Some to → ⊥
  none_some id to e = cc

  nothing : (id : CellId) (k : ℕ) → k < length (arguments_of [] id) → ⊥
  nothing id k l = omega (arith, l)

-- the sort of what an open cell or a constructor cell reads as
pub read_sorts : (sig : Signature) (cells : List Put) (read : Reading) (args : List CellId) (ns : List ℕ) → map (sort_at sig cells) args ≡ map (λ (n : ℕ). Some n) ns
    → All (λ x. (s : ℕ) → sort_at sig cells x ≡ Some s → HasSort sig (read x) s) args → HaveSorts sig (map read args) ns
read_sorts sig cells read [] [] e h = tt
read_sorts sig cells read [] (n ∷ ns) e h = cc
read_sorts sig cells read (a ∷ args) [] e h = cc
read_sorts sig cells read (a ∷ args) (n ∷ ns) e h =
    let here : sort_at sig cells a ≡ Some n = cc in
    let rest : map (sort_at sig cells) args ≡ map (λ (n : ℕ). Some n) ns = cc in (
      All-head (λ x. (s : ℕ) → sort_at sig cells x ≡ Some s → HasSort sig (read x) s) a args h n here,
      read_sorts sig cells read args ns rest (All-tail (λ x. (s : ℕ) → sort_at sig cells x ≡ Some s → HasSort sig (read x) s) a args h),
    )
