-- The begin and the end of putting a row into a pool.
use Rattle.std.proofs.Common.{◌≡◌, inl, inr, ℕ, zero, suc, ◌<◌, ◌≤◌, ◌+◌, ◌||◌, true, false, cond, if◌then◌else◌, Some, None, List, [], ◌∷◌, ◌++◌, reverse, map, length, slice_get, All, refl, ap, ap₂, sym, ◌∙◌, subst, arith, append-nil, append_assoc}
use Rattle.std.proofs.lemmas.List.{reverse-append, reverse-reverse}
use Rattle.std.proofs.lemmas.Bool.{cases_Bool}
use Rattle.psg_terms.specs.Terms.{Term, variable, symbol, apply, applied}
use Rattle.psg_terms.specs.Signature.{Signature, HaveSorts, only_constructor}
use Rattle.psg_terms.specs.Sound.{IsSound as IsSoundSignature}
use Rattle.psg_terms.specs.Sizes.{size, sizes}
use Rattle.psg_terms.specs.Instances.{substitute}
use Rattle.psg_terms.specs.Canonical.{Variable, same_variable, variables_of, is_noted, noted, noted_all}
use Rattle.psg_terms.specs.Renaming.{place, opens, open_first, numbering}
use Rattle.psg_terms.specs.declared.sorts.ConId.{ConId}
use Rattle.psg_terms.proofs.Nodes.{size-con}
use Rattle.psg_terms.proofs.Variables.{same_variable-true, true_false}
use Rattle.psg_terms.proofs.Unique.{Each, IsOfSort, all_of_sort}
use Rattle.psg_terms.proofs.Renumbering.{HaveSorts-substitute, numbering-sorted}
use Rattle.psg_pool.specs.declared.cells.CellId.{CellId}
use Rattle.psg_pool.specs.Cells.{Put, free, IsAmong, arguments_in, arguments_of}
use Rattle.psg_pool.specs.Bindings.{Kept, IsSound}
use Rattle.psg_pool.proofs.Soundness.{sound_put}
use Rattle.psg_unify.specs.declared.making.Task.{Task}
use Rattle.psg_unify.specs.declared.making.Task.TheVariants.{Whole, Make}
use Rattle.psg_unify.specs.Fitting.{Fits}
use Rattle.psg_unify.specs.Putting.{frees, IsLonger, PutsKnown}
use Rattle.psg_unify.specs.Making.{makes, work, IsPutting, IsPutRow}
use Rattle.psg_unify.proofs.Laws.{with_cells, fits_free}
use Rattle.psg_unify.proofs.PuttingSteps.{makes_whole}

-- the cells of variables of sorts of the signature fit
pub fits_frees : (sig : Signature) (kept : Kept) (xs : List Variable) → IsSound kept → Fits sig kept → Each (IsOfSort sig) xs
    → Fits sig (with_cells kept (kept.cells ++ frees xs)) × IsSound (with_cells kept (kept.cells ++ frees xs))
fits_frees sig kept [] sound f h =
    let e : kept ≡ with_cells kept (kept.cells ++ []) = ap (with_cells kept) (sym (append-nil kept.cells)) in
    (subst (Fits sig) e f, subst IsSound e sound)
fits_frees sig kept (x ∷ xs) sound f (l, h) =
    let one : Kept = with_cells kept (kept.cells ++ free x.0 ∷ []) in
    let e : with_cells one (one.cells ++ frees xs) ≡ with_cells kept (kept.cells ++ frees (x ∷ xs)) = ap (with_cells kept) (append_assoc kept.cells (free x.0 ∷ []) (frees xs)) in
    let rest = fits_frees sig one xs (sound_put kept (free x.0) (λ k d m. absurd (omega (arith, m))) sound) (fits_free sig kept x.0 sound f l) h in
    (subst (Fits sig) e rest.0, subst IsSound e rest.1)

each_open : (P : Variable → Type 0) (sig : Signature) (xs : List Variable) → Each P xs → Each P (opens sig xs)
each_open P sig [] h = tt
each_open P sig (x ∷ xs) (h, hs) = elim (only_constructor sig x.0) as (λ o. Each P (open_first o x (opens sig xs))) [ None ↦ (h, each_open P sig xs hs) | Some c ↦ each_open P sig xs hs ]

each_end : (P : Variable → Type 0) (xs : List Variable) (x : Variable) → Each P xs → P x → Each P (xs ++ x ∷ [])
each_end P [] x h p = (p, tt)
each_end P (y ∷ xs) x (h, hs) p = (h, each_end P xs x hs p)

each_noted : (P : Variable → Type 0) (seen xs : List Variable) → Each P seen → Each P xs → Each P (noted_all seen xs)
each_noted P seen [] h k = h
each_noted P seen (x ∷ xs) h (p, k) =
    each_noted P (noted seen x) xs (elim (is_noted x seen) as (λ b. Each P (if b then seen else seen ++ x ∷ [])) [ true ↦ h | false ↦ each_end P seen x h p ]) k

-- the cell of a variable
pub cell_at_place : (x : Variable) (xs : List Variable) → is_noted x xs ≡ true → slice_get (frees xs) (place x xs) ≡ Some (free x.0)
cell_at_place x [] h = absurd (true_false (sym h))
cell_at_place x (y ∷ ys) h =
    elim (cases_Bool (same_variable x y)) [
      | inl e ↦ ap (λ b. slice_get (frees (y ∷ ys)) (cond b 0 (place x ys + 1))) e ∙ ap (λ (z : Variable). Some (free z.0)) (sym (same_variable-true x y e))
      | inr e ↦ ap (λ b. slice_get (frees (y ∷ ys)) (cond b 0 (place x ys + 1))) e ∙ ap (slice_get (frees (y ∷ ys))) (step (place x ys))
          ∙ cell_at_place x ys (ap (λ b. b || is_noted x ys) (sym e) ∙ h)
    ] where
      step : (n : ℕ) → n + 1 ≡ suc n
      step n = omega arith

slice_get-past : {X : Type 0} (xs ys : List X) (n : ℕ) → slice_get (xs ++ ys) (length xs + n) ≡ slice_get ys n
slice_get-past [] ys n = ap (slice_get ys) (none n) where
  none : (n : ℕ) → 0 + n ≡ n
  none n = omega arith
slice_get-past (x ∷ xs) ys n = ap (slice_get (x ∷ xs ++ ys)) (step (length xs) n) ∙ slice_get-past xs ys n where
  step : (a b : ℕ) → suc a + b ≡ suc (a + b)
  step a b = omega arith

-- free cells have no arguments
no_arguments : (cells : List Put) (xs : List Variable) (n : ℕ) → length cells ≤ n → arguments_in (slice_get (cells ++ frees xs) n) ≡ []
no_arguments [] [] n l = refl
no_arguments [] (x ∷ xs) zero l = refl
no_arguments [] (x ∷ xs) (suc n) l = no_arguments [] xs n (omega arith)
no_arguments (c ∷ cells) xs zero l = absurd (omega (arith, l))
no_arguments (c ∷ cells) xs (suc n) l = no_arguments cells xs n (omega (arith, l))

module _ (sig : Signature) (old : Kept) (known : List Variable) (row : List Term) where
  -- a pool with the free cells of the row's variables, before anything else is put
  pub put_begins : (now : Kept) (tasks : List Task) (cells : List CellId) (ss : List ℕ) → IsSoundSignature sig → HaveSorts sig row ss → IsSound old → Fits sig old
      → PutsKnown old.cells now.cells [] known → now.bindings ≡ old.bindings → known ≡ noted_all [] (opens sig (variables_of row))
      → tasks ≡ map (λ (t : Term). Whole t) row → cells ≡ [] → IsPutting sig old known row now tasks cells
  put_begins now tasks cells ss signature h sound f p b k t c =
      let now_is : now ≡ with_cells old (old.cells ++ frees known) =
      ap₂ (λ x y. record { cells = x; bindings = y }) (p.cells_are ∙ ap (λ l. old.cells ++ l) (sym p.known_are)) b in
      let ranges : Each (IsOfSort sig) known =
      subst (Each (IsOfSort sig)) (sym k) (each_noted (IsOfSort sig) [] (opens sig (variables_of row)) tt (each_open (IsOfSort sig) sig (variables_of row) (all_of_sort sig row ss h))) in
      let both = fits_frees sig old known sound f ranges in
      record {
        fits = subst (Fits sig) (sym now_is) both.0;
        sound = subst IsSound (sym now_is) both.1;
        longer = record { cells = p.more; cells_are = p.cells_are; bindings_are = b };
        among = subst (All (IsAmong now.cells)) (sym c) (λ k d l. absurd (omega (arith, l)));
        beyond = subst (All (λ (id : CellId). length old.cells ≤ id.0)) (sym c) (λ k d l. absurd (omega (arith, l)));
        apart = λ id l. subst (All (λ (a : CellId). length old.cells ≤ a.0))
            (sym (ap (λ (w : Kept). arguments_of w.cells id) now_is ∙ no_arguments old.cells known id.0 l)) (λ k d l. absurd (omega (arith, l)));
        open_cells = λ x i. ap (λ (w : Kept). slice_get w.cells (length old.cells + place x known)) now_is
            ∙ slice_get-past old.cells (frees known) (place x known) ∙ cell_at_place x known i;
        terms = (ss, HaveSorts-substitute sig (numbering sig (length old.cells) known) (numbering-sorted sig signature (length old.cells) known) row ss h);
        made = λ read r.
            ap (λ l. makes (numbering sig (length old.cells) known) tasks (reverse (map read l))) c
            ∙ ap (λ l. makes (numbering sig (length old.cells) known) l []) (t ∙ sym (append-nil (map (λ (t : Term). Whole t) row)))
            ∙ makes_whole (numbering sig (length old.cells) known) row [] []
            ∙ append-nil (reverse (map (substitute (numbering sig (length old.cells) known)) row));
      }

  -- nothing is left to be put
  pub put_ends : (now : Kept) (tasks : List Task) (cells : List CellId) → known ≡ noted_all [] (opens sig (variables_of row)) → tasks ≡ [] → IsPutting sig old known row now tasks cells → IsPutRow sig old now row cells
  put_ends now tasks cells k t p = record {
    fits = p.fits;
    sound = p.sound;
    longer = p.longer;
    among = p.among;
    beyond = p.beyond;
    apart = p.apart;
    known = known;
    read_as = λ read r. record {
      known = k;
      made = sym (reverse-reverse (map read cells))
          ∙ ap reverse (ap (λ l. makes (numbering sig (length old.cells) known) l (reverse (map read cells))) (sym t) ∙ p.made read r)
          ∙ reverse-reverse (map (substitute (numbering sig (length old.cells) known)) row);
    };
  }

pub work-append : (xs ys : List Task) → work (xs ++ ys) ≡ work xs + work ys
work-append [] ys = omega arith
work-append (Whole t ∷ xs) ys = omega (arith, work-append xs ys)
work-append (Make c n ∷ xs) ys = omega (arith, work-append xs ys)

work-whole : (args : List Term) → work (map (λ (t : Term). Whole t) args) ≡ sizes args
work-whole [] = refl
work-whole (t ∷ args) = omega (arith, work-whole args)

-- a term's arguments and its constructor are less work than the term
pub work_less : (t : Term) (c : ConId) (args : List Term) (n : ℕ) (rest : List Task) → t ≡ applied (symbol c.0) args
    → work (map (λ (t : Term). Whole t) args ++ Make c n ∷ rest) < work (Whole t ∷ rest)
work_less t c args n rest e =
    let k = size-con t c.0 args e in
    omega (arith, k, work-whole args, work-append (map (λ (t : Term). Whole t) args) (Make c n ∷ rest))

size-some : (t : Term) → 0 < size t
size-some (variable s n) = omega arith
size-some (symbol c) = omega arith
size-some (apply f a) = omega arith

-- a constant is less work than a variable
pub work_constant : (t : Term) (c : ConId) (n : ℕ) (rest : List Task) → work (Make c n ∷ rest) < work (Whole t ∷ rest)
work_constant t c n rest = let k = size-some t in omega (arith, k)

-- the stack after a term was taken apart
pub stacked : (tasks one after : List Task) (task : Task) (args : List Term) → one ≡ tasks ++ task ∷ [] → after ≡ one ++ reverse (map (λ (t : Term). Whole t) args)
    → reverse after ≡ map (λ (t : Term). Whole t) args ++ task ∷ reverse tasks
stacked tasks one after task args e d =
    ap reverse d ∙ reverse-append one (reverse (map (λ (t : Term). Whole t) args))
    ∙ ap₂ (λ x y. x ++ y) (reverse-reverse (map (λ (t : Term). Whole t) args)) (ap reverse e ∙ reverse-append tasks (task ∷ []))

-- the stack with one more task
pub stacked_one : (tasks after : List Task) (task : Task) → after ≡ tasks ++ task ∷ [] → reverse after ≡ task ∷ reverse tasks
stacked_one tasks after task e = ap reverse e ∙ reverse-append tasks (task ∷ [])

-- a pool that was longer since is known by its length
pub before_is : (one other new : Kept) → IsLonger one new → IsLonger other new → length one.cells ≡ length other.cells → one ≡ other
before_is one other new a b e =
    ap₂ (λ x y. record { cells = x; bindings = y })
    (fronts one.cells other.cells a.cells b.cells (sym a.cells_are ∙ b.cells_are) e)
    (sym a.bindings_are ∙ b.bindings_are) where
      fronts : (xs ys us vs : List Put) → xs ++ us ≡ ys ++ vs → length xs ≡ length ys → xs ≡ ys
      fronts [] [] us vs e l = refl
      fronts [] (y ∷ ys) us vs e l = absurd (omega (arith, l))
      fronts (x ∷ xs) [] us vs e l = absurd (omega (arith, l))
      fronts (x ∷ xs) (y ∷ ys) us vs e l =
          let one : x ≡ y = cc in
          let rest : xs ++ us ≡ ys ++ vs = cc in
          ap₂ (λ z zs. z ∷ zs) one (fronts xs ys us vs rest (omega (arith, l)))
