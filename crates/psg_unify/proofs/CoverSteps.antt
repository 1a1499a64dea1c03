-- Steps of matching a row of terms with cells.
use Rattle.std.proofs.Common.{◌≡◌, ◌≢◌, ◌↔◌, ◌⊎◌, inl, inr, ℕ, zero, suc, ◌<◌, ◌≤◌, ◌+◌, Bool, true, false, cond, IsTrue, Option, Some, None, List, [], ◌∷◌, ◌++◌, map, take, length, slice_get, All, refl, ap, ap₂, sym, ◌∙◌, subst, append_assoc, append-nil, arith}
use Rattle.std.specs.Map.{lookup as entry}
use Rattle.std.proofs.lemmas.Bool.{false≢true, cases_Bool}
use Rattle.std.proofs.lemmas.List.{take_all, length-map}
use Rattle.std.proofs.lemmas.List.Elements.{All-nil, All-cons, All-head, All-tail, All-append}
use Rattle.psg_terms.specs.Relations.{IsIn, first, later}
use Rattle.psg_terms.specs.Terms.{Term, variable, symbol, applied}
use Rattle.psg_terms.specs.Sizes.{size, sizes}
use Rattle.psg_terms.specs.Signature.{Signature, only_constructor}
use Rattle.psg_terms.specs.Instances.{Substitution, substitute, IsInstance}
use Rattle.psg_terms.specs.Canonical.{Variable, same_variable}
use Rattle.psg_terms.specs.Renaming.{written}
use Rattle.psg_terms.specs.Matching.{same_key}
use Rattle.psg_terms.proofs.Variables.{same_variable-refl, same_variable-true}
use Rattle.psg_terms.proofs.Applied.{applied-substitute}
use Rattle.psg_terms.proofs.Nodes.{no_variable, same_constructor, same_arguments}
use Rattle.psg_pool.specs.declared.cells.CellId.{CellId}
use Rattle.psg_pool.specs.declared.cells.Cell.TheVariants.{Free, Con}
use Rattle.psg_pool.specs.Cells.{Put, IsAmong, arguments_of}
use Rattle.psg_pool.specs.Bindings.{Kept, IsSound, Holds}
use Rattle.psg_unify.specs.declared.covering.Facing.{Facing}
use Rattle.psg_unify.specs.declared.covering.Matching.{Matching}
use Rattle.psg_unify.specs.Reading.{Reading}
use Rattle.psg_unify.specs.Numbering.{IsClearReading, IsNumbered, StaysNumbered}
use Rattle.psg_unify.specs.Covering.{FirstCells, first_cell, facing, facings, AreMet, IsFit, StaysFit, FitsNone, CanMatch, weigh}
use Rattle.psg_unify.proofs.Rounds.{edge_there}

-- lists of terms and cells
pub met_append : (f : Substitution) (read : Reading) (xs ys : List Facing) → AreMet f read (xs ++ ys) ↔ (AreMet f read xs × AreMet f read ys)
met_append f read [] ys = (λ h. (tt, h), λ (p, h). h)
met_append f read (x ∷ xs) ys =
    let rest = met_append f read xs ys in (
      λ (p, h). let (a, b) = rest.0 h in ((p, a), b),
      λ ((p, a), b). (p, rest.1 (a, b)),
    )

pub facings-whole : (f : Substitution) (read : Reading) (terms : List Term) (ids : List CellId) → length terms ≡ length ids → AreMet f read (facings terms ids) ↔ (map (substitute f) terms ≡ map read ids)
facings-whole f read [] [] e = (λ h. refl, λ h. tt)
facings-whole f read [] (x ∷ ids) e = absurd (omega (arith, e))
facings-whole f read (t ∷ terms) [] e = absurd (omega (arith, e))
facings-whole f read (t ∷ terms) (x ∷ ids) e =
    let rest = facings-whole f read terms ids (omega (arith, e)) in (
      λ (p, h). ap₂ (λ y ys. y ∷ ys) p (rest.0 h),
      λ h. let here : substitute f t ≡ read x = cc in
          let others : map (substitute f) terms ≡ map read ids = cc in
          (here, rest.1 others),
    )

-- one term and one cell more
facings-next : (terms : List Term) (ids : List CellId) (k : ℕ) (t : Term) (id : CellId) → slice_get terms k ≡ Some t → slice_get ids k ≡ Some id
    → facings (take (suc k) terms) (take (suc k) ids) ≡ facings (take k terms) (take k ids) ++ facing t id ∷ []
facings-next [] ids k t id e d = let none : None ≡ Some t = e in cc
facings-next (x ∷ terms) [] k t id e d = let none : None ≡ Some id = d in cc
facings-next (x ∷ terms) (y ∷ ids) zero t id e d =
    let a : x ≡ t = cc in
    let b : y ≡ id = cc in
    ap₂ (λ u v. facing u v ∷ []) a b
facings-next (x ∷ terms) (y ∷ ids) (suc k) t id e d = ap (λ l. facing x y ∷ l) (facings-next terms ids k t id e d)

pub pushed_facing : (old now after : List Facing) (terms : List Term) (ids : List CellId) (k : ℕ) (t : Term) (id : CellId) → slice_get terms k ≡ Some t → slice_get ids k ≡ Some id
    → after ≡ now ++ facing t id ∷ [] → now ≡ old ++ facings (take k terms) (take k ids) → after ≡ old ++ facings (take (k + 1) terms) (take (k + 1) ids)
pushed_facing old now after terms ids k t id e d p h =
    let next : suc k ≡ k + 1 = omega arith in
    p ∙ ap (λ l. l ++ facing t id ∷ []) h ∙ append_assoc old (facings (take k terms) (take k ids)) (facing t id ∷ [])
    ∙ ap (λ l. old ++ l) (sym (facings-next terms ids k t id e d)) ∙ ap (λ n. old ++ facings (take n terms) (take n ids)) next

pub pushed_none : (old : List Facing) (terms : List Term) (ids : List CellId) → old ≡ old ++ facings (take 0 terms) (take 0 ids)
pushed_none old terms ids = sym (append-nil old)

pub pushed_whole : (old now : List Facing) (terms : List Term) (ids : List CellId) (k : ℕ) → length terms ≤ k → length ids ≤ k → now ≡ old ++ facings (take k terms) (take k ids) → now ≡ old ++ facings terms ids
pushed_whole old now terms ids k l m h = h ∙ ap₂ (λ xs ys. old ++ facings xs ys) (take_all k terms l) (take_all k ids m)

-- what is left weighs less
weigh-append : (xs ys : List Facing) → weigh (xs ++ ys) ≡ weigh xs + weigh ys
weigh-append [] ys = omega arith
weigh-append (x ∷ xs) ys = omega (arith, weigh-append xs ys)

weigh-facings : (terms : List Term) (ids : List CellId) → weigh (facings terms ids) ≤ sizes terms
weigh-facings [] ids = omega arith
weigh-facings (t ∷ terms) [] = omega arith
weigh-facings (t ∷ terms) (x ∷ ids) = omega (arith, weigh-facings terms ids)

pub weighs_less : (old new : List Facing) (terms : List Term) (ids : List CellId) → new ≡ old ++ facings terms ids → weigh new < sizes terms + 1 + weigh old
weighs_less old new terms ids e = let d = ap weigh e in omega (arith, d, weigh-append old (facings terms ids), weigh-facings terms ids)

pub weighs_top : (now rest new : List Facing) (p : Facing) (n : ℕ) → now ≡ rest ++ p ∷ [] → n ≡ size p.term → weigh new < n + 1 + weigh rest → weigh new < weigh now
weighs_top now rest new p n e d l = let a = ap weigh e in omega (arith, a, d, l, weigh-append rest (p ∷ []))

-- the top of a stack comes last
top_met : (f : Substitution) (read : Reading) (rest : List Facing) (p : Facing) → AreMet f read (rest ++ p ∷ []) ↔ AreMet f read (p ∷ rest)
top_met f read rest p =
    let both = met_append f read rest (p ∷ []) in (
      λ h. let (a, (b, _)) = both.0 h in (b, a),
      λ (b, a). both.1 (a, (b, tt)),
    )

module _ (sig : Signature) (kept : Kept) where
  pub fits_begin : (now : Matching) → StaysFit sig kept now now.left.items now
  fits_begin now read r i = (i, λ f. (λ h. h, λ h. h))

  -- a term is taken from the stack, and met
  pub fits_next : (start now mid new : Matching) (all : List Facing) (p : Facing) → mid.numbers ≡ now.numbers → mid.first ≡ now.first → now.left.items ≡ mid.left.items ++ p ∷ []
      → StaysFit sig kept start all now → StaysFit sig kept mid (p ∷ mid.left.items) new → StaysFit sig kept start all new
  fits_next start now mid new all p n d e h k read r i =
      let (j, same) = h read r i in
      let (l, more) = k read r (subst (IsNumbered read) (sym n) j) in (
        l,
        λ f. let one = same f in
            let two = more f in (
              λ g. let s = one.0 g in two.0 (moves f s),
              λ g. let s = two.1 g in one.1 (back f s),
            ),
      ) where
        moves : (f : Substitution) → IsFit f read now.first now.left.items → IsFit f read mid.first (p ∷ mid.left.items)
        moves f s = record {
          known = subst (λ t. (s n : ℕ) (id : CellId) → first_cell t s n ≡ Some id → f s n ≡ read id) (sym d) s.known;
          met = (top_met f read mid.left.items p).0 (subst (AreMet f read) e s.met);
        }

        back : (f : Substitution) → IsFit f read mid.first (p ∷ mid.left.items) → IsFit f read now.first now.left.items
        back f s = record {
          known = subst (λ t. (s n : ℕ) (id : CellId) → first_cell t s n ≡ Some id → f s n ≡ read id) d s.known;
          met = subst (AreMet f read) (sym e) ((top_met f read mid.left.items p).1 s.met);
        }

  -- the stack is empty
  pub fits_done : (start now new : Matching) (all : List Facing) → new.numbers ≡ now.numbers → new.first ≡ now.first → now.left.items ≡ new.left.items → StaysFit sig kept start all now → StaysFit sig kept start all new
  fits_done start now new all n d e h read r i =
      let (j, same) = h read r i in (
        subst (IsNumbered read) (sym n) j,
        λ f. (λ g. moves f ((same f).0 g), λ g. (same f).1 (back f g)),
      ) where
        moves : (f : Substitution) → IsFit f read now.first now.left.items → IsFit f read new.first new.left.items
        moves f s = record {
          known = subst (λ t. (s n : ℕ) (id : CellId) → first_cell t s n ≡ Some id → f s n ≡ read id) (sym d) s.known;
          met = subst (AreMet f read) e s.met;
        }

        back : (f : Substitution) → IsFit f read new.first new.left.items → IsFit f read now.first now.left.items
        back f s = record {
          known = subst (λ t. (s n : ℕ) (id : CellId) → first_cell t s n ≡ Some id → f s n ≡ read id) d s.known;
          met = subst (AreMet f read) (sym e) s.met;
        }

  pub fits_stop : (start now mid : Matching) (all : List Facing) (p : Facing) → mid.numbers ≡ now.numbers → mid.first ≡ now.first → now.left.items ≡ mid.left.items ++ p ∷ []
      → StaysFit sig kept start all now → FitsNone sig kept mid (p ∷ mid.left.items) → FitsNone sig kept start all
  fits_stop start now mid all p n d e h k read r i f g =
      let (j, same) = h read r i in
      let s = (same f).0 g in
      k read r (subst (IsNumbered read) (sym n) j) f (record {
        known = subst (λ t. (s n : ℕ) (id : CellId) → first_cell t s n ≡ Some id → f s n ≡ read id) (sym d) s.known;
        met = (top_met f read mid.left.items p).0 (subst (AreMet f read) e s.met);
      })

  -- a variable meets its first cell
  pub meets_first : (old new : Matching) (s n : ℕ) (id : CellId) → first_cell old.first s n ≡ None
      → ((p q : ℕ) → first_cell new.first p q ≡ cond (same_variable (s, n) (p, q)) (Some id) (first_cell old.first p q))
      → new.numbers ≡ old.numbers → new.left ≡ old.left → StaysFit sig kept old (facing (variable s n) id ∷ old.left.items) new
  meets_first old new s n id none grown en el read r i = (subst (IsNumbered read) (sym en) i, λ f. (onward f, back f)) where
    onward : (f : Substitution) → IsFit f read old.first (facing (variable s n) id ∷ old.left.items) → IsFit f read new.first new.left.items
    onward f h = record {
      known = λ p q x e. elim (cases_Bool (same_variable (s, n) (p, q))) [
        | inl t ↦
            (let same : ◌≡◌ {A = Variable} (s, n) (p, q) = same_variable-true (s, n) (p, q) t in
            let is : Some id ≡ Some x = sym (grown p q ∙ ap (λ b. cond b (Some id) (first_cell old.first p q)) t) ∙ e in
            let one : id ≡ x = cc in
            ap (λ (y : Variable). f y.0 y.1) (sym same) ∙ h.met.0 ∙ ap read one)
        | inr t ↦ h.known p q x (sym (grown p q ∙ ap (λ b. cond b (Some id) (first_cell old.first p q)) t) ∙ e)
      ];
      met = subst (λ v. AreMet f read v.items) (sym el) h.met.1;
    }

    back : (f : Substitution) → IsFit f read new.first new.left.items → IsFit f read old.first (facing (variable s n) id ∷ old.left.items)
    back f h = record {
      known = λ p q x e. elim (cases_Bool (same_variable (s, n) (p, q))) [
        | inl t ↦
            (let same : ◌≡◌ {A = Variable} (s, n) (p, q) = same_variable-true (s, n) (p, q) t in
            let no : None ≡ Some x = sym none ∙ ap (λ (y : Variable). first_cell old.first y.0 y.1) same ∙ e in
            absurd (cc))
        | inr t ↦ h.known p q x (grown p q ∙ ap (λ b. cond b (Some id) (first_cell old.first p q)) t ∙ e)
      ];
      met = (
        h.known s n id (grown s n ∙ ap (λ b. cond b (Some id) (first_cell old.first s n)) (same_variable-refl (s, n))),
        subst (λ v. AreMet f read v.items) el h.met,
      );
    }

  -- a variable meets a cell again
  pub meets_again : (old new : Matching) (s n : ℕ) (before id : CellId) (d : Bool) → first_cell old.first s n ≡ Some before → StaysNumbered sig kept old.numbers new.numbers
      → ((read : Reading) → IsClearReading sig kept read → IsNumbered read old.numbers → IsTrue d ↔ (read before ≡ read id))
      → new.first ≡ old.first → new.left ≡ old.left → d ≡ true → StaysFit sig kept old (facing (variable s n) id ∷ old.left.items) new
  meets_again old new s n before id d at stays same ef el t read r i = (stays read r i, λ f. (onward f, back f)) where
    onward : (f : Substitution) → IsFit f read old.first (facing (variable s n) id ∷ old.left.items) → IsFit f read new.first new.left.items
    onward f h = record {
      known = subst (λ t. (s n : ℕ) (id : CellId) → first_cell t s n ≡ Some id → f s n ≡ read id) (sym ef) h.known;
      met = subst (λ v. AreMet f read v.items) (sym el) h.met.1;
    }

    back : (f : Substitution) → IsFit f read new.first new.left.items → IsFit f read old.first (facing (variable s n) id ∷ old.left.items)
    back f h = record {
      known = subst (λ t. (s n : ℕ) (id : CellId) → first_cell t s n ≡ Some id → f s n ≡ read id) ef h.known;
      met = (
        h.known s n before (ap (λ t. first_cell t s n) ef ∙ at) ∙ (same read r i).0 t,
        subst (λ v. AreMet f read v.items) el h.met,
      );
    }

  pub meets_other : (old : Matching) (s n : ℕ) (before id : CellId) (d : Bool) → first_cell old.first s n ≡ Some before
      → ((read : Reading) → IsClearReading sig kept read → IsNumbered read old.numbers → IsTrue d ↔ (read before ≡ read id))
      → d ≡ false → FitsNone sig kept old (facing (variable s n) id ∷ old.left.items)
  meets_other old s n before id d at same t read r i f h =
      false≢true (sym t ∙ (same read r i).1 (sym (h.known s n before at) ∙ h.met.0))

  -- what the cell at the end of the bindings reads as
  abbrev pub EndsAt : CellId → CellId → Type 0
  EndsAt cell id = (s : Signature) (read : Reading) → IsClearReading s kept read → read cell ≡ read id

  -- a constructor meets a cell of the same one
  pub meets_con : (old new : Matching) (c n : ℕ) (args : List Term) (cell id : CellId) → EndsAt cell id → Holds kept id (Con c n) → length args ≡ n
      → new.left.items ≡ old.left.items ++ facings args (arguments_of kept.cells id) → new.numbers ≡ old.numbers → new.first ≡ old.first
      → StaysFit sig kept old (facing (applied (symbol c) args) cell ∷ old.left.items) new
  meets_con old new c n args cell id ends h l el en ef read r i = (subst (IsNumbered read) (sym en) i, λ f. (onward f, back f)) where
    ids : List CellId
    ids = arguments_of kept.cells id

    reads : read cell ≡ applied (symbol c) (map read ids)
    reads = ends sig read r ∙ r.con_cell id c ids h.0

    onward : (f : Substitution) → IsFit f read old.first (facing (applied (symbol c) args) cell ∷ old.left.items) → IsFit f read new.first new.left.items
    onward f g = record {
      known = subst (λ t. (s n : ℕ) (id : CellId) → first_cell t s n ≡ Some id → f s n ≡ read id) (sym ef) g.known;
      met = subst (AreMet f read) (sym el) ((met_append f read old.left.items (facings args ids)).1 (
        g.met.1,
        (facings-whole f read args ids (omega (arith, l, h.1))).1
            (same_arguments c c (map (substitute f) args) (map read ids) (sym (applied-substitute f (symbol c) args) ∙ g.met.0 ∙ reads)),
      ));
    }

    back : (f : Substitution) → IsFit f read new.first new.left.items → IsFit f read old.first (facing (applied (symbol c) args) cell ∷ old.left.items)
    back f g =
        let both = (met_append f read old.left.items (facings args ids)).0 (subst (AreMet f read) el g.met) in record {
          known = subst (λ t. (s n : ℕ) (id : CellId) → first_cell t s n ≡ Some id → f s n ≡ read id) ef g.known;
          met = (
            applied-substitute f (symbol c) args ∙ ap (applied (symbol c)) ((facings-whole f read args ids (omega (arith, l, h.1))).0 both.1) ∙ sym reads,
            both.0,
          );
        }

  -- a constructor meets a cell of another one, or one with other arguments
  pub meets_clash : (old : Matching) (c d n : ℕ) (args : List Term) (cell id : CellId) → EndsAt cell id → Holds kept id (Con d n) → (c ≢ d) ⊎ (length args ≢ n)
      → FitsNone sig kept old (facing (applied (symbol c) args) cell ∷ old.left.items)
  meets_clash old c d n args cell id ends h ne read r i f g =
      let ids : List CellId = arguments_of kept.cells id in
      let e : applied (symbol c) (map (substitute f) args) ≡ applied (symbol d) (map read ids) = sym (applied-substitute f (symbol c) args) ∙ g.met.0 ∙ ends sig read r ∙ r.con_cell id d ids h.0 in
      elim ne [
        | inl x ↦ x (same_constructor c d (map (substitute f) args) (map read ids) e)
        | inr x ↦ x (sym (length-map args (substitute f)) ∙ ap length (same_arguments c d (map (substitute f) args) (map read ids) e) ∙ length-map ids read ∙ h.1)
      ]

  -- a constructor meets an open cell of a sort that is this constant
  pub meets_constant : (now : Matching) (c s : ℕ) (args : List Term) (cell id : CellId) → EndsAt cell id → Holds kept id (Free s) → length args ≡ 0 → only_constructor sig s ≡ Some c
      → StaysFit sig kept now (facing (applied (symbol c) args) cell ∷ now.left.items) now
  meets_constant now c s args cell id ends h l o read r i = (i, λ f. (onward f, back f)) where
    reads : read cell ≡ symbol c
    reads = ends sig read r ∙ r.open_cell id s h.0 h.1 ∙ ap (λ p. written p (variable s (id.0 + 1))) o

    is : (f : Substitution) (xs : List Term) → length xs ≡ 0 → substitute f (applied (symbol c) xs) ≡ symbol c
    is f [] e = refl
    is f (x ∷ xs) e = absurd (omega (arith, e))

    onward : (f : Substitution) → IsFit f read now.first (facing (applied (symbol c) args) cell ∷ now.left.items) → IsFit f read now.first now.left.items
    onward f g = record { known = g.known; met = g.met.1 }

    back : (f : Substitution) → IsFit f read now.first now.left.items → IsFit f read now.first (facing (applied (symbol c) args) cell ∷ now.left.items)
    back f g = record { known = g.known; met = (is f args l ∙ sym reads, g.met) }

  -- another open cell
  pub meets_open : (now : Matching) (c s : ℕ) (args : List Term) (cell id : CellId) → EndsAt cell id → Holds kept id (Free s)
      → (length args ≡ 0 → ⊥) ⊎ (only_constructor sig s ≡ Some c → ⊥) → FitsNone sig kept now (facing (applied (symbol c) args) cell ∷ now.left.items)
  meets_open now c s args cell id ends h ne read r i f g = by_sort (only_constructor sig s) refl where
    e : (o : Option ℕ) → only_constructor sig s ≡ o → applied (symbol c) (map (substitute f) args) ≡ written o (variable s (id.0 + 1))
    e o k = sym (applied-substitute f (symbol c) args) ∙ g.met.0 ∙ ends sig read r ∙ r.open_cell id s h.0 h.1 ∙ ap (λ p. written p (variable s (id.0 + 1))) k

    by_sort : (o : Option ℕ) → only_constructor sig s ≡ o → ⊥
    by_sort None k = no_variable c s (id.0 + 1) (map (substitute f) args) (e None k)
    by_sort (Some d) k = elim ne [
      | inl x ↦ x (sym (length-map args (substitute f)) ∙ ap length (same_arguments c d (map (substitute f) args) [] (e (Some d) k)))
      | inr x ↦ x (k ∙ ap (λ y. Some y) (sym (same_constructor c d (map (substitute f) args) [] (e (Some d) k))))
    ]

  -- nothing is left: what the variables met is a substitution
  abbrev filled : Reading → ℕ → ℕ → Option CellId → Term
  filled read s n None = variable s n
  filled read s n (Some id) = read id

  pub fits_whole : (start new : Matching) (general : List Term) (ids : List CellId) → length general ≡ length ids → start.left.items ≡ facings general ids → ((s n : ℕ) → first_cell start.first s n ≡ None)
      → ((read : Reading) → IsNumbered read start.numbers) → new.left.items ≡ [] → StaysFit sig kept start start.left.items new
      → (read : Reading) → IsClearReading sig kept read → IsInstance (map read ids) general
  fits_whole start new general ids l e none numbered d stays read r =
      let both = (stays read r (numbered read)).1 f in
      let g = both.1 (record {
        known = λ s n id k. ap (filled read s n) k;
        met = subst (AreMet f read) (sym d) tt;
      }) in
      (f, sym ((facings-whole f read general ids l).0 (subst (AreMet f read) e g.met)))
    where
      f : Substitution
      f s n = filled read s n (first_cell new.first s n)

  pub fits_never : (start : Matching) (general : List Term) (ids : List CellId) → length general ≡ length ids → start.left.items ≡ facings general ids → ((s n : ℕ) → first_cell start.first s n ≡ None)
      → ((read : Reading) → IsNumbered read start.numbers) → FitsNone sig kept start start.left.items
      → (read : Reading) → IsClearReading sig kept read → IsInstance (map read ids) general → ⊥
  fits_never start general ids l e none numbered stops read r (f, is) =
      stops read r (numbered read) f (record {
        known = λ s n id k. let no : None ≡ Some id = sym (none s n) ∙ k in absurd (cc);
        met = subst (AreMet f read) (sym e) ((facings-whole f read general ids l).1 (sym is));
      })

  -- what the answer says
  pub matched : (start new : Matching) (general : List Term) (ids : List CellId) (b : Bool) → length general ≡ length ids → start.left.items ≡ facings general ids
      → ((s n : ℕ) → first_cell start.first s n ≡ None) → ((read : Reading) → IsNumbered read start.numbers)
      → (b ≡ true → StaysFit sig kept start start.left.items new) → (b ≡ true → new.left.items ≡ []) → (b ≡ false → FitsNone sig kept start start.left.items)
      → (read : Reading) → IsClearReading sig kept read → IsTrue b ↔ IsInstance (map read ids) general
  matched start new general ids true l e none numbered fit over other read r =
      (λ _. fits_whole start new general ids l e none numbered (over refl) (fit refl) read r, λ _. refl)
  matched start new general ids false l e none numbered fit over other read r =
      (λ t. absurd (false≢true t), λ i. absurd (fits_never start general ids l e none numbered (other refl) read r i))

pub first_none : (table : FirstCells) → table.entries ≡ [] → (s n : ℕ) → first_cell table s n ≡ None
first_none table e s n = ap (λ es. entry (same_key (record { sort = record { 0 = s }; number = n })) es) e

pub lengths_differ : (read : Reading) (general : List Term) (ids : List CellId) → length general ≢ length ids → IsInstance (map read ids) general → ⊥
lengths_differ read general ids ne (f, e) = ne (sym (length-map general (substitute f)) ∙ sym (ap length e) ∙ length-map ids read)

-- what is noted and left is there
all_split : {X : Type 0} (P : X → Type 0) (xs ys : List X) → All P (xs ++ ys) → All P xs × All P ys
all_split P [] ys h = (All-nil P, h)
all_split P (x ∷ xs) ys h = let rest = all_split P xs ys (All-tail P x (xs ++ ys) h) in (All-cons P x xs (All-head P x (xs ++ ys) h) rest.0, rest.1)

facings_there : (cells : List Put) (terms : List Term) (ids : List CellId) → All (IsAmong cells) ids → All (λ (p : Facing). IsAmong cells p.cell) (facings terms ids)
facings_there cells [] ids h = All-nil (λ (p : Facing). IsAmong cells p.cell)
facings_there cells (t ∷ terms) [] h = All-nil (λ (p : Facing). IsAmong cells p.cell)
facings_there cells (t ∷ terms) (x ∷ ids) h =
    All-cons (λ (p : Facing). IsAmong cells p.cell) (facing t x) (facings terms ids) (All-head (IsAmong cells) x ids h) (facings_there cells terms ids (All-tail (IsAmong cells) x ids h))

members : {X : Type 0} (P : X → Type 0) (xs : List X) → ((x : X) → IsIn x xs → P x) → All P xs
members P [] h = All-nil P
members P (x ∷ xs) h = All-cons P x xs (h x first) (members P xs (λ y i. h y (later i)))

module _ (kept : Kept) where
  pub can_begin : (now : Matching) (general : List Term) (ids : List CellId) → length now.numbers.cells.items ≡ length kept.cells → ((s n : ℕ) → first_cell now.first s n ≡ None)
      → now.left.items ≡ facings general ids → All (IsAmong kept.cells) ids → CanMatch kept now
  can_begin now general ids n none e h = record {
    count = n;
    first = λ p q id k. (let no : None ≡ Some id = sym (none p q) ∙ k in absurd (cc));
    left = subst (All (λ (p : Facing). IsAmong kept.cells p.cell)) (sym e) (facings_there kept.cells general ids h);
  }

  -- a term is taken from the stack
  pub can_top : (old new : Matching) (p : Facing) → new.numbers ≡ old.numbers → new.first ≡ old.first → old.left.items ≡ new.left.items ++ p ∷ [] → CanMatch kept old → CanMatch kept new × IsAmong kept.cells p.cell
  can_top old new p n f e c =
      let both = all_split (λ (p : Facing). IsAmong kept.cells p.cell) new.left.items (p ∷ []) (subst (All (λ (p : Facing). IsAmong kept.cells p.cell)) e c.left) in (
        record {
          count = ap (λ m. length m.cells.items) n ∙ c.count;
          first = λ s k id at. c.first s k id (ap (λ t. first_cell t s k) (sym f) ∙ at);
          left = both.0;
        },
        All-head (λ (p : Facing). IsAmong kept.cells p.cell) p [] both.1,
      )

  -- arguments are put on the stack
  pub can_push : IsSound kept → (old new : Matching) (args : List Term) (id : CellId) → new.numbers ≡ old.numbers → new.first ≡ old.first
      → new.left.items ≡ old.left.items ++ facings args (arguments_of kept.cells id) → CanMatch kept old → CanMatch kept new
  can_push sound old new args id n f e c = record {
    count = ap (λ m. length m.cells.items) n ∙ c.count;
    first = λ s k x at. c.first s k x (ap (λ t. first_cell t s k) (sym f) ∙ at);
    left = subst (All (λ (p : Facing). IsAmong kept.cells p.cell)) (sym e)
        (All-append (λ (p : Facing). IsAmong kept.cells p.cell) old.left.items (facings args (arguments_of kept.cells id)) c.left
        (facings_there kept.cells args (arguments_of kept.cells id) (members (IsAmong kept.cells) (arguments_of kept.cells id) (λ x i. edge_there kept sound id x (inr i)))));
  }

  -- cells were compared
  pub can_compare : (old new : Matching) → length new.numbers.cells.items ≡ length kept.cells → new.first ≡ old.first → new.left ≡ old.left → CanMatch kept old → CanMatch kept new
  can_compare old new n f e c = record {
    count = n;
    first = λ s k x at. c.first s k x (ap (λ t. first_cell t s k) (sym f) ∙ at);
    left = subst (λ v. All (λ (p : Facing). IsAmong kept.cells p.cell) v.items) (sym e) c.left;
  }

  -- a variable meets its first cell
  pub can_note : (old new : Matching) (s n : ℕ) (id : CellId) → IsAmong kept.cells id → new.numbers ≡ old.numbers → new.left ≡ old.left
      → ((p q : ℕ) → first_cell new.first p q ≡ cond (same_variable (s, n) (p, q)) (Some id) (first_cell old.first p q)) → CanMatch kept old → CanMatch kept new
  can_note old new s n id l m e grown c = record {
    count = ap (λ v. length v.cells.items) m ∙ c.count;
    first = λ p q x at. elim (cases_Bool (same_variable (s, n) (p, q))) [
      | inl t ↦
          (let is : Some id ≡ Some x = sym (grown p q ∙ ap (λ b. cond b (Some id) (first_cell old.first p q)) t) ∙ at in
          let one : id ≡ x = cc in
          subst (IsAmong kept.cells) one l)
      | inr t ↦ c.first p q x (sym (grown p q ∙ ap (λ b. cond b (Some id) (first_cell old.first p q)) t) ∙ at)
    ];
    left = subst (λ v. All (λ (p : Facing). IsAmong kept.cells p.cell) v.items) (sym e) c.left;
  }
