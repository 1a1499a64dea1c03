-- Trees that are alike besides their children, and the notes of their children.
use Rattle.std.proofs.Common.{◌≡◌, inl, inr, ℕ, zero, suc, ◌+◌, ◌<◌, ◌&&◌, Bool, true, false, List, [], ◌∷◌, ◌++◌, length, take, get_or, Option, Some, None, refl, sym, ◌∙◌, ap, ap₂, subst, append_assoc, append-nil, arith}
use Rattle.std.specs.Prelude.{◌↔◌}
use Rattle.std.proofs.lemmas.Bool.{false≢true, and_parts, and_cases, cases_Bool}
use Rattle.std.proofs.lemmas.Bool.Decides.{eqb_tells}
use Rattle.std.proofs.lemmas.Option.{none-some, same_Some}
use Rattle.psg_terms.specs.Names.{Name}
use Rattle.psg_grammar.specs.Fragments.{Fragment, hole, operator, with_child, with_name, with_number, with_text, children_of, top_operator}
use Rattle.psg_tree.specs.declared.tree.Part.{Part}
use Rattle.psg_tree.specs.declared.tree.Part.TheVariants.{Sub, Name as Named, Number, Text}
use Rattle.psg_tree.specs.declared.tree.Shape.{Shape}
use Rattle.psg_tree.specs.declared.tree.Shape.TheVariants.{Op, List as ListOf, Hole}
use Rattle.psg_tree.specs.Shapes.{with_parts, list_of, tree_of, subtrees}
use Rattle.psg_tree.proofs.Children.{children-list, children-with_parts}
use Rattle.psg_eval.specs.Trees.{own_names}
use Rattle.psg_cache.specs.Alike.{AreAlike, AreOwnAlike, AreUnlike, IsPartAlike, TellsAlike, hole_number}
use Rattle.psg_cache.specs.Diff.{agree, list_number, same_some}
use Rattle.psg_cache.specs.Walks.{names_in}
use Rattle.psg_cache.proofs.Evaluations.{own_parts, top_parts}
use Rattle.psg_cache.proofs.SpliceLaws.{list_self, no_operator, not_list}

-- ---- parts

pub names_alike : (p q : Part) (n m : Name) → p ≡ Named n → q ≡ Named m → n ≡ m → IsPartAlike p q
names_alike p q n m a b e = subst (λ x. IsPartAlike x q) (sym a) (subst (IsPartAlike (Named n)) (sym b) e)

pub numbers_alike : (p q : Part) (n m : ℕ) → p ≡ Number n → q ≡ Number m → n ≡ m → IsPartAlike p q
numbers_alike p q n m a b e = subst (λ x. IsPartAlike x q) (sym a) (subst (IsPartAlike (Number n)) (sym b) e)

pub texts_alike : (p q : Part) (n m : Name) → p ≡ Text n → q ≡ Text m → n ≡ m → IsPartAlike p q
texts_alike p q n m a b e = subst (λ x. IsPartAlike x q) (sym a) (subst (IsPartAlike (Text n)) (sym b) e)

pub subs_alike : (p q : Part) (t u : Fragment) → p ≡ Sub t → q ≡ Sub u → IsPartAlike p q
subs_alike p q t u a b = subst (λ x. IsPartAlike x q) (sym a) (subst (IsPartAlike (Sub t)) (sym b) tt)

own_more : (ps qs : List Part) (i : ℕ) (p q : Part) → AreOwnAlike (take i ps) (take i qs) → i < length ps
    → i < length qs → p ≡ get_or ps i p → q ≡ get_or qs i q → IsPartAlike p q
    → AreOwnAlike (take (suc i) ps) (take (suc i) qs)
own_more [] qs i p q h a b c d e = absurd (omega (arith, a))
own_more (x ∷ ps) [] i p q h a b c d e = absurd (omega (arith, b))
own_more (x ∷ ps) (y ∷ qs) zero p q h a b c d e =
    (subst (λ z. IsPartAlike z y) c (subst (IsPartAlike p) d e), tt)
own_more (x ∷ ps) (y ∷ qs) (suc i) p q h a b c d e =
    (h.0, own_more ps qs i p q h.1 (omega (arith, a)) (omega (arith, b)) c d e)

part_equal : (p q : Part) (ps qs : List Part) → IsPartAlike p q → subtrees (p ∷ ps) ≡ subtrees (q ∷ qs)
    → (p ≡ q) × (subtrees ps ≡ subtrees qs)
part_equal (Sub t) (Sub u) ps qs h e = (let s : t ≡ u = cc in ap Sub s, cc)
part_equal (Named n) (Named m) ps qs h e = (ap Named h, e)
part_equal (Number n) (Number m) ps qs h e = (ap Number h, e)
part_equal (Text n) (Text m) ps qs h e = (ap Text h, e)
part_equal (Sub t) (Named m) ps qs h e = absurd h
part_equal (Sub t) (Number m) ps qs h e = absurd h
part_equal (Sub t) (Text m) ps qs h e = absurd h
part_equal (Named n) (Sub u) ps qs h e = absurd h
part_equal (Named n) (Number m) ps qs h e = absurd h
part_equal (Named n) (Text m) ps qs h e = absurd h
part_equal (Number n) (Sub u) ps qs h e = absurd h
part_equal (Number n) (Named m) ps qs h e = absurd h
part_equal (Number n) (Text m) ps qs h e = absurd h
part_equal (Text n) (Sub u) ps qs h e = absurd h
part_equal (Text n) (Named m) ps qs h e = absurd h
part_equal (Text n) (Number m) ps qs h e = absurd h

own_equal : (ps qs : List Part) → AreOwnAlike ps qs → subtrees ps ≡ subtrees qs → ps ≡ qs
own_equal [] [] h e = refl
own_equal [] (q ∷ qs) h e = absurd h
own_equal (p ∷ ps) [] h e = absurd h
own_equal (p ∷ ps) (q ∷ qs) h e =
    let both = part_equal p q ps qs h.0 e in ap₂ (λ x xs. x ∷ xs) both.0 (own_equal ps qs h.1 both.1)

part_names : (p q : Part) (ps qs : List Part) → IsPartAlike p q → names_in ps ≡ names_in qs
    → names_in (p ∷ ps) ≡ names_in (q ∷ qs)
part_names (Sub t) (Sub u) ps qs h e = e
part_names (Named n) (Named m) ps qs h e = ap₂ (λ x xs. x ∷ xs) h e
part_names (Number n) (Number m) ps qs h e = e
part_names (Text n) (Text m) ps qs h e = e
part_names (Sub t) (Named m) ps qs h e = absurd h
part_names (Sub t) (Number m) ps qs h e = absurd h
part_names (Sub t) (Text m) ps qs h e = absurd h
part_names (Named n) (Sub u) ps qs h e = absurd h
part_names (Named n) (Number m) ps qs h e = absurd h
part_names (Named n) (Text m) ps qs h e = absurd h
part_names (Number n) (Sub u) ps qs h e = absurd h
part_names (Number n) (Named m) ps qs h e = absurd h
part_names (Number n) (Text m) ps qs h e = absurd h
part_names (Text n) (Sub u) ps qs h e = absurd h
part_names (Text n) (Named m) ps qs h e = absurd h
part_names (Text n) (Number m) ps qs h e = absurd h

own_names_in : (ps qs : List Part) → AreOwnAlike ps qs → names_in ps ≡ names_in qs
own_names_in [] [] h = refl
own_names_in [] (q ∷ qs) h = absurd h
own_names_in (p ∷ ps) [] h = absurd h
own_names_in (p ∷ ps) (q ∷ qs) h = part_names p q ps qs h.0 (own_names_in ps qs h.1)

own_self : (ps : List Part) → AreOwnAlike ps ps
own_self [] = tt
own_self (Sub t ∷ ps) = (tt, own_self ps)
own_self (Named n ∷ ps) = (refl, own_self ps)
own_self (Number n ∷ ps) = (refl, own_self ps)
own_self (Text t ∷ ps) = (refl, own_self ps)

pub own_long : (ps qs : List Part) → AreOwnAlike ps qs → length ps ≡ length qs
own_long [] [] h = refl
own_long [] (q ∷ qs) h = absurd h
own_long (p ∷ ps) [] h = absurd h
own_long (p ∷ ps) (q ∷ qs) h = let n = own_long ps qs h.1 in omega (arith, n)

pub own_next : (ps qs : List Part) (i : ℕ) (p q : Part) → AreOwnAlike (take i ps) (take i qs) → i < length ps
    → i < length qs → p ≡ get_or ps i p → q ≡ get_or qs i q → IsPartAlike p q
    → AreOwnAlike (take (i + 1) ps) (take (i + 1) qs)
own_next ps qs i p q h a b c d e =
    let one : suc i ≡ i + 1 = omega arith in
    subst (λ k. AreOwnAlike (take k ps) (take k qs)) one (own_more ps qs i p q h a b c d e)

pub own_at : (ps qs : List Part) (i : ℕ) (p q : Part) → i < length ps → i < length qs → p ≡ get_or ps i p → q ≡ get_or qs i q
    → AreOwnAlike ps qs → IsPartAlike p q
own_at [] qs i p q a b c d h = absurd (omega (arith, a))
own_at (x ∷ ps) [] i p q a b c d h = absurd (omega (arith, b))
own_at (x ∷ ps) (y ∷ qs) zero p q a b c d h =
    subst (λ z. IsPartAlike z q) (sym c) (subst (IsPartAlike x) (sym d) h.0)
own_at (x ∷ ps) (y ∷ qs) (suc i) p q a b c d h = own_at ps qs i p q (omega (arith, a)) (omega (arith, b)) c d h.1

-- ---- tops

-- the parts of an operator
abbrev parts_of : Fragment → List Part
parts_of (with_child f t) = parts_of f ++ Sub t ∷ []
parts_of (with_name f n) = parts_of f ++ Named n ∷ []
parts_of (with_number f n) = parts_of f ++ Number n ∷ []
parts_of (with_text f t) = parts_of f ++ Text t ∷ []
parts_of _ = []

parts_back : (f : Fragment) (ps : List Part) → parts_of (with_parts f ps) ≡ parts_of f ++ ps
parts_back f [] = sym (append-nil (parts_of f))
parts_back f (Sub t ∷ ps) = parts_back (with_child f t) ps ∙ append_assoc (parts_of f) (Sub t ∷ []) ps
parts_back f (Named n ∷ ps) = parts_back (with_name f n) ps ∙ append_assoc (parts_of f) (Named n ∷ []) ps
parts_back f (Number n ∷ ps) = parts_back (with_number f n) ps ∙ append_assoc (parts_of f) (Number n ∷ []) ps
parts_back f (Text t ∷ ps) = parts_back (with_text f t) ps ∙ append_assoc (parts_of f) (Text t ∷ []) ps

parts_no_list : (f : Fragment) (ps : List Part) → list_number f ≡ None → list_number (with_parts f ps) ≡ None
parts_no_list f [] e = e
parts_no_list f (Sub t ∷ ps) e = parts_no_list (with_child f t) ps refl
parts_no_list f (Named n ∷ ps) e = parts_no_list (with_name f n) ps refl
parts_no_list f (Number n ∷ ps) e = parts_no_list (with_number f n) ps refl
parts_no_list f (Text t ∷ ps) e = parts_no_list (with_text f t) ps refl

parts_no_hole : (f : Fragment) (ps : List Part) → hole_number f ≡ None → hole_number (with_parts f ps) ≡ None
parts_no_hole f [] e = e
parts_no_hole f (Sub t ∷ ps) e = parts_no_hole (with_child f t) ps refl
parts_no_hole f (Named n ∷ ps) e = parts_no_hole (with_name f n) ps refl
parts_no_hole f (Number n ∷ ps) e = parts_no_hole (with_number f n) ps refl
parts_no_hole f (Text t ∷ ps) e = parts_no_hole (with_text f t) ps refl

list_no_hole : (l : ℕ) (es : List Fragment) (u : Bool) → hole_number (list_of l es u) ≡ None
list_no_hole l [] u = refl
list_no_hole l (e ∷ es) u = refl

list_kind : (l : ℕ) (es : List Fragment) (u : Bool) → list_number (list_of l es u) ≡ Some l
list_kind l [] u = refl
list_kind l (e ∷ es) u = refl

-- what is read at a top
pub operator_shape : (s : Shape) (o : ℕ) (ps : List Part) (f : Fragment) → s ≡ Op o ps → tree_of s ≡ f
    → (Some o ≡ top_operator f) × (None ≡ list_number f) × (None ≡ hole_number f)
operator_shape s o ps f e there =
    let is : f ≡ with_parts (operator o) ps = sym there ∙ ap tree_of e in (
      sym (ap top_operator is ∙ top_parts (operator o) ps),
      sym (ap list_number is ∙ parts_no_list (operator o) ps refl),
      sym (ap hole_number is ∙ parts_no_hole (operator o) ps refl),
    )

pub list_shape : (s : Shape) (l : ℕ) (es : List Fragment) (u : Bool) (f : Fragment) → s ≡ ListOf l es u → tree_of s ≡ f
    → (None ≡ top_operator f) × (Some l ≡ list_number f) × (None ≡ hole_number f)
list_shape s l es u f e there =
    let is : f ≡ list_of l es u = sym there ∙ ap tree_of e in (
      sym (ap top_operator is ∙ no_operator l es u),
      sym (ap list_number is ∙ list_kind l es u),
      sym (ap hole_number is ∙ list_no_hole l es u),
    )

pub hole_shape : (s : Shape) (p : ℕ) (f : Fragment) → s ≡ Hole p → tree_of s ≡ f
    → (None ≡ top_operator f) × (None ≡ list_number f) × (Some p ≡ hole_number f)
hole_shape s p f e there =
    let is : f ≡ hole p = sym there ∙ ap tree_of e in
    (sym (ap top_operator is), sym (ap list_number is), sym (ap hole_number is))

-- ---- alike or not

same_alike : (old new : Fragment) → old ≡ new → same_some (list_number old) (list_number new) ≡ false → AreAlike old new
same_alike old new same apart = record {
  equal = λ e. same;
  lists = λ l es u is. list_self old l es u (same ∙ is);
  nodes = λ o top. (ap top_operator same ∙ top, sym (ap own_names same));
  agrees = λ yes long. absurd (false≢true (sym apart ∙ yes));
}

no_kind : (a b : Option ℕ) → a ≡ None → same_some a b ≡ false
no_kind a b e = ap (λ x. same_some x b) e

no_other : (a b : Option ℕ) → b ≡ None → same_some a b ≡ false
no_other None b e = refl
no_other (Some a) b e = ap (same_some (Some a)) e

unlike : (old new : Fragment) → same_some (list_number old) (list_number new) ≡ false → (old ≡ new → ⊥) → AreUnlike old new
unlike old new apart differ = record { differ = differ; ends = λ yes. absurd (false≢true (sym apart ∙ yes)) }

operators_alike : (o : ℕ) (ps qs : List Part) (new : Fragment) → new ≡ with_parts (operator o) qs → AreOwnAlike ps qs
    → AreAlike (with_parts (operator o) ps) new
operators_alike o ps qs new two h =
    let old : Fragment = with_parts (operator o) ps in
    record {
      equal = λ same.
          let children : subtrees ps ≡ subtrees qs =
          sym (children-with_parts (operator o) ps) ∙ same ∙ ap children_of two ∙ children-with_parts (operator o) qs in
          ap (with_parts (operator o)) (own_equal ps qs h children) ∙ sym two;
      lists = λ l es u is.
          absurd (not_list new o l es u (ap top_operator two ∙ top_parts (operator o) qs) is);
      nodes = λ k top.
          let same : k ≡ o = same_Some k o (sym top ∙ ap top_operator two ∙ top_parts (operator o) qs) in (
            top_parts (operator o) ps ∙ ap Some (sym same),
            ap own_names two ∙ own_parts (operator o) qs ∙ sym (own_names_in ps qs h) ∙ sym (own_parts (operator o) ps),
          );
      agrees = λ yes long.
          absurd (false≢true (sym (no_kind _ (list_number new) (parts_no_list (operator o) ps refl)) ∙ yes));
    }

pub hole_hole : (p q : ℕ) (s : Shape) (new : Fragment) (r : Bool) → s ≡ Hole q → tree_of s ≡ new
    → (r ≡ true ↔ (p ≡ q)) → TellsAlike r (hole p) new
hole_hole p q s new true e there same =
    same_alike (hole p) new (ap hole (same.0 refl) ∙ ap tree_of (sym e) ∙ there) refl
hole_hole p q s new false e there same =
    unlike (hole p) new refl (λ is.
    let one : hole p ≡ hole q = is ∙ sym there ∙ ap tree_of e in
    let two : p ≡ q = cc in
    false≢true (same.1 two))

pub hole_operator : (p o : ℕ) (ps : List Part) (s : Shape) (new : Fragment) → s ≡ Op o ps → tree_of s ≡ new
    → AreUnlike (hole p) new
hole_operator p o ps s new e there =
    unlike (hole p) new refl (λ is. none-some o (ap top_operator is ∙ sym (operator_shape s o ps new e there).0))

pub hole_list : (p l : ℕ) (es : List Fragment) (u : Bool) (s : Shape) (new : Fragment) → s ≡ ListOf l es u
    → tree_of s ≡ new → AreUnlike (hole p) new
hole_list p l es u s new e there =
    unlike (hole p) new refl (λ is. none-some l (ap list_number is ∙ sym (list_shape s l es u new e there).1))

pub operator_hole : (o q : ℕ) (ps : List Part) (s : Shape) (new : Fragment) → s ≡ Hole q → tree_of s ≡ new
    → AreUnlike (with_parts (operator o) ps) new
operator_hole o q ps s new e there =
    let none_here = parts_no_list (operator o) ps refl in
    unlike (with_parts (operator o) ps) new (no_kind _ _ none_here)
    (λ is. none-some o ((hole_shape s q new e there).0 ∙ sym (ap top_operator is) ∙ top_parts (operator o) ps))

pub operator_list : (o l : ℕ) (ps : List Part) (es : List Fragment) (u : Bool) (s : Shape) (new : Fragment)
    → s ≡ ListOf l es u → tree_of s ≡ new → AreUnlike (with_parts (operator o) ps) new
operator_list o l ps es u s new e there =
    let none_here = parts_no_list (operator o) ps refl in
    unlike (with_parts (operator o) ps) new (no_kind _ _ none_here)
    (λ is. none-some o ((list_shape s l es u new e there).0 ∙ sym (ap top_operator is) ∙ top_parts (operator o) ps))

pub list_hole : (l q : ℕ) (es : List Fragment) (u : Bool) (s : Shape) (new : Fragment) → s ≡ Hole q → tree_of s ≡ new
    → AreUnlike (list_of l es u) new
list_hole l q es u s new e there =
    let none_here = (hole_shape s q new e there).1 in
    unlike (list_of l es u) new (no_other _ _ (sym none_here))
    (λ is. none-some l (none_here ∙ sym (ap list_number is) ∙ list_kind l es u))

pub list_operator : (l o : ℕ) (es : List Fragment) (u : Bool) (ps : List Part) (s : Shape) (new : Fragment)
    → s ≡ Op o ps → tree_of s ≡ new → AreUnlike (list_of l es u) new
list_operator l o es u ps s new e there =
    let none_here = (operator_shape s o ps new e there).1 in
    unlike (list_of l es u) new (no_other _ _ (sym none_here))
    (λ is. none-some l (none_here ∙ sym (ap list_number is) ∙ list_kind l es u))

pub operator_operator : (o p : ℕ) (ps qs rs : List Part) (s : Shape) (new : Fragment) (a b r : Bool) → s ≡ Op p qs
    → tree_of s ≡ new → (a ≡ true ↔ (o ≡ p)) → (b ≡ true ↔ AreOwnAlike ps rs) → rs ≡ qs → r ≡ (a && b)
    → TellsAlike r (with_parts (operator o) ps) new
operator_operator o p ps qs rs s new a b true e there same own are told =
    let h = and_parts a b (sym told) in
    let alike : AreOwnAlike ps qs = subst (AreOwnAlike ps) are (own.0 h.1) in
    operators_alike o ps qs new (sym there ∙ ap tree_of e ∙ ap (λ n. with_parts (operator n) qs) (sym (same.0 h.0))) alike
operator_operator o p ps qs rs s new a b false e there same own are told =
    let none_here = parts_no_list (operator o) ps refl in
    unlike (with_parts (operator o) ps) new (no_kind _ _ none_here) (λ is.
    let whole : with_parts (operator o) ps ≡ with_parts (operator p) qs = is ∙ sym there ∙ ap tree_of e in
    let one : o ≡ p =
    same_Some o p (sym (top_parts (operator o) ps) ∙ ap top_operator whole ∙ top_parts (operator p) qs) in
    let two : ps ≡ qs = sym (parts_back (operator o) ps) ∙ ap parts_of whole ∙ parts_back (operator p) qs in
    elim (and_cases a b (sym told)) [
      | inl fails ↦ false≢true (sym fails ∙ same.1 one)
      | inr fails ↦ false≢true (sym fails ∙ own.1 (subst (AreOwnAlike ps) (two ∙ sym are) (own_self ps)))
    ])

agree_ends : (l m : ℕ) (es ds : List Fragment) (u v : Bool) → agree (list_of l es u) (list_of m ds v) ≡ true → u ≡ v
agree_ends l m [] [] true true h = refl
agree_ends l m [] [] false false h = refl
agree_ends l m [] [] true false h = absurd (false≢true h)
agree_ends l m [] [] false true h = absurd (false≢true h)
agree_ends l m [] (d ∷ ds) u v h = absurd (false≢true h)
agree_ends l m (e ∷ es) [] u v h = absurd (false≢true h)
agree_ends l m (e ∷ es) (d ∷ ds) u v h = agree_ends l m es ds u v h

agree_made : (l m : ℕ) (es ds : List Fragment) (u : Bool) → length es ≡ length ds
    → agree (list_of l es u) (list_of m ds u) ≡ true
agree_made l m [] [] true n = refl
agree_made l m [] [] false n = refl
agree_made l m [] (d ∷ ds) u n = absurd (omega (arith, n))
agree_made l m (e ∷ es) [] u n = absurd (omega (arith, n))
agree_made l m (e ∷ es) (d ∷ ds) u n = agree_made l m es ds u (omega (arith, n))

one_list : (l m : ℕ) (es ds : List Fragment) (u v : Bool) → list_of l es u ≡ list_of m ds v → (l ≡ m) × (u ≡ v)
one_list l m [] [] u v e = (cc, cc)
one_list l m [] (d ∷ ds) u v e = absurd (cc)
one_list l m (x ∷ es) [] u v e = absurd (cc)
one_list l m (x ∷ es) (d ∷ ds) u v e =
    let rest : list_of l es u ≡ list_of m ds v = cc in one_list l m es ds u v rest

lists_alike : (l : ℕ) (es ds : List Fragment) (u : Bool) (new : Fragment) → new ≡ list_of l ds u
    → AreAlike (list_of l es u) new
lists_alike l es ds u new two =
    let old : Fragment = list_of l es u in
    record {
      equal = λ same.
          let elements : es ≡ ds =
          sym (children-list l es u) ∙ same ∙ ap children_of two ∙ children-list l ds u in
          ap (λ x. list_of l x u) elements ∙ sym two;
      lists = λ n cs w is.
          let both = one_list l n ds cs u w (sym two ∙ is) in
          list_self old l es u refl ∙ ap₂ (λ k x. list_of k (children_of old) x) both.0 both.1;
      nodes = λ o top. absurd (none-some o (sym (ap top_operator two ∙ no_operator l ds u) ∙ top));
      agrees = λ yes long.
          let count : length es ≡ length ds =
          sym (ap length (children-list l es u)) ∙ long ∙ ap (λ f. length (children_of f)) two
          ∙ ap length (children-list l ds u) in
          ap (agree old) two ∙ agree_made l l es ds u count;
    }

same_kind : (l m : ℕ) → same_some (Some l) (Some m) ≡ true → l ≡ m
same_kind l m h = elim (eqb_tells l m) [ inl e ↦ e.1 | inr e ↦ absurd (false≢true (sym e.0 ∙ h)) ]

pub list_list : (l m : ℕ) (es ds : List Fragment) (u v : Bool) (s : Shape) (new : Fragment) (a b r : Bool)
    → s ≡ ListOf m ds v → tree_of s ≡ new → (a ≡ true ↔ (l ≡ m)) → (b ≡ true ↔ (u ≡ v)) → r ≡ (a && b)
    → TellsAlike r (list_of l es u) new
list_list l m es ds u v s new a b true e there same ends told =
    let h = and_parts a b (sym told) in
    lists_alike l es ds u new
    (sym there ∙ ap tree_of e ∙ ap₂ (λ n w. list_of n ds w) (sym (same.0 h.0)) (sym (ends.0 h.1)))
list_list l m es ds u v s new a b false e there same ends told =
    let is : new ≡ list_of m ds v = sym there ∙ ap tree_of e in
    record {
      differ = λ equal.
          let both = one_list l m es ds u v (equal ∙ is) in
          elim (and_cases a b (sym told)) [
            | inl fails ↦ false≢true (sym fails ∙ same.1 both.0)
            | inr fails ↦ false≢true (sym fails ∙ ends.1 both.1)
          ];
      ends = λ yes.
          let kind : l ≡ m =
          same_kind l m (sym (ap₂ (λ x y. same_some x y) (list_kind l es u) (ap list_number is ∙ list_kind m ds v)) ∙ yes) in
          elim (cases_Bool (agree (list_of l es u) new)) [
            | inl agrees ↦
                let end : u ≡ v = agree_ends l m es ds u v (sym (ap (agree (list_of l es u)) is) ∙ agrees) in
                absurd (elim (and_cases a b (sym told)) [
                  | inl fails ↦ false≢true (sym fails ∙ same.1 kind)
                  | inr fails ↦ false≢true (sym fails ∙ ends.1 end)
                ])
            | inr fails ↦ fails
          ];
    }

-- whatever the old shape, its tree is told
pub told_there : (r : Bool) (f old new : Fragment) → f ≡ old → TellsAlike r f new → TellsAlike r old new
told_there r f old new same h = subst (λ x. TellsAlike r x new) same h
