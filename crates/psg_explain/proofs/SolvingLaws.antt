-- Equations that are being solved: rules that are added, tasks that are taken and put, and what each step comes to.
use Rattle.std.proofs.Common.{◌≡◌, inl, inr, ℕ, zero, suc, ◌+◌, ◌-◌, ◌<◌, ◌≤◌, ◌||◌, min, Bool, true, false, List, [], ◌∷◌, ◌++◌, map, take, drop, get_or, length, reverse, slice_get, Option, Some, None, refl, ap, ap₂, sym, ◌∙◌, subst, arith, append-nil, append_assoc}
use Rattle.std.specs.List.{AllByRecursion}
use Rattle.std.proofs.lemmas.Bool.{or_parts}
use Rattle.std.proofs.lemmas.List.{map-append, reverse-append}
use Rattle.std.proofs.lemmas.Option.{slice_get_within}
use Rattle.psg_terms.specs.Terms.{Term, variable, symbol, apply, applied}
use Rattle.psg_terms.specs.Canonical.{Variable, variables, is_noted, same_variable}
use Rattle.psg_terms.proofs.Lists.{drop_item, drop_there, each_at, each_push, slice_get-end, slice_get-front, slice_get_item, take_item}
use Rattle.psg_terms.proofs.Variables.{same_variable-refl, same_variable-true}
use Rattle.psg_terms.specs.Instances.{substitute}
use Rattle.psg_relation.specs.Heads.{head_of}
use Rattle.psg_explain.specs.declared.derived.Derived.{Derived}
use Rattle.psg_explain.specs.declared.solver.Bound.{Bound}
use Rattle.psg_explain.specs.declared.solver.Task.{Task}
use Rattle.psg_explain.specs.declared.refutation.Reason.{Reason}
use Rattle.psg_explain.specs.declared.refutation.Reason.TheVariants.{Clash, Circle}
use Rattle.psg_explain.specs.declared.refutation.Rule.{Rule}
use Rattle.psg_explain.specs.declared.refutation.Rule.TheVariants as rules
use Rattle.psg_explain.specs.Equations.{arguments_of, Derives, Equation, GiveAll, Gives, IsBinding, IsCircle, IsClash, put_for, rewritten, StandsInside, term_of}
use Rattle.psg_explain.proofs.PuttingLaws.{put-none}
use Rattle.psg_explain.specs.Reasons.{IsReason, paired}
use Rattle.psg_explain.specs.Reasons.{solved as r_solved, equal as r_equal, parts as r_parts, clash as r_clash, circle_left as r_circle_left, circle_right as r_circle_right, bound_left as r_bound_left, bound_right as r_bound_right}
use Rattle.psg_explain.specs.Solutions.{AreApart, AreBindings, Binding, equation_in, Extends, HasArguments, IsApartFrom, IsAt, IsBoundBy, IsBoundIn, IsPut, IsWithin, IsWorking, variable_in, Solving, solved, equal, parts, clash, circle_left, circle_right, bound_left, bound_right}

-- ---- rules

pub gives_more : (given before : List Equation) (rs : List Rule) (all : List Equation) (r : Rule) (e : Equation) → GiveAll given before rs all → Gives given all r e
    → GiveAll given before (rs ++ r ∷ []) (all ++ e ∷ [])
gives_more given before [] all r e d g = (e, subst (λ l. Gives given l r e) d g, ap (λ l. l ++ e ∷ []) d)
gives_more given before (x ∷ rs) all r e (y, h, more) g = (y, h, gives_more given (before ++ y ∷ []) rs all r e more g)

pub none_derived : (given : List Equation) → Derives given [] []
none_derived given = refl

-- ---- what is there

pub extends_refl : (all : List Equation) → Extends all all
extends_refl all n e h = h

pub extends_push : (all : List Equation) (e : Equation) → Extends all (all ++ e ∷ [])
extends_push all e n d h = slice_get-front all (e ∷ []) n d h

pub extends_trans : (a b c : List Equation) → Extends a b → Extends b c → Extends a c
extends_trans a b c f g n e h = g n e (f n e h)

pub still_there : (old new : List Equation) → Extends old new → (tasks : List Task) → AllByRecursion (IsAt old) tasks → AllByRecursion (IsAt new) tasks
still_there old new ext [] h = tt
still_there old new ext (t ∷ tasks) (at, h) = (ext t.number t.equation at, still_there old new ext tasks h)

-- a new number is none of those that are there
pub fresh_apart : (all : List Equation) (n : ℕ) → n ≡ length all → (tasks : List Task) → AllByRecursion (IsAt all) tasks → IsApartFrom n tasks
fresh_apart all n is [] h = tt
fresh_apart all n is (t ∷ tasks) (at, h) =
    ((λ e. let lt = slice_get_within all t.number t.equation at in absurd (omega (arith, lt, e, is))), fresh_apart all n is tasks h)

pub apart_push : (tasks : List Task) (t : Task) → AreApart tasks → IsApartFrom t.number tasks → AreApart (tasks ++ t ∷ [])
apart_push [] t a h = (tt, tt)
apart_push (u ∷ tasks) t (one, more) (differ, h) =
    (each_push (λ (x : Task). x.number ≡ u.number → ⊥) tasks t one (λ e. differ (sym e)), apart_push tasks t more h)

front_of : (P : Task → Type 0) (xs : List Task) (t : Task) → AllByRecursion P (xs ++ t ∷ []) → AllByRecursion P xs × P t
front_of P [] t h = (tt, h.0)
front_of P (x ∷ xs) t (p, h) = let (a, b) = front_of P xs t h in ((p, a), b)

pub apart_pop : (tasks : List Task) (t : Task) → AreApart (tasks ++ t ∷ []) → AreApart tasks × IsApartFrom t.number tasks
apart_pop [] t a = (tt, tt)
apart_pop (u ∷ tasks) t (one, more) =
    let (a, b) = apart_pop tasks t more in
    let (c, d) = front_of (λ (x : Task). x.number ≡ u.number → ⊥) tasks t one in
    ((c, a), ((λ e. d (sym e)), b))

-- the last task is taken off
pub working_pop : (given : List Equation) (rs : List Rule) (all : List Equation) (left : List Task) (t : Task) → IsWorking given rs all (left ++ t ∷ [])
    → IsWorking given rs all left × IsAt all t × IsApartFrom t.number left
working_pop given rs all left t w =
    let (there, at) = front_of (IsAt all) left t w.there in
    let (apart, from) = apart_pop left t w.apart in
    (record { derives = w.derives; there = there; apart = apart }, at, from)

-- a rule is added, and its equation is to be solved
pub working_push : (given : List Equation) (rs : List Rule) (all : List Equation) (left : List Task) (r : Rule) (t : Task) → t.number ≡ length all → IsWorking given rs all left
    → Gives given all r t.equation → IsWorking given (rs ++ r ∷ []) (all ++ t.equation ∷ []) (left ++ t ∷ [])
working_push given rs all left r t number w gives =
    let ext = extends_push all t.equation in
    record {
      derives = gives_more given [] rs all r t.equation w.derives gives;
      there = each_push (IsAt (all ++ t.equation ∷ [])) left t (still_there all (all ++ t.equation ∷ []) ext left w.there)
          (subst (λ n. slice_get (all ++ t.equation ∷ []) n ≡ Some t.equation) (sym number) (slice_get-end all t.equation));
      apart = apart_push left t w.apart (fresh_apart all t.number number left w.there);
    }

-- a rule is added
pub working_more : (given : List Equation) (rs : List Rule) (all : List Equation) (left : List Task) (r : Rule) (e : Equation) → IsWorking given rs all left
    → Gives given all r e → IsWorking given (rs ++ r ∷ []) (all ++ e ∷ []) left
working_more given rs all left r e w gives =
    record {
      derives = gives_more given [] rs all r e w.derives gives;
      there = still_there all (all ++ e ∷ []) (extends_push all e) left w.there;
      apart = w.apart;
    }

-- ---- the list of equations

map_both : (xs ys : List Task) → map equation_in (xs ++ ys) ≡ map equation_in xs ++ map equation_in ys
map_both [] ys = refl
map_both (x ∷ xs) ys = ap (λ l. equation_in x ∷ l) (map_both xs ys)

pub tasks_push : (left : List Task) (t : Task) → map equation_in (reverse (left ++ t ∷ [])) ≡ t.equation ∷ map equation_in (reverse left)
tasks_push left t = ap (map equation_in) (reverse-append left (t ∷ []))

-- ---- arguments

pub arguments-applied : (t : Term) (row : List Term) → arguments_of (applied t row) ≡ arguments_of t ++ row
arguments-applied t [] = sym (append-nil (arguments_of t))
arguments-applied t (a ∷ row) = arguments-applied (apply t a) row ∙ append_assoc (arguments_of t) (a ∷ []) row

pub head-applied : (t : Term) (row : List Term) → head_of (applied t row) ≡ head_of t
head-applied t [] = refl
head-applied t (a ∷ row) = head-applied (apply t a) row

pub head_con : (t : Term) (c : ℕ) (row : List Term) → t ≡ applied (symbol c) row → head_of t ≡ Some c
head_con t c row e = ap head_of e ∙ head-applied (symbol c) row

pub arguments_con : (t : Term) (c : ℕ) (row : List Term) → t ≡ applied (symbol c) row → arguments_of t ≡ row
arguments_con t c row e = ap arguments_of e ∙ arguments-applied (symbol c) row

-- the equations of arguments from the last one on
pub paired_end : (xs ys : List Term) (n : ℕ) → min (length xs) (length ys) ≤ n → drop n (paired xs ys) ≡ []
paired_end [] ys zero h = refl
paired_end [] ys (suc n) h = refl
paired_end (x ∷ xs) [] zero h = refl
paired_end (x ∷ xs) [] (suc n) h = refl
paired_end (x ∷ xs) (y ∷ ys) zero h = absurd (omega (arith, h))
paired_end (x ∷ xs) (y ∷ ys) (suc n) h = paired_end xs ys n (omega (arith, h))

pub paired_at : (xs ys : List Term) (n : ℕ) (x y : Term) → slice_get xs n ≡ Some x → slice_get ys n ≡ Some y → drop n (paired xs ys) ≡ (x, y) ∷ drop (suc n) (paired xs ys)
paired_at [] ys n x y a b = absurd (cc)
paired_at (u ∷ xs) [] n x y a b = absurd (cc)
paired_at (u ∷ xs) (v ∷ ys) zero x y a b = let d : u ≡ x = cc in let e : v ≡ y = cc in ap₂ (λ p q. (p, q) ∷ paired xs ys) d e
paired_at (u ∷ xs) (v ∷ ys) (suc n) x y a b = paired_at xs ys n x y a b

pub gives_part : (given all : List Equation) (n k : ℕ) (left right : List Term) (x y : Term) → HasArguments all n left right → slice_get left k ≡ Some x → slice_get right k ≡ Some y
    → Gives given all (rules.Part n k) (x, y)
gives_part given all n k left right x y (c, at) a b = (
  (applied (symbol c) left, applied (symbol c) right),
  at,
  (
    c,
    (head-applied (symbol c) left, head-applied (symbol c) right),
    ap (λ l. slice_get l k) (arguments-applied (symbol c) left) ∙ a,
    ap (λ l. slice_get l k) (arguments-applied (symbol c) right) ∙ b,
  ),
)

-- ---- what an equation comes to

pub solve_equal : (a b : Term) (rest : List Equation) (bs : List Binding) (r : Option Reason) → a ≡ b → Solving rest bs r → Solving ((a, b) ∷ rest) bs r
solve_equal a b rest bs r e s = subst (λ x. Solving ((a, x) ∷ rest) bs r) e (equal s)

pub solve_parts : (a b : Term) (c : ℕ) (xs ys : List Term) (rest : List Equation) (bs : List Binding) (r : Option Reason) → a ≡ applied (symbol c) xs → b ≡ applied (symbol c) ys → (a ≡ b → ⊥)
    → Solving (paired xs ys ++ rest) bs r → Solving ((a, b) ∷ rest) bs r
solve_parts a b c xs ys rest bs r d e differ s =
    parts c differ (head_con a c xs d, head_con b c ys e)
    (subst (λ l. Solving (l ++ rest) bs r) (ap₂ paired (sym (arguments_con a c xs d)) (sym (arguments_con b c ys e))) s)

pub are_clash : (a b : Term) (c d : ℕ) (xs ys : List Term) → a ≡ applied (symbol c) xs → b ≡ applied (symbol d) ys → (c ≡ d → ⊥) → IsClash (a, b)
are_clash a b c d xs ys e f differ = (c, d, head_con a c xs e, head_con b d ys f, differ)

-- a variable in a term that it is not stands inside
pub stands : (x : Variable) (t : Term) → is_noted x (variables t) ≡ true → (term_of x ≡ t → ⊥) → StandsInside x t
stands x (variable s n) h differ = differ (ap term_of (same_variable-true x (s, n) (sym (or_none (same_variable x (s, n))) ∙ h)))
  where
    or_none : (b : Bool) → (b || false) ≡ b
    or_none true = refl
    or_none false = refl
stands x (symbol c) h differ = absurd (let e : false ≡ true = h in cc)
stands x (apply f a) h differ = h

-- with equations for what became of each part
pub working_added : (given : List Equation) (rs : List Rule) (all : List Equation) (left : List Task) (r : Rule) (e : Equation) (t : Task) (rs' : List Rule) (all' : List Equation) (left' : List Task)
    → t.number ≡ length all → t.equation ≡ e → rs' ≡ rs ++ r ∷ [] → all' ≡ all ++ e ∷ [] → left' ≡ left ++ t ∷ [] → IsWorking given rs all left → Gives given all r e → IsWorking given rs' all' left'
working_added given rs all left r e t rs' all' left' number same a b c w gives =
    let it : IsWorking given (rs ++ r ∷ []) (all ++ e ∷ []) (left ++ t ∷ []) =
    subst (λ x. IsWorking given (rs ++ r ∷ []) (all ++ x ∷ []) (left ++ t ∷ [])) same (working_push given rs all left r t number w (subst (Gives given all r) (sym same) gives)) in
    subst (λ l. IsWorking given l all' left') (sym a) (subst (λ l. IsWorking given (rs ++ r ∷ []) l left') (sym b) (subst (IsWorking given (rs ++ r ∷ []) (all ++ e ∷ [])) (sym c) it))

pub extends_added : (all all' : List Equation) (e : Equation) → all' ≡ all ++ e ∷ [] → Extends all all'
extends_added all all' e d n f h = ap (λ l. slice_get l n) d ∙ slice_get-front all (e ∷ []) n f h

-- ---- tasks that are put

task_same : (a b : Task) → a.number ≡ b.number → a.equation ≡ b.equation → a ≡ b
task_same a b n e = ap₂ (λ k f. record { number = k; equation = f }) n e

fresh_front : (xs ys : List Task) (t u : Task) → AreApart (xs ++ t ∷ ys) → IsApartFrom u.number (xs ++ t ∷ ys) → AreApart (xs ++ u ∷ ys)
fresh_front [] ys t u (one, more) (differ, h) = (h, more)
fresh_front (x ∷ xs) ys t u (one, more) (differ, h) = (changed x.number xs one (λ e. differ (sym e)), fresh_front xs ys t u more h)
  where
    changed : (k : ℕ) (zs : List Task) → IsApartFrom k (zs ++ t ∷ ys) → (u.number ≡ k → ⊥) → IsApartFrom k (zs ++ u ∷ ys)
    changed k [] (a, b) d = (d, b)
    changed k (z ∷ zs) (a, b) d = (a, changed k zs b d)

there_front : (all : List Equation) (xs ys : List Task) (t u : Task) → AllByRecursion (IsAt all) (xs ++ t ∷ ys) → IsAt all u → AllByRecursion (IsAt all) (xs ++ u ∷ ys)
there_front all [] ys t u (a, b) at = (at, b)
there_front all (x ∷ xs) ys t u (a, b) at = (a, there_front all xs ys t u b at)

there_at : (all : List Equation) (xs ys : List Task) (t : Task) → AllByRecursion (IsAt all) (xs ++ t ∷ ys) → IsAt all t
there_at all [] ys t (a, b) = a
there_at all (x ∷ xs) ys t (a, b) = there_at all xs ys t b

-- a task among others gets a new equation with its number
pub working_put : (given : List Equation) (rs rs' : List Rule) (all all' : List Equation) (xs ys : List Task) (t u : Task) → IsWorking given rs all (xs ++ t ∷ ys) → u.number ≡ length all
    → all' ≡ all ++ u.equation ∷ [] → (Derives given rs all → IsAt all t → Derives given rs' all') → IsWorking given rs' all' (xs ++ u ∷ ys)
working_put given rs rs' all all' xs ys t u w number grown derived =
    let ext = extends_added all all' u.equation grown in
    let at : IsAt all' u = ap₂ (λ l n. slice_get l n) grown number ∙ slice_get-end all u.equation in
    record {
      derives = derived w.derives (there_at all xs ys t w.there);
      there = there_front all' xs ys t u (still_there all all' ext (xs ++ t ∷ ys) w.there) at;
      apart = fresh_front xs ys t u w.apart (fresh_apart all u.number number (xs ++ t ∷ ys) w.there);
    }

pub working_same : (given : List Equation) (rs rs' : List Rule) (all all' : List Equation) (xs ys : List Task) (t u : Task) → IsWorking given rs all (xs ++ t ∷ ys) → u.number ≡ t.number
    → rs' ≡ rs → all' ≡ all → u.equation ≡ t.equation → IsWorking given rs' all' (xs ++ u ∷ ys)
working_same given rs rs' all all' xs ys t u w number a b same =
    subst (λ z. IsWorking given rs' all' (xs ++ z ∷ ys)) (sym (task_same u t number same))
    (subst (λ l. IsWorking given l all' (xs ++ t ∷ ys)) (sym a) (subst (λ l. IsWorking given rs l (xs ++ t ∷ ys)) (sym b) w))

-- ---- variables that are replaced

pub binding_push : (all : List Equation) (ns : List ℕ) (bs : List Binding) (n : ℕ) (x : Variable) (t : Term) → AreBindings all ns bs → IsBinding all n x t → AreBindings all (ns ++ n ∷ []) (bs ++ (x, t) ∷ [])
binding_push all [] bs n x t h b = subst (λ l. AreBindings all (n ∷ []) (l ++ (x, t) ∷ [])) (sym h) (b, refl)
binding_push all (m ∷ ns) [] n x t h b = absurd h
binding_push all (m ∷ ns) (c ∷ bs) n x t (a, h) b = (a, binding_push all ns bs n x t h b)

pub bindings_still : (old new : List Equation) → Extends old new → (ns : List ℕ) (bs : List Binding) → AreBindings old ns bs → AreBindings new ns bs
bindings_still old new ext [] bs h = h
bindings_still old new ext (m ∷ ns) [] h = absurd h
bindings_still old new ext (m ∷ ns) (c ∷ bs) (a, h) = (ext m (term_of c.0, c.1) a, bindings_still old new ext ns bs h)

-- ---- the reason alone

pub reason_is : (es : List Equation) (bs : List Binding) (r : Option Reason) → Solving es bs r → IsReason es r
reason_is es bs r solved = r_solved
reason_is es bs r (equal s) = r_equal (reason_is _ _ _ s)
reason_is es bs r (parts c differ head s) = r_parts c differ head (reason_is _ _ _ s)
reason_is es bs r (clash h) = r_clash h
reason_is es bs r (circle_left x h) = r_circle_left x h
reason_is es bs r (circle_right x h) = r_circle_right x h
reason_is es bs r (bound_left x h s) = r_bound_left x h (reason_is _ _ _ s)
reason_is es bs r (bound_right x c head h s) = r_bound_right x c head h (reason_is _ _ _ s)

-- ---- a side that is a variable

circle_at : (x : Variable) (side by : Term) → side ≡ term_of x → is_noted x (variables by) ≡ true → (side ≡ by → ⊥) → StandsInside x by
circle_at x side by e i differ = stands x by i (λ d. differ (e ∙ d))

pub left_circle : (x : Variable) (side by : Term) → side ≡ term_of x → is_noted x (variables by) ≡ true → (side ≡ by → ⊥) → (rest : List Equation) → Solving ((side, by) ∷ rest) [] (Some (Circle side by))
left_circle x side by e i differ rest =
    subst (λ t. Solving ((t, by) ∷ rest) [] (Some (Circle t by))) (sym e) (circle_left x (circle_at x side by e i differ))

pub right_circle : (x : Variable) (side by : Term) → side ≡ term_of x → is_noted x (variables by) ≡ true → (side ≡ by → ⊥) → (rest : List Equation) → Solving ((by, side) ∷ rest) [] (Some (Circle side by))
right_circle x side by e i differ rest =
    subst (λ t. Solving ((by, t) ∷ rest) [] (Some (Circle t by))) (sym e) (circle_right x (circle_at x side by e i differ))

pub left_is_circle : (x : Variable) (side by : Term) → side ≡ term_of x → is_noted x (variables by) ≡ true → (side ≡ by → ⊥) → IsCircle (side, by)
left_is_circle x side by e i differ = (x, inl (e, circle_at x side by e i differ))

pub right_is_circle : (x : Variable) (side by : Term) → side ≡ term_of x → is_noted x (variables by) ≡ true → (side ≡ by → ⊥) → IsCircle (by, side)
right_is_circle x side by e i differ = (x, inr (e, circle_at x side by e i differ))

pub left_bound : (x : Variable) (side by : Term) → side ≡ term_of x → is_noted x (variables by) ≡ false → (rest : List Equation) (bs : List Binding) (r : Option Reason)
    → Solving (map (rewritten x by) rest) bs r → Solving ((side, by) ∷ rest) ((x, by) ∷ bs) r
left_bound x side by e i rest bs r s = subst (λ t. Solving ((t, by) ∷ rest) ((x, by) ∷ bs) r) (sym e) (bound_left x i s)

pub right_bound : (x : Variable) (c : ℕ) (side by : Term) → side ≡ term_of x → head_of by ≡ Some c → is_noted x (variables by) ≡ false → (rest : List Equation) (bs : List Binding) (r : Option Reason)
    → Solving (map (rewritten x by) rest) bs r → Solving ((by, side) ∷ rest) ((x, by) ∷ bs) r
right_bound x c side by e h i rest bs r s = subst (λ t. Solving ((by, t) ∷ rest) ((x, by) ∷ bs) r) (sym e) (bound_right x c h i s)

-- a variable is made by no constructor
pub no_head : (x : Variable) (side by : Term) (c : ℕ) → side ≡ term_of x → head_of by ≡ Some c → side ≡ by → ⊥
no_head x side by c e h d = let z : None ≡ Some c = sym (ap head_of (sym d ∙ e)) ∙ h in absurd (cc)

pub variable_there : (x : Variable) (side : Term) → side ≡ term_of x → is_noted x (variables side) ≡ true
variable_there x side e = ap (λ t. is_noted x (variables t)) e ∙ ap (λ b. b || false) (same_variable-refl x)

pub left_bound_by : (x : Variable) (side by t : Term) → side ≡ term_of x → is_noted x (variables by) ≡ false → t ≡ by → (rest : List Equation) (bs : List Binding) (r : Option Reason)
    → Solving (map (rewritten x t) rest) bs r → Solving ((side, by) ∷ rest) ((x, t) ∷ bs) r
left_bound_by x side by t e i d rest bs r s =
    subst (λ z. Solving ((side, by) ∷ rest) ((x, z) ∷ bs) r) (sym d) (left_bound x side by e i rest bs r (subst (λ z. Solving (map (rewritten x z) rest) bs r) d s))

pub right_bound_by : (x : Variable) (c : ℕ) (side by t : Term) → side ≡ term_of x → head_of by ≡ Some c → is_noted x (variables by) ≡ false → t ≡ by → (rest : List Equation) (bs : List Binding) (r : Option Reason)
    → Solving (map (rewritten x t) rest) bs r → Solving ((by, side) ∷ rest) ((x, t) ∷ bs) r
right_bound_by x c side by t e h i d rest bs r s =
    subst (λ z. Solving ((by, side) ∷ rest) ((x, z) ∷ bs) r) (sym d) (right_bound x c side by e h i rest bs r (subst (λ z. Solving (map (rewritten x z) rest) bs r) d s))

pub working_more_by : (given : List Equation) (rs : List Rule) (all : List Equation) (left : List Task) (r : Rule) (e : Equation) (rs' : List Rule) (all' : List Equation) → rs' ≡ rs ++ r ∷ [] → all' ≡ all ++ e ∷ []
    → IsWorking given rs all left → Gives given all r e → IsWorking given rs' all' left
working_more_by given rs all left r e rs' all' a b w gives =
    subst (λ l. IsWorking given l all' left) (sym a) (subst (λ l. IsWorking given (rs ++ r ∷ []) l left) (sym b) (working_more given rs all left r e w gives))

pub new_at : (all all' : List Equation) (e f : Equation) (n : ℕ) → all' ≡ all ++ e ∷ [] → n ≡ length all → e ≡ f → slice_get all' n ≡ Some f
new_at all all' e f n a b d = ap₂ (λ l k. slice_get l k) a b ∙ slice_get-end all e ∙ ap Some d

pub pair_is : (a b c d : Term) → a ≡ c → b ≡ d → ◌≡◌ {A = Equation} (a, b) (c, d)
pair_is a b c d e f = ap₂ made e f
  where
    made : Term → Term → Equation
    made p q = (p, q)

-- ---- loops

pub given_at : (given : List Equation) (place : ℕ) (x e : Equation) → 0 < place → place ≤ length given → x ≡ get_or given (place - 1) x → e ≡ x → slice_get given (place - 1) ≡ Some e
given_at given place x e some within at is = slice_get_item given (place - 1) x (omega (arith, some, within)) at ∙ ap Some (sym is)

pub given_step : (given : List Equation) (place : ℕ) (e : Equation) (now new : List Equation) → 0 < place → slice_get given (place - 1) ≡ Some e → now ≡ drop place given → new ≡ e ∷ now → new ≡ drop (place - 1) given
given_step given place e now new some at h k =
    let n : place - 1 + 1 ≡ place = omega (arith, some) in
    k ∙ ap (λ l. e ∷ l) (h ∙ ap (λ m. drop m given) (sym n)) ∙ sym (drop_there given (place - 1) e at)

pub part_at : (row : List Term) (place : ℕ) (x one : Term) → 0 < place → place ≤ length row → x ≡ get_or row (place - 1) x → one ≡ x → slice_get row (place - 1) ≡ Some one
part_at row place x one some within at is = slice_get_item row (place - 1) x (omega (arith, some, within)) at ∙ ap Some (sym is)

pub parts_step : (left right : List Term) (place : ℕ) (one two : Term) (now old new : List Equation) → 0 < place → slice_get left (place - 1) ≡ Some one → slice_get right (place - 1) ≡ Some two
    → now ≡ drop place (paired left right) ++ old → new ≡ (one, two) ∷ now → new ≡ drop (place - 1) (paired left right) ++ old
parts_step left right place one two now old new some a b h k =
    let n : suc (place - 1) ≡ place = omega (arith, some) in
    k ∙ ap (λ l. (one, two) ∷ l) (h ∙ ap (λ m. drop m (paired left right) ++ old) (sym n)) ∙ sym (ap (λ l. l ++ old) (paired_at left right (place - 1) one two a b))

pub still_arguments : (old new : List Equation) (n : ℕ) (left right : List Term) → Extends old new → HasArguments old n left right → HasArguments new n left right
still_arguments old new n left right ext (c, at) = (c, ext n (applied (symbol c) left, applied (symbol c) right) at)

-- ---- an equation in which a variable is replaced

pub rewritten_none : (x : Variable) (t : Term) (e : Equation) → (is_noted x (variables e.0) || is_noted x (variables e.1)) ≡ false → e ≡ rewritten x t e
rewritten_none x t e h =
    let (one, two) = or_parts (is_noted x (variables e.0)) (is_noted x (variables e.1)) h in
    pair_is e.0 e.1 (substitute (put_for x t) e.0) (substitute (put_for x t) e.1) (sym (put-none x t e.0 one)) (sym (put-none x t e.1 two))

pub gives_replaced : (given all : List Equation) (n m : ℕ) (x : Variable) (t : Term) (whole e : Equation) → slice_get all n ≡ Some whole → IsBinding all m x t → (n ≡ m → ⊥) → e ≡ rewritten x t whole
    → Gives given all (rules.Replace n m) e
gives_replaced given all n m x t whole e at binding differ is = (whole, x, t, at, differ, binding, is)

pub derives_more : (given : List Equation) (rs : List Rule) (all : List Equation) (r : Rule) (e : Equation) (rs' : List Rule) (all' : List Equation) → rs' ≡ rs ++ r ∷ [] → all' ≡ all ++ e ∷ []
    → Derives given rs all → Gives given all r e → Derives given rs' all'
derives_more given rs all r e rs' all' a b d g =
    subst (λ l. Derives given l all') (sym a) (subst (Derives given (rs ++ r ∷ [])) (sym b) (gives_more given [] rs all r e d g))

-- ---- tasks that are popped and put, in loops

pub popped_tasks : (left rest : List Task) (t : Task) → left ≡ rest ++ t ∷ [] → map equation_in (reverse left) ≡ t.equation ∷ map equation_in (reverse rest)
popped_tasks left rest t e = ap (λ l. map equation_in (reverse l)) e ∙ tasks_push rest t

pub working_popped : (given : List Equation) (rs : List Rule) (all : List Equation) (left rest : List Task) (t : Task) → left ≡ rest ++ t ∷ [] → IsWorking given rs all left
    → IsWorking given rs all rest × IsAt all t × IsApartFrom t.number rest
working_popped given rs all left rest t e w = working_pop given rs all rest t (subst (IsWorking given rs all) e w)

map_reverse : {X Y : Type 0} (f : X → Y) (xs : List X) → map f (reverse xs) ≡ reverse (map f xs)
map_reverse f [] = refl
map_reverse f (x ∷ xs) =
    ap (map f) (reverse-append (x ∷ []) xs) ∙ map-append f (reverse xs) (x ∷ []) ∙ ap (λ l. l ++ f x ∷ []) (map_reverse f xs) ∙ sym (reverse-append (f x ∷ []) (map f xs))

pub reversed_tasks : (g : Equation → Equation) (made left : List Task) → map equation_in made ≡ map g (map equation_in left) → map equation_in (reverse made) ≡ map g (map equation_in (reverse left))
reversed_tasks g made left h =
    map_reverse equation_in made ∙ ap reverse h ∙ sym (map_reverse g (map equation_in left)) ∙ ap (map g) (sym (map_reverse equation_in left))

pub put_tasks_step : (g : Equation → Equation) (tasks made after : List Task) (i : ℕ) (t u : Task) → i < length tasks → t ≡ get_or tasks i t → map equation_in made ≡ map g (map equation_in (take i tasks)) → u.equation ≡ g t.equation
    → after ≡ made ++ u ∷ [] → map equation_in after ≡ map g (map equation_in (take (i + 1) tasks))
put_tasks_step g tasks made after i t u lt at h e k =
    ap (map equation_in) k ∙ map-append equation_in made (u ∷ []) ∙ ap₂ (λ l x. l ++ x ∷ []) h e
    ∙ sym (ap (λ l. map g (map equation_in l)) (take_item tasks i t lt at) ∙ ap (map g) (map-append equation_in (take i tasks) (t ∷ [])) ∙ map-append g (map equation_in (take i tasks)) (t.equation ∷ []))

pub put_step : (given : List Equation) (old new : Derived) (b : Bound) (xs ys : List Task) (t u : Task) → IsWorking given old.rules.items old.all.items (xs ++ t ∷ ys) → IsBoundBy old.all.items b → (t.number ≡ b.number → ⊥)
    → IsPut given old new b t u → IsWorking given new.rules.items new.all.items (xs ++ u ∷ ys)
put_step given old new b xs ys t u w bound differ (inl (n, r, a, e)) = working_same given old.rules.items new.rules.items old.all.items new.all.items xs ys t u w n r a e
put_step given old new b xs ys t u w bound differ (inr (n, a, d)) =
    working_put given old.rules.items new.rules.items old.all.items new.all.items xs ys t u w n a (λ derives at. d derives at bound differ)

pub put_extends : (given : List Equation) (old new : Derived) (b : Bound) (t u : Task) → IsPut given old new b t u → Extends old.all.items new.all.items
put_extends given old new b t u (inl (n, r, a, e)) = λ k f h. ap (λ l. slice_get l k) a ∙ h
put_extends given old new b t u (inr (n, a, d)) = extends_added old.all.items new.all.items u.equation a

-- one task more is put
pub working_next : (given : List Equation) (first old new : Derived) (b : Bound) (tasks made after : List Task) (i : ℕ) (t u : Task) → i < length tasks → t ≡ get_or tasks i t
    → Extends first.all.items old.all.items → IsBoundBy first.all.items b → IsApartFrom b.number tasks → IsWorking given old.rules.items old.all.items (made ++ drop i tasks) → IsPut given old new b t u
    → after ≡ made ++ u ∷ [] → IsWorking given new.rules.items new.all.items (after ++ drop (i + 1) tasks)
working_next given first old new b tasks made after i t u lt at ext bound apart w put k =
    let differ : t.number ≡ b.number → ⊥ = each_at (λ (x : Task). x.number ≡ b.number → ⊥) tasks apart i t (slice_get_item tasks i t lt at) in
    let here = subst (λ l. IsWorking given old.rules.items old.all.items (made ++ l)) (drop_item tasks i t lt at) w in
    let there = put_step given old new b made (drop (i + 1) tasks) t u here (ext b.number (term_of (variable_in b.variable), b.by) bound) differ put in
    subst (IsWorking given new.rules.items new.all.items) (sym (ap (λ l. l ++ drop (i + 1) tasks) k ∙ append_assoc made (u ∷ []) (drop (i + 1) tasks))) there

-- ---- a clash

pub clash_of : (a b one two : Term) → one ≡ a → two ≡ b → IsClash (a, b) → IsClash (one, two)
clash_of a b one two d e (c, f, h, k, differ) = (c, f, ap head_of d ∙ h, ap head_of e ∙ k, differ)

pub solve_clash : (a b one two : Term) (rest : List Equation) → one ≡ a → two ≡ b → IsClash (a, b) → Solving ((a, b) ∷ rest) [] (Some (Clash one two))
solve_clash a b one two rest d e h = subst (λ (r : Reason). Solving ((a, b) ∷ rest) [] (Some r)) (ap₂ Clash (sym d) (sym e)) (clash h)

pub nothing_left : (tasks : List Equation) (r : Option Reason) → tasks ≡ [] → r ≡ None → Solving tasks [] r
nothing_left tasks r e d = subst (λ l. Solving l [] r) (sym e) (subst (λ o. Solving [] [] o) (sym d) solved)

pub bound_up : (es more : List Equation) (b : Bound) → IsWithin more es → IsBoundIn es b → IsBoundIn more b
bound_up es more b up h = record { there = up (variable_in b.variable) h.there; within = λ y i. up y (h.within y i); outside = h.outside }
