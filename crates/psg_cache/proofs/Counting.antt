-- How many evaluations a tree takes: those of its children, and those at its top.
use Rattle.std.proofs.Common.{◌≡◌, ℕ, zero, suc, ◌+◌, ◌<◌, ◌≤◌, Bool, List, [], ◌∷◌, length, take, get_or, refl, sym, ◌∙◌, ap, arith}
use Rattle.std.specs.Prelude.{sum_by}
use Rattle.std.proofs.lemmas.List.{take_all}
use Rattle.std.proofs.lemmas.List.Sums.{sum_by-cons, sum_by_push}
use Rattle.psg_terms.proofs.Lists.{take_item}
use Rattle.psg_grammar.specs.declared.types.Definition.{Definition}
use Rattle.psg_grammar.specs.Fragments.{Fragment, hole, ending, cell, operator, with_child, with_name, with_number, with_text, anything, observed, children_of}
use Rattle.psg_tree.specs.declared.tree.Part.{Part}
use Rattle.psg_tree.specs.declared.tree.Part.TheVariants.{Sub, Name as Named, Number, Text}
use Rattle.psg_tree.specs.declared.tree.Shape.{Shape}
use Rattle.psg_tree.specs.declared.tree.Shape.TheVariants.{Op, List as ListOf, Hole}
use Rattle.psg_tree.specs.Shapes.{with_parts, list_of, tree_of}
use Rattle.psg_tree.proofs.Children.{children-shape-list}
use Rattle.psg_eval.specs.declared.summary.SummaryParts.{SummaryParts}
use Rattle.psg_eval.specs.Summaries.{AllSummaries, AreSummariesOf}
use Rattle.psg_grammar.specs.Work.{work_of}
use Rattle.psg_cache.specs.Walks.{top_evaluations}

-- of the trees together
abbrev pub together : List Fragment → ℕ
together cs = sum_by work_of cs

pub work_split : (f : Fragment) → work_of f ≡ together (children_of f) + top_evaluations f
work_split (hole p) = refl
work_split (ending l u) = refl
work_split (cell l e r) =
    let h = work_split r in
    let both : together (children_of (cell l e r)) ≡ work_of e + together (children_of r) =
    sum_by-cons work_of e (children_of r) in
    omega (arith, h, both)
work_split (operator o) = refl
work_split (with_child f t) =
    let h = work_split f in
    let both : together (children_of (with_child f t)) ≡ together (children_of f) + work_of t =
    sum_by_push work_of (children_of f) t in
    omega (arith, h, both)
work_split (with_name f n) = work_split f
work_split (with_number f n) = work_split f
work_split (with_text f t) = work_split f
work_split anything = refl
work_split (observed f) = work_split f

-- ---- at the top

operator_top : (f : Fragment) (ps : List Part) → top_evaluations (with_parts f ps) ≡ top_evaluations f
operator_top f [] = refl
operator_top f (Sub t ∷ ps) = operator_top (with_child f t) ps
operator_top f (Named n ∷ ps) = operator_top (with_name f n) ps
operator_top f (Number n ∷ ps) = operator_top (with_number f n) ps
operator_top f (Text t ∷ ps) = operator_top (with_text f t) ps

list_top : (l : ℕ) (es : List Fragment) (u : Bool) → top_evaluations (list_of l es u) ≡ length es + 1
list_top l [] u = refl
list_top l (e ∷ es) u = let h = list_top l es u in omega (arith, h)

pub hole_once : (s : Shape) (p : ℕ) (f : Fragment) → s ≡ Hole p → tree_of s ≡ f → top_evaluations f ≡ 1
hole_once s p f e there = ap top_evaluations (sym there ∙ ap tree_of e)

pub operator_once : (s : Shape) (o : ℕ) (ps : List Part) (f : Fragment) → s ≡ Op o ps → tree_of s ≡ f
    → top_evaluations f ≡ 1
operator_once s o ps f e there = ap top_evaluations (sym there ∙ ap tree_of e) ∙ operator_top (operator o) ps

as_many : (def : Definition) (cs : List Fragment) (below : List SummaryParts) → AllSummaries def cs below
    → length cs ≡ length below
as_many def [] [] h = refl
as_many def [] (s ∷ ss) h = absurd h
as_many def (c ∷ cs) [] h = absurd h
as_many def (c ∷ cs) (s ∷ ss) h = let e = as_many def cs ss h.1 in omega (arith, e)

pub list_once : (def : Definition) (s : Shape) (l : ℕ) (es : List Fragment) (u : Bool) (f : Fragment)
    (below : List SummaryParts)
    → s ≡ ListOf l es u → tree_of s ≡ f → AreSummariesOf def f below → top_evaluations f ≡ length below + 1
list_once def s l es u f below e there are =
    let top : top_evaluations f ≡ length es + 1 = ap top_evaluations (sym there ∙ ap tree_of e) ∙ list_top l es u in
    let many : length (children_of f) ≡ length below = as_many def (children_of f) below are in
    let same : length (children_of f) ≡ length es = ap length (children-shape-list s l es u f e there) in
    omega (arith, top, many, same)

-- ---- of a walk

pub together_front : (cs : List Fragment) (i : ℕ) → together (take i cs) ≤ together cs
together_front cs zero = omega arith
together_front [] (suc i) = omega arith
together_front (c ∷ cs) (suc i) =
    omega (arith, together_front cs i, sum_by-cons work_of c (take i cs), sum_by-cons work_of c cs)

pub together_upto : (cs : List Fragment) (i j : ℕ) → i ≤ j → together (take i cs) ≤ together (take j cs)
together_upto cs zero j small = omega arith
together_upto [] (suc i) j small = omega arith
together_upto (c ∷ cs) (suc i) zero small = absurd (omega (arith, small))
together_upto (c ∷ cs) (suc i) (suc j) small =
    omega (arith, together_upto cs i j (omega (arith, small)), sum_by-cons work_of c (take i cs), sum_by-cons work_of c (take j cs))

-- before a child no more than all are counted
pub within_children : (f : Fragment) (children : List Fragment) (i : ℕ) (start before : ℕ) → children ≡ children_of f
    → before ≡ start + together (take i children) → before ≤ start + work_of f
within_children f children i start before are h =
    let all : together children ≡ together (children_of f) = ap together are in
    let split = work_split f in
    omega (arith, h, together_front children i, all, split)

-- and behind it neither, whatever of it was evaluated
pub within_child : (f : Fragment) (children : List Fragment) (i : ℕ) (child : Fragment) (start before after : ℕ)
    → children ≡ children_of f → i < length children → child ≡ get_or children i child
    → before ≡ start + together (take i children) → after ≤ before + work_of child
    → after ≤ start + work_of f
within_child f children i child start before after are small at h k =
    let e : together (take (i + 1) children) ≡ together (take i children) + work_of child =
    ap together (take_item children i child small at) ∙ sum_by_push work_of (take i children) child in
    let all : together children ≡ together (children_of f) = ap together are in
    let split = work_split f in
    omega (arith, h, k, e, together_front children (i + 1), all, split)

pub within_top : (f : Fragment) (children : List Fragment) (i : ℕ) (start before after : ℕ) → children ≡ children_of f
    → before ≡ start + together (take i children) → after ≤ before + top_evaluations f
    → after ≤ start + work_of f
within_top f children i start before after are h k =
    let all : together children ≡ together (children_of f) = ap together are in
    let split = work_split f in
    omega (arith, h, k, together_front children i, all, split)

pub counted_more : (children : List Fragment) (i : ℕ) (child : Fragment) (start before after : ℕ) → i < length children
    → child ≡ get_or children i child → before ≡ start + together (take i children)
    → after ≡ before + work_of child → after ≡ start + together (take (i + 1) children)
counted_more children i child start before after small at h k =
    let e : together (take (i + 1) children) ≡ together (take i children) + work_of child =
    ap together (take_item children i child small at) ∙ sum_by_push work_of (take i children) child in
    omega (arith, h, k, e)

pub counted_tree : (f : Fragment) (children : List Fragment) (i : ℕ) (start before after : ℕ) → children ≡ children_of f
    → length children ≤ i → before ≡ start + together (take i children) → after ≡ before + top_evaluations f
    → after ≡ start + work_of f
counted_tree f children i start before after are past h k =
    let all : together (take i children) ≡ together (children_of f) = ap together (take_all i children past ∙ are) in
    let split = work_split f in
    omega (arith, h, k, all, split)
