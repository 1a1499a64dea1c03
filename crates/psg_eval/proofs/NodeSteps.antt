-- The steps of an operator by the children of its node.
use Rattle.std.proofs.Common.{◌≡◌, ℕ, zero, suc, ◌+◌, ◌-◌, ◌<◌, ◌≤◌, Bool, true, false, List, [], ◌∷◌, ◌++◌, length, take, drop, get_or, Some, refl, ap, sym, ◌∙◌, subst, arith}
use Rattle.std.specs.Prelude.{Result, Ok, Err}
use Rattle.std.specs.List.{slice_get, sum_by}
use Rattle.std.proofs.lemmas.List.Sums.{sum_by-append}
use Rattle.std.proofs.lemmas.List.{length-drop, length-map, take_all, drop_all}
use Rattle.psg_terms.specs.Terms.{Term}
use Rattle.psg_terms.specs.Names.{Name}
use Rattle.psg_terms.specs.Weight.{PassesLimit}
use Rattle.std.proofs.lemmas.Option.{slice_get_within}
use Rattle.psg_terms.proofs.Lists.{take_item, slice_get_item, drop_there}
use Rattle.psg_grammar.specs.declared.types.Item.{Item}
use Rattle.psg_grammar.specs.declared.types.Item.TheVariants as items
use Rattle.psg_grammar.specs.declared.types.Kind.{Kind}
use Rattle.psg_grammar.specs.declared.types.Kind.TheVariants as kinds
use Rattle.psg_grammar.specs.declared.types.Operator.{Operator}
use Rattle.psg_grammar.specs.declared.types.Definition.{Definition}
use Rattle.psg_grammar.specs.Fragments.{Fragment, children_of}
use Rattle.psg_grammar.specs.Lookups.{is_scope}
use Rattle.psg_grammar.specs.Sound.{IsSound}
use Rattle.psg_grammar.specs.Steps.{children_count}
use Rattle.psg_scope.specs.declared.header.Header.{Header}
use Rattle.psg_eval.specs.declared.partial.Partial.{Partial}
use Rattle.psg_eval.specs.declared.summary.EvalFault.{EvalFault}
use Rattle.psg_eval.specs.declared.summary.EvalFault.TheVariants as faults
use Rattle.psg_eval.specs.declared.summary.SummaryParts.{SummaryParts}
use Rattle.psg_eval.specs.Outside.{IsClosed}
use Rattle.psg_eval.specs.Own.{IsOwnStep}
use Rattle.psg_eval.specs.Partials.{IsAdded, IsPartial}
use Rattle.psg_eval.specs.Stages.{kinds_of, IsMade, IsStep, MatchMade, MatchOuter, MatchWhole}
use Rattle.psg_eval.specs.Summaries.{Answers, AreSummariesOf, IsFirstPassing, slot_kinds}
use Rattle.psg_eval.specs.Trees.{HasParts, IsNode, seen_in}
use Rattle.psg_grammar.specs.Kinds.{IsOfKind}
use Rattle.psg_eval.proofs.Assembling.{made_first, made_next, wide_first, wide_next, open_answer, closed_answer, closed_wide}
use Rattle.psg_eval.proofs.Nodes.{as_many, child_at, node_count, node_kind, node_scope, node_seen}
use Rattle.psg_eval.proofs.Stepping.{first_ok, first_twice}

-- ---- how many values are seen in the first children

abbrev pub seen_by : List SummaryParts → ℕ
seen_by xs = sum_by (λ (s : SummaryParts). s.seen) xs

seen_push : (xs : List SummaryParts) (s : SummaryParts) → seen_by (xs ++ s ∷ []) ≡ seen_by xs + s.seen
seen_push xs s =
    let one : seen_by (s ∷ []) ≡ s.seen = (let z : 0 + s.seen ≡ s.seen = omega arith in z) in
    sum_by-append (λ (x : SummaryParts). x.seen) xs (s ∷ []) ∙ ap (λ n. seen_by xs + n) one

-- ---- the first children

-- what is known of the node with the first i children, by what is known of it with fewer
pub record IsGoneUpTo (def : Definition) (children : List SummaryParts) (from : ℕ) (begin now : Partial) (i : ℕ) : Type 0 where
  pub made : (f : Fragment) → HasParts def f [] → AreSummariesOf def f children → IsMade def f from begin → IsMade def f i now
  pub partial : (kind : Kind) → IsPartial def kind (kinds_of (drop from children)) begin → IsPartial def kind (kinds_of (drop i children)) now
  pub seen : now.seen + seen_by (take from children) ≡ begin.seen + seen_by (take i children)

pub gone_none : (def : Definition) (children : List SummaryParts) (from : ℕ) (begin : Partial) → IsGoneUpTo def children from begin begin from
gone_none def children from begin = record { made = λ f parts all is. is; partial = λ kind part. part; seen = refl }

module _ (def : Definition) (children : List SummaryParts) (from : ℕ) (begin now : Partial) (i : ℕ) (s : SummaryParts) (at : slice_get children i ≡ Some s) (gone : IsGoneUpTo def children from begin now i) where
  pub now_partial : (kind : Kind) → IsPartial def kind (kinds_of (drop from children)) begin → IsPartial def kind (s.kind ∷ kinds_of (drop (i + 1) children)) now
  now_partial kind part = subst (λ l. IsPartial def kind (kinds_of l) now) (drop_there children i s at) (gone.partial kind part)

  module _ (sound : IsSound def) (kind : Kind) (part : IsPartial def kind (kinds_of (drop from children)) begin) (f : Fragment) (parts : HasParts def f []) (all : AreSummariesOf def f children) (is : IsMade def f from begin) where
    abbrev child : Fragment
    child = (child_at def (children_of f) children all i s at).0

    many : length (s.kind ∷ kinds_of (drop (i + 1) children)) ≡ length (children_of f) - i
    many =
        let a = as_many def (children_of f) children all in
        let b = length-map (drop (i + 1) children) (λ (x : SummaryParts). x.kind) in
        let d = length-drop (i + 1) children in
        let w = within children i s at in
        omega arith
      where
        within : (xs : List SummaryParts) (k : ℕ) (x : SummaryParts) → slice_get xs k ≡ Some x → k < length xs
        within [] k x e = absurd (cc)
        within (y ∷ xs) zero x e = omega arith
        within (y ∷ xs) (suc k) x e = omega (arith, within xs k x e)

    pub child_made : (next : Partial) → IsAdded def now s next.header next.rel → (PassesLimit next.rel → ⊥) → IsMade def f (i + 1) next
    child_made next added light =
        let found = child_at def (children_of f) children all i s at in
        made_next def f parts sound.signature i found.0 found.1 kind (kinds_of (drop (i + 1) children)) now s many (now_partial kind part) found.2 (gone.made f parts all is) next added light

    pub child_wide : (h : Header) (rows : List (List Term)) → IsAdded def now s h rows → PassesLimit rows → IsFirstPassing def f (i + 1)
    child_wide h rows added passes =
        let found = child_at def (children_of f) children all i s at in
        wide_next def f parts sound.signature i found.0 found.1 kind (kinds_of (drop (i + 1) children)) now s many (now_partial kind part) found.2 (gone.made f parts all is) h rows added passes

-- with one child more
pub seen_more : (children : List SummaryParts) (i : ℕ) (s : SummaryParts) (n before begin t : ℕ) → i < length children → s ≡ get_or children i s → n ≡ before + s.seen
    → before + t ≡ begin + seen_by (take i children) → n + t ≡ begin + seen_by (take (i + 1) children)
seen_more children i s n before begin t l e h g = omega (arith, h, g, seen_push (take i children) s, ap seen_by (take_item children i s l e))

pub seen_all : (children : List SummaryParts) (i : ℕ) (n begin t : ℕ) → i ≡ length children → n + t ≡ begin + seen_by (take i children) → n + t ≡ begin + seen_by children
seen_all children i n begin t e h = h ∙ ap (λ xs. begin + seen_by xs) (take_all i children (omega arith))

-- of the first child alone
pub seen_one : (children : List SummaryParts) (s : SummaryParts) → slice_get children 0 ≡ Some s → seen_by (take 1 children) ≡ s.seen
seen_one [] s e = absurd (cc)
seen_one (x ∷ xs) s e =
    let same : x ≡ s = (let f : Some x ≡ Some s = e in cc) in
    let one : seen_by (x ∷ []) ≡ x.seen = omega arith in one ∙ ap (λ (k : SummaryParts). k.seen) same

pub all_gone : (def : Definition) (children : List SummaryParts) (from : ℕ) (begin now : Partial) (i : ℕ) → i ≡ length children → IsGoneUpTo def children from begin now i → (kind : Kind) → IsPartial def kind (kinds_of (drop from children)) begin → IsPartial def kind [] now
all_gone def children from begin now i e gone kind part = subst (λ l. IsPartial def kind (kinds_of l) now) (drop_all i children (omega arith)) (gone.partial kind part)

-- ---- the operator

module _ (def : Definition) (sound : IsSound def) (o : ℕ) (op : Operator) (found : slice_get def.operators o ≡ Some op) (names : List Name) (f : Fragment) (node : IsNode def o names f) where
  own_step : (h : Header) (rows : List (List Term)) → IsOwnStep def op names h rows → IsStep def f 0 h rows
  own_step h rows is = by (h.twice) refl where
    by : (b : Bool) → h.twice ≡ b → IsStep def f 0 h rows
    by true e = subst (IsStep def f 0 h) (sym (is.none e)) (first_twice def f o op found names node h is.region e)
    by false e = let (ss, rel) = is.made e in first_ok def f o op found names node h is.region ss rows sound e rel

  pub own_made : (p : Partial) → IsOwnStep def op names p.header p.rel → (PassesLimit p.rel → ⊥) → IsMade def f 0 p
  own_made p is light = made_first def f sound.signature p (own_step p.header p.rel is) light

  pub own_wide : (h : Header) (rows : List (List Term)) → IsOwnStep def op names h rows → PassesLimit rows → IsFirstPassing def f 0
  own_wide h rows is passes = wide_first def f sound.signature h rows (own_step h rows is) passes

  -- from the answer for the operator to that for the tree
  module _ (children : List SummaryParts) (all : AreSummariesOf def f children) (whole : Partial) (seen : whole.seen ≡ seen_by children) where
    pub whole_answer : (result : Result Partial EvalFault) → MatchWhole def op whole (length children) result → IsMade def f (length children) whole → MatchOuter def f (kinds.Phylum op.phylum) result
    whole_answer result h made =
        h f node.parts (node_kind def o op found names f node) (node_scope def o op found names f node) (node_count def o op found names f children node all)
        (seen ∙ node_seen def f children node.parts all) made

-- ---- what stands outside sees

module _ (def : Definition) (sound : IsSound def) (op : Operator) (whole : Partial) (count : ℕ) (f : Fragment) (parts : HasParts def f []) (of_kind : IsOfKind def f (kinds.Phylum op.phylum))
    (scope : is_scope def f ≡ op.scope) (many : children_count f ≡ count) (seen : whole.seen ≡ seen_in f) (made : IsMade def f count whole) where
  whole_made : IsMade def f (children_count f) whole
  whole_made = subst (λ n. IsMade def f n whole) (sym many) made

  pub same_outside : op.scope ≡ false → MatchOuter def f (kinds.Phylum op.phylum) (Ok whole)
  same_outside e = open_answer def f parts sound.signature (kinds.Phylum op.phylum) whole of_kind seen whole_made (scope ∙ e)

  pub closed_outside : op.scope ≡ true → (q : Partial) → IsClosed def whole q.header q.rel → q.seen ≡ whole.seen → (PassesLimit q.rel → ⊥) → MatchOuter def f (kinds.Phylum op.phylum) (Ok q)
  closed_outside e q is same light = closed_answer def f parts sound.signature (kinds.Phylum op.phylum) whole of_kind seen whole_made (scope ∙ e) q is same light

  pub outside_wide : op.scope ≡ true → (h : Header) (rows : List (List Term)) → IsClosed def whole h rows → PassesLimit rows → IsFirstPassing def f (count + 1)
  outside_wide e h rows is passes =
      subst (λ n. IsFirstPassing def f (n + 1)) many (closed_wide def f parts sound.signature (kinds.Phylum op.phylum) whole of_kind seen whole_made (scope ∙ e) h rows is passes)

pub made_outer : (def : Definition) (f : Fragment) (kind : Kind) (n : ℕ) (e : EvalFault) → MatchMade def f n (Err e) → MatchOuter def f kind (Err e)
made_outer def f kind n (faults.Wide k) h = h
made_outer def f kind n faults.Memory h = tt

pub outer_answers : (def : Definition) (f : Fragment) (kind : Kind) (e : EvalFault) → MatchOuter def f kind (Err e) → Answers def f (Err e)
outer_answers def f kind (faults.Wide k) h = h
outer_answers def f kind faults.Memory h = tt

-- an operator has no more slots than items
pub slot_count : (def : Definition) (xs : List Item) → length (slot_kinds def xs) ≤ length xs
slot_count def [] = omega arith
slot_count def (items.Slot k ∷ xs) = let h = slot_count def xs in omega arith
slot_count def (_ ∷ xs) = let h = slot_count def xs in omega arith

-- what is read at a place that is there
pub place_there : {X : Type 0} (xs : List X) (i : ℕ) (x y : X) → slice_get xs i ≡ Some x → y ≡ get_or xs i y → slice_get xs i ≡ Some y
place_there xs i x y e d = slice_get_item xs i y (slice_get_within xs i x e) d
