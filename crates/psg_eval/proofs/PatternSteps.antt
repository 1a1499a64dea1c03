-- The steps of a node and of a cell some of whose children are places.
use Rattle.std.proofs.Common.{◌≡◌, ℕ, zero, suc, ◌+◌, ◌-◌, ◌<◌, ◌≤◌, false, List, [], ◌∷◌, length, take, drop, get_or, Option, Some, None, refl, ap, ap₂, sym, ◌∙◌, subst, arith}
use Rattle.std.specs.Prelude.{Result, Ok, Err}
use Rattle.std.specs.List.{slice_get, sum_by}
use Rattle.std.proofs.lemmas.List.{length-drop, take_all, drop_all}
use Rattle.std.proofs.lemmas.List.Sums.{sum_by-append, sum_by-cons}
use Rattle.std.proofs.lemmas.Option.{slice_get_within}
use Rattle.psg_terms.proofs.Lists.{take_item, drop_there}
use Rattle.psg_terms.specs.Names.{Name}
use Rattle.psg_terms.specs.Terms.{Term}
use Rattle.psg_terms.specs.Weight.{PassesLimit}
use Rattle.psg_grammar.specs.declared.types.Kind.{Kind}
use Rattle.psg_grammar.specs.declared.types.Kind.TheVariants as kinds
use Rattle.psg_grammar.specs.declared.types.Operator.{Operator}
use Rattle.psg_grammar.specs.declared.types.Definition.{Definition}
use Rattle.psg_grammar.specs.Fragments.{Fragment, anything, cell, children_of}
use Rattle.psg_grammar.specs.Kinds.{IsOfKind}
use Rattle.psg_grammar.specs.Lookups.{is_scope}
use Rattle.psg_grammar.specs.Sound.{IsSound}
use Rattle.psg_grammar.specs.Steps.{children_count, first_children}
use Rattle.psg_relation.specs.declared.relation.RelFault.{RelFault}
use Rattle.psg_relation.specs.declared.relation.RelFault.TheVariants.{Wide, Memory}
use Rattle.psg_scope.specs.declared.header.Header.{Header}
use Rattle.psg_eval.specs.declared.partial.Partial.{Partial}
use Rattle.psg_eval.specs.declared.summary.EvalFault.{EvalFault}
use Rattle.psg_eval.specs.declared.summary.EvalFault.TheVariants as faults
use Rattle.psg_eval.specs.declared.summary.SummaryParts.{SummaryParts}
use Rattle.psg_eval.specs.Partials.{IsAdded, IsPartial}
use Rattle.psg_eval.specs.Patterns.{AreChildrenOf, IsChildOf, MatchPart, SuitKinds, SuitsKind, seen_of}
use Rattle.psg_eval.specs.Stages.{IsCellStart, IsMade, IsNumbered, MatchMade, MatchOuter, MatchWhole}
use Rattle.psg_eval.specs.Summaries.{IsFirstPassing, IsSummary, IsSummaryOf, StaysWithin}
use Rattle.psg_eval.specs.Trees.{HasParts, IsNode, seen_in}
use Rattle.psg_eval.proofs.Assembling.{made_first, made_more, made_next, wide_first, wide_more, wide_next}
use Rattle.psg_eval.proofs.CellSteps.{cell_one, cell_start, cell_two}
use Rattle.psg_eval.proofs.Cells.{list_no_scope}
use Rattle.psg_eval.proofs.Nodes.{node_kind, node_scope, seen-children}
use Rattle.psg_eval.proofs.Numbers.{numbered_fault}
use Rattle.psg_eval.proofs.PlaceSteps.{place_made, place_step}
use Rattle.psg_eval.proofs.RegionSteps.{count_is}
use Rattle.psg_eval.proofs.Stepping.{open_ok}

module _ (def : Definition) where
  -- ---- children, their patterns and kinds

  pub parts_many : (fs : List Fragment) (cs : List (Option SummaryParts)) → AreChildrenOf def fs cs → length fs ≡ length cs
  parts_many [] [] h = refl
  parts_many [] (c ∷ cs) h = absurd h
  parts_many (f ∷ fs) [] h = absurd h
  parts_many (f ∷ fs) (c ∷ cs) h = ap suc (parts_many fs cs h.1)

  pub part_at : (fs : List Fragment) (cs : List (Option SummaryParts)) → AreChildrenOf def fs cs → (n : ℕ) (c : Option SummaryParts) → slice_get cs n ≡ Some c → (t : Fragment) × (slice_get fs n ≡ Some t) × IsChildOf def t c
  part_at [] [] h n c e = absurd (cc)
  part_at [] (d ∷ cs) h n c e = absurd h
  part_at (f ∷ fs) [] h n c e = absurd h
  part_at (f ∷ fs) (d ∷ cs) h zero c e = (f, refl, let same : d ≡ c = let q : Some d ≡ Some c = e in cc in subst (λ x. IsChildOf def f x) same h.0)
  part_at (f ∷ fs) (d ∷ cs) h (suc n) c e = part_at fs cs h.1 n c e

  pub suits_many : (cs : List (Option SummaryParts)) (ks : List Kind) → SuitKinds def cs ks → length ks ≡ length cs
  suits_many [] [] h = refl
  suits_many [] (k ∷ ks) h = absurd h
  suits_many (c ∷ cs) [] h = absurd h
  suits_many (c ∷ cs) (k ∷ ks) h = ap suc (suits_many cs ks h.1)

  pub suits_at : (cs : List (Option SummaryParts)) (ks : List Kind) → SuitKinds def cs ks → (n : ℕ) (c : Option SummaryParts) → slice_get cs n ≡ Some c → (k : Kind) × (slice_get ks n ≡ Some k) × SuitsKind def c k
  suits_at [] [] h n c e = absurd (cc)
  suits_at [] (k ∷ ks) h n c e = absurd h
  suits_at (d ∷ cs) [] h n c e = absurd h
  suits_at (d ∷ cs) (k ∷ ks) h zero c e = (k, refl, let same : d ≡ c = let q : Some d ≡ Some c = e in cc in subst (λ x. SuitsKind def x k) same h.0)
  suits_at (d ∷ cs) (k ∷ ks) h (suc n) c e = suits_at cs ks h.1 n c e

  -- ---- how many values are seen

  pub part_seen : (f : Fragment) (c : Option SummaryParts) → IsChildOf def f c → seen_in f ≡ seen_of c
  part_seen f (Some s) h = sym h.seen
  part_seen f None h = ap seen_in h

  all_seen : (fs : List Fragment) (cs : List (Option SummaryParts)) → AreChildrenOf def fs cs → sum_by seen_in fs ≡ sum_by seen_of cs
  all_seen [] [] h = refl
  all_seen [] (c ∷ cs) h = absurd h
  all_seen (f ∷ fs) [] h = absurd h
  all_seen (f ∷ fs) (c ∷ cs) h =
      sum_by-cons seen_in f fs ∙ ap₂ (λ m n. m + n) (part_seen f c h.0) (all_seen fs cs h.1) ∙ sym (sum_by-cons seen_of c cs)

  pub parts_seen : (f : Fragment) (cs : List (Option SummaryParts)) → HasParts def f [] → AreChildrenOf def (children_of f) cs → sum_by seen_of cs ≡ seen_in f
  parts_seen f cs h all = sym (seen-children def f [] h ∙ all_seen (children_of f) cs all)

  -- ---- a child that is known

  pub known_partial : (c : Option SummaryParts) (s : SummaryParts) → c ≡ Some s → (kind k : Kind) (others : List Kind) (p : Partial) → SuitsKind def c k → IsPartial def kind (k ∷ others) p → IsPartial def kind (s.kind ∷ others) p
  known_partial c s e kind k others p suits part =
      let own : SuitsKind def (Some s) k = subst (λ x. SuitsKind def x k) e suits in
      subst (λ (x : Kind). IsPartial def kind (x ∷ others) p) (sym own.0) part

  pub known_usual : (c : Option SummaryParts) (s : SummaryParts) → c ≡ Some s → (k : Kind) → SuitsKind def c k → IsSummary def s
  known_usual c s e k suits =
      let own : SuitsKind def (Some s) k = subst (λ x. SuitsKind def x k) e suits in
      own.1

  -- ---- a step with its number

  pub numbered_part : (p : Partial) (c : Option SummaryParts) (made : Result Partial RelFault) (n : ℕ) (q : Partial) → IsNumbered made n (Ok q) → MatchPart def p c made → MatchPart def p c (Ok q)
  numbered_part p c (Ok x) n q e h = subst (λ (y : Partial). MatchPart def p c (Ok y)) (sym e) h
  numbered_part p c (Err f) n q e h = absurd e

  -- a place passes no limit
  pub place_fault : (f : Fragment) (m : ℕ) (p : Partial) (made : Result Partial RelFault) (n : ℕ) (e : EvalFault) → IsNumbered made n (Err e) → MatchPart def p None made → MatchMade def f m (Err e)
  place_fault f m p (Ok x) n e d h = absurd d
  place_fault f m p (Err Wide) n e d h = absurd h
  place_fault f m p (Err Memory) n (faults.Wide k) d h = absurd d
  place_fault f m p (Err Memory) n faults.Memory d h = tt

-- ---- the first children

-- what is known of the node with the first i children
pub record IsPutUpTo (def : Definition) (children : List (Option SummaryParts)) (begin now : Partial) (i : ℕ) : Type 0 where
  pub made : (f : Fragment) → HasParts def f [] → AreChildrenOf def (children_of f) children → IsMade def f 0 begin → IsMade def f i now
  pub partial : (kind : Kind) (ks : List Kind) → SuitKinds def children ks → IsPartial def kind ks begin → IsPartial def kind (drop i ks) now
  pub seen : now.seen ≡ begin.seen + sum_by seen_of (take i children)

pub put_none : (def : Definition) (children : List (Option SummaryParts)) (begin : Partial) → IsPutUpTo def children begin begin 0
put_none def children begin = record { made = λ f parts all is. is; partial = λ kind ks suits part. part; seen = omega arith }

-- one child more of an operator
module _ (def : Definition) (sound : IsSound def) (f : Fragment) (parts : HasParts def f []) (n : ℕ) (t : Fragment) (at : slice_get (children_of f) n ≡ Some t)
    (kind k : Kind) (others : List Kind) (p : Partial) (many : length (k ∷ others) ≡ length (children_of f) - n) (part : IsPartial def kind (k ∷ others) p) (made : IsMade def f n p) where
  there : n + 1 ≤ children_count f
  there = let e = count_is def f [] parts in let m = many in omega arith

  same_step : t ≡ anything → first_children (n + 1) f ≡ first_children n f
  same_step e =
      let z : n + 1 ≡ suc n = omega arith in
      ap (λ m. first_children m f) z ∙ place_step def f [] n parts (at ∙ ap Some e)

  of_kind : (s : SummaryParts) → SuitsKind def (Some s) k → IsPartial def kind (s.kind ∷ others) p
  of_kind s suits = subst (λ (x : Kind). IsPartial def kind (x ∷ others) p) (sym suits.0) part

  pub part_made : (c : Option SummaryParts) → IsChildOf def t c → SuitsKind def c k → (next : Partial) → MatchPart def p c (Ok next) → IsMade def f (n + 1) next
  part_made (Some s) is suits next h = made_next def f parts sound.signature n t at kind others p s many (of_kind s suits) is made next h.0 h.1
  part_made None is suits next h = place_made def f sound.signature n p next there (same_step is) made h.0 h.1

  pub part_fault : (c : Option SummaryParts) → IsChildOf def t c → SuitsKind def c k → (m : ℕ) (result : Result Partial RelFault) (e : EvalFault) → IsNumbered result (n + 1) (Err e) → MatchPart def p c result
      → MatchMade def f m (Err e)
  part_fault (Some s) is suits m result e d h =
      numbered_fault def f m (IsAdded def p s) result (n + 1) e d h (wide_next def f parts sound.signature n t at kind others p s many (of_kind s suits) is made)
  part_fault None is suits m result e d h = place_fault def f m p result (n + 1) e d h

module _ (def : Definition) (children : List (Option SummaryParts)) (begin now : Partial) (i : ℕ) (c : Option SummaryParts) (at : slice_get children i ≡ Some c) (put : IsPutUpTo def children begin now i) where
  pub now_suits : (kind : Kind) (ks : List Kind) → SuitKinds def children ks → IsPartial def kind ks begin → (k : Kind) × SuitsKind def c k × IsPartial def kind (k ∷ drop (i + 1) ks) now
  now_suits kind ks suits part =
      let (k, e, s) = suits_at def children ks suits i c at in
      (k, s, subst (λ l. IsPartial def kind l now) (drop_there ks i k e) (put.partial kind ks suits part))

  module _ (sound : IsSound def) (kind : Kind) (ks : List Kind) (suits : SuitKinds def children ks) (part : IsPartial def kind ks begin) (f : Fragment) (parts : HasParts def f [])
      (all : AreChildrenOf def (children_of f) children) (is : IsMade def f 0 begin) where
    many_left : (k : Kind) → length (k ∷ drop (i + 1) ks) ≡ length (children_of f) - i
    many_left k =
        let a = parts_many def (children_of f) children all in
        let b = suits_many def children ks suits in
        let d = length-drop (i + 1) ks in
        let w = slice_get_within children i c at in
        omega arith

    pub next_made : (next : Partial) → MatchPart def now c (Ok next) → IsMade def f (i + 1) next
    next_made next h =
        let (t, there, of) = part_at def (children_of f) children all i c at in
        let (k, s, p) = now_suits kind ks suits part in
        part_made def sound f parts i t there kind k (drop (i + 1) ks) now (many_left k) p (put.made f parts all is) c of s next h

    pub next_fault : (m : ℕ) (result : Result Partial RelFault) (e : EvalFault) → IsNumbered result (i + 1) (Err e) → MatchPart def now c result → MatchMade def f m (Err e)
    next_fault m result e d h =
        let (t, there, of) = part_at def (children_of f) children all i c at in
        let (k, s, p) = now_suits kind ks suits part in
        part_fault def sound f parts i t there kind k (drop (i + 1) ks) now (many_left k) p (put.made f parts all is) c of s m result e d h

-- with one child more
pub put_seen : (children : List (Option SummaryParts)) (i : ℕ) (c : Option SummaryParts) (n begin : ℕ) → i < length children → c ≡ get_or children i c → n ≡ begin + sum_by seen_of (take i children) + seen_of c
    → n ≡ begin + sum_by seen_of (take (i + 1) children)
put_seen children i c n begin l e h =
    let one : sum_by seen_of (c ∷ []) ≡ seen_of c = (let z : 0 + seen_of c ≡ seen_of c = omega arith in z) in
    let push = sum_by-append seen_of (take i children) (c ∷ []) in
    let next = ap (λ xs. sum_by seen_of xs) (take_item children i c l e) in
    omega (arith, one, push, next)

pub put_all : (def : Definition) (children : List (Option SummaryParts)) (begin now : Partial) (i : ℕ) → i ≡ length children → IsPutUpTo def children begin now i → (kind : Kind) (ks : List Kind) → SuitKinds def children ks
    → IsPartial def kind ks begin → IsPartial def kind [] now
put_all def children begin now i e put kind ks suits part =
    let many = suits_many def children ks suits in
    subst (λ l. IsPartial def kind l now) (drop_all i ks (omega arith)) (put.partial kind ks suits part)

pub put_seen_all : (children : List (Option SummaryParts)) (i : ℕ) (n begin : ℕ) → i ≡ length children → n ≡ begin + sum_by seen_of (take i children) → n ≡ begin + sum_by seen_of children
put_seen_all children i n begin e h = h ∙ ap (λ xs. begin + sum_by seen_of xs) (take_all i children (omega arith))

-- from the answer for the operator to that for the tree
module _ (def : Definition) (o : ℕ) (op : Operator) (found : slice_get def.operators o ≡ Some op) (names : List Name) (f : Fragment) (node : IsNode def o names f)
    (children : List (Option SummaryParts)) (all : AreChildrenOf def (children_of f) children) (whole : Partial) (seen : whole.seen ≡ sum_by seen_of children) where
  pub whole_parts : (result : Result Partial EvalFault) → MatchWhole def op whole (length children) result → IsMade def f (length children) whole → MatchOuter def f (kinds.Phylum op.phylum) result
  whole_parts result h made =
      h f node.parts (node_kind def o op found names f node) (node_scope def o op found names f node)
      (count_is def f [] node.parts ∙ parts_many def (children_of f) children all) (seen ∙ parts_seen def f children node.parts all) made

-- ---- cells

module _ (def : Definition) (sound : IsSound def) (l : ℕ) (e r : Fragment) where
  pub begin_made : (p : Partial) → IsCellStart def l p.header p.rel → (PassesLimit p.rel → ⊥) → IsMade def (cell l e r) 0 p
  begin_made p is light = made_first def (cell l e r) sound.signature p (cell_start def l e r p.header is.sorts p.rel is.region is.made) light

  pub begin_wide : (h : Header) (rows : List (List Term)) → IsCellStart def l h rows → PassesLimit rows → IsFirstPassing def (cell l e r) 0
  begin_wide h rows is passes = wide_first def (cell l e r) sound.signature h rows (cell_start def l e r h is.sorts rows is.region is.made) passes

  module _ (kind k other : Kind) (p : Partial) (part : IsPartial def kind (k ∷ other ∷ []) p) (made : IsMade def (cell l e r) 0 p) where
    element_kind : (s : SummaryParts) → SuitsKind def (Some s) k → IsPartial def kind (s.kind ∷ other ∷ []) p
    element_kind s suits = subst (λ (x : Kind). IsPartial def kind (x ∷ other ∷ []) p) (sym suits.0) part

    pub element_part : (c : Option SummaryParts) → IsChildOf def e c → SuitsKind def c k → (q : Partial) → MatchPart def p c (Ok q) → IsMade def (cell l e r) 1 q
    element_part (Some s) is suits q h =
        made_more def (cell l e r) sound.signature 0 p q (omega arith) made (cell_one def l e r kind p s other (element_kind s suits) is made.step q.header q.rel h.0) h.1
    element_part None is suits q h = place_made def (cell l e r) sound.signature 0 p q (omega arith) (ap (λ x. cell l x anything) is) made h.0 h.1

    pub element_fault : (c : Option SummaryParts) → IsChildOf def e c → SuitsKind def c k → (m : ℕ) (result : Result Partial RelFault) (x : EvalFault) → IsNumbered result 1 (Err x) → MatchPart def p c result
        → MatchMade def (cell l e r) m (Err x)
    element_fault (Some s) is suits m result x d h =
        numbered_fault def (cell l e r) m (IsAdded def p s) result 1 x d h
        (λ header rows added passes. wide_more def (cell l e r) sound.signature 0 p header rows (omega arith) made (cell_one def l e r kind p s other (element_kind s suits) is made.step header rows added) passes)
    element_fault None is suits m result x d h = place_fault def (cell l e r) m p result 1 x d h

  module _ (kind : Kind) (p : Partial) (part : IsPartial def kind (kinds.List l ∷ []) p) (made : IsMade def (cell l e r) 1 p) where
    rest_kind : (s : SummaryParts) → SuitsKind def (Some s) (kinds.List l) → IsPartial def kind (s.kind ∷ []) p
    rest_kind s suits = subst (λ (x : Kind). IsPartial def kind (x ∷ []) p) (sym suits.0) part

    no_scope : (s : SummaryParts) → IsSummaryOf def r s → SuitsKind def (Some s) (kinds.List l) → is_scope def r ≡ false
    no_scope s is suits = list_no_scope def l r (subst (λ (x : Kind). IsOfKind def r x) suits.0 is.kind)

    pub rest_part : (c : Option SummaryParts) → IsChildOf def r c → SuitsKind def c (kinds.List l) → (q : Partial) → MatchPart def p c (Ok q) → IsMade def (cell l e r) 2 q
    rest_part (Some s) is suits q h =
        made_more def (cell l e r) sound.signature 1 p q (omega arith) made (cell_two def l e r kind p s (no_scope s is suits) (rest_kind s suits) is made.step q.header q.rel h.0) h.1
    rest_part None is suits q h = place_made def (cell l e r) sound.signature 1 p q (omega arith) (ap (λ x. cell l e x) is) made h.0 h.1

    pub rest_fault : (c : Option SummaryParts) → IsChildOf def r c → SuitsKind def c (kinds.List l) → (m : ℕ) (result : Result Partial RelFault) (x : EvalFault) → IsNumbered result 2 (Err x) → MatchPart def p c result
        → MatchMade def (cell l e r) m (Err x)
    rest_fault (Some s) is suits m result x d h =
        numbered_fault def (cell l e r) m (IsAdded def p s) result 2 x d h
        (λ header rows added passes. wide_more def (cell l e r) sound.signature 1 p header rows (omega arith) made
        (cell_two def l e r kind p s (no_scope s is suits) (rest_kind s suits) is made.step header rows added) passes)
    rest_fault None is suits m result x d h = place_fault def (cell l e r) m p result 2 x d h

  pub cell_parts_answer : (c d : Option SummaryParts) → IsChildOf def e c → IsChildOf def r d → (p : Partial) → p.seen ≡ seen_of c + seen_of d → IsMade def (cell l e r) 2 p
      → IsSummaryOf def (cell l e r) (record { kind = kinds.List l; header = p.header; seen = p.seen; rel = p.rel }) × StaysWithin def (cell l e r)
  cell_parts_answer c d one two p seen made =
      let whole = open_ok def (cell l e r) p.header p.rel refl made.step in (
        record { kind = refl; header = whole.0; seen = seen ∙ sym (ap₂ (λ a b. a + b) (part_seen def e c one) (part_seen def r d two)); rows = whole.1 },
        λ k le. made.light k le,
      )
