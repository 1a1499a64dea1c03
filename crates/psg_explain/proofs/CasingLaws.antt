-- The cases of a step, one after the other.
use Rattle.std.proofs.Common.{◌≡◌, inl, inr, ℕ, zero, suc, ◌+◌, ◌≤◌, Bool, true, false, cond, List, [], ◌∷◌, ◌++◌, map, drop, length, Option, Some, None, slice_get, option_and_then, refl, ap, ap₂, sym, ◌∙◌, subst, append_assoc, append-nil, arith}
use Rattle.std.specs.List.{AllByRecursion}
use Rattle.std.proofs.lemmas.Option.{same_Some}
use Rattle.psg_terms.specs.Names.{Name}
use Rattle.psg_terms.specs.Terms.{Term}
use Rattle.psg_grammar.specs.declared.types.Kind.{Kind}
use Rattle.psg_grammar.specs.declared.types.Kind.TheVariants as kinds
use Rattle.psg_grammar.specs.declared.types.HoleRow.{HoleRow}
use Rattle.psg_grammar.specs.declared.types.Operator.{Operator}
use Rattle.psg_grammar.specs.declared.types.Row.{Row}
use Rattle.psg_grammar.specs.declared.types.Definition.{Definition}
use Rattle.psg_grammar.specs.Fragments.{Fragment, hole, ending, cell, operator, with_child, with_name, with_number, with_text, anything, observed, top_operator}
use Rattle.psg_grammar.specs.Keys.{Key, in_order}
use Rattle.psg_grammar.specs.Lookups.{operator_at}
use Rattle.psg_grammar.specs.Regions.{names_of}
use Rattle.psg_scope.specs.Headers.{keys}
use Rattle.psg_scope.specs.declared.header.NameCol.{NameCol}
use Rattle.psg_tree.specs.declared.tree.Part.{Part}
use Rattle.psg_tree.specs.declared.tree.Part.TheVariants as parts
use Rattle.psg_tree.specs.Shapes.{list_of, with_part, with_parts}
use Rattle.psg_eval.specs.OwnRows.{positions}
use Rattle.psg_eval.specs.Trees.{own_names}
use Rattle.psg_explain.specs.declared.given.Case.{Case}
use Rattle.psg_explain.specs.declared.refutation.Claim.{Claim}
use Rattle.psg_explain.specs.declared.stages.Site.{Site}
use Rattle.psg_explain.specs.declared.stages.Site.TheVariants as sites
use Rattle.psg_explain.specs.declared.stages.Source.{Source}
use Rattle.psg_explain.specs.declared.stages.Source.TheVariants as sources
use Rattle.psg_explain.specs.declared.stages.Stage.{Stage}
use Rattle.psg_explain.specs.Given.{all_pairs, cell_rows_of, closed_row, first_cases, hole_rows_of, keys_at, last_cases, next_cases, nil_rows_of, operator_cases, own_cases, plain_cases, same_kind_as}
use Rattle.psg_explain.specs.Plans.{AreCanonical, Origin, Step, cases_at, cases_from, from_before, from_itself, from_pair, lefts_of, rights_of, rows_at, rows_claimed}
use Rattle.psg_explain.specs.Splits.{name_of_part, names_among, own_case_of, own_cases_of}
use Rattle.psg_explain.specs.Sources.{HasOwnKeys, IsNodeSite, IsSite, IsSource, IsStage}

-- what was there, one more, and what is still to come
pub pushed : {X : Type 0} (old new whole back rest : List X) (x : X) → new ≡ old ++ x ∷ [] → old ++ back ≡ whole → back ≡ x ∷ rest → new ++ rest ≡ whole
pushed old new whole back rest x made now next = ap (λ l. l ++ rest) made ∙ append_assoc old (x ∷ []) rest ∙ ap (λ l. old ++ l) (sym next) ∙ now

-- what was there, some more, and what is still to come
pub all_pushed : {X : Type 0} (old new whole back more rest : List X) → new ≡ old ++ more → old ++ back ≡ whole → back ≡ more ++ rest → new ++ rest ≡ whole
all_pushed old new whole back more rest made now next = ap (λ l. l ++ rest) made ∙ append_assoc old more rest ∙ ap (λ l. old ++ l) (sym next) ∙ now

pub all_dropped : {X : Type 0} (xs : List X) (i : ℕ) → length xs ≤ i → drop i xs ≡ []
all_dropped [] zero h = refl
all_dropped [] (suc i) h = refl
all_dropped (x ∷ xs) zero h = absurd (omega (arith, h))
all_dropped (x ∷ xs) (suc i) h = all_dropped xs i (omega (arith, h))

-- ---- hole rows

pub hole_rows_more : (kind : Kind) (h : HoleRow) (rest : List HoleRow) → hole_rows_of kind (h ∷ rest) ≡ hole_rows_of kind (h ∷ []) ++ hole_rows_of kind rest
hole_rows_more kind h rest = by (same_kind_as h.kind kind)
  where
    by : (b : Bool) → cond b ((h.term ∷ []) ∷ hole_rows_of kind rest) (hole_rows_of kind rest) ≡ cond b ((h.term ∷ []) ∷ []) [] ++ hole_rows_of kind rest
    by true = refl
    by false = refl

pub hole_row_is : (kind : Kind) (h : HoleRow) → same_kind_as h.kind kind ≡ true → hole_rows_of kind (h ∷ []) ≡ (h.term ∷ []) ∷ []
hole_row_is kind h e = ap (λ b. cond b ((h.term ∷ []) ∷ []) []) e

pub hole_row_not : (kind : Kind) (h : HoleRow) → same_kind_as h.kind kind ≡ false → hole_rows_of kind (h ∷ []) ≡ []
hole_row_not kind h e = ap (λ b. cond b ((h.term ∷ []) ∷ []) []) e

-- ---- names among parts

own_names_with : (f : Fragment) (p : Part) → own_names (with_part f p) ≡ own_names f ++ name_of_part p
own_names_with f (parts.Sub t) = sym (append-nil (own_names f))
own_names_with f (parts.Name n) = refl
own_names_with f (parts.Number n) = sym (append-nil (own_names f))
own_names_with f (parts.Text n) = sym (append-nil (own_names f))

pub own_names_of : (f : Fragment) (ps : List Part) → own_names (with_parts f ps) ≡ own_names f ++ names_among ps
own_names_of f [] = sym (append-nil (own_names f))
own_names_of f (p ∷ ps) = own_names_of (with_part f p) ps ∙ ap (λ l. l ++ names_among ps) (own_names_with f p) ∙ append_assoc (own_names f) (name_of_part p) (names_among ps)

top_with : (f : Fragment) (p : Part) → top_operator (with_part f p) ≡ top_operator f
top_with f (parts.Sub t) = refl
top_with f (parts.Name n) = refl
top_with f (parts.Number n) = refl
top_with f (parts.Text n) = refl

pub top_of : (f : Fragment) (ps : List Part) → top_operator (with_parts f ps) ≡ top_operator f
top_of f [] = refl
top_of f (p ∷ ps) = top_of (with_part f p) ps ∙ top_with f p

-- ---- an operator's rows

pub own_cases_are : (op : Operator) (names : List Name) (at : List NameCol) (ks : List Key) (i : ℕ) (rows : List Row) → at ≡ positions op.items names → ks ≡ in_order (keys at)
    → own_cases_of op.items at ks i rows ≡ own_cases op names i rows
own_cases_are op names at ks i rows e k =
    ap (λ (l : List Key). own_cases_of op.items at l i rows) k ∙ ap (λ (l : List NameCol). own_cases_of op.items l (in_order (keys l)) i rows) e ∙ same i rows
  where
    same : (i : ℕ) (rows : List Row) → own_cases_of op.items (positions op.items names) (in_order (keys (positions op.items names))) i rows ≡ own_cases op names i rows
    same i [] = refl
    same i (row ∷ rest) = ap (λ (l : List Case). own_case_of op.items (positions op.items names) (in_order (keys (positions op.items names))) i row ∷ l) (same (i + 1) rest)

-- an operator with parts
abbrev IsOfParts : Fragment → Type 0
IsOfParts (hole p) = ⊥
IsOfParts (ending l u) = ⊥
IsOfParts (cell l v t) = ⊥
IsOfParts (operator n) = Unit {0}
IsOfParts (with_child g t) = Unit {0}
IsOfParts (with_name g n) = Unit {0}
IsOfParts (with_number g n) = Unit {0}
IsOfParts (with_text g n) = Unit {0}
IsOfParts anything = ⊥
IsOfParts (observed g) = ⊥

part_of_parts : (f : Fragment) (p : Part) → IsOfParts (with_part f p)
part_of_parts f (parts.Sub t) = tt
part_of_parts f (parts.Name n) = tt
part_of_parts f (parts.Number n) = tt
part_of_parts f (parts.Text n) = tt

parts_of_parts : (f : Fragment) (ps : List Part) → IsOfParts f → IsOfParts (with_parts f ps)
parts_of_parts f [] h = h
parts_of_parts f (p ∷ ps) h = parts_of_parts (with_part f p) ps (part_of_parts f p)

pub first_cases_are : (def : Definition) (f : Fragment) (o : ℕ) → IsOfParts f → top_operator f ≡ Some o → first_cases def f ≡ operator_cases (operator_at def o) (own_names f)
first_cases_are def f o is e = shape f is ∙ ap (λ (t : Option ℕ). operator_cases (option_and_then (operator_at def) t) (own_names f)) e
  where
    shape : (f : Fragment) → IsOfParts f → first_cases def f ≡ operator_cases (option_and_then (operator_at def) (top_operator f)) (own_names f)
    shape (hole p) h = absurd h
    shape (ending l u) h = absurd h
    shape (cell l v t) h = absurd h
    shape (operator n) h = refl
    shape (with_child g t) h = refl
    shape (with_name g n) h = refl
    shape (with_number g n) h = refl
    shape (with_text g n) h = refl
    shape anything h = absurd h
    shape (observed g) h = absurd h

module _ (def : Definition) (o : ℕ) (ps : List Part) where
  abbrev node : Fragment
  node = with_parts (operator o) ps

  pub no_operator_cases : operator_at def o ≡ None → [] ≡ first_cases def node
  no_operator_cases e = sym (first_cases_are def node o (parts_of_parts (operator o) ps tt) (top_of (operator o) ps) ∙ ap (λ q. operator_cases q (own_names node)) e)

  pub operator_cases_are : (op : Operator) (at : List NameCol) (ks : List Key) → operator_at def o ≡ Some op → at ≡ positions op.items (names_among ps) → HasOwnKeys def node ks
      → own_cases_of op.items at ks 0 op.rows ≡ first_cases def node
  operator_cases_are op at ks there e has =
      let names : own_names node ≡ names_among ps = own_names_of (operator o) ps in
      let same : at ≡ positions op.items (own_names node) = e ∙ ap (positions op.items) (sym names) in
      own_cases_are op (own_names node) at ks 0 op.rows same (has o op (top_of (operator o) ps) there ∙ ap (λ l. in_order (keys l)) (sym same))
      ∙ sym (first_cases_are def node o (parts_of_parts (operator o) ps tt) (top_of (operator o) ps) ∙ ap (λ q. operator_cases q (own_names node)) there)

-- ---- lists are no nodes of operators

list_no_node : (l : ℕ) (es : List Fragment) (u : Bool) → IsNodeSite (list_of l es u) → ⊥
list_no_node l [] u (inl (p, e)) = absurd (cc)
list_no_node l [] u (inr (o, e)) = absurd (cc)
list_no_node l (x ∷ es) u (inl (p, e)) = absurd (cc)
list_no_node l (x ∷ es) u (inr (o, e)) = absurd (cc)

pub no_list_node : (f : Fragment) (l : ℕ) (es : List Fragment) (u : Bool) → list_of l es u ≡ f → IsNodeSite f → ⊥
no_list_node f l es u e h = list_no_node l es u (subst IsNodeSite (sym e) h)

-- ---- what the rows of a step are made of

module _ (def : Definition) (f : Fragment) where
  pub own_source : (ks : List Key) (o : Origin) (lefts rights : List (List Term)) → IsSource def f sources.Own ks o → HasOwnKeys def f ks × (first_cases def f ≡ cases_from def f o lefts rights)
  own_source ks from_itself lefts rights (at, own) = (own, refl)
  own_source ks (from_pair n b c t) lefts rights h = absurd h
  own_source ks (from_before b) lefts rights h = absurd h

  pub pair_source : (before child : ℕ) (left right : List NameCol) (ks : List Key) (o : Origin) (lefts rights : List (List Term)) → IsSource def f (sources.Pair before child left right) ks o
      → all_pairs (keys left) (keys right) ks 0 lefts rights ≡ cases_from def f o lefts rights
  pair_source before child left right ks from_itself lefts rights h = absurd h
  pair_source before child left right ks (from_pair n b c t) lefts rights (eb, ec, el, er, ek) =
      ap₂ (λ (l r : List Key). all_pairs l r ks 0 lefts rights) el er ∙ ap (λ (m : List Key). all_pairs (keys_at def f n) (names_of def t) m 0 lefts rights) ek
  pair_source before child left right ks (from_before b) lefts rights h = absurd h

  pub closed_source : (before : ℕ) (inside : List NameCol) (ks : List Key) (o : Origin) (lefts rights : List (List Term)) → IsSource def f (sources.Closed before inside) ks o
      → plain_cases 0 (map (closed_row (keys inside) ks) lefts) ≡ cases_from def f o lefts rights
  closed_source before inside ks from_itself lefts rights h = absurd h
  closed_source before inside ks (from_pair n b c t) lefts rights h = absurd h
  closed_source before inside ks (from_before b) lefts rights (eb, ei, ek) = ap₂ (λ (i m : List Key). plain_cases 0 (map (closed_row i m) lefts)) ei ek

  module _ (rows : List (List (List Term))) where
    pub own_after : (ks : List Key) (o : Origin) → IsSource def f sources.Own ks o → cases_from def f o [] [] ≡ cases_from def f o (lefts_of def o rows) (rights_of def o rows)
    own_after ks from_itself h = refl
    own_after ks (from_pair n b c t) h = absurd h
    own_after ks (from_before b) h = absurd h

    pub pair_after : (before child : ℕ) (left right : List NameCol) (ks : List Key) (o : Origin) → IsSource def f (sources.Pair before child left right) ks o
        → cases_from def f o (rows_at rows before) (rows_at rows child) ≡ cases_from def f o (lefts_of def o rows) (rights_of def o rows)
    pair_after before child left right ks from_itself h = absurd h
    pair_after before child left right ks (from_pair n b c t) (eb, ec, el, er, ek) = ap₂ (λ i j. next_cases def f n t (rows_at rows i) (rows_at rows j)) eb ec
    pair_after before child left right ks (from_before b) h = absurd h

    pub closed_after : (before : ℕ) (inside : List NameCol) (ks : List Key) (o : Origin) → IsSource def f (sources.Closed before inside) ks o
        → cases_from def f o (rows_at rows before) [] ≡ cases_from def f o (lefts_of def o rows) (rights_of def o rows)
    closed_after before inside ks from_itself h = absurd h
    closed_after before inside ks (from_pair n b c t) h = absurd h
    closed_after before inside ks (from_before b) (eb, ei, ek) = ap (λ i. last_cases def f (rows_at rows i)) eb

-- ---- the rows of a claim

pub rows_there : (claims : List Claim) (n : ℕ) (c : Claim) → slice_get claims n ≡ Some c → rows_at (map rows_claimed claims) n ≡ c.rows
rows_there [] n c h = absurd (cc)
rows_there (x ∷ claims) zero c h = let e : x ≡ c = same_Some x c h in ap rows_claimed e
rows_there (x ∷ claims) (suc n) c h = rows_there claims n c h

pub no_rows : (claims : List Claim) (n : ℕ) → slice_get claims n ≡ None → rows_at (map rows_claimed claims) n ≡ []
no_rows [] n h = refl
no_rows (x ∷ claims) zero h = absurd (cc)
no_rows (x ∷ claims) (suc n) h = no_rows claims n h

pub canonical_at : (rows : List (List (List Term))) (n : ℕ) → AllByRecursion AreCanonical rows → AreCanonical (rows_at rows n)
canonical_at [] n h = tt
canonical_at (x ∷ rows) zero (h, hs) = h
canonical_at (x ∷ rows) (suc n) (h, hs) = canonical_at rows n hs

-- ---- the own cases of a node, by what it is

module _ (def : Definition) where
  pub hole_cases_are : (p : ℕ) (f : Fragment) (v : List Case) → hole p ≡ f → v ≡ plain_cases 0 (hole_rows_of (kinds.Phylum p) def.hole_rows) → v ≡ first_cases def f
  hole_cases_are p f v e is = is ∙ ap (first_cases def) e

  pub op_cases_are : (o : ℕ) (ps : List Part) (f : Fragment) (ks : List Key) (v : List Case) → with_parts (operator o) ps ≡ f
      → (HasOwnKeys def (with_parts (operator o) ps) ks → v ≡ first_cases def (with_parts (operator o) ps)) → HasOwnKeys def f ks → v ≡ first_cases def f
  op_cases_are o ps f ks v e h own = subst (λ g. HasOwnKeys def g ks → v ≡ first_cases def g) e h own

  -- of a site
  pub node_is : (site : Site) (t f : Fragment) (ks : List Key) (v : List Case) → site ≡ sites.Node t → (IsNodeSite t → HasOwnKeys def t ks → v ≡ first_cases def t) → IsSite site f → HasOwnKeys def f ks → v ≡ first_cases def f
  node_is site t f ks v e h at own =
      let (same, node) = subst (λ (x : Site). IsSite x f) e at in
      subst (λ g. HasOwnKeys def g ks → v ≡ first_cases def g) (sym same) (h node) own

  pub open_end_is : (site : Site) (l : ℕ) (u : Bool) (f : Fragment) (v : List Case) → site ≡ sites.End l u → u ≡ true → v ≡ plain_cases 0 (hole_rows_of (kinds.List l) def.hole_rows) → IsSite site f → v ≡ first_cases def f
  open_end_is site l u f v e open_it is at =
      let same : f ≡ ending l u = subst (λ (x : Site). IsSite x f) e at in
      is ∙ ap (λ b. first_cases def (ending l b)) (sym open_it) ∙ ap (first_cases def) (sym same)

  pub end_is : (site : Site) (l : ℕ) (u : Bool) (f : Fragment) (v : List Case) → site ≡ sites.End l u → u ≡ false → v ≡ plain_cases 0 (nil_rows_of (slice_get def.lists l)) → IsSite site f → v ≡ first_cases def f
  end_is site l u f v e over is at =
      let same : f ≡ ending l u = subst (λ (x : Site). IsSite x f) e at in
      is ∙ ap (λ b. first_cases def (ending l b)) (sym over) ∙ ap (first_cases def) (sym same)

  pub cell_is : (site : Site) (l : ℕ) (f : Fragment) (v : List Case) → site ≡ sites.Cell l → v ≡ plain_cases 0 (cell_rows_of (slice_get def.lists l)) → IsSite site f → v ≡ first_cases def f
  cell_is site l f v e is at =
      let (element, rest, same) = subst (λ (x : Site). IsSite x f) e at in
      is ∙ ap (first_cases def) (sym same)

-- ---- the cases of a step that the program keeps

module _ (def : Definition) (stage : Stage) (s : Step) (whole : List NameCol) (v : List Case) (lefts rights : List (List Term)) (is : IsStage def stage s) where
  source_at : (x : Source) → stage.source ≡ x → IsSource def s.part x (keys stage.header.names) s.origin
  source_at x e = subst (λ (y : Source). IsSource def s.part y (keys stage.header.names) s.origin) e is.source

  pub own_cases_made : stage.source ≡ sources.Own → whole ≡ stage.header.names → ((f : Fragment) → IsSite stage.site f → HasOwnKeys def f (keys whole) → v ≡ first_cases def f) → v ≡ cases_from def s.part s.origin lefts rights
  own_cases_made e same h =
      let (own, made) = own_source def s.part (keys stage.header.names) s.origin lefts rights (source_at sources.Own e) in
      h s.part is.site (subst (λ (l : List NameCol). HasOwnKeys def s.part (keys l)) (sym same) own) ∙ made

  module _ (same : whole ≡ stage.header.names) where
    pub pair_cases_are : (before child : ℕ) (left right mine others : List NameCol) → stage.source ≡ sources.Pair before child left right → mine ≡ left → others ≡ right
        → v ≡ all_pairs (keys mine) (keys others) (keys whole) 0 lefts rights → v ≡ cases_from def s.part s.origin lefts rights
    pair_cases_are before child left right mine others e el er h =
        h ∙ ap₂ (λ (l r : List NameCol). all_pairs (keys l) (keys r) (keys whole) 0 lefts rights) el er ∙ ap (λ (l : List NameCol). all_pairs (keys left) (keys right) (keys l) 0 lefts rights) same
        ∙ pair_source def s.part before child left right (keys stage.header.names) s.origin lefts rights (source_at (sources.Pair before child left right) e)

    pub closed_cases_are : (before : ℕ) (inside mine : List NameCol) → stage.source ≡ sources.Closed before inside → mine ≡ inside
        → v ≡ plain_cases 0 (map (closed_row (keys mine) (keys whole)) lefts) → v ≡ cases_from def s.part s.origin lefts rights
    closed_cases_are before inside mine e ei h =
        h ∙ ap₂ (λ (i l : List NameCol). plain_cases 0 (map (closed_row (keys i) (keys l)) lefts)) ei same
        ∙ closed_source def s.part before inside (keys stage.header.names) s.origin lefts rights (source_at (sources.Closed before inside) e)

-- the cases where the steps before have the claimed rows
module _ (def : Definition) (stage : Stage) (s : Step) (rows : List (List (List Term))) (v : List Case) (is : IsStage def stage s) where
  source_of : (x : Source) → stage.source ≡ x → IsSource def s.part x (keys stage.header.names) s.origin
  source_of x e = subst (λ (y : Source). IsSource def s.part y (keys stage.header.names) s.origin) e is.source

  pub own_then : stage.source ≡ sources.Own → v ≡ cases_from def s.part s.origin [] [] → v ≡ cases_at def rows s
  own_then e h = h ∙ own_after def s.part rows (keys stage.header.names) s.origin (source_of sources.Own e)

  pub pair_then : (before child : ℕ) (left right : List NameCol) (lefts rights : List (List Term)) → stage.source ≡ sources.Pair before child left right → lefts ≡ rows_at rows before → rights ≡ rows_at rows child
      → v ≡ cases_from def s.part s.origin lefts rights → v ≡ cases_at def rows s
  pair_then before child left right lefts rights e el er h =
      h ∙ ap₂ (cases_from def s.part s.origin) el er ∙ pair_after def s.part rows before child left right (keys stage.header.names) s.origin (source_of (sources.Pair before child left right) e)

  pub closed_then : (before : ℕ) (inside : List NameCol) (lefts : List (List Term)) → stage.source ≡ sources.Closed before inside → lefts ≡ rows_at rows before
      → v ≡ cases_from def s.part s.origin lefts [] → v ≡ cases_at def rows s
  closed_then before inside lefts e el h =
      h ∙ ap (λ l. cases_from def s.part s.origin l []) el ∙ closed_after def s.part rows before inside (keys stage.header.names) s.origin (source_of (sources.Closed before inside) e)
