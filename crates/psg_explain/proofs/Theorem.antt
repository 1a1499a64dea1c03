-- The way from right claims to the theorem: a refuted tree is not open.
use Rattle.std.proofs.Common.{◌≡◌, ℕ, suc, ◌+◌, true, false, List, [], ◌∷◌, ◌++◌, length, map, Option, Some, refl, sym, ap, ◌∙◌, subst, add-one, arith}
use Rattle.std.specs.List.{slice_get, AllByRecursion}
use Rattle.std.specs.Prelude.{option_and_then}
use Rattle.psg_terms.specs.Terms.{Term}
use Rattle.psg_terms.specs.Canonical.{IsCanonical}
use Rattle.psg_terms.specs.Relations.{IsIn}
use Rattle.psg_terms.proofs.Lists.{each_at}
use Rattle.psg_grammar.specs.declared.types.Operator.{Operator}
use Rattle.psg_grammar.specs.declared.types.Definition.{Definition}
use Rattle.psg_grammar.specs.declared.types.Kind.{Kind}
use Rattle.psg_grammar.specs.declared.types.Kind.TheVariants as kinds
use Rattle.psg_grammar.specs.Fragments.{Fragment, hole, ending, cell, operator, with_child, with_name, with_number, with_text, anything, observed, children_of, top_operator}
use Rattle.psg_grammar.specs.Keys.{in_order}
use Rattle.psg_grammar.specs.Lookups.{is_scope, operator_at}
use Rattle.psg_grammar.specs.Open.{IsOpen}
use Rattle.psg_grammar.specs.Paths.{Path}
use Rattle.psg_grammar.specs.Regions.{names_inside, names_of}
use Rattle.psg_grammar.specs.Relations.{IsPossible, IsPossibleInside}
use Rattle.psg_grammar.specs.Sound.{IsSound}
use Rattle.psg_grammar.specs.Steps.{first_children}
use Rattle.psg_grammar.specs.WellFormed.{WellFormed}
use Rattle.psg_eval.specs.Trees.{own_names}
use Rattle.psg_eval.proofs.Closing.{same_family}
use Rattle.psg_eval.proofs.NextChild.{all_there}
use Rattle.psg_cache.proofs.ChildLaws.{formed_below}
use Rattle.psg_cache.proofs.OpenTrees.{children_open}
use Rattle.psg_cache.proofs.RealTrees.{IsReal, IsSpine, real}
use Rattle.psg_explain.specs.declared.refutation.Claim.{Claim}
use Rattle.psg_explain.specs.declared.refutation.Refutation.{Refutation}
use Rattle.psg_explain.specs.declared.refutation.Verdict.{Verdict}
use Rattle.psg_explain.specs.Given.{all_pairs, first_cases, next_cases, operator_cases}
use Rattle.psg_explain.specs.Refutations.{AreRight, ClaimTo, Refutes}
use Rattle.psg_explain.specs.Walks.{At, ended}
use Rattle.psg_explain.proofs.Firsts.{first_possible}
use Rattle.psg_explain.proofs.FirstRows.{cell_good, end_good, hole_good, open_good, operator_good}
use Rattle.psg_explain.proofs.FormedParts.{all_parts, first_whole, operator_of, whole_names, whole_outside}
use Rattle.psg_explain.proofs.GoodRows.{AreGood}
use Rattle.psg_explain.proofs.LastRows.{closed_good}
use Rattle.psg_explain.proofs.NextRows.{added_good}
use Rattle.psg_explain.proofs.Refuting.{open_rest, refuted}
use Rattle.psg_explain.proofs.SeenCounts.{added_at}
use Rattle.psg_explain.proofs.Walking.{KeepGood, added_children, walks_good}

module _ (def : Definition) where
  -- ---- step 0

  -- an operator's cases are those of its rows
  operator_first : IsSound def → (f : Fragment) (kind : Kind) → WellFormed def f kind → IsSpine f → first_cases def f ≡ operator_cases (option_and_then (operator_at def) (top_operator f)) (own_names f)
      → (rows : List (List Term)) (verdicts : List Verdict) → ((row : List Term) → IsIn row rows → IsCanonical def.signature row) → AreRight rows (first_cases def f) verdicts
      → AreGood def.signature (IsPossibleInside def (first_children 0 f)) rows
  operator_first sound f kind (fits, plain) spine cases_are rows verdicts canonical right =
      let parts = all_parts def f kind fits spine in
      let it = operator_of def f [] parts in
      let there : option_and_then (operator_at def) (top_operator f) ≡ Some it.op = ap (option_and_then (operator_at def)) it.top ∙ it.found in
      operator_good def sound it.o it.op it.found (own_names f) f (record { top = it.top; parts = parts; own = refl }) rows verdicts canonical
      (subst (λ l. AreRight rows l verdicts) (cases_are ∙ ap (λ (o : Option Operator). operator_cases o (own_names f)) there) right)

  first_good : IsSound def → (f : Fragment) (kind : Kind) → WellFormed def f kind → IsReal f
      → (rows : List (List Term)) (verdicts : List Verdict) → ((row : List Term) → IsIn row rows → IsCanonical def.signature row) → AreRight rows (first_cases def f) verdicts
      → AreGood def.signature (IsPossibleInside def (first_children 0 f)) rows
  first_good sound (hole p) kind formed own rows verdicts canonical right = hole_good def p rows verdicts canonical right
  first_good sound (ending l true) kind formed own rows verdicts canonical right = open_good def l rows verdicts canonical right
  first_good sound (ending l false) kind formed own rows verdicts canonical right = end_good def l rows verdicts canonical right
  first_good sound (cell l e r) kind formed own rows verdicts canonical right = cell_good def l e r rows verdicts canonical right
  first_good sound (operator o) kind formed own rows verdicts canonical right = operator_first sound (operator o) kind formed tt refl rows verdicts canonical right
  first_good sound (with_child f t) kind formed own rows verdicts canonical right = operator_first sound (with_child f t) kind formed own.2 refl rows verdicts canonical right
  first_good sound (with_name f n) kind formed own rows verdicts canonical right = operator_first sound (with_name f n) kind formed own.1 refl rows verdicts canonical right
  first_good sound (with_number f n) kind formed own rows verdicts canonical right = operator_first sound (with_number f n) kind formed own.1 refl rows verdicts canonical right
  first_good sound (with_text f n) kind formed own rows verdicts canonical right = operator_first sound (with_text f n) kind formed own.1 refl rows verdicts canonical right
  first_good sound anything kind formed own rows verdicts canonical right = absurd own
  first_good sound (observed f) kind formed own rows verdicts canonical right = absurd own

  -- ---- a child more

  abbrev pub Formed : Fragment → Type 0
  Formed f = (kind : Kind) × WellFormed def f kind

  children_formed : (f : Fragment) → Formed f → AllByRecursion Formed (children_of f)
  children_formed f (kind, (fits, plain)) = formed_below def f [] kind fits plain

  rest_formed : (l : ℕ) (e r : Fragment) → Formed (cell l e r) → Formed r
  rest_formed l e r (kind, ((a, b, k, found, fe, fr, z), plain)) = (kinds.List l, (fr, plain.1))

  pub added_formed : (f : Fragment) → Formed f → AllByRecursion Formed (added_children f)
  added_formed (cell l e r) (kind, ((a, b, k, found, fe, fr, z), plain)) = ((kinds.Phylum k.element, (fe, plain.0)), ((kinds.List l, (fr, plain.1)), tt))
  added_formed (hole p) formed = tt
  added_formed (ending l u) formed = tt
  added_formed (operator o) formed = tt
  added_formed (with_child f t) formed = children_formed (with_child f t) formed
  added_formed (with_name f n) formed = children_formed (with_name f n) formed
  added_formed (with_number f n) formed = children_formed (with_number f n) formed
  added_formed (with_text f n) formed = children_formed (with_text f n) formed
  added_formed anything formed = tt
  added_formed (observed f) formed = children_formed (observed f) formed

  next_good : (f t : Fragment) (kind : Kind) (n : ℕ) (before child rows : List (List Term)) (verdicts : List Verdict) → WellFormed def f kind → slice_get (added_children f) n ≡ Some t
      → AreGood def.signature (IsPossibleInside def (first_children n f)) before → AreGood def.signature (IsPossible def t) child
      → ((row : List Term) → IsIn row rows → IsCanonical def.signature row) → AreRight rows (next_cases def f n t before child) verdicts
      → AreGood def.signature (IsPossibleInside def (first_children (n + 1) f)) rows
  next_good f t kind n before child rows verdicts formed at good whole canonical right =
      let own = real def f (kind, formed) in
      let (inner, of_child) = each_at Formed (added_children f) (added_formed f (kind, formed)) n t at in
      let added = added_at def f t n own (all_parts def f kind formed.0) at in
      let names = first_whole def n f (whole_names def f [] kind formed.0 formed.1) in
      let outside = whole_outside def t inner of_child.0 of_child.1 in
      subst (λ m. AreRight rows (all_pairs (keys_in n) (names_of def t) (keys_in m) 0 before child) verdicts → AreGood def.signature (IsPossibleInside def (first_children m f)) rows) (sym (add-one n))
      (λ same. added_good def t (first_children n f) (first_children (suc n) f) added.by added.count names outside (real def t (inner, of_child)) before child rows verdicts good whole same canonical)
      right
    where
      keys_in : ℕ → List (List ℕ)
      keys_in m = in_order (names_inside def (first_children m f))

  -- ---- the last step

  pub all_first : (f : Fragment) (kind : Kind) → WellFormed def f kind → IsReal f → first_children (length (added_children f)) f ≡ f
  all_first (hole p) kind formed own = refl
  all_first (ending l u) kind formed own = refl
  all_first (cell l e r) kind formed own = refl
  all_first (operator o) kind formed own = refl
  all_first (with_child f t) kind formed own = all_there def (length (children_of (with_child f t))) (with_child f t) [] (all_parts def (with_child f t) kind formed.0 own.2) (omega arith)
  all_first (with_name f n) kind formed own = all_there def (length (children_of f)) (with_name f n) [] (all_parts def (with_name f n) kind formed.0 own.1) (omega arith)
  all_first (with_number f n) kind formed own = all_there def (length (children_of f)) (with_number f n) [] (all_parts def (with_number f n) kind formed.0 own.1) (omega arith)
  all_first (with_text f n) kind formed own = all_there def (length (children_of f)) (with_text f n) [] (all_parts def (with_text f n) kind formed.0 own.1) (omega arith)
  all_first anything kind formed own = absurd own
  all_first (observed f) kind formed own = absurd own

  same_good : (f : Fragment) (rows : List (List Term)) → is_scope def f ≡ false → AreGood def.signature (IsPossibleInside def f) rows
      → AreGood def.signature (IsPossible def f) rows
  same_good f rows scope good =
      record { canonical = good.canonical; covers = λ choice columns possible. good.covers choice columns ((same_family def f scope choice columns).1 possible) }

  at_end : (f : Fragment) (kind : Kind) (n : ℕ) (rows : List (List Term)) → WellFormed def f kind → n ≡ length (added_children f)
      → AreGood def.signature (IsPossibleInside def (first_children n f)) rows → AreGood def.signature (IsPossibleInside def f) rows
  at_end f kind n rows formed all good =
      subst (λ g. AreGood def.signature (IsPossibleInside def g) rows) (all_first f kind formed (real def f (kind, formed)))
      (subst (λ k. AreGood def.signature (IsPossibleInside def (first_children k f)) rows) all good)

  -- ---- without rows

  -- where the whole has no rows, the node is not open
  none_whole : (f : Fragment) → AreGood def.signature (IsPossible def f) [] → IsOpen def f → ⊥
  none_whole f good is_open =
      let (row, there, instance) = good.covers is_open.choice ((is_open.value ∷ []) ++ map is_open.outside (names_of def f)) (record {
        distinct = is_open.distinct;
        outside = is_open.outside;
        entities = is_open.entities;
        value = is_open.value;
        seen = [];
        judged = is_open.judged;
        columns_are = refl;
      }) in
      elim there [ ]

  -- nor where a step has none
  none_possible : (f : Fragment) (n : ℕ) (kind : Kind) → WellFormed def f kind → AreGood def.signature (IsPossibleInside def (first_children n f)) []
      → IsOpen def f → ⊥
  none_possible f n kind formed good is_open =
      let (c, columns, possible) = first_possible def n f (real def f (kind, formed)) is_open in
      let (row, there, instance) = good.covers c columns possible in
      elim there [ ]

  -- ---- the theorem

  abbrev Whole : Fragment → List (List Term) → Type 0
  Whole f rows = AreGood def.signature (IsPossible def f) rows

  abbrev Part : Fragment → ℕ → List (List Term) → Type 0
  Part f n rows = AreGood def.signature (IsPossibleInside def (first_children n f)) rows

  abbrev Closed : Fragment → Type 0
  Closed f = IsOpen def f → ⊥

  keep : IsSound def → KeepGood def Formed Whole Part Closed
  keep sound = record {
    first = λ path number f c (kind, formed) is. first_good sound f kind formed (real def f (kind, formed)) c.rows c.verdicts is.rows.canonical is.verdicts;
    next = λ path number f t n before child c (kind, formed) at part whole is.
        next_good f t kind n before child c.rows c.verdicts formed at part whole is.rows.canonical is.verdicts;
    close = λ path number f n before c (kind, formed) all scope part is.
        closed_good def f (real def f (kind, formed)) scope (whole_names def f [] kind formed.0 formed.1) before c.rows c.verdicts (at_end f kind n before formed all part) is.rows.canonical is.verdicts;
    stay = λ f n rows (kind, formed) all scope part. same_good f rows scope (at_end f kind n rows formed all part);
    none_part = λ f n (kind, formed) good. none_possible f n kind formed good;
    none_whole = λ f formed good. none_whole f good;
    closed_up = λ f t k formed at closed is_open. closed (each_at (IsOpen def) (children_of f) (children_open def f (real def f formed) is_open) k t at);
    closed_rest = λ l e r formed closed is_open. closed (open_rest def l e r (real def (cell l e r) formed) is_open);
    formed_children = children_formed;
    formed_rest = rest_formed;
  }

  pub walked_out : IsSound def → (path : Path) (f : Fragment) (kind : Kind) (claims : List Claim) (last : At) → WellFormed def f kind
      → ClaimTo def path f claims last → IsOpen def f → ⊥
  walked_out sound path f kind claims last formed claim =
      walks_good def Formed Whole Part Closed (keep sound) path f claims (ended last) (kind, formed) claim

  -- by the open judgement; by legal completions it follows from what psg_specimen says of accepted definitions
  pub theorem : IsSound def → (f : Fragment) (kind : Kind) (r : Refutation) → WellFormed def f kind → Refutes def f r → IsOpen def f → ⊥
  theorem sound f kind r formed refutes is_open = refuted def (walked_out sound) f kind r formed refutes is_open
