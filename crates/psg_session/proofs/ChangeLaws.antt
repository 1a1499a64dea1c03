-- What the changes of a found node have in common.
use Rattle.std.proofs.Common.{◌≡◌, ℕ, ◌<◌, Bool, false, true≢false, List, [], length, slice_get, Some, None, Option, Ok, option_map, refl, sym, subst, ◌≤◌, ◌+◌, ap, arith}
use Rattle.std.proofs.lemmas.Option.{none-some, slice_get_within}
use Rattle.psg_terms.specs.Names.{Name}
use Rattle.psg_grammar.specs.declared.types.Kind.{Kind}
use Rattle.psg_grammar.specs.declared.types.Kind.TheVariants as kinds
use Rattle.psg_grammar.specs.declared.types.ListKind.{ListKind}
use Rattle.psg_grammar.specs.declared.types.Operator.{Operator}
use Rattle.psg_grammar.specs.declared.types.Definition.{Definition}
use Rattle.psg_grammar.specs.Fragments.{Fragment, hole, ending, cell, operator, with_child, with_name, with_number, with_text, anything, observed}
use Rattle.psg_grammar.specs.Insertion.{Leaf}
use Rattle.psg_grammar.specs.Kinds.{HasKind, IsOfKind}
use Rattle.psg_grammar.specs.Sound.{IsSound}
use Rattle.psg_grammar.proofs.NamePlaces.{only_op}
use Rattle.psg_script.specs.declared.command.Where.{Where}
use Rattle.psg_library.proofs.Written.{kind_there as kind_fits_there}
use Rattle.psg_menu.specs.Menus.{HasQuietSlots}
use Rattle.psg_menu.proofs.FormedTrials.{fresh_formed}
use Rattle.psg_session.specs.Leaves.{GivesLeaves}
use Rattle.psg_grammar.specs.Paths.{change_at, ended, IsList, replaced}
use Rattle.psg_tree.proofs.Walks.{change_at-agree}
use Rattle.psg_cache.proofs.FormedTrees.{ended_formed, formed_is_kind, kind_once, node_formed}
use Rattle.psg_session.specs.declared.edits.Edit.TheVariants.{Put}
use Rattle.psg_session.specs.declared.editor.Editor.{Editor}
use Rattle.psg_session.specs.declared.finding.Target.{Target}
use Rattle.psg_session.specs.Edits.{MayEdit}
use Rattle.psg_session.specs.Outcomes.{IsTarget, IsFreshAnswer}
use Rattle.psg_session.specs.PlainState.{Opened, named_path}
use Rattle.psg_session.specs.PlainStep.{GivesNone, IsListOf, IsOfPhylum, IsOperator, IsOther, IsWanted, end_of}
use Rattle.psg_grammar.specs.Work.{climb_of}
use Rattle.psg_grammar.specs.WellFormed.{WellFormed}
use Rattle.psg_session.specs.Sessions.{IsEditor, state_of}
use Rattle.psg_cache.specs.Annotated.{tree_in}
use Rattle.psg_session.proofs.EditLaws.{opened_version}
use Rattle.psg_session.proofs.StepLaws.{at_node, has_node, path_is, some_once}

-- an operator with a name is there
pub operator_there : (def : Definition) (o : ℕ) (name : Name) → IsOperator def o name → o < length def.operators
operator_there def o name named = go (slice_get def.operators o) refl named where
  go : (found : Option Operator) → slice_get def.operators o ≡ found
      → option_map (λ (op : Operator). op.name) found ≡ Some name → o < length def.operators
  go None at e = absurd (none-some name e)
  go (Some op) at e = slice_get_within def.operators o op at

-- ---- kinds of nodes

module _ (def : Definition) where
  pub one_list_kind : (node : Fragment) (a b : ListKind) → IsListOf def node a → IsListOf def node b → a ≡ b
  one_list_kind node a b (n, h, at) (m, g, also) =
      let d : kinds.List n ≡ kinds.List m = kind_once def node (kinds.List n) (kinds.List m) h g in
      let same : n ≡ m = cc in
      some_once a b (slice_get def.lists m) (subst (λ x. slice_get def.lists x ≡ Some a) same at) also

  -- a tree of a kind that is a list is one of that list
  pub kind_is : (node : Fragment) (K kind : Kind) → WellFormed def node K → IsOfKind def node kind → K ≡ kind
  kind_is node K kind formed h = kind_once def node K kind (formed_is_kind def node K formed) h

  -- the kind of a node is there
  pub kind_there : IsSound def → (node : Fragment) (kind : Kind) → ((K : Kind) × WellFormed def node K)
      → IsOfKind def node kind → HasKind def kind
  kind_there sound node kind (K, formed) h =
      subst (HasKind def) (kind_is node K kind formed h) (kind_fits_there def sound node [] K formed.0)

  -- only a list has an end
  pub end_is_list : (f : Fragment) (u : Bool) → end_of f ≡ Some u → IsList f
  end_is_list (ending l v) u e = tt
  end_is_list (cell l x r) u e = tt
  end_is_list (hole p) u e = absurd (none-some u e)
  end_is_list (operator o) u e = absurd (none-some u e)
  end_is_list (with_child f t) u e = absurd (none-some u e)
  end_is_list (with_name f n) u e = absurd (none-some u e)
  end_is_list (with_number f n) u e = absurd (none-some u e)
  end_is_list (with_text f t) u e = absurd (none-some u e)
  end_is_list anything u e = absurd (none-some u e)
  end_is_list (observed f) u e = absurd (none-some u e)

  -- a tree that is finished stays of its kind
  pub finished_formed : (f : Fragment) (kind : Kind) → WellFormed def f kind → WellFormed def (ended false f) kind
  finished_formed (ending l u) kind ((none, is, (k, found, may)), plain_is) =
      ((none, is, (k, found, λ e. absurd (true≢false (sym e)))), tt)
  finished_formed (cell l x r) kind ((none, is, k, found, fx, fr, z), plain_is) =
      let here : WellFormed def (cell l x r) (kinds.List l) = ((none, refl, k, found, fx, fr, z), plain_is) in
      subst (WellFormed def (ended false (cell l x r))) (sym is)
      (ended_formed def false (cell l x r) l k here found (λ e. absurd (true≢false (sym e))))
  finished_formed (hole p) kind h = h
  finished_formed (operator o) kind h = h
  finished_formed (with_child f t) kind h = h
  finished_formed (with_name f n) kind h = h
  finished_formed (with_number f n) kind h = h
  finished_formed (with_text f t) kind h = h
  finished_formed anything kind h = h
  finished_formed (observed f) kind h = h

  -- ---- operators by their names

  pub one_operator : IsSound def → (a b : ℕ) (name : Name) → IsOperator def a name → IsOperator def b name → a ≡ b
  one_operator sound a b name h g = only_op def sound.operator_names a b name h g

  -- a new operator of the phylum
  pub answer_formed : IsSound def → HasQuietSlots def → (p : ℕ) (name : Name) (args : List ℕ) (fresh : Fragment)
      → IsFreshAnswer def p name args (Ok fresh) → WellFormed def fresh (kinds.Phylum p)
  answer_formed sound slots p name args fresh (o, leaves, named, (op, found, same), gives, is) =
      subst (λ q. WellFormed def fresh (kinds.Phylum q)) same
      (subst (λ t. WellFormed def t (kinds.Phylum op.phylum)) (sym is)
      (fresh_formed def sound slots o op leaves found gives.3))

-- ---- the found node

module _ (def : Definition) (e : Editor) (place : Where) (f : Target) (editor : IsEditor def e)
    (found : IsTarget e place f) where
  pub found_formed : (K : Kind) × WellFormed def f.node.now K
  found_formed =
      node_formed def (tree_in f.held.now.note) f.held.now.kind f.path.now f.node.now
      (opened_version def e f.held.now editor found.held).formed found.node

  -- a tree of the node's kind may be put in its place
  pub may_put : (new : Fragment) → ((K : Kind) → WellFormed def f.node.now K → WellFormed def new K)
      → MayEdit def (tree_in f.held.now.note) (Put f.path.now new)
  may_put new keeps = let (K, formed) = found_formed in record {
    node = f.node.now;
    there = found.node;
    kind = K;
    of_kind = formed_is_kind def f.node.now K formed;
    formed = keeps K formed;
  }

-- what a change at the found node costs, said by the place
module _ (e : Editor) (place : Where) (f : Target) (found : IsTarget e place f) where
  pub cost_here : (n m : ℕ) → n ≡ m → n + climb_of (tree_in f.held.now.note) f.path.now
      ≤ m + climb_of (tree_in f.held.now.note) (named_path place e.cursor)
  cost_here n m same =
      let same_path : climb_of (tree_in f.held.now.note) f.path.now
      ≡ climb_of (tree_in f.held.now.note) (named_path place e.cursor) =
      ap (climb_of (tree_in f.held.now.note)) found.path in
      omega (arith, same, same_path)

-- a change of the found node is another tree in its place
module _ (e : Editor) (def : Definition) (place : Where) (f : Target) (found : IsTarget e place f)
    (g : Fragment → Fragment) (new : Fragment) (is : new ≡ g f.node.now) where
  pub put_is : change_at g (named_path place e.cursor) (tree_in f.held.now.note)
      ≡ replaced f.path.now new (tree_in f.held.now.note)
  put_is =
      subst (λ q. change_at g q (tree_in f.held.now.note) ≡ replaced f.path.now new (tree_in f.held.now.note))
      (sym (path_is def e place f found))
      (change_at-agree g (λ old. new) f.path.now (tree_in f.held.now.note) f.node.now found.node (sym is))

-- ---- the tests before the tree

-- the tests of an operator that is to be where one of the phylum is wanted
module _ (def : Definition) (e : Editor) (place : Where) (f : Target) (found : IsTarget e place f)
    (sound : IsSound def) (k : Option ℕ) (p : ℕ) (wanted : IsWanted def k f.node.now p)
    (only : (q : ℕ) → IsWanted def k f.node.now q → q ≡ p)
    (name : Name) (args : List ℕ) (o : ℕ) (named : IsOperator def o name) where
  abbrev Other : Opened → Fragment → Type 0
  Other old node = (q : ℕ) (x : ℕ) → IsWanted def k node q → IsOperator def x name → IsOfPhylum def x q → ⊥

  pub not_other : IsOfPhylum def o p → IsOther def (state_of e) place k name → ⊥
  not_other of h = at_node def e place f found Other h p o wanted named of

  pub is_other : (IsOfPhylum def o p → ⊥) → IsOther def (state_of e) place k name
  is_other never = has_node def e place f found Other
      (λ q x want other of. never
      (subst (λ y. IsOfPhylum def y p) (one_operator def sound x o name other named)
      (subst (IsOfPhylum def x) (only q want) of)))

  pub gives_none : ((leaves : List Leaf) → GivesLeaves def o args leaves → ⊥) → GivesNone def name args
  gives_none never =
      λ x leaves other gives. never leaves
      (subst (λ y. GivesLeaves def y args leaves) (one_operator def sound x o name other named) gives)
