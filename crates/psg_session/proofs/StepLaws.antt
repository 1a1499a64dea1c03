-- What is known of the first tests of a command, from what was found of its place.
use Rattle.std.proofs.Common.{◌≡◌, ◌⊎◌, inl, inr, Some, None, Option, sym, ◌∙◌, ap, subst}
use Rattle.std.proofs.lemmas.Option.{none-some}
use Rattle.psg_grammar.specs.declared.types.Definition.{Definition}
use Rattle.psg_grammar.specs.Fragments.{Fragment}
use Rattle.psg_grammar.specs.Paths.{node_at}
use Rattle.psg_script.specs.declared.command.Where.{Where}
use Rattle.psg_session.specs.declared.editor.Editor.{Editor}
use Rattle.psg_session.specs.declared.editor.OpenedTree.{OpenedTree}
use Rattle.psg_session.specs.declared.finding.Target.{Target}
use Rattle.psg_session.specs.declared.refusal.Refusal.{Refusal}
use Rattle.psg_session.specs.declared.refusal.Refusal.TheVariants.{NoNode, NothingOpened}
use Rattle.psg_session.specs.Outcomes.{IsTarget, HasNoTarget}
use Rattle.psg_session.specs.PlainState.{Opened, named_path}
use Rattle.psg_session.specs.PlainStep.{AtNode, IsNoNode}
use Rattle.psg_session.specs.Sessions.{opened_of, plain, state_of}
use Rattle.psg_cache.specs.Annotated.{tree_in}

pub some_once : {X : Type 0} (x y : X) (o : Option X) → o ≡ Some x → o ≡ Some y → x ≡ y
some_once x y o e f = let d : Some x ≡ Some y = sym e ∙ f in cc

module _ (def : Definition) (e : Editor) where
  pub opened_plain : (held : OpenedTree) → e.opened ≡ Some held → (state_of e).opened ≡ Some (plain held)
  opened_plain held is = ap opened_of is

  pub not_opened : e.opened ≡ None → (state_of e).opened ≡ None
  not_opened is = ap opened_of is

  pub is_opened_by : (held : OpenedTree) → e.opened ≡ Some held → (state_of e).opened ≡ None → ⊥
  is_opened_by held is none = none-some (plain held) (sym none ∙ opened_plain held is)

  module _ (place : Where) where
    -- one of the first two tests holds
    pub nowhere : {X : Type 0} (r : Refusal) → HasNoTarget e place r
        → (((state_of e).opened ≡ None) × (NothingOpened ≡ r))
        ⊎ ((((state_of e).opened ≡ None) → ⊥)
        × ((IsNoNode def (state_of e) place × (NoNode ≡ r)) ⊎ ((IsNoNode def (state_of e) place → ⊥) × X)))
    nowhere r (inl (is, none)) = inl (not_opened none, sym is)
    nowhere r (inr (is, held, opened, none)) =
        inr (is_opened_by held opened, inl ((plain held, opened_plain held opened, none), sym is))

    module _ (f : Target) (found : IsTarget e place f) where
      pub opened_is : (state_of e).opened ≡ Some (plain f.held.now)
      opened_is = opened_plain f.held.now found.held

      pub path_is : named_path place e.cursor ≡ f.path.now
      path_is = sym found.path

      pub node_is : node_at (tree_in f.held.now.note) (named_path place e.cursor) ≡ Some f.node.now
      node_is = ap (node_at (tree_in f.held.now.note)) path_is ∙ found.node

      pub same_old : (old : Opened) → (state_of e).opened ≡ Some old → old ≡ plain f.held.now
      same_old old is = some_once old (plain f.held.now) (state_of e).opened is opened_is

      -- what is said of the node at the place is said of the one found
      pub at_node : (P : Opened → Fragment → Type 0) → AtNode def (state_of e) place P → P (plain f.held.now) f.node.now
      at_node P (old, opened, node, at, holds) =
          let one : old ≡ plain f.held.now = same_old old opened in
          let here : node_at (tree_in f.held.now.note) (named_path place e.cursor) ≡ Some node =
          subst (λ o. node_at o.tree (named_path place e.cursor) ≡ Some node) one at in
          let two : node ≡ f.node.now =
          some_once node f.node.now (node_at (tree_in f.held.now.note) (named_path place e.cursor)) here node_is in
          subst (P (plain f.held.now)) two (subst (λ o. P o node) one holds)

      pub has_node : (P : Opened → Fragment → Type 0) → P (plain f.held.now) f.node.now → AtNode def (state_of e) place P
      has_node P holds = (plain f.held.now, opened_is, f.node.now, node_is, holds)

      -- the first two tests do not hold
      pub is_opened : (state_of e).opened ≡ None → ⊥
      is_opened = is_opened_by f.held.now found.held

      pub is_there : IsNoNode def (state_of e) place → ⊥
      is_there (old, opened, none) =
          none-some f.node.now (sym (subst (λ o. node_at o.tree (named_path place e.cursor) ≡ None)
          (same_old old opened) none) ∙ node_is)
