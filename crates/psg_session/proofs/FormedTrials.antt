-- The trees of the trials of a menu are of the opened kind.
use Rattle.std.proofs.Common.{◌≡◌, ◌⊎◌, inl, inr, ℕ, suc, ◌+◌, List, [], ◌∷◌, cond, slice_get, Option, Some, None, refl, sym, ◌∙◌, ap, subst, arith}
use Rattle.std.proofs.lemmas.Bool.Decides.{eqb_tells}
use Rattle.psg_terms.proofs.Lists.{in_cases}
use Rattle.psg_terms.specs.Names.{Name}
use Rattle.psg_terms.specs.Relations.{IsIn}
use Rattle.psg_grammar.specs.declared.types.Kind.TheVariants as kinds
use Rattle.psg_grammar.specs.declared.types.ListKind.{ListKind}
use Rattle.psg_grammar.specs.declared.types.Operator.{Operator}
use Rattle.psg_grammar.specs.declared.types.Definition.{Definition}
use Rattle.psg_grammar.specs.Fragments.{Fragment, hole}
use Rattle.psg_grammar.specs.Insertion.{Leaf, AreLeaves, fresh_operator, with_operator}
use Rattle.psg_grammar.specs.Kinds.{IsOfKind}
use Rattle.psg_grammar.specs.Lookups.{operator_at, items_of}
use Rattle.psg_grammar.specs.Paths.{Path, node_at}
use Rattle.psg_grammar.specs.Sound.{IsSound}
use Rattle.psg_grammar.specs.WellFormed.{WellFormed}
use Rattle.psg_menu.proofs.FormedTrials.{fresh_formed}
use Rattle.psg_menu.specs.Menus.{HasQuietSlots, operators_from, operators_of}
use Rattle.psg_script.specs.declared.command.Where.{Where}
use Rattle.psg_session.specs.Formed.{IsFormedState}
use Rattle.psg_session.specs.PlainState.{State, Opened, named_path}
use Rattle.psg_session.specs.PlainStep.{AtNode, HasNoPlace, IsListOf, IsNoNode, IsOperator, IsOther, IsWanted}
use Rattle.psg_session.proofs.ChangeLaws.{one_list_kind}
use Rattle.psg_session.proofs.FormedMakes.{added_given, hole_or, list_at, node_there, of_phylum, put_given}
use Rattle.psg_session.proofs.StepLaws.{some_once}

-- an operator of the phylum with this number
abbrev pub HasOperator : List Operator → ℕ → ℕ → Type 0
HasOperator ops p o = (op : Operator) × (slice_get ops o ≡ Some op) × (op.phylum ≡ p)

-- each number that is listed is that of an operator of the phylum, counted from n
operator_from : (n p o : ℕ) (ops : List Operator) → IsIn o (operators_from n p ops)
    → (k : ℕ) × (o ≡ n + k) × HasOperator ops p k
operator_from n p o [] i = elim i [ ]
operator_from n p o (x ∷ rest) i = elim (eqb_tells x.phylum p) [
  | inl e ↦ taken e.1 (in_cases o n (operators_from (n + 1) p rest) (subst (λ b. IsIn o (cond b (n ∷ operators_from (n + 1) p rest) (operators_from (n + 1) p rest))) e.0 i)) (operator_from (n + 1) p o rest)
  | inr e ↦ passed (operator_from (n + 1) p o rest (subst (λ b. IsIn o (cond b (n ∷ operators_from (n + 1) p rest) (operators_from (n + 1) p rest))) e.0 i))
] where
  passed : ((k : ℕ) × (o ≡ (n + 1) + k) × HasOperator rest p k) → (k : ℕ) × (o ≡ n + k) × HasOperator (x ∷ rest) p k
  passed (k, e, (op, at, is)) = (suc k, omega (arith, e), (op, at, is))

  taken : x.phylum ≡ p → ((o ≡ n) ⊎ IsIn o (operators_from (n + 1) p rest))
      → (IsIn o (operators_from (n + 1) p rest) → (k : ℕ) × (o ≡ (n + 1) + k) × HasOperator rest p k)
      → (k : ℕ) × (o ≡ n + k) × HasOperator (x ∷ rest) p k
  taken is (inl e) more = (0, omega (arith, e), (x, refl, is))
  taken is (inr j) more = passed (more j)

pub operator_in : (def : Definition) (p o : ℕ) → IsIn o (operators_of def p) → HasOperator def.operators p o
operator_in def p o i =
    let (k, e, (op, at, is)) = operator_from 0 p o def.operators i in
    let same : o ≡ k = omega (arith, e) in
    (op, subst (λ n. slice_get def.operators n ≡ Some op) (sym same) at, is)

module _ (def : Definition) (sound : IsSound def) (slots : HasQuietSlots def) (s : State) (formed : IsFormedState def s)
    (place : Where) (old : Opened) (opened : s.opened ≡ Some old) where
  abbrev there : Path
  there = named_path place s.cursor

  -- the node at the place and the phylum that is wanted there
  pub record IsFoundWanted (k : Option ℕ) : Type 0 where
    pub node : Fragment
    pub phylum : ℕ
    pub at : node_at old.tree there ≡ Some node
    pub wanted : IsWanted def k node phylum
    pub only : (q : ℕ) → IsWanted def k node q → q ≡ phylum

  module _ (some : IsNoNode def s place → ⊥) where
    pub wanted_at : (k : Option ℕ) → (AtNode def s place (λ o node. HasNoPlace def k node) → ⊥) → IsFoundWanted k
    wanted_at None room =
        let (node, at) = node_there def sound slots s formed place old opened some in
        elim (hole_or node) [
          | inr never ↦ absurd (room (old, opened, node, at, never))
          | inl h ↦ record {
            node = node;
            phylum = h.0;
            at = at;
            wanted = h.1;
            only = λ q want. let d : hole q ≡ hole h.0 = sym want ∙ h.1 in cc;
          }
        ]
    wanted_at (Some k) room =
        let (node, l, list, at, of_list, listed, of, is, short) = list_at def sound slots s formed place old opened k some room in
        record {
          node = node;
          phylum = list.element;
          at = at;
          wanted = (list, of, refl);
          only = λ q (other, also, e). e ∙ ap (λ (x : ListKind). x.element) (one_list_kind def node other list also of);
        }

    -- the operator is of the phylum that is wanted
    pub named_phylum : (k : Option ℕ) (w : IsFoundWanted k) (name : Name) (o : ℕ) → (IsOther def s place k name → ⊥) → IsOperator def o name
        → HasOperator def.operators w.phylum o
    named_phylum k w name o same named =
        of_phylum def sound slots s formed place old opened k name w.node w.phylum w.at w.only same o named

    pub trial_formed : (k : Option ℕ) → (AtNode def s place (λ o node. HasNoPlace def k node) → ⊥) → (node : Fragment) (p : ℕ)
        → node_at old.tree there ≡ Some node → IsWanted def k node p → (o : ℕ) → HasOperator def.operators p o → (leaves : List Leaf)
        → AreLeaves def (items_of (operator_at def o)) leaves → WellFormed def (with_operator def old.tree there k o leaves) old.kind
    trial_formed None room node p at want o (op, found, is) leaves are =
        let fresh : WellFormed def (fresh_operator def o leaves) (kinds.Phylum p) =
        subst (λ q. WellFormed def (fresh_operator def o leaves) (kinds.Phylum q)) is (fresh_formed def sound slots o op leaves found are) in
        (put_given def sound slots s formed place old opened (fresh_operator def o leaves) node (kinds.Phylum p) at
        (subst (λ x. IsOfKind def x (kinds.Phylum p)) (sym want) refl) fresh).0
    trial_formed (Some k) room node p at (other, also, e) o (op, found, is) leaves are =
        let (here, l, list, at_here, of_list, listed, of, is_list, short) = list_at def sound slots s formed place old opened k some room in
        let one : node ≡ here = some_once node here (node_at old.tree there) at at_here in
        let same : p ≡ list.element = e ∙ ap (λ (x : ListKind). x.element) (one_list_kind def here other list (subst (λ x. IsListOf def x other) one also) of) in
        (added_given def sound slots s formed place old opened k (fresh_operator def o leaves) here l list at_here of_list listed is_list short
        (subst (λ q. WellFormed def (fresh_operator def o leaves) (kinds.Phylum q)) (is ∙ same) (fresh_formed def sound slots o op leaves found are))).0
