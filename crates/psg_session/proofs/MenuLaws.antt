-- A menu does not depend on how it is told what is good, and there is one.
use Rattle.std.proofs.Common.{◌≡◌, ◌↔◌, ℕ, List, [], ◌∷◌, map, Option, Some, None, refl, sym, ◌∙◌, ap, subst}
use Rattle.psg_terms.specs.Names.{Name}
use Rattle.psg_terms.specs.Relations.{IsIn, first, later}
use Rattle.psg_grammar.specs.declared.types.Definition.{Definition}
use Rattle.psg_grammar.specs.declared.types.ListKind.{ListKind}
use Rattle.psg_grammar.specs.Fragments.{Fragment, hole}
use Rattle.psg_grammar.specs.Kinds.{op_name_of}
use Rattle.psg_grammar.specs.Insertion.{Leaf, AreLeaves, with_operator}
use Rattle.psg_grammar.specs.Lookups.{operator_at, items_of}
use Rattle.psg_grammar.specs.Marks.{Chosen, nothing, taken, passed}
use Rattle.psg_grammar.specs.Paths.{Path, node_at}
use Rattle.psg_grammar.specs.Sound.{IsSound}
use Rattle.psg_grammar.proofs.NamePlaces.{only_op}
use Rattle.psg_menu.specs.Menus.{AreNameable, IsChoosable, IsMenu, IsNameable, IsNameMenu, operators_of}
use Rattle.psg_session.specs.PlainState.{State, Opened}
use Rattle.psg_session.specs.PlainStep.{IsOperator, IsWanted}
use Rattle.psg_session.proofs.ChangeLaws.{one_list_kind}
use Rattle.psg_session.proofs.StepLaws.{some_once}

-- the members that have a property are chosen in one way
pub chosen_once : {X : Type 0} {P : X → Type 0} {xs ys zs : List X} → Chosen P xs ys → Chosen P xs zs → ys ≡ zs
chosen_once nothing nothing = refl
chosen_once (taken {x = x} has more) (taken has' more') = ap (λ l. x ∷ l) (chosen_once more more')
chosen_once (taken has more) (passed never more') = absurd (never has)
chosen_once (passed never more) (taken has more') = absurd (never has)
chosen_once (passed never more) (passed never' more') = chosen_once more more'

-- and in the same way by a property that the same members have
pub chosen_same : {X : Type 0} (P Q : X → Type 0) {xs ys : List X} → ((x : X) → IsIn x xs → P x ↔ Q x) → Chosen P xs ys → Chosen Q xs ys
chosen_same P Q both nothing = nothing
chosen_same P Q both (taken {x = x} has more) = taken ((both x first).0 has) (chosen_same P Q (λ y i. both y (later i)) more)
chosen_same P Q both (passed {x = x} never more) =
    passed (λ h. never ((both x first).1 h)) (chosen_same P Q (λ y i. both y (later i)) more)

-- what is chosen is a member
pub chosen_in : {X : Type 0} {P : X → Type 0} {xs ys : List X} → Chosen P xs ys → (x : X) → IsIn x ys → IsIn x xs
chosen_in nothing x i = i
chosen_in (taken has more) x first = first
chosen_in (taken has more) x (later i) = later (chosen_in more x i)
chosen_in (passed never more) x i = later (chosen_in more x i)

-- the names of numbers
pub names_by : (ls ms : List Name) → map Some ls ≡ map Some ms → ls ≡ ms
names_by [] [] e = refl
names_by [] (m ∷ ms) e = absurd (cc)
names_by (l ∷ ls) [] e = absurd (cc)
names_by (l ∷ ls) (m ∷ ms) e =
    let head : l ≡ m = cc in
    let tail : map Some ls ≡ map Some ms = cc in
    ap (λ x. x ∷ ls) head ∙ ap (λ rest. m ∷ rest) (names_by ls ms tail)

module _ (def : Definition) (A B : Fragment → Type 0) (f : Fragment) (path : Path) (k : Option ℕ) where
  -- the trees of an operator's trials are good in both ways or in none
  abbrev pub AgreeFor : ℕ → Type 0
  AgreeFor o = (leaves : List Leaf) → AreLeaves def (items_of (operator_at def o)) leaves
      → A (with_operator def f path k o leaves) ↔ B (with_operator def f path k o leaves)

  choosable_same : (o : ℕ) → AgreeFor o → IsChoosable def f path k A o ↔ IsChoosable def f path k B o
  choosable_same o agree = (
    (λ (leaves, trial, good). (leaves, trial, (agree leaves trial.are_leaves).0 good)),
    (λ (leaves, trial, good). (leaves, trial, (agree leaves trial.are_leaves).1 good)),
  )

  nameable_same : (o : ℕ) (n : Name) → AgreeFor o → IsNameable def f path k A o n ↔ IsNameable def f path k B o n
  nameable_same o n agree = (
    (λ (leaves, trial, good). (leaves, trial, (agree leaves trial.are_leaves).0 good)),
    (λ (leaves, trial, good). (leaves, trial, (agree leaves trial.are_leaves).1 good)),
  )

  pub menu_same : (p : ℕ) (ops : List ℕ) → ((o : ℕ) → IsIn o (operators_of def p) → AgreeFor o) → IsMenu def f path k A p ops → IsMenu def f path k B p ops
  menu_same p ops agree h = chosen_same (IsChoosable def f path k A) (IsChoosable def f path k B) (λ o i. choosable_same o (agree o i)) h

  pub naming_same : (o : ℕ) (candidates names : List Name) → AgreeFor o → AreNameable def f path k A o candidates names → AreNameable def f path k B o candidates names
  naming_same o candidates names agree h = chosen_same (IsNameable def f path k A o) (IsNameable def f path k B o) (λ n i. nameable_same o n agree) h

-- ---- one reply

module _ (def : Definition) where
  pub wanted_once : (k : Option ℕ) (node : Fragment) (p q : ℕ) → IsWanted def k node p → IsWanted def k node q → p ≡ q
  wanted_once None node p q e d = let same : hole p ≡ hole q = sym e ∙ d in cc
  wanted_once (Some k) node p q (list, of, e) (other, also, d) =
      e ∙ ap (λ (x : ListKind). x.element) (one_list_kind def node list other of also) ∙ sym d

  module _ (sound : IsSound def) (IsGood : Fragment → Type 0) (s : State) (path : Path) (k : Option ℕ) (old old' : Opened) (opened : s.opened ≡ Some old) (opened' : s.opened ≡ Some old') where
    same_opened : old ≡ old'
    same_opened = some_once old old' s.opened opened opened'

    pub offered_once : (node node' : Fragment) (p p' : ℕ) (ops ops' : List ℕ) (names names' : List Name)
        → node_at old.tree path ≡ Some node → node_at old'.tree path ≡ Some node' → IsWanted def k node p → IsWanted def k node' p'
        → IsMenu def old.tree path k IsGood p ops → IsMenu def old'.tree path k IsGood p' ops'
        → map (op_name_of def) ops ≡ map Some names → map (op_name_of def) ops' ≡ map Some names' → names ≡ names'
    offered_once node node' p p' ops ops' names names' at at' want want' menu menu' named named' =
        let one : node ≡ node' = some_once node node' (node_at old'.tree path)
        (subst (λ (x : Opened). node_at x.tree path ≡ Some node) same_opened at) at' in
        let wanted : p ≡ p' = wanted_once k node' p p' (subst (λ x. IsWanted def k x p) one want) want' in
        let moved : IsMenu def old'.tree path k IsGood p' ops =
        subst (λ q. IsMenu def old'.tree path k IsGood q ops) wanted (subst (λ (x : Opened). IsMenu def x.tree path k IsGood p ops) same_opened menu) in
        let both : ops ≡ ops' = chosen_once moved menu' in
        names_by names names' (sym named ∙ ap (map (op_name_of def)) both ∙ named')

    pub suggested_once : (name : Name) (o o' : ℕ) (names names' : List Name) → IsOperator def o name → IsOperator def o' name
        → IsNameMenu def old.tree path k IsGood o names → IsNameMenu def old'.tree path k IsGood o' names' → names ≡ names'
    suggested_once name o o' names names' named named' menu menu' =
        let same : o ≡ o' = only_op def sound.operator_names o o' name named named' in
        let moved : IsNameMenu def old'.tree path k IsGood o' names =
        subst (λ q. IsNameMenu def old'.tree path k IsGood q names) same (subst (λ (x : Opened). IsNameMenu def x.tree path k IsGood o names) same_opened menu) in
        chosen_once moved menu'
