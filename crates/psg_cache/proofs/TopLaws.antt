-- The top of a tree whose children are evaluated: a placeholder, an operator or a list.
use Rattle.std.proofs.Common.{◌≡◌, ℕ, ◌<◌, Bool, List, [], ◌∷◌, length, Some, refl, sym, ◌∙◌, ap, subst, arith}
use Rattle.std.specs.Prelude.{Result, Ok, IfOk}
use Rattle.std.specs.List.{AllByRecursion}
use Rattle.std.proofs.lemmas.Option.{none-some, same_Some}
use Rattle.psg_terms.specs.Names.{Name}
use Rattle.psg_grammar.specs.declared.types.Definition.{Definition}
use Rattle.psg_grammar.specs.Fragments.{Fragment, hole, ending, cell, operator, with_child, with_name, with_number, with_text, anything, observed, children_of, top_operator}
use Rattle.psg_grammar.specs.Paths.{Path}
use Rattle.psg_grammar.specs.Steps.{own_steps}
use Rattle.psg_grammar.specs.WellFormed.{WellFormed}
use Rattle.psg_tree.specs.declared.tree.Part.{Part}
use Rattle.psg_tree.specs.declared.tree.Shape.{Shape}
use Rattle.psg_tree.specs.declared.tree.Shape.TheVariants.{Op, List as ListOf, Hole}
use Rattle.psg_tree.specs.Shapes.{with_parts, list_of, tree_of}
use Rattle.psg_tree.proofs.Children.{children-list}
use Rattle.psg_eval.specs.declared.summary.SummaryParts.{SummaryParts}
use Rattle.psg_eval.specs.declared.summary.EvalFault.{EvalFault}
use Rattle.psg_eval.specs.Trees.{IsNode, own_names}
use Rattle.psg_eval.specs.Summaries.{AllSummaries, Answers, AreSummariesOf, IsSummary, TakesAt}
use Rattle.psg_cache.specs.declared.note.NoteFault.{NoteFault}
use Rattle.psg_cache.specs.Noted.{AreOfSuffixes, IsAnswered, IsOfNodes}
use Rattle.psg_cache.specs.Notes.{IsFormed}
use Rattle.psg_cache.specs.Walks.{IsAnswerFault, IsListFault, IsListTopped, IsStepFault, IsTop, names_in, TakesElements, top_steps}
use Rattle.psg_cache.proofs.RealTrees.{IsReal, IsSpine}
use Rattle.psg_cache.proofs.CellLaws.{answers_listed}
use Rattle.psg_cache.proofs.StepLaws.{own_fault}
use Rattle.psg_cache.proofs.Evaluations.{is_node, own_parts, spine_parts, takes_at, top_parts}
use Rattle.psg_cache.proofs.ListLaws.{list_takes, top_list_steps, usual_ok}

module _ (def : Definition) where
  top_own : (path : Path) (f : Fragment) → IsSpine f → top_steps def path f ≡ own_steps def path f
  top_own path (operator o) s = refl
  top_own path (with_child f t) s = refl
  top_own path (with_name f n) s = refl
  top_own path (with_number f n) s = refl
  top_own path (with_text f t) s = refl
  top_own path (hole p) s = absurd s
  top_own path (ending l u) s = absurd s
  top_own path (cell l e r) s = absurd s
  top_own path anything s = absurd s
  top_own path (observed f) s = absurd s

  alone_usual : (s : SummaryParts) (rests : List SummaryParts) → IsSummary def s → rests ≡ []
      → AllByRecursion (IsSummary def) (s ∷ rests)
  alone_usual s rests h none = subst (λ ts. AllByRecursion (IsSummary def) (s ∷ ts)) (sym none) (h, tt)

  -- what the evaluator answers for an operator
  answered_spine : (f : Fragment) (below : List SummaryParts) (s : SummaryParts) (rests : List SummaryParts) → IsSpine f
      → IsOfNodes def f below s → rests ≡ [] → IsAnswered def f below s rests
  answered_spine (operator o) below s rests spine h none = (h, none)
  answered_spine (with_child f t) below s rests spine h none = (h, none)
  answered_spine (with_name f n) below s rests spine h none = (h, none)
  answered_spine (with_number f n) below s rests spine h none = (h, none)
  answered_spine (with_text f t) below s rests spine h none = (h, none)
  answered_spine (hole p) below s rests spine h none = absurd spine
  answered_spine (ending l u) below s rests spine h none = absurd spine
  answered_spine (cell l e r) below s rests spine h none = absurd spine
  answered_spine anything below s rests spine h none = absurd spine
  answered_spine (observed f) below s rests spine h none = absurd spine

  pub nodes_answered : (f : Fragment) (o : ℕ) (below : List SummaryParts) (s : SummaryParts) → top_operator f ≡ Some o → IsReal f
      → IsOfNodes def f below s → IsAnswered def f below s []
  nodes_answered (operator k) o below s top is h = (h, refl)
  nodes_answered (with_child f t) o below s top is h = (h, refl)
  nodes_answered (with_name f n) o below s top is h = (h, refl)
  nodes_answered (with_number f n) o below s top is h = (h, refl)
  nodes_answered (with_text f t) o below s top is h = (h, refl)
  nodes_answered (hole p) o below s top is h = absurd (none-some o top)
  nodes_answered (ending l u) o below s top is h = absurd (none-some o top)
  nodes_answered (cell l e r) o below s top is h = absurd (none-some o top)
  nodes_answered anything o below s top is h = absurd is
  nodes_answered (observed f) o below s top is h = absurd is

  pub answered_nodes : (f : Fragment) (o : ℕ) (below : List SummaryParts) (s : SummaryParts) (rests : List SummaryParts)
      → top_operator f ≡ Some o → IsReal f → IsAnswered def f below s rests → IsOfNodes def f below s
  answered_nodes (operator k) o below s rests top is h = h.0
  answered_nodes (with_child f t) o below s rests top is h = h.0
  answered_nodes (with_name f n) o below s rests top is h = h.0
  answered_nodes (with_number f n) o below s rests top is h = h.0
  answered_nodes (with_text f t) o below s rests top is h = h.0
  answered_nodes (hole p) o below s rests top is h = absurd (none-some o top)
  answered_nodes (ending l u) o below s rests top is h = absurd (none-some o top)
  answered_nodes (cell l e r) o below s rests top is h = absurd (none-some o top)
  answered_nodes anything o below s rests top is h = absurd is
  answered_nodes (observed f) o below s rests top is h = absurd is

  -- and for a list
  answered_list : (l : ℕ) (es : List Fragment) (u : Bool) (below : List SummaryParts) (s : SummaryParts) (rests : List SummaryParts)
      → AreOfSuffixes def (list_of l es u) below s rests → IsAnswered def (list_of l es u) below s rests
  answered_list l [] u below s rests h = h
  answered_list l (e ∷ es) u below s rests h = h

  pub list_answered : (l : ℕ) (es : List Fragment) (u : Bool) (below : List SummaryParts) (s : SummaryParts) (rests : List SummaryParts)
      → IsAnswered def (list_of l es u) below s rests → AreOfSuffixes def (list_of l es u) below s rests
  list_answered l [] u below s rests h = h
  list_answered l (e ∷ es) u below s rests h = h

  -- ---- placeholders

  hole_there : (s : Shape) (p : ℕ) (f : Fragment) → s ≡ Hole p → tree_of s ≡ f → hole p ≡ f
  hole_there s p f e h = sym (ap tree_of e) ∙ h

  pub hole_phylum : (s : Shape) (p : ℕ) (f : Fragment) → s ≡ Hole p → tree_of s ≡ f → IsFormed def f
      → p < length def.phyla
  hole_phylum s p f e h formed =
      let (kind, (fits, plain)) = subst (IsFormed def) (sym (hole_there s p f e h)) formed in fits.2

  pub hole_topped : (s : Shape) (p : ℕ) (f : Fragment) (answer : Result SummaryParts EvalFault) (k : SummaryParts)
      (below : List SummaryParts) (whole : SummaryParts) (rests : List SummaryParts) → s ≡ Hole p → tree_of s ≡ f
      → Answers def (hole p) answer → IfOk answer (IsSummary def) → answer ≡ Ok k → whole ≡ k → rests ≡ []
      → IsTop def f below whole rests
  hole_topped s p f answer k below whole rests e there h usual is same none =
      let here : IsTop def (hole p) below k rests =
      ((subst (Answers def (hole p)) is h, none), alone_usual k rests (usual_ok def answer k usual is) none) in
      subst (λ x. IsTop def x below whole rests) (hole_there s p f e there)
      (subst (λ x. IsTop def (hole p) below x rests) (sym same) here)

  pub hole_fault : (path : Path) (s : Shape) (p : ℕ) (f : Fragment) (answer : Result SummaryParts EvalFault)
      (fault : NoteFault) → s ≡ Hole p → tree_of s ≡ f → Answers def (hole p) answer → IsAnswerFault path answer fault
      → IsStepFault def (top_steps def path f) fault
  hole_fault path s p f answer fault e there h a =
      subst (λ x. IsStepFault def (top_steps def path x) fault) (hole_there s p f e there)
      (own_fault def path (hole p) answer fault h a)

  -- ---- operators

  abbrev pub AnswersNode : ℕ → List Name → List SummaryParts → Result SummaryParts EvalFault → Type 0
  AnswersNode o names below answer =
      (f : Fragment) → IsNode def o names f → AreSummariesOf def f below → Answers def f answer

  operator_there : (s : Shape) (o : ℕ) (ps : List Part) (f : Fragment) → s ≡ Op o ps → tree_of s ≡ f
      → with_parts (operator o) ps ≡ f
  operator_there s o ps f e h = sym (ap tree_of e) ∙ h

  pub operator_takes : (s : Shape) (o : ℕ) (ps : List Part) (f : Fragment) (names : List Name) (below : List SummaryParts)
      → s ≡ Op o ps → tree_of s ≡ f → IsFormed def f → names ≡ names_in ps
      → AreSummariesOf def f below → AllByRecursion (IsSummary def) below → TakesAt def o names below
  operator_takes s o ps f names below e there formed same are usual =
      let (kind, (fits, plain)) = formed in
      subst (λ n. TakesAt def o n below) (sym same)
      (takes_at def o ps f kind (operator_there s o ps f e there) fits plain below are usual)

  answers_here : (s : Shape) (o : ℕ) (ps : List Part) (f : Fragment) (names : List Name) (below : List SummaryParts)
      (answer : Result SummaryParts EvalFault) → s ≡ Op o ps → tree_of s ≡ f → IsFormed def f → names ≡ names_in ps
      → AreSummariesOf def f below → AnswersNode o names below answer → Answers def f answer
  answers_here s o ps f names below answer e there formed same are h =
      let (kind, (fits, plain)) = formed in
      h f (subst (λ n. IsNode def o n f) (sym same)
      (is_node def o ps f kind (operator_there s o ps f e there) fits plain)) are

  pub operator_topped : (s : Shape) (o : ℕ) (ps : List Part) (f : Fragment) (names : List Name) (below : List SummaryParts)
      (answer : Result SummaryParts EvalFault) (k whole : SummaryParts) (rests : List SummaryParts) → s ≡ Op o ps → tree_of s ≡ f
      → names ≡ names_in ps → AnswersNode o names below answer → IfOk answer (IsSummary def) → answer ≡ Ok k
      → whole ≡ k → rests ≡ [] → IsTop def f below whole rests
  operator_topped s o ps f names below answer k whole rests e there same h usual is alike none =
      let made = operator_there s o ps f e there in
      let spine : IsSpine f = subst IsSpine made (spine_parts (operator o) ps tt) in
      let top : top_operator f ≡ Some o = ap top_operator (sym made) ∙ top_parts (operator o) ps in
      let own : own_names f ≡ names = ap own_names (sym made) ∙ own_parts (operator o) ps ∙ sym same in
      let nodes : IsOfNodes def f below k = λ number g there node are.
      let one : number ≡ o = same_Some number o (sym there ∙ top) in
      let it : IsNode def o names g =
      subst (λ n. IsNode def n names g) one (subst (λ ns. IsNode def number ns g) own node) in
      subst (Answers def g) is (h g it are) in
      let here : IsTop def f below k rests =
      (answered_spine f below k rests spine nodes none, alone_usual k rests (usual_ok def answer k usual is) none) in
      subst (λ x. IsTop def f below x rests) (sym alike) here

  pub operator_fault : (path : Path) (s : Shape) (o : ℕ) (ps : List Part) (f : Fragment) (names : List Name)
      (below : List SummaryParts) (answer : Result SummaryParts EvalFault) (fault : NoteFault) → s ≡ Op o ps → tree_of s ≡ f
      → IsFormed def f
      → names ≡ names_in ps → AreSummariesOf def f below → AnswersNode o names below answer
      → IsAnswerFault path answer fault → IsStepFault def (top_steps def path f) fault
  operator_fault path s o ps f names below answer fault e there formed same are h a =
      let spine : IsSpine f = subst IsSpine (operator_there s o ps f e there) (spine_parts (operator o) ps tt) in
      subst (λ x. IsStepFault def x fault) (sym (top_own path f spine))
      (own_fault def path f answer fault (answers_here s o ps f names below answer e there formed same are h) a)

  -- ---- lists

  list_there : (s : Shape) (l : ℕ) (es : List Fragment) (u : Bool) (f : Fragment) → s ≡ ListOf l es u → tree_of s ≡ f
      → list_of l es u ≡ f
  list_there s l es u f e h = sym (ap tree_of e) ∙ h

  elements_there : (s : Shape) (l : ℕ) (es : List Fragment) (u : Bool) (f : Fragment) → s ≡ ListOf l es u
      → tree_of s ≡ f → children_of f ≡ es
  elements_there s l es u f e h = ap children_of (sym (list_there s l es u f e h)) ∙ children-list l es u

  pub elements_taken : (s : Shape) (l : ℕ) (es : List Fragment) (u : Bool) (f : Fragment) (below : List SummaryParts)
      → s ≡ ListOf l es u → tree_of s ≡ f → IsFormed def f → AreSummariesOf def f below
      → AllByRecursion (IsSummary def) below
      → TakesElements def l u below
  elements_taken s l es u f below e there formed are usual =
      let list = list_there s l es u f e there in
      let children = elements_there s l es u f e there in
      let (kind, w) = formed in
      list_takes def l es u kind below (subst (λ x. WellFormed def x kind) (sym list) w)
      (subst (λ x. AllSummaries def x below) children are) usual

  as_many : (cs : List Fragment) (below : List SummaryParts) → AllSummaries def cs below → length cs ≡ length below
  as_many [] [] h = refl
  as_many [] (s ∷ ss) h = absurd h
  as_many (c ∷ cs) [] h = absurd h
  as_many (c ∷ cs) (s ∷ ss) h = let e = as_many cs ss h.1 in omega (arith, e)

  -- a list of so many elements is answered where its suffixes are
  pub listed_top : (l : ℕ) (es : List Fragment) (u : Bool) (below : List SummaryParts) (s : SummaryParts) (rests : List SummaryParts)
      → AllSummaries def es below → IsListTopped def l u below s rests → IsTop def (list_of l es u) below s rests
  listed_top l es u below s rests are h = (
    answered_list l es u below s rests (answers_listed def l u es below s rests (as_many es below are) h.0),
    h.1,
  )

  pub list_topped : (s : Shape) (l : ℕ) (es : List Fragment) (u : Bool) (f : Fragment) (below : List SummaryParts)
      (k : SummaryParts) (rests : List SummaryParts) → s ≡ ListOf l es u → tree_of s ≡ f → AreSummariesOf def f below
      → IsListTopped def l u below k rests → IsTop def f below k rests
  list_topped s l es u f below k rests e there are h =
      subst (λ x. IsTop def x below k rests) (list_there s l es u f e there)
      (listed_top l es u below k rests
      (subst (λ x. AllSummaries def x below) (elements_there s l es u f e there) are) h)

  pub list_fault : (path : Path) (s : Shape) (l : ℕ) (es : List Fragment) (u : Bool) (f : Fragment)
      (below : List SummaryParts) (fault : NoteFault) → s ≡ ListOf l es u → tree_of s ≡ f → AreSummariesOf def f below
      → IsListFault def path l u below fault → IsStepFault def (top_steps def path f) fault
  list_fault path s l es u f below fault e there are h =
      subst (λ x. IsStepFault def (top_steps def path x) fault) (list_there s l es u f e there)
      (subst (λ x. IsStepFault def x fault) (sym (top_list_steps def path l es u))
      (h es (subst (λ x. AllSummaries def x below) (elements_there s l es u f e there) are)))
