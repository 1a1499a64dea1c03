-- The summaries of a list's cells, made from the last to the first in front of a suffix.
use Rattle.std.proofs.Common.{◌≡◌, ◌⊎◌, inl, inr, ℕ, zero, suc, ◌+◌, ◌-◌, ◌<◌, ◌≤◌, Bool, List, [], ◌∷◌, ◌++◌, length, drop, take, get_or, slice_get, Some, None, refl, sym, ◌∙◌, ap, ap₂, subst, drop-cons, arith}
use Rattle.std.specs.Prelude.{Result, Ok, IfOk, reverse}
use Rattle.std.specs.List.{AllByRecursion}
use Rattle.std.proofs.lemmas.List.{drop_all, length-append, reverse-append, reverse-reverse, take-append-drop}
use Rattle.std.proofs.lemmas.Option.{none-some, same_Some}
use Rattle.psg_terms.proofs.Lists.{slice_get-end}
use Rattle.psg_grammar.specs.declared.types.Kind.TheVariants as kinds
use Rattle.psg_grammar.specs.declared.types.Definition.{Definition}
use Rattle.psg_grammar.specs.Fragments.{Fragment, ending, cell}
use Rattle.psg_grammar.specs.Paths.{Path}
use Rattle.psg_grammar.specs.Steps.{AreWithin, own_steps, list_steps}
use Rattle.psg_tree.specs.Shapes.{list_of}
use Rattle.psg_eval.specs.declared.summary.SummaryParts.{SummaryParts}
use Rattle.psg_eval.specs.declared.summary.EvalFault.{EvalFault}
use Rattle.psg_eval.specs.Summaries.{AllSummaries, Answers, IsSummary, IsSummaryOf, TakesCell}
use Rattle.psg_cache.specs.declared.note.NoteFault.{NoteFault}
use Rattle.psg_cache.specs.Noted.{AreOfSuffixes, IsOfCells}
use Rattle.psg_cache.specs.Renoting.{AreOfCells, cells_of, first_or, IsCellsFault, TakesCells}
use Rattle.psg_cache.specs.Walks.{AreListed, IsAnswerFault, IsStepFault}
use Rattle.psg_cache.proofs.Each.{each_append, each_at}
use Rattle.psg_cache.proofs.StepLaws.{within-append, fault-left, fault-behind, own_within, own_fault}

-- ---- the last summary that was made

last_is : {X : Type 0} (xs : List X) (x : X) → slice_get (xs ++ x ∷ []) (length (xs ++ x ∷ []) - 1) ≡ Some x
last_is xs x =
    let many : length (xs ++ x ∷ []) ≡ length xs + 1 = length-append xs (x ∷ []) in
    let place : length (xs ++ x ∷ []) - 1 ≡ length xs = omega (arith, many) in
    ap (slice_get (xs ++ x ∷ [])) place ∙ slice_get-end xs x

reverse_cons : {X : Type 0} (x : X) (xs : List X) → reverse (x ∷ xs) ≡ reverse xs ++ x ∷ []
reverse_cons x xs = reverse-append (x ∷ []) xs

last_turned : {X : Type 0} (x : X) (xs : List X) → slice_get (reverse (x ∷ xs)) (length (reverse (x ∷ xs)) - 1) ≡ Some x
last_turned x xs =
    subst (λ m. slice_get m (length m - 1) ≡ Some x) (sym (reverse_cons x xs)) (last_is (reverse xs) x)

latest : (behind : SummaryParts) (xs : List SummaryParts) (s : SummaryParts)
    → slice_get (reverse xs) (length (reverse xs) - 1) ≡ Some s → s ≡ first_or behind xs
latest behind [] s e = absurd (none-some s e)
latest behind (x ∷ xs) s e = same_Some s x (sym e ∙ last_turned x xs)

pub latest_some : (behind : SummaryParts) (made : List SummaryParts) (s : SummaryParts)
    → slice_get made (length made - 1) ≡ Some s → s ≡ first_or behind (reverse made)
latest_some behind made s e =
    latest behind (reverse made) s
    (subst (λ m. slice_get m (length m - 1) ≡ Some s) (sym (reverse-reverse made)) e)

pub latest_none : (behind : SummaryParts) (made : List SummaryParts)
    → slice_get made (length made - 1) ≡ None → behind ≡ first_or behind (reverse made)
latest_none behind made e =
    go (reverse made) (subst (λ m. slice_get m (length m - 1) ≡ None) (sym (reverse-reverse made)) e) where
      go : (xs : List SummaryParts) → slice_get (reverse xs) (length (reverse xs) - 1) ≡ None → behind ≡ first_or behind xs
      go [] e = refl
      go (x ∷ xs) e = absurd (none-some x (sym e ∙ last_turned x xs))

pub latest_is : (behind : SummaryParts) (made slice : List SummaryParts) (rest : SummaryParts) → slice ≡ made
    → rest ≡ first_or behind (reverse slice) → rest ≡ first_or behind (reverse made)
latest_is behind made slice rest e h = h ∙ ap (λ m. first_or behind (reverse m)) e

pub reverse_push : {X : Type 0} (xs : List X) (x : X) → reverse (xs ++ x ∷ []) ≡ x ∷ reverse xs
reverse_push xs x = reverse-append xs (x ∷ [])

first_holds : (P : SummaryParts → Type 0) (behind : SummaryParts) (ss : List SummaryParts) → P behind → AllByRecursion P ss
    → P (first_or behind ss)
first_holds P behind [] p h = p
first_holds P behind (s ∷ ss) p h = h.0

module _ (def : Definition) where
  -- a summary of some suffix of the list
  pub record IsSuffix (l : ℕ) (s : SummaryParts) : Type 0 where
    pub usual : IsSummary def s
    pub kind : s.kind ≡ kinds.List l

  pub usual_suffixes : (l : ℕ) (ss : List SummaryParts) → AllByRecursion (IsSuffix l) ss → AllByRecursion (IsSummary def) ss
  usual_suffixes l [] h = tt
  usual_suffixes l (s ∷ ss) h = (h.0.usual, usual_suffixes l ss h.1)

  first_suffix : (l : ℕ) (elements : List SummaryParts) (behind : SummaryParts) → TakesCells def l elements behind
      → (ss : List SummaryParts) → AllByRecursion (IsSuffix l) ss → IsSuffix l (first_or behind ss)
  first_suffix l elements behind takes ss h =
      first_holds (IsSuffix l) behind ss
      (record { usual = takes.usual.0; kind = takes.rest_kind }) h

  -- ---- none, one more, and all

  pub cells_none : (l : ℕ) (elements : List SummaryParts) (behind : SummaryParts) (made : List SummaryParts) → made ≡ []
      → AreOfCells def l (drop (length elements) elements) behind (reverse made)
  cells_none l elements behind made e =
      let none : drop (length elements) elements ≡ [] = drop_all (length elements) elements (omega arith) in
      subst (λ m. AreOfCells def l (drop (length elements) elements) behind (reverse m)) (sym e)
      (subst (λ bs. AreOfCells def l bs behind []) (sym none) tt)

  pub suffixes_none : (l : ℕ) (made : List SummaryParts) → made ≡ [] → AllByRecursion (IsSuffix l) (reverse made)
  suffixes_none l made e = subst (λ m. AllByRecursion (IsSuffix l) (reverse m)) (sym e) tt

  first_of_old : (was : SummaryParts) (j : ℕ) (os : List SummaryParts)
      → first_or (first_or was (drop j os)) (take j os) ≡ first_or was os
  first_of_old was zero os = refl
  first_of_old was (suc j) [] = refl
  first_of_old was (suc j) (o ∷ os) = refl

  first_append : (behind : SummaryParts) (ss ts : List SummaryParts) → first_or (first_or behind ts) ss ≡ first_or behind (ss ++ ts)
  first_append behind [] ts = refl
  first_append behind (s ∷ ss) ts = refl

  -- the old cells of fewer first elements
  old_front : (l k left : ℕ) (es : List SummaryParts) (was : SummaryParts) (os : List SummaryParts) → AreOfCells def l (take k es) was os
      → left ≤ length os → AreOfCells def l (take left es) (first_or was (drop left os)) (take left os)
  old_front l k zero es was os h small = tt
  old_front l k (suc left) es was [] h small = absurd (omega (arith, small))
  old_front l zero (suc left) es was (o ∷ os) h small = absurd h
  old_front l (suc k) (suc left) [] was (o ∷ os) h small = absurd h
  old_front l (suc k) (suc left) (e ∷ es) was (o ∷ os) h small = (
    subst (λ x. IsOfCells def l e x o) (sym (first_of_old was left os)) h.0,
    old_front l k left es was os h.1 (omega (arith, small)),
  )

  cells_joined : (l : ℕ) (xs ys : List SummaryParts) (behind : SummaryParts) (ss ts : List SummaryParts)
      → AreOfCells def l xs (first_or behind ts) ss → AreOfCells def l ys behind ts
      → AreOfCells def l (xs ++ ys) behind (ss ++ ts)
  cells_joined l [] ys behind [] ts h k = k
  cells_joined l [] ys behind (s ∷ ss) ts h k = absurd h
  cells_joined l (x ∷ xs) ys behind [] ts h k = absurd h
  cells_joined l (x ∷ xs) ys behind (s ∷ ss) ts h k =
      (subst (λ r. IsOfCells def l x r s) (first_append behind ss ts) h.0, cells_joined l xs ys behind ss ts h.1 k)

  -- the old cells in front of the new ones, where the new suffix is the old one
  pub kept_cells : (l : ℕ) (elements : List SummaryParts) (behind was : SummaryParts) (k left : ℕ) (olds made all : List SummaryParts)
      → AreOfCells def l (take k elements) was olds → left ≤ length olds
      → (left ≡ 0) ⊎ (first_or behind (reverse made) ≡ first_or was (drop left olds))
      → all ≡ take left olds ++ reverse made → AreOfCells def l (drop left elements) behind (reverse made)
      → AreOfCells def l elements behind all
  kept_cells l elements behind was k left olds made all before small stops is h =
      let latest : SummaryParts = first_or behind (reverse made) in
      let front : AreOfCells def l (take left elements) latest (take left olds) =
      elim stops [
        | inl none ↦ subst (λ n. AreOfCells def l (take n elements) latest (take n olds)) (sym none) tt
        | inr same ↦
            subst (λ x. AreOfCells def l (take left elements) x (take left olds)) (sym same)
            (old_front l k left elements was olds before small)
      ] in
      subst (AreOfCells def l elements behind) (sym is)
      (subst (λ es. AreOfCells def l es behind (take left olds ++ reverse made)) (take-append-drop left elements)
      (cells_joined l (take left elements) (drop left elements) behind (take left olds) (reverse made) front h))

  each_first : (P : SummaryParts → Type 0) (k : ℕ) (ss : List SummaryParts) → AllByRecursion P ss → AllByRecursion P (take k ss)
  each_first P zero ss h = tt
  each_first P (suc k) [] h = tt
  each_first P (suc k) (s ∷ ss) h = (h.0, each_first P k ss h.1)

  pub kept_usual : (left : ℕ) (olds made all : List SummaryParts) → AllByRecursion (IsSummary def) olds
      → AllByRecursion (IsSummary def) (reverse made) → all ≡ take left olds ++ reverse made
      → AllByRecursion (IsSummary def) all
  kept_usual left olds made all before h is =
      subst (AllByRecursion (IsSummary def)) (sym is)
      (each_append (IsSummary def) (take left olds) (reverse made) (each_first (IsSummary def) left olds before) h)

  pub cell_takes : (l : ℕ) (elements : List SummaryParts) (behind : SummaryParts) → TakesCells def l elements behind
      → (now : ℕ) (element rest : SummaryParts) (made : List SummaryParts) → now < length elements
      → element ≡ get_or elements now element → rest ≡ first_or behind (reverse made)
      → AllByRecursion (IsSuffix l) (reverse made) → TakesCell def l element rest
  cell_takes l elements behind takes now element rest made small at latest h =
      let it : IsSuffix l rest =
      subst (IsSuffix l) (sym latest) (first_suffix l elements behind takes (reverse made) h) in
      record {
        list = takes.list;
        found = takes.found;
        element_kind =
            each_at (λ (s : SummaryParts). s.kind ≡ kinds.Phylum takes.list.element) elements now element takes.element_kinds
            small at;
        rest_kind = it.kind;
        summaries = (each_at (IsSummary def) elements now element takes.usual.1 small at, (it.usual, tt));
      }

  pub cell_answers : (l : ℕ) (element rest s : SummaryParts) (answer : Result SummaryParts EvalFault)
      → ((e r : Fragment) → IsSummaryOf def e element → IsSummaryOf def r rest → Answers def (cell l e r) answer)
      → answer ≡ Ok s → IsOfCells def l element rest s
  cell_answers l element rest s answer h is e r of_element of_rest =
      subst (Answers def (cell l e r)) is (h e r of_element of_rest)

  pub cells_more : (l : ℕ) (elements : List SummaryParts) (behind : SummaryParts) (left now : ℕ) (element rest s : SummaryParts)
      (made longer : List SummaryParts) → left ≡ suc now → now < length elements
      → element ≡ get_or elements now element → rest ≡ first_or behind (reverse made)
      → longer ≡ made ++ s ∷ [] → IsOfCells def l element rest s
      → AreOfCells def l (drop left elements) behind (reverse made)
      → AreOfCells def l (drop now elements) behind (reverse longer)
  cells_more l elements behind left now element rest s made longer step small at latest more h before =
      let split : drop now elements ≡ element ∷ drop left elements =
      drop-cons elements now element small ∙ ap₂ (λ x k. x ∷ drop k elements) (sym at) (sym step) in
      let turned : reverse longer ≡ s ∷ reverse made = ap reverse more ∙ reverse_push made s in
      let here : AreOfCells def l (element ∷ drop left elements) behind (s ∷ reverse made) =
      (subst (λ r. IsOfCells def l element r s) latest h, before) in
      subst (λ bs. AreOfCells def l bs behind (reverse longer)) (sym split)
      (subst (λ ss. AreOfCells def l (element ∷ drop left elements) behind ss) (sym turned) here)

  pub suffixes_more : (l : ℕ) (s : SummaryParts) (answer : Result SummaryParts EvalFault) (made longer : List SummaryParts)
      → longer ≡ made ++ s ∷ [] → answer ≡ Ok s
      → IfOk answer (IsSummary def) → IfOk answer (λ (x : SummaryParts). x.kind ≡ kinds.List l)
      → AllByRecursion (IsSuffix l) (reverse made) → AllByRecursion (IsSuffix l) (reverse longer)
  suffixes_more l s answer made longer more is usual kind h =
      let U : Result SummaryParts EvalFault → Type 0 = λ x. IfOk x (IsSummary def) in
      let K : Result SummaryParts EvalFault → Type 0 = λ x. IfOk x (λ (k : SummaryParts). k.kind ≡ kinds.List l) in
      let it : IsSuffix l s = record {
        usual = subst U is usual;
        kind = subst K is kind;
      } in
      subst (AllByRecursion (IsSuffix l)) (sym (ap reverse more ∙ reverse_push made s)) (it, h)

  -- ---- what the cells are, and the fault of one

  pub cells_known : (path : Path) (l : ℕ) (es : List Fragment) (r : Fragment) (bs : List SummaryParts) (behind : SummaryParts)
      (ss : List SummaryParts) → AllSummaries def es bs → IsSummaryOf def r behind → AreWithin def (list_steps def path r)
      → AreOfCells def l bs behind ss
      → IsSummaryOf def (cells_of l es r) (first_or behind ss) × AreWithin def (list_steps def path (cells_of l es r))
  cells_known path l [] r [] behind [] are summary clean h = (summary, clean)
  cells_known path l [] r [] behind (s ∷ ss) are summary clean h = absurd h
  cells_known path l [] r (b ∷ bs) behind ss are summary clean h = absurd are
  cells_known path l (e ∷ es) r [] behind ss are summary clean h = absurd are
  cells_known path l (e ∷ es) r (b ∷ bs) behind [] are summary clean h = absurd h
  cells_known path l (e ∷ es) r (b ∷ bs) behind (s ∷ ss) are summary clean h =
      let rest = cells_known path l es r bs behind ss are.1 summary clean h.1 in
      let answer = h.0 e (cells_of l es r) are.0 rest.0 in (
        answer.0,
        within-append def (list_steps def path (cells_of l es r)) (own_steps def path (cell l e (cells_of l es r)))
            rest.1 (own_within def path (cell l e (cells_of l es r)) answer.1),
      )

  fault_of_rest : (path : Path) (l : ℕ) (r : Fragment) (fault : NoteFault) (i : ℕ) (es : List Fragment)
      → IsStepFault def (list_steps def path (cells_of l (drop i es) r)) fault
      → IsStepFault def (list_steps def path (cells_of l es r)) fault
  fault_of_rest path l r fault zero es h = h
  fault_of_rest path l r fault (suc i) [] h = h
  fault_of_rest path l r fault (suc i) (e ∷ es) h =
      fault-left def (list_steps def path (cells_of l es r)) (own_steps def path (cell l e (cells_of l es r))) fault
      (fault_of_rest path l r fault i es h)

  -- the summaries behind a place
  pub all_behind : (es : List Fragment) (elements : List SummaryParts) → AllSummaries def es elements → (i : ℕ)
      → AllSummaries def (drop i es) (drop i elements)
  all_behind es elements h zero = h
  all_behind [] [] h (suc i) = tt
  all_behind [] (y ∷ ys) h (suc i) = absurd h
  all_behind (f ∷ fs) [] h (suc i) = absurd h
  all_behind (f ∷ fs) (y ∷ ys) h (suc i) = all_behind fs ys h.1 i

  -- the tree at a place
  tree_at : (es : List Fragment) (elements : List SummaryParts) → AllSummaries def es elements → (i : ℕ) (x : SummaryParts)
      → i < length elements → x ≡ get_or elements i x
      → (e : Fragment) × (drop i es ≡ e ∷ drop (suc i) es) × IsSummaryOf def e x
  tree_at [] [] h i x l e = absurd (omega (arith, l))
  tree_at [] (y ∷ ys) h i x l e = absurd h
  tree_at (f ∷ fs) [] h i x l e = absurd h
  tree_at (f ∷ fs) (y ∷ ys) h zero x l e = (f, refl, subst (IsSummaryOf def f) (sym e) h.0)
  tree_at (f ∷ fs) (y ∷ ys) h (suc i) x l e = tree_at fs ys h.1 i x (omega (arith, l)) e

  pub cell_fault : (path : Path) (l : ℕ) (elements : List SummaryParts) (behind : SummaryParts) (left now : ℕ)
      (element rest : SummaryParts) (made : List SummaryParts) (answer : Result SummaryParts EvalFault) (fault : NoteFault)
      → left ≡ suc now → now < length elements → element ≡ get_or elements now element
      → rest ≡ first_or behind (reverse made) → AreOfCells def l (drop left elements) behind (reverse made)
      → ((e r : Fragment) → IsSummaryOf def e element → IsSummaryOf def r rest → Answers def (cell l e r) answer)
      → IsAnswerFault path answer fault → IsCellsFault def path l elements behind fault
  cell_fault path l elements behind left now element rest made answer fault step small at latest before h f es r are
      of_behind clean =
      let (e, split, of_element) = tree_at es elements are now element small at in
      let places : drop now es ≡ e ∷ drop left es = split ∙ ap (λ k. e ∷ drop k es) (sym step) in
      let inner : Fragment = cells_of l (drop left es) r in
      let known = cells_known path l (drop left es) r (drop left elements) behind (reverse made)
      (all_behind es elements are left) of_behind clean before in
      let of_rest : IsSummaryOf def inner rest = subst (IsSummaryOf def inner) (sym latest) known.0 in
      fault_of_rest path l r fault now es
      (subst (λ (x : List Fragment). IsStepFault def (list_steps def path (cells_of l x r)) fault) (sym places)
      (fault-behind def (list_steps def path inner) (own_steps def path (cell l e inner)) fault known.1
      (own_fault def path (cell l e inner) answer fault (h e inner of_element of_rest) f)))

  -- ---- suffixes in front of suffixes

  front_first : (behind : SummaryParts) (rests ns : List SummaryParts)
      → (ts : List SummaryParts) × (ns ++ behind ∷ rests ≡ first_or behind ns ∷ ts)
  front_first behind rests [] = (rests, refl)
  front_first behind rests (n ∷ ns) = (ns ++ behind ∷ rests, refl)

  pub listed_front : (l : ℕ) (u : Bool) (bs : List SummaryParts) (behind : SummaryParts) (news below rests : List SummaryParts) (s : SummaryParts)
      (ts : List SummaryParts) → AreOfCells def l bs behind news → AreListed def l u below behind rests
      → s ∷ ts ≡ news ++ behind ∷ rests → AreListed def l u (bs ++ below) s ts
  listed_front l u [] behind [] below rests s ts h k e =
      let one : behind ≡ s = cc in
      let two : rests ≡ ts = cc in
      subst (λ x. AreListed def l u below x ts) one (subst (AreListed def l u below behind) two k)
  listed_front l u [] behind (n ∷ ns) below rests s ts h k e = absurd h
  listed_front l u (b ∷ bs) behind [] below rests s ts h k e = absurd h
  listed_front l u (b ∷ bs) behind (n ∷ ns) below rests s ts h k e =
      let (others, split) = front_first behind rests ns in
      let one : n ≡ s = cc in
      let two : first_or behind ns ∷ others ≡ ts = (let t : ns ++ behind ∷ rests ≡ ts = cc in sym split ∙ t) in
      let inner = listed_front l u bs behind ns below rests (first_or behind ns) others h.1 k (sym split) in
      let whole : AreListed def l u (b ∷ (bs ++ below)) n (first_or behind ns ∷ others) = (h.0, inner) in
      subst (λ x. AreListed def l u (b ∷ (bs ++ below)) x ts) one
      (subst (AreListed def l u (b ∷ (bs ++ below)) n) two whole)

  pub usual_front : (behind : SummaryParts) (news rests : List SummaryParts) (s : SummaryParts) (ts : List SummaryParts)
      → AllByRecursion (IsSummary def) news → AllByRecursion (IsSummary def) (behind ∷ rests)
      → s ∷ ts ≡ news ++ behind ∷ rests → AllByRecursion (IsSummary def) (s ∷ ts)
  usual_front behind news rests s ts h k e =
      subst (AllByRecursion (IsSummary def)) (sym e) (each_append (IsSummary def) news (behind ∷ rests) h k)

  -- ---- lists of trees

  pub answers_listed : (l : ℕ) (u : Bool) (es : List Fragment) (below : List SummaryParts) (s : SummaryParts) (rests : List SummaryParts)
      → length es ≡ length below → AreListed def l u below s rests → AreOfSuffixes def (list_of l es u) below s rests
  answers_listed l u [] [] s [] many h = h
  answers_listed l u [] [] s (t ∷ ts) many h = absurd h
  answers_listed l u [] (b ∷ bs) s rests many h = absurd (omega (arith, many))
  answers_listed l u (e ∷ es) [] s rests many h = absurd (omega (arith, many))
  answers_listed l u (e ∷ es) (b ∷ bs) s [] many h = absurd h
  answers_listed l u (e ∷ es) (b ∷ bs) s (t ∷ ts) many h =
      (h.0, answers_listed l u es bs t ts (omega (arith, many)) h.1)

  pub listed_answers : (l : ℕ) (u : Bool) (es : List Fragment) (below : List SummaryParts) (s : SummaryParts) (rests : List SummaryParts)
      → AreOfSuffixes def (list_of l es u) below s rests → AreListed def l u below s rests
  listed_answers l u [] [] s [] h = h
  listed_answers l u [] [] s (t ∷ ts) h = absurd h
  listed_answers l u [] (b ∷ bs) s rests h = absurd h
  listed_answers l u (e ∷ es) [] s rests h = absurd h
  listed_answers l u (e ∷ es) (b ∷ bs) s [] h = absurd h
  listed_answers l u (e ∷ es) (b ∷ bs) s (t ∷ ts) h = (h.0, listed_answers l u es bs t ts h.1)

-- ---- cells of lists

pub cells_end : (l : ℕ) (es : List Fragment) (u : Bool) → cells_of l es (ending l u) ≡ list_of l es u
cells_end l [] u = refl
cells_end l (e ∷ es) u = ap (cell l e) (cells_end l es u)

pub cells_split : (l : ℕ) (es ds : List Fragment) (u : Bool)
    → cells_of l es (list_of l ds u) ≡ list_of l (es ++ ds) u
cells_split l [] ds u = refl
cells_split l (e ∷ es) ds u = ap (cell l e) (cells_split l es ds u)
