-- A list whose first cells are new in front of suffixes that were kept.
use Rattle.std.proofs.Common.{◌≡◌, ℕ, zero, suc, ◌≤◌, Bool, List, [], ◌∷◌, ◌++◌, map, length, take, drop, slice_get, Some, refl, sym, ◌∙◌, ap, subst, arith}
use Rattle.std.specs.List.{AllByRecursion}
use Rattle.std.proofs.lemmas.List.{length-map, take-append-drop}
use Rattle.std.proofs.lemmas.Option.{none-some, same_Some}
use Rattle.psg_terms.proofs.Lists.{each_take}
use Rattle.psg_grammar.specs.declared.types.Definition.{Definition}
use Rattle.psg_grammar.specs.declared.types.Kind.TheVariants as kinds
use Rattle.psg_grammar.specs.Fragments.{Fragment, children_of, top_operator}
use Rattle.psg_grammar.specs.Paths.{Path, IsList}
use Rattle.psg_grammar.specs.Steps.{AreWithin, list_steps}
use Rattle.psg_tree.specs.Shapes.{list_of}
use Rattle.psg_tree.proofs.Children.{children-list}
use Rattle.psg_eval.specs.declared.summary.SummaryParts.{SummaryParts}
use Rattle.psg_eval.specs.Summaries.{AllSummaries, IsSummary, IsSummaryOf}
use Rattle.psg_cache.specs.declared.note.NoteFault.{NoteFault}
use Rattle.psg_cache.specs.Annotated.{Annotated, tree_in, whole_in, rests_in, below_in}
use Rattle.psg_cache.specs.Changes.{IsKept}
use Rattle.psg_cache.specs.Noted.{IsAnswered, IsNoted, IsNotedAs, IsOfCells, IsOfNodes}
use Rattle.psg_cache.specs.Notes.{IsFormed}
use Rattle.psg_cache.specs.Renoting.{AreOfCells, cells_of, first_or, IsCellsFault, TakesCells}
use Rattle.psg_cache.specs.Walks.{AreListed, AreNotesOf, IsMadeOf, IsNumbered, IsStepFault, IsTop, TakesElements, top_steps}
use Rattle.psg_cache.proofs.Carrying.{nodes-put}
use Rattle.psg_cache.proofs.CellLaws.{all_behind, answers_listed, cells_split, listed_answers, listed_front, usual_front}
use Rattle.psg_cache.proofs.Each.{each_got}
use Rattle.psg_cache.proofs.ListLaws.{list_kind_is, list_takes, top_list_steps}
use Rattle.psg_cache.proofs.NoteLaws.{list_known}
use Rattle.psg_cache.proofs.NoteParts.{noted_parts}
use Rattle.psg_cache.proofs.RealTrees.{IsReal, real}
use Rattle.psg_cache.proofs.TopLaws.{answered_nodes, list_answered, listed_top, nodes_answered}
use Rattle.psg_cache.proofs.WalkLaws.{formed_children, made_noted, notes_summaries, notes_usual}

each_behind : {X : Type 0} (P : X → Type 0) (k : ℕ) (xs : List X) → AllByRecursion P xs → AllByRecursion P (drop k xs)
each_behind P zero xs h = h
each_behind P (suc k) [] h = tt
each_behind P (suc k) (x ∷ xs) h = each_behind P k xs h.1

is_list : (l : ℕ) (es : List Fragment) (u : Bool) → IsList (list_of l es u)
is_list l [] u = tt
is_list l (e ∷ es) u = tt

real_behind : (l : ℕ) (es : List Fragment) (u : Bool) (k : ℕ) → IsReal (list_of l es u)
    → IsReal (list_of l (drop k es) u)
real_behind l es u zero h = h
real_behind l [] u (suc k) h = h
real_behind l (e ∷ es) u (suc k) h = real_behind l es u k h.1

module _ (def : Definition) where
  all_front : (es : List Fragment) (elements : List SummaryParts) → AllSummaries def es elements → (i : ℕ)
      → AllSummaries def (take i es) (take i elements)
  all_front es elements h zero = tt
  all_front [] [] h (suc i) = tt
  all_front [] (y ∷ ys) h (suc i) = absurd h
  all_front (f ∷ fs) [] h (suc i) = absurd h
  all_front (f ∷ fs) (y ∷ ys) h (suc i) = (h.0, all_front fs ys h.1 i)

  pub as_many : (cs : List Fragment) (below : List SummaryParts) → AllSummaries def cs below → length cs ≡ length below
  as_many [] [] h = refl
  as_many [] (s ∷ ss) h = absurd h
  as_many (c ∷ cs) [] h = absurd h
  as_many (c ∷ cs) (s ∷ ss) h = let e = as_many cs ss h.1 in omega (arith, e)

  listed_length : (l : ℕ) (u : Bool) (bs : List SummaryParts) (s : SummaryParts) (ts : List SummaryParts) → AreListed def l u bs s ts
      → length ts ≡ length bs
  listed_length l u [] s [] h = refl
  listed_length l u [] s (t ∷ ts) h = absurd h
  listed_length l u (b ∷ bs) s [] h = absurd h
  listed_length l u (b ∷ bs) s (t ∷ ts) h = let e = listed_length l u bs t ts h.1 in omega (arith, e)

  listed_drop : (l : ℕ) (u : Bool) (bs : List SummaryParts) (s : SummaryParts) (ts : List SummaryParts) → AreListed def l u bs s ts
      → (k : ℕ) (x : SummaryParts) → Some x ≡ slice_get (s ∷ ts) k → AreListed def l u (drop k bs) x (drop k ts)
  listed_drop l u bs s ts h zero x e =
      subst (λ y. AreListed def l u bs y ts) (same_Some s x (sym e)) h
  listed_drop l u [] s [] h (suc k) x e = absurd (none-some x (sym e))
  listed_drop l u [] s (t ∷ ts) h (suc k) x e = absurd h
  listed_drop l u (b ∷ bs) s [] h (suc k) x e = absurd h
  listed_drop l u (b ∷ bs) s (t ∷ ts) h (suc k) x e = listed_drop l u bs t ts h.1 k x e

  -- the answers that a list's note keeps
  noted_list : (n : Annotated) (l : ℕ) (u : Bool) → IsNoted def n → tree_in n ≡ list_of l (children_of (tree_in n)) u
      → AreListed def l u (map whole_in (below_in n)) (whole_in n) (rests_in n)
  noted_list n l u noted same =
      let top = (noted_parts def n noted).0 in
      let es : List Fragment = children_of (tree_in n) in
      let below : List SummaryParts = map whole_in (below_in n) in
      listed_answers def l u es below (whole_in n) (rests_in n)
      (list_answered def l es u below (whole_in n) (rests_in n)
      (subst (λ f. IsAnswered def f below (whole_in n) (rests_in n)) same top.answered))

  -- as many suffixes behind its elements as there are elements
  pub rests_length : (n : Annotated) (l : ℕ) (u : Bool) → IsNoted def n
      → tree_in n ≡ list_of l (children_of (tree_in n)) u → length (rests_in n) ≡ length (below_in n)
  rests_length n l u noted same =
      listed_length l u (map whole_in (below_in n)) (whole_in n) (rests_in n) (noted_list n l u noted same)
      ∙ length-map (below_in n) whole_in

  -- what is known where so many cells are made anew
  record IsRemade (l : ℕ) (es : List Fragment) (u : Bool) (front behind : ℕ) (n : Annotated) (below : List Annotated)
      (kept : SummaryParts) : Type 0 where
    formed : IsFormed def (list_of l es u)
    summaries : AllSummaries def es (map whole_in below)
    usual : AllByRecursion (IsSummary def) (map whole_in below)
    listed : AreListed def l u (drop front (map whole_in below)) kept (drop behind (rests_in n))
    known : IsSummaryOf def (list_of l (drop front es) u) kept
        × ((path : Path) → AreWithin def (list_steps def path (list_of l (drop front es) u)))
    suffixes : AllByRecursion (IsSummary def) (kept ∷ drop behind (rests_in n))

  remade : (made : Fragment) (l : ℕ) (es : List Fragment) (u : Bool) (first front behind : ℕ) (n : Annotated)
      (below : List Annotated) (kept : SummaryParts) → made ≡ list_of l es u → IsFormed def made
      → AreNotesOf def (children_of made) below → IsKept def n first behind front made below
      → Some kept ≡ slice_get (whole_in n ∷ rests_in n) behind → IsRemade l es u front behind n below kept
  remade made l es u first front behind n below kept same formed notes is at =
      let here : IsFormed def (list_of l es u) = subst (IsFormed def) same formed in
      let children : children_of made ≡ es = ap children_of same ∙ children-list l es u in
      let own : AreNotesOf def es below = subst (λ cs. AreNotesOf def cs below) children notes in
      let each : AllByRecursion (IsFormed def) es =
      subst (AllByRecursion (IsFormed def)) (children-list l es u) (formed_children def (list_of l es u) here) in
      let summaries = notes_summaries def es below each own in
      let same_rest : drop front (map whole_in below) ≡ drop behind (map whole_in (below_in n)) =
      is.kept in
      let old = noted_list n l u is.noted (is.lists l es u same) in
      let listed : AreListed def l u (drop front (map whole_in below)) kept (drop behind (rests_in n)) =
      subst (λ bs. AreListed def l u bs kept (drop behind (rests_in n))) (sym same_rest)
      (listed_drop l u (map whole_in (below_in n)) (whole_in n) (rests_in n) old behind kept at) in
      let rest = all_behind def es (map whole_in below) summaries front in
      let suffix : Fragment = list_of l (drop front es) u in
      record {
        formed = here;
        summaries = summaries;
        usual = notes_usual def below own.1;
        listed = listed;
        known =
            list_known def suffix (real_behind l es u front (real def (list_of l es u) here)) (is_list l (drop front es) u)
            (drop front (map whole_in below)) kept (drop behind (rests_in n))
            (subst (λ cs. AllSummaries def cs (drop front (map whole_in below))) (sym (children-list l (drop front es) u))
            rest)
            (answers_listed def l u (drop front es) (drop front (map whole_in below)) kept (drop behind (rests_in n))
            (as_many (drop front es) (drop front (map whole_in below)) rest) listed);
        suffixes =
            let all = (noted_parts def n is.noted).0.usual in (
              each_got (IsSummary def) (whole_in n ∷ rests_in n) behind kept all (sym at),
              each_behind (IsSummary def) behind (rests_in n) all.1,
            );
      }

  pub remade_takes : (made : Fragment) (l : ℕ) (es : List Fragment) (u : Bool) (first front behind : ℕ) (n : Annotated)
      (below : List Annotated) (kept : SummaryParts) → made ≡ list_of l es u → IsFormed def made
      → AreNotesOf def (children_of made) below → IsKept def n first behind front made below
      → Some kept ≡ slice_get (whole_in n ∷ rests_in n) behind
      → TakesCells def l (take front (map whole_in below)) kept
  remade_takes made l es u first front behind n below kept same formed notes is at =
      let h = remade made l es u first front behind n below kept same formed notes is at in
      let takes : TakesElements def l u (map whole_in below) =
      list_takes def l es u h.formed.0 (map whole_in below) h.formed.1 h.summaries h.usual in
      record {
        list = takes.list;
        found = takes.found;
        element_kinds =
            each_take (λ (s : SummaryParts). s.kind ≡ kinds.Phylum takes.list.element) front (map whole_in below)
            takes.element_kinds;
        rest_kind = list_kind_is def l (drop front es) u kept h.known.0;
        usual = (h.suffixes.0, each_take (IsSummary def) front (map whole_in below) takes.usual);
      }

  pub remade_fault : (path : Path) (made : Fragment) (l : ℕ) (es : List Fragment) (u : Bool) (first front behind : ℕ)
      (n : Annotated) (below : List Annotated) (kept : SummaryParts) (fault : NoteFault) → made ≡ list_of l es u
      → IsFormed def made → AreNotesOf def (children_of made) below → IsKept def n first behind front made below
      → Some kept ≡ slice_get (whole_in n ∷ rests_in n) behind
      → IsCellsFault def path l (take front (map whole_in below)) kept fault
      → IsStepFault def (top_steps def path made) fault
  remade_fault path made l es u first front behind n below kept fault same formed notes is at f =
      let h = remade made l es u first front behind n below kept same formed notes is at in
      let whole : cells_of l (take front es) (list_of l (drop front es) u) ≡ list_of l es u =
      cells_split l (take front es) (drop front es) u ∙ ap (λ x. list_of l x u) (take-append-drop front es) in
      subst (λ x. IsStepFault def (top_steps def path x) fault) (sym same)
      (subst (λ x. IsStepFault def x fault) (sym (top_list_steps def path l es u))
      (subst (λ x. IsStepFault def (list_steps def path x) fault) whole
      (f (take front es) (list_of l (drop front es) u) (all_front es (map whole_in below) h.summaries front) h.known.0
      (h.known.1 path))))

  pub remade_noted : (made : Fragment) (l : ℕ) (es : List Fragment) (u : Bool) (first front behind : ℕ) (n : Annotated)
      (below : List Annotated) (kept : SummaryParts) (news : List SummaryParts) (s : SummaryParts) (ts : List SummaryParts) (note : Annotated)
      → made ≡ list_of l es u → IsFormed def made → AreNotesOf def (children_of made) below
      → IsKept def n first behind front made below → Some kept ≡ slice_get (whole_in n ∷ rests_in n) behind
      → AreOfCells def l (take front (map whole_in below)) kept news → AllByRecursion (IsSummary def) news
      → s ∷ ts ≡ news ++ kept ∷ drop behind (rests_in n) → IsMadeOf made s ts below note → IsNotedAs def made note
  remade_noted made l es u first front behind n below kept news s ts note same formed notes is at cells usual all make =
      let h = remade made l es u first front behind n below kept same formed notes is at in
      let wholes : List SummaryParts = map whole_in below in
      let listed : AreListed def l u wholes s ts =
      subst (λ bs. AreListed def l u bs s ts) (take-append-drop front wholes)
      (listed_front def l u (take front wholes) kept news (drop front wholes) (drop behind (rests_in n)) s ts cells
      h.listed all) in
      let top : IsTop def made wholes s ts =
      subst (λ x. IsTop def x wholes s ts) (sym same)
      (listed_top def l es u wholes s ts h.summaries
      (listed, usual_front def kept news (drop behind (rests_in n)) s ts usual h.suffixes all)) in
      made_noted def made below s ts note notes top make

  -- the kept suffix is there
  pub kept_within : (made : Fragment) (l first front behind : ℕ) (n : Annotated) (below : List Annotated)
      → IsNumbered l made → IsKept def n first behind front made below → behind ≤ length (rests_in n)
  kept_within made l first front behind n below (es, u, same) is =
      let many = rests_length n l u is.noted (is.lists l es u same) in
      let small = is.within.0 in
      omega (arith, many, small)

  pub first_within : (made : Fragment) (l first front behind : ℕ) (n : Annotated) (below : List Annotated)
      → IsNumbered l made → IsKept def n first behind front made below → first ≤ length (rests_in n)
  first_within made l first front behind n below numbered is =
      let small = kept_within made l first front behind n below numbered is in
      let few = is.fewer.0 in
      omega (arith, small, few)

  -- ---- the old cells of the first elements

  first_there : (t : SummaryParts) (ts : List SummaryParts) (k : ℕ) (x : SummaryParts) → Some x ≡ slice_get (t ∷ ts) k
      → t ≡ first_or x (take k (t ∷ ts))
  first_there t ts zero x e = same_Some t x (sym e)
  first_there t ts (suc k) x e = refl

  listed_take : (l : ℕ) (u : Bool) (bs : List SummaryParts) (s : SummaryParts) (ts : List SummaryParts) → AreListed def l u bs s ts
      → (k : ℕ) (x : SummaryParts) → Some x ≡ slice_get (s ∷ ts) k → AreOfCells def l (take k bs) x (take k (s ∷ ts))
  listed_take l u bs s ts h zero x e = tt
  listed_take l u [] s [] h (suc k) x e = absurd (none-some x (sym e))
  listed_take l u [] s (t ∷ ts) h (suc k) x e = absurd h
  listed_take l u (b ∷ bs) s [] h (suc k) x e = absurd h
  listed_take l u (b ∷ bs) s (t ∷ ts) h (suc k) x e =
      (subst (λ r. IsOfCells def l b r s) (first_there t ts k x e) h.0, listed_take l u bs t ts h.1 k x e)

  fewer_taken : (k m : ℕ) (xs : List SummaryParts) → k ≤ m → take k (take m xs) ≡ take k xs
  fewer_taken zero m xs small = refl
  fewer_taken (suc k) zero xs small = absurd (omega (arith, small))
  fewer_taken (suc k) (suc m) [] small = refl
  fewer_taken (suc k) (suc m) (x ∷ xs) small = ap (λ ys. x ∷ ys) (fewer_taken k m xs (omega (arith, small)))

  pub remade_olds : (made : Fragment) (l : ℕ) (es : List Fragment) (u : Bool) (first front behind : ℕ) (n : Annotated)
      (below : List Annotated) (was : SummaryParts) → made ≡ list_of l es u → IsKept def n first behind front made below
      → Some was ≡ slice_get (whole_in n ∷ rests_in n) first
      → AreOfCells def l (take first (take front (map whole_in below))) was (take first (whole_in n ∷ rests_in n))
  remade_olds made l es u first front behind n below was same is at =
      let old = noted_list n l u is.noted (is.lists l es u same) in
      let alike : take first (take front (map whole_in below)) ≡ take first (map whole_in (below_in n)) =
      fewer_taken first front (map whole_in below) is.fewer.1 ∙ is.first in
      subst (λ bs. AreOfCells def l bs was (take first (whole_in n ∷ rests_in n))) (sym alike)
      (listed_take l u (map whole_in (below_in n)) (whole_in n) (rests_in n) old first was at)

  pub olds_usual : (made : Fragment) (first front behind : ℕ) (n : Annotated) (below : List Annotated)
      → IsKept def n first behind front made below
      → AllByRecursion (IsSummary def) (take first (whole_in n ∷ rests_in n))
  olds_usual made first front behind n below is =
      each_take (IsSummary def) first (whole_in n ∷ rests_in n) (noted_parts def n is.noted).0.usual

  -- ---- a node whose children have the old summaries

  pub unchanged_noted : (made : Fragment) (o : ℕ) (first front behind : ℕ) (n : Annotated) (below : List Annotated)
      (note : Annotated) → top_operator made ≡ Some o → IsFormed def made → AreNotesOf def (children_of made) below
      → IsKept def n first behind front made below → front ≡ 0 → IsMadeOf made (whole_in n) [] below note
      → IsNotedAs def made note
  unchanged_noted made o first front behind n below note at formed notes is empty make =
      let (none, top, names) = is.nodes o at empty in
      let ws : List SummaryParts = map whole_in below in
      let olds : List SummaryParts = map whole_in (below_in n) in
      let wholes : ws ≡ olds = sym (ap (λ k. drop k ws) empty) ∙ is.kept ∙ ap (λ k. drop k olds) none in
      let parts = noted_parts def n is.noted in
      let old : IsOfNodes def (tree_in n) olds (whole_in n) =
      answered_nodes def (tree_in n) o olds (whole_in n) (rests_in n) top (real def (tree_in n) is.formed_old)
      parts.0.answered in
      let new : IsOfNodes def made ws (whole_in n) =
      nodes-put def (tree_in n) made ws (whole_in n) (at ∙ sym top) names
      (subst (λ x. IsOfNodes def (tree_in n) x (whole_in n)) (sym wholes) old) in
      let whole : IsTop def made ws (whole_in n) [] =
      (nodes_answered def made o ws (whole_in n) at (real def made formed) new, (parts.0.usual.0, tt)) in
      made_noted def made below (whole_in n) [] note notes whole make
