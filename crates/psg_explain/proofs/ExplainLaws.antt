-- The first culprit of a tree, and what is said of it.
use Rattle.std.proofs.Common.{◌≡◌, ◌↔◌, Bor, ℕ, zero, suc, ◌+◌, ◌-◌, ◌^◌, ◌<◌, ◌≤◌, min, false, List, [], ◌∷◌, ◌++◌, map, length, Option, Some, None, slice_get, option_and_then, refl, ap, sym, ◌∙◌, subst, arith}
use Rattle.std.specs.List.{AllByRecursion}
use Rattle.std.specs.Option.{option_copied}
use Rattle.std.proofs.lemmas.List.Sums.{sum_by-cons}
use Rattle.std.proofs.lemmas.Option.{same_Some}
use Rattle.psg_terms.specs.Names.{has_twice}
use Rattle.psg_terms.proofs.Lists.{slice_get-front, slice_get-middle}
use Rattle.psg_grammar.specs.declared.types.Kind.{Kind}
use Rattle.psg_grammar.specs.declared.types.Definition.{Definition}
use Rattle.psg_grammar.specs.Fragments.{Fragment, hole, ending, cell, operator, with_child, with_name, with_number, with_text, anything, observed, children_of}
use Rattle.psg_grammar.specs.Keys.{Key}
use Rattle.psg_grammar.specs.Legal.{IsCompletable}
use Rattle.psg_grammar.specs.Marks.{Chosen, IsCulpritBy, IsMarkBy, Located, nodes_below, nodes_from, passed, path_of, taken, wrong}
use Rattle.psg_grammar.specs.Open.{IsOpen}
use Rattle.psg_grammar.specs.Paths.{Path, node_at}
use Rattle.psg_grammar.specs.Regions.{declared_inside}
use Rattle.psg_grammar.specs.WellFormed.{WellFormed}
use Rattle.psg_grammar.specs.Work.{work_of}
use Rattle.psg_cache.specs.Annotated.{Annotated, tree_in}
use Rattle.psg_cache.specs.Blames.{culprits_in}
use Rattle.psg_cache.specs.Completed.{IsByCompletions}
use Rattle.psg_cache.specs.Notes.{IsFormed, IsNoteOf, mark_by}
use Rattle.psg_cache.proofs.Counting.{together, work_split}
use Rattle.psg_cache.proofs.ChildLaws.{formed_below}
use Rattle.psg_cache.proofs.Each.{each_append}
use Rattle.psg_explain.specs.declared.explaining.Explained.TheVariants as explained
use Rattle.psg_explain.specs.declared.refutation.Claim.{Claim}
use Rattle.psg_explain.specs.declared.refutation.Refutation.{Refutation}
use Rattle.psg_explain.specs.declared.refutation.Refutation.TheVariants as refutations
use Rattle.psg_explain.specs.declared.stages.Stage.{Stage}
use Rattle.psg_explain.specs.Explanations.{HasPairs, IsAbout, IsExplained, IsFirstCulprit, IsFirstTwice, IsTrueAt, all_pairs_in, most_pairs}
use Rattle.psg_explain.specs.PairSums.{made_from}
use Rattle.psg_explain.specs.Claiming.{AreClaims}
use Rattle.psg_explain.specs.Plans.{halted, planned}
use Rattle.psg_explain.specs.Refutations.{ClaimTo, Refutes, rows_claimed}
use Rattle.psg_explain.specs.Relations.{AreRelations, HasRows, IsRelated}
use Rattle.psg_explain.specs.Sources.{AreStages}
use Rattle.psg_explain.specs.Walks.{At, Walks, ended}
use Rattle.psg_explain.proofs.ClaimingLaws.{claims_flow}
use Rattle.psg_explain.proofs.LastCases.{formed_node}
use Rattle.psg_explain.proofs.LightLaws.{light_steps}
use Rattle.psg_explain.proofs.OpenEnds.{closed_relations}
use Rattle.psg_explain.proofs.PlanBlocks.{node_below}
use Rattle.psg_explain.proofs.PlanFormed.{claims_planned, walked_of}
use Rattle.psg_explain.proofs.PlanLaws.{IsFront, IsRest, IsWalked, Rows}
use Rattle.psg_explain.proofs.PlanWalks.{walks_from}
use Rattle.psg_explain.proofs.SumLaws.{has_pairs}

-- ---- each node is at its path

module _ (root : Fragment) where
  abbrev IsThere : Located → Type 0
  IsThere l = node_at root l.path ≡ Some l.node

  -- the children of the part are children of the node, from this number on
  abbrev IsPartOf : Fragment → ℕ → Fragment → Type 0
  IsPartOf u n f = (j : ℕ) (t : Fragment) → slice_get (children_of f) j ≡ Some t → slice_get (children_of u) (n + j) ≡ Some t

  part_front : (u f t : Fragment) → IsPartOf u 0 (with_child f t) → IsPartOf u 0 f
  part_front u f t h j x at = h j x (slice_get-front (children_of f) (t ∷ []) j x at)

  last_part : (u f t : Fragment) → IsPartOf u 0 (with_child f t) → slice_get (children_of u) (length (children_of f)) ≡ Some t
  last_part u f t h =
      let e : 0 + length (children_of f) ≡ length (children_of f) = omega arith in
      ap (slice_get (children_of u)) (sym e) ∙ h (length (children_of f)) t (slice_get-middle (children_of f) t [])

  part_rest : (u : Fragment) (n l : ℕ) (e r : Fragment) → IsPartOf u n (cell l e r) → IsPartOf u (n + 1) r
  part_rest u n l e r h j t at = let k : n + 1 + j ≡ n + suc j = omega arith in ap (slice_get (children_of u)) k ∙ h (suc j) t at

  first_part : (u : Fragment) (n l : ℕ) (e r : Fragment) → IsPartOf u n (cell l e r) → slice_get (children_of u) n ≡ Some e
  first_part u n l e r h = let k : n ≡ n + 0 = omega arith in ap (slice_get (children_of u)) k ∙ h 0 e refl

  whole_part : (u : Fragment) → IsPartOf u 0 u
  whole_part u j t at = let k : 0 + j ≡ j = omega arith in ap (slice_get (children_of u)) k ∙ at

  mutual
    pub all_there : (f : Fragment) (path : Path) → IsWalked f → node_at root path ≡ Some f → AllByRecursion IsThere (nodes_from path f)
    all_there (hole p) path w h = (h, tt)
    all_there (ending l u) path w h = (h, tt)
    all_there (cell l e r) path (we, wr) h = (
      h,
      each_append IsThere (nodes_from (path ++ 0 ∷ []) e) (nodes_below path 1 r) (all_there e (path ++ 0 ∷ []) we (node_below 0 e path root (cell l e r) h refl))
          (rest_there r path 1 (cell l e r) wr h (part_rest (cell l e r) 0 l e r (whole_part (cell l e r)))),
    )
    all_there (operator o) path w h = (h, tt)
    all_there (with_child f t) path (wf, wt) h = (
      h,
      each_append IsThere (nodes_below path 0 f) (nodes_from (path ++ length (children_of f) ∷ []) t) (front_there f path (with_child f t) wf h (part_front (with_child f t) f t (whole_part (with_child f t))))
          (all_there t (path ++ length (children_of f) ∷ []) wt (node_below (length (children_of f)) t path root (with_child f t) h (last_part (with_child f t) f t (whole_part (with_child f t))))),
    )
    all_there (with_name f n) path w h = (h, front_there f path (with_name f n) w h (whole_part (with_name f n)))
    all_there (with_number f n) path w h = (h, front_there f path (with_number f n) w h (whole_part (with_number f n)))
    all_there (with_text f n) path w h = (h, front_there f path (with_text f n) w h (whole_part (with_text f n)))
    all_there anything path w h = absurd w
    all_there (observed f) path w h = absurd w

    front_there : (f : Fragment) (path : Path) (u : Fragment) → IsFront f → node_at root path ≡ Some u → IsPartOf u 0 f → AllByRecursion IsThere (nodes_below path 0 f)
    front_there (operator o) path u w h part = tt
    front_there (with_child f t) path u (wf, wt) h part =
        each_append IsThere (nodes_below path 0 f) (nodes_from (path ++ length (children_of f) ∷ []) t) (front_there f path u wf h (part_front u f t part))
        (all_there t (path ++ length (children_of f) ∷ []) wt (node_below (length (children_of f)) t path root u h (last_part u f t part)))
    front_there (with_name f n) path u w h part = front_there f path u w h part
    front_there (with_number f n) path u w h part = front_there f path u w h part
    front_there (with_text f n) path u w h part = front_there f path u w h part
    front_there (hole p) path u w h part = absurd w
    front_there (ending l v) path u w h part = absurd w
    front_there (cell l e r) path u w h part = absurd w
    front_there anything path u w h part = absurd w
    front_there (observed f) path u w h part = absurd w

    rest_there : (f : Fragment) (path : Path) (n : ℕ) (u : Fragment) → IsRest f → node_at root path ≡ Some u → IsPartOf u n f → AllByRecursion IsThere (nodes_below path n f)
    rest_there (ending l v) path n u w h part = tt
    rest_there (cell l e r) path n u (we, wr) h part =
        each_append IsThere (nodes_from (path ++ n ∷ []) e) (nodes_below path (n + 1) r) (all_there e (path ++ n ∷ []) we (node_below n e path root u h (first_part u n l e r part)))
        (rest_there r path (n + 1) u wr h (part_rest u n l e r part))
    rest_there (hole p) path n u w h part = absurd w
    rest_there (operator o) path n u w h part = absurd w
    rest_there (with_child f t) path n u w h part = absurd w
    rest_there (with_name f m) path n u w h part = absurd w
    rest_there (with_number f m) path n u w h part = absurd w
    rest_there (with_text f m) path n u w h part = absurd w
    rest_there anything path n u w h part = absurd w
    rest_there (observed f) path n u w h part = absurd w

-- ---- the first culprit

chosen_first : {X : Type 0} (P Q : X → Type 0) (xs : List X) (y : X) (ys : List X) → Chosen P xs (y ∷ ys) → AllByRecursion Q xs → P y × Q y
chosen_first P Q [] y ys c h = elim c [ ]
chosen_first P Q (x ∷ xs) y ys (taken p c) (h, hs) = (p, h)
chosen_first P Q (x ∷ xs) y ys (passed p c) (h, hs) = chosen_first P Q xs y ys c hs

pub culprit_node : (P : Fragment → Type 0) (f : Fragment) → IsWalked f → (path : Path) (others : List Path) → IsMarkBy P f (wrong (path ∷ others))
    → (node : Fragment) × (node_at f path ≡ Some node) × (P node → ⊥) × AllByRecursion P (children_of node)
culprit_node P f walked path others (bad, ([], c, e)) = absurd (cc)
culprit_node P f walked path others (bad, (l ∷ ls, c, e)) =
    let (p, there) = chosen_first (IsCulpritBy P) (λ (x : Located). node_at f x.path ≡ Some x.node) (nodes_from [] f) l ls c (all_there f f [] walked refl) in
    let same : path ≡ path_of l = cc in
    (l.node, ap (node_at f) same ∙ there, p.0, p.1)

module _ (def : Definition) where
  pub first_culprit : (f : Fragment) → IsFormed def f → (paths : List Path) (path : Path) (others : List Path) → paths ≡ path ∷ others → IsMarkBy (IsCompletable def) f (mark_by paths)
      → (node : Fragment) × IsFirstCulprit def f path node
  first_culprit f (kind, (fits, plain)) paths path others e mark =
      let is : IsMarkBy (IsCompletable def) f (wrong (path ∷ others)) = subst (λ (l : List Path). IsMarkBy (IsCompletable def) f (mark_by l)) e mark in
      let (node, there, bad, below) = culprit_node (IsCompletable def) f (walked_of def f kind fits plain) path others is in
      (node, record { others = others; mark = is; there = there })

  pub no_culprit : (f : Fragment) (paths : List Path) → paths ≡ [] → IsMarkBy (IsCompletable def) f (mark_by paths) → IsCompletable def f
  no_culprit f paths e mark = subst (λ (l : List Path). IsMarkBy (IsCompletable def) f (mark_by l)) e mark

  pub culprit_closed : (f : Fragment) → IsFormed def f → (path : Path) (node : Fragment) → IsFirstCulprit def f path node → IsFormed def node
      → ((g : Fragment) (kind : Kind) → WellFormed def g kind → IsOpen def g ↔ IsCompletable def g) → IsOpen def node → ⊥
  culprit_closed f (kind, (fits, plain)) path node culprit (own, formed) both is_open =
      let (other, there, bad, below) = culprit_node (IsCompletable def) f (walked_of def f kind fits plain) path culprit.others culprit.mark in
      let same : other ≡ node = same_Some other node (sym there ∙ culprit.there) in
      bad (subst (IsCompletable def) (sym same) ((both node own formed).0 is_open))

  -- its children have a completion
  pub culprit_children : (f : Fragment) → IsFormed def f → (path : Path) (node : Fragment) → IsFirstCulprit def f path node → AllByRecursion (IsCompletable def) (children_of node)
  culprit_children f (kind, (fits, plain)) path node culprit =
      let (other, there, bad, below) = culprit_node (IsCompletable def) f (walked_of def f kind fits plain) path culprit.others culprit.mark in
      let same : other ≡ node = same_Some other node (sym there ∙ culprit.there) in
      subst (λ (g : Fragment). AllByRecursion (IsCompletable def) (children_of g)) same below

  all_open : ((g : Fragment) (kind : Kind) → WellFormed def g kind → IsOpen def g ↔ IsCompletable def g) → (ts : List Fragment) → AllByRecursion (IsFormed def) ts → AllByRecursion (IsCompletable def) ts → AllByRecursion (IsOpen def) ts
  all_open both [] h c = tt
  all_open both (t ∷ ts) ((kind, formed), h) (one, c) = ((both t kind formed).1 one, all_open both ts h c)

  -- its children are open
  pub open_children : (f : Fragment) → IsFormed def f → (path : Path) (node : Fragment) → IsFirstCulprit def f path node → IsFormed def node
      → ((g : Fragment) (kind : Kind) → WellFormed def g kind → IsOpen def g ↔ IsCompletable def g) → AllByRecursion (IsOpen def) (children_of node)
  open_children f formed path node culprit (kind, (fits, plain)) both =
      all_open both (children_of node) (formed_below def node [] kind fits plain) (culprit_children f formed path node culprit)

-- ---- a node takes no more work than the tree

work_among : (ts : List Fragment) (k : ℕ) (t : Fragment) → slice_get ts k ≡ Some t → work_of t ≤ together ts
work_among [] k t h = absurd (cc)
work_among (x ∷ ts) zero t h = let e : x ≡ t = cc in let s = sum_by-cons work_of x ts in let w = ap work_of e in omega (arith, s, w)
work_among (x ∷ ts) (suc k) t h = let le = work_among ts k t h in let s = sum_by-cons work_of x ts in omega (arith, s, le)

pub work_at : (path : Path) (f node : Fragment) → node_at f path ≡ Some node → work_of node ≤ work_of f
work_at [] f node h = let e : f ≡ node = cc in let w = ap work_of e in omega (arith, w)
work_at (k ∷ path) f node h = under (slice_get (children_of f) k) refl (λ c e. work_at path c node e) h
  where
    under : (o : Option Fragment) → slice_get (children_of f) k ≡ o → ((c : Fragment) → node_at c path ≡ Some node → work_of node ≤ work_of c) → option_and_then (λ (t : Fragment). node_at t path) o ≡ Some node → work_of node ≤ work_of f
    under None e more h = absurd (cc)
    under (Some c) e more h =
        let one = more c h in
        let two = work_among (children_of f) k c e in
        let three = work_split f in
        omega (arith, one, two, three)

-- ---- what is noted of the tree

pub first_item : {X : Type 0} (xs : List X) (r : Option (Bor X)) (x : Bor X) → option_copied r ≡ slice_get xs 0 → r ≡ Some x → (ys : List X) × (xs ≡ x.now ∷ ys)
first_item [] r x e h = let d : None ≡ Some x.now = sym e ∙ ap option_copied h in absurd (cc)
first_item (y ∷ ys) r x e h = let d : Some y ≡ Some x.now = sym e ∙ ap option_copied h in let same : y ≡ x.now = cc in (ys, ap (λ z. z ∷ ys) same)

pub no_first : {X : Type 0} (xs : List X) (r : Option (Bor X)) → option_copied r ≡ slice_get xs 0 → r ≡ None → xs ≡ []
no_first [] r e h = refl
no_first (y ∷ ys) r e h = let d : Some y ≡ None = sym e ∙ ap option_copied h in absurd (cc)

module _ (def : Definition) (note : Annotated) (is : IsNoteOf def (tree_in note) note) where
  pub culprits_are : IsByCompletions def (tree_in note) note → (paths : List Path) → paths ≡ culprits_in note → IsMarkBy (IsCompletable def) (tree_in note) (mark_by paths)
  culprits_are tells paths e = subst (λ (l : List Path). IsMarkBy (IsCompletable def) (tree_in note) (mark_by l)) (sym e) tells.culprits

  module _ (path : Path) (node : Fragment) (culprit : IsFirstCulprit def (tree_in note) path node) where
    pub culprit_formed : IsFormed def node
    culprit_formed = formed_node def (tree_in note) path node is.formed culprit.there

    pub culprit_related : (stages kept : List Stage) → kept ≡ stages → AreStages def stages (planned def 0 path node) → IsRelated def (tree_in note) path node kept
    culprit_related stages kept e are = by culprit_formed
      where
        by : IsFormed def node → IsRelated def (tree_in note) path node kept
        by (kind, (fits, plain)) = record {
          there = culprit.there;
          formed = (kind, (fits, plain));
          stages_are = subst (λ (l : List Stage). AreStages def l (planned def 0 path node)) (sym e) are;
          light = light_steps def (tree_in note) path node is.within.narrow culprit.there (walked_of def node kind fits plain);
        }

    pub culprit_relations : ((g : Fragment) (kind : Kind) → WellFormed def g kind → IsOpen def g ↔ IsCompletable def g) → (rows : List Rows) → HasRows def path node rows → AreRelations def path node rows
    culprit_relations both rows has =
        let closed = culprit_closed def (tree_in note) is.formed path node culprit culprit_formed both in
        closed_relations def (tree_in note) path node culprit_formed.0 culprit_formed.1 culprit.there closed rows has

    pub culprit_pairs : (rows : List Rows) → AreRelations def path node rows → HasPairs def path node (all_pairs_in (made_from def [] (planned def 0 path node) rows))
    culprit_pairs rows relations = by culprit_formed
      where
        by : IsFormed def node → HasPairs def path node (all_pairs_in (made_from def [] (planned def 0 path node) rows))
        by (kind, (fits, plain)) = has_pairs def path node rows (walked_of def node kind fits plain) relations

-- ---- what is said

module _ (def : Definition) (f : Fragment) (path : Path) (node : Fragment) (culprit : IsFirstCulprit def f path node) where
  pub told_long : (n pairs : ℕ) → HasPairs def path node n → pairs ≡ min n (2 ^ 128 - 1) → most_pairs < pairs → IsExplained def f explained.Long
  told_long n pairs has e more = (path, node, culprit, n, has, omega (arith, e, more))

  pub told_wrong : (n pairs : ℕ) (r : Refutation) → HasPairs def path node n → pairs ≡ min n (2 ^ 128 - 1) → pairs ≤ most_pairs → Refutes def f r × IsAbout def path node r
      → IsExplained def f (explained.Wrong r)
  told_wrong n pairs r has e few (refutes, about) = (path, node, culprit, n, has, omega (arith, e, few), refutes, about)

module _ (def : Definition) (root : Fragment) (path : Path) (node : Fragment) (there : node_at root path ≡ Some node) where
  pub twice_said : (itself : Path) (space : ℕ) (name : List ℕ) (ks : List Key) → itself ≡ path → ks ≡ declared_inside def node → IsFirstTwice ks (space ∷ name)
      → Refutes def root (refutations.Twice itself space name) × IsAbout def path node (refutations.Twice itself space name)
  twice_said itself space name ks e same first =
      let here : IsFirstTwice (declared_inside def node) (space ∷ name) = subst (λ (l : List Key). IsFirstTwice l (space ∷ name)) same first in
      ((node, ap (node_at root) e ∙ there, here.twice), (e, here))

  pub empty_said : (itself : Path) (claims all : List Claim) (ks : List Key) → itself ≡ path → all ≡ claims → ks ≡ declared_inside def node → has_twice ks ≡ false
      → (last : At) × ClaimTo def path node claims last × Walks def rows_claimed (IsTrueAt def) path node claims (ended last)
      → Refutes def root (refutations.Empty itself all) × IsAbout def path node (refutations.Empty itself all)
  empty_said itself claims all ks e whole same once (last, claim, walk) =
      let moved : ClaimTo def itself node all last = subst (λ (l : List Claim). ClaimTo def itself node l last) (sym whole) (subst (λ (p : Path). ClaimTo def p node claims last) (sym e) claim) in
      let true_walk : Walks def rows_claimed (IsTrueAt def) path node all (ended last) = subst (λ (l : List Claim). Walks def rows_claimed (IsTrueAt def) path node l (ended last)) (sym whole) walk in
      ((node, ap (node_at root) e ∙ there, last, moved), (e, sym (ap has_twice same) ∙ once, (last, true_walk)))

module _ (def : Definition) (path : Path) (node : Fragment) where
  -- claims on all steps of a node up to the one without rows
  pub claims_said : IsFormed def node → (claims : List Claim) → AreClaims def [] (planned def 0 path node) claims → AreRelations def path node (map rows_claimed claims)
      → (last : At) × ClaimTo def path node claims last × Walks def rows_claimed (IsTrueAt def) path node claims (ended last)
  claims_said (kind, (fits, plain)) claims are (last, flow) =
      let walked = walked_of def node kind fits plain in
      let (claimed, real) = claims_flow def [] (planned def 0 path node) claims last are flow in
      (last, (claims_planned def path node claims last walked).1 claimed, walks_from def rows_claimed (IsTrueAt def) node path 0 [] claims (halted last) walked refl real)
