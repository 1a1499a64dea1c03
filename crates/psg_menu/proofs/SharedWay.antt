-- From the way of the name that stands for all candidates to that of a candidate.
use Rattle.std.proofs.Common.{◌≡◌, ◌↔◌, inl, inr, ℕ, zero, suc, ◌≤◌, Bool, true, false, List, [], ◌∷◌, ◌++◌, map, bytes_eq, option_map, slice_get, refl, ap, ap₂, sym, ◌∙◌, subst, true≢false, IsTrue}
use Rattle.std.proofs.lemmas.Option.{slice_get-map}
use Rattle.std.proofs.lemmas.List.{map-append}
use Rattle.std.proofs.lemmas.Bool.{false_from_ne_true, or_cases, or_parts}
use Rattle.std.specs.List.{list_any, AllByRecursion}
use Rattle.std.specs.Prelude.{Ok, Err}
use Rattle.psg_terms.specs.Names.{Name, is_among}
use Rattle.psg_grammar.specs.declared.types.Item.{Item}
use Rattle.psg_grammar.specs.declared.types.Item.TheVariants as items
use Rattle.psg_grammar.specs.declared.types.Definition.{Definition}
use Rattle.psg_grammar.specs.Fragments.{Fragment, hole, ending, cell, operator, with_child, with_name, with_number, with_text, anything, observed, children_of}
use Rattle.psg_grammar.specs.Keys.{Key}
use Rattle.psg_grammar.specs.Open.{IsOpen}
use Rattle.psg_grammar.specs.Sound.{IsSound}
use Rattle.psg_grammar.specs.Steps.{PassesAt, last_step}
use Rattle.psg_scope.specs.declared.header.NameCol.{NameCol}
use Rattle.psg_scope.specs.declared.header.Header.{Header}
use Rattle.psg_scope.specs.Headers.{key_of, keys}
use Rattle.psg_scope.proofs.KeyLists.{key_is, key_refl}
use Rattle.psg_relation.specs.Fewer.{FewerColumns}
use Rattle.psg_eval.specs.declared.summary.EvalFault.TheVariants as faults
use Rattle.psg_eval.specs.declared.summary.SummaryParts.{SummaryParts}
use Rattle.psg_eval.specs.Frames.{AllSummariesBut}
use Rattle.psg_eval.specs.Renamed.{IsRenamed}
use Rattle.psg_eval.specs.Summaries.{AllSummaries, IsSummaryOf, StaysWithin}
use Rattle.psg_eval.specs.Trees.{HasParts, IsNode, own_names}
use Rattle.psg_renaming.proofs.Judged.{open_to, open_from}
use Rattle.psg_renaming.proofs.Permuting.{Permutation, swapped, swap_first, swap_other}
use Rattle.psg_renaming.proofs.Turned.{turned, new_key, same_top}
use Rattle.psg_renaming.proofs.Widths.{children_turned, last_turned, passes_to, passes_from}
use Rattle.psg_menu.specs.Sharing.{Rise, of_node, of_first, of_before, has_key, meets, AreNewTo, IsCell, IsNamed, IsRaised, IsRise, IsWithin, IsWithinAt, Leads, Reaches, StandsAs}
use Rattle.psg_menu.proofs.RenamedTrees.{renamed_summary}
use Rattle.psg_menu.proofs.TurnedTrees.{summary_stays}

-- ---- nodes with other names

module _ (p : Permutation) (def : Definition) where
  parts_turned : (f : Fragment) (more : List Item) → HasParts def f more → HasParts def (turned p f) more
  parts_turned (operator o) more h = h
  parts_turned (with_child f t) more (k, h) = (k, parts_turned f (items.Slot k ∷ more) h)
  parts_turned (with_name f n) more (inl (s, h)) = inl (s, parts_turned f (items.Refers s ∷ more) h)
  parts_turned (with_name f n) more (inr (s, h)) = inr (s, parts_turned f (items.Declares s ∷ more) h)
  parts_turned (with_number f n) more h = parts_turned f (items.Number ∷ more) h
  parts_turned (with_text f t) more h = parts_turned f (items.Text ∷ more) h
  parts_turned (hole q) more h = absurd h
  parts_turned (ending l u) more h = absurd h
  parts_turned (cell l e r) more h = absurd h
  parts_turned anything more h = absurd h
  parts_turned (observed f) more h = absurd h

  own_turned : (f : Fragment) → own_names (turned p f) ≡ map p.to (own_names f)
  own_turned (hole q) = refl
  own_turned (ending l u) = refl
  own_turned (cell l e r) = refl
  own_turned (operator o) = refl
  own_turned (with_child f t) = own_turned f
  own_turned (with_name f n) = ap (λ ns. ns ++ p.to n ∷ []) (own_turned f) ∙ sym (map-append p.to (own_names f) (n ∷ []))
  own_turned (with_number f n) = own_turned f
  own_turned (with_text f t) = own_turned f
  own_turned anything = refl
  own_turned (observed f) = refl

  node_turned : (o : ℕ) (old new : List Name) (f : Fragment) → map p.to old ≡ new → IsNode def o old f → IsNode def o new (turned p f)
  node_turned o old new f e is = record {
    top = same_top p f ∙ is.top;
    parts = parts_turned f [] is.parts;
    own = own_turned f ∙ ap (map p.to) is.own ∙ e;
  }

cell_turned : (p : Permutation) (f : Fragment) → IsCell f → IsCell (turned p f)
cell_turned p (cell l e r) h = tt
cell_turned p (hole q) h = absurd h
cell_turned p (ending l u) h = absurd h
cell_turned p (operator o) h = absurd h
cell_turned p (with_child f t) h = absurd h
cell_turned p (with_name f n) h = absurd h
cell_turned p (with_number f n) h = absurd h
cell_turned p (with_text f t) h = absurd h
cell_turned p anything h = absurd h
cell_turned p (observed f) h = absurd h

-- ---- the candidate and the name that stands for it

module _ (def : Definition) (sound : IsSound def) (fewer : FewerColumns def.signature) (n star : Name) (other : bytes_eq n star ≡ false) (some_n : bytes_eq n [] ≡ false)
    (some_star : bytes_eq star [] ≡ false) where
  abbrev p : Permutation
  p = swapped n star

  empty : p.to [] ≡ []
  empty = swap_other n star [] some_n some_star

  -- the name is neither of the two
  name_stays : (m : Name) → bytes_eq m n ≡ false → bytes_eq m star ≡ false → p.to m ≡ m
  name_stays m a b = swap_other n star m (turn m n a) (turn m star b) where
    turn : (x y : Name) → bytes_eq x y ≡ false → bytes_eq y x ≡ false
    turn x y e = false_from_ne_true (bytes_eq y x) (λ h. true≢false (sym (subst (λ z. bytes_eq z y ≡ true) (key_is y x h) (key_refl y)) ∙ e))

  names_stay : (ms : List Name) → is_among ms n ≡ false → is_among ms star ≡ false → map p.to ms ≡ ms
  names_stay [] a b = refl
  names_stay (m ∷ ms) a b =
      let (a1, a2) = or_parts (bytes_eq m n) (is_among ms n) a in
      let (b1, b2) = or_parts (bytes_eq m star) (is_among ms star) b in
      ap₂ (λ x xs. x ∷ xs) (name_stays m a1 b1) (names_stay ms a2 b2)

  abbrev Unmet : Header → Type 0
  Unmet h = (has_key h n ≡ false) × (has_key h star ≡ false)

  keys_stay : (cols : List NameCol) → list_any (λ (c : NameCol). bytes_eq c.name n) cols ≡ false → list_any (λ (c : NameCol). bytes_eq c.name star) cols ≡ false
      → (k : Key) → is_among (keys cols) k ≡ true → new_key p k ≡ k
  keys_stay [] a b k e = absurd (true≢false (sym e))
  keys_stay (c ∷ cols) a b k e =
      let (a1, a2) = or_parts (bytes_eq c.name n) (list_any (λ (c : NameCol). bytes_eq c.name n) cols) a in
      let (b1, b2) = or_parts (bytes_eq c.name star) (list_any (λ (c : NameCol). bytes_eq c.name star) cols) b in
      elim (or_cases (bytes_eq (key_of c) k) (is_among (keys cols) k) e) [
        | inl same ↦ subst (λ x. new_key p x ≡ x) (key_is (key_of c) k same) (ap (λ m. c.space ∷ m) (name_stays c.name a1 b1))
        | inr later ↦ keys_stay cols a2 b2 k later
      ]

  stays : (f : Fragment) (s : SummaryParts) → Unmet s.header → IsSummaryOf def f s → IsSummaryOf def (turned p f) s
  stays f s (a, b) is = summary_stays p def f s is (keys_stay s.header.names a b) empty sound fewer

  abbrev AllUnmet : List SummaryParts → Type 0
  AllUnmet ss = AllByRecursion (λ (s : SummaryParts). Unmet s.header) ss

  all_stay : (fs : List Fragment) (ss : List SummaryParts) → AllUnmet ss → AllSummaries def fs ss → AllSummaries def (map (turned p) fs) ss
  all_stay [] [] h a = tt
  all_stay [] (s ∷ ss) h a = absurd a
  all_stay (f ∷ fs) [] h a = absurd a
  all_stay (f ∷ fs) (s ∷ ss) (one, h) (a, as_well) = (stays f s one a, all_stay fs ss h as_well)

  all_but : (k : ℕ) (fs : List Fragment) (ss : List SummaryParts) → AllUnmet ss → AllSummariesBut def k fs ss → AllSummariesBut def k (map (turned p) fs) ss
  all_but zero (f ∷ fs) (s ∷ ss) (one, h) a = all_stay fs ss h a
  all_but (suc k) (f ∷ fs) (s ∷ ss) (one, h) (a, as_well) = (stays f s one a, all_but k fs ss h as_well)
  all_but zero [] ss h a = absurd a
  all_but (suc k) [] ss h a = absurd a
  all_but zero (f ∷ fs) [] h a = absurd a
  all_but (suc k) (f ∷ fs) [] h a = absurd a

  children_unmet : (ss : List SummaryParts) → list_any (λ (s : SummaryParts). has_key s.header n) ss ≡ false → list_any (λ (s : SummaryParts). has_key s.header star) ss ≡ false → AllUnmet ss
  children_unmet [] a b = tt
  children_unmet (s ∷ ss) a b =
      let (a1, a2) = or_parts (has_key s.header n) (list_any (λ (t : SummaryParts). has_key t.header n) ss) a in
      let (b1, b2) = or_parts (has_key s.header star) (list_any (λ (t : SummaryParts). has_key t.header star) ss) b in
      ((a1, b1), children_unmet ss a2 b2)

  -- ---- the way

  pub rise_turned : (rise : Rise) (u v : Fragment) → meets rise n ≡ false → meets rise star ≡ false → IsRise def rise u v → IsRise def rise (turned p u) (turned p v)
  rise_turned (of_node op names children hot) u v a b (node, at, but) =
      let (a1, a2) = or_parts (is_among names n) (list_any (λ (s : SummaryParts). has_key s.header n) children) a in
      let (b1, b2) = or_parts (is_among names star) (list_any (λ (s : SummaryParts). has_key s.header star) children) b in (
        node_turned p def op names names u (names_stay names a1 b1) node,
        ap (λ l. slice_get l hot) (children_turned p u) ∙ slice_get-map (turned p) (children_of u) hot ∙ ap (option_map (turned p)) at,
        subst (λ l. AllSummariesBut def hot l children) (sym (children_turned p u)) (all_but hot (children_of u) children (children_unmet children a2 b2) but),
      )
  rise_turned (of_first list rest) u v a b (r, same, is) = (turned p r, ap (turned p) same, stays r rest (a, b) is)
  rise_turned (of_before list element) u v a b (e, same, is, whole) = (turned p e, ap (turned p) same, stays e element (a, b) is, cell_turned p v whole)

  pub leads_turned : (done : List Rise) (u t : Fragment) → AreNewTo done n → AreNewTo done star → Leads def done u t → Leads def done (turned p u) (turned p t)
  leads_turned [] u t a b e = ap (turned p) e
  leads_turned (rise ∷ done) u t (a1, a) (b1, b) (v, is, lead) = (turned p v, rise_turned rise u v a1 b1 is, leads_turned done v t a b lead)

  module _ (o : ℕ) (below : List SummaryParts) (quiet : AllUnmet below) where
    pub named_turned : (t : Fragment) → IsNamed def o below n t → IsNamed def o below star (turned p t)
    named_turned t is = record {
      node = node_turned p def o (n ∷ []) (star ∷ []) t (ap (λ m. m ∷ []) (swap_first n star)) is.node;
      children = subst (λ l. AllSummaries def l below) (sym (children_turned p t)) (all_stay (children_of t) below quiet is.children);
    }

    within_turned : (u : Fragment) → StaysWithin def (turned p u) → StaysWithin def u
    within_turned u within k le passes = within k (subst (λ m. k ≤ m) (sym (last_turned p def u)) le) (passes_to p empty def sound fewer u k passes)

    within_at : (done : List Rise) → AreNewTo done n → AreNewTo done star → IsWithinAt def o below star done → IsWithinAt def o below n done
    within_at done a b within u t lead named = within_turned u (within (turned p u) (turned p t) (leads_turned done u t a b lead) (named_turned t named))

    within_all : (done : List Rise) → AreNewTo done n → AreNewTo done star → IsWithin def o below star done → IsWithin def o below n done
    within_all [] a b within = within_at [] a b within
    within_all (rise ∷ done) (a1, a) (b1, b) (one, within) = (within_at (rise ∷ done) (a1, a) (b1, b) one, within_all done a b within)

    free_keys : (cols : List NameCol) → list_any (λ (c : NameCol). bytes_eq c.name n) cols ≡ false → AllByRecursion (λ (c : NameCol). bytes_eq c.name n ≡ false) cols
    free_keys [] e = tt
    free_keys (c ∷ cols) e =
        let (one, rest) = or_parts (bytes_eq c.name n) (list_any (λ (d : NameCol). bytes_eq d.name n) cols) e in
        (one, free_keys cols rest)

    -- the candidate goes on under its own name
    pub parted : (done : List Rise) (s new : SummaryParts) → s.seen ≡ 0 → has_key s.header n ≡ false → IsRenamed def star n s new → StandsAs def o below star n done true s → StandsAs def o below star n done false new
    parted done s new silent fresh made (reach, within, a, b) = (
      (λ u t lead named. renamed_summary n star other def u s new (reach (turned p u) (turned p t) (leads_turned done u t a b lead) (named_turned t named)) made (free_keys s.header.names fresh) empty sound fewer silent),
      within_all done a b within,
    )

    -- ---- one evaluation

    reach_next : (m : Name) (done : List Rise) (rise : Rise) (s new : SummaryParts) → IsRaised def rise s (Ok new) → Reaches def o below m done s → Reaches def o below m (rise ∷ done) new
    reach_next m done rise s new raised reach u t (v, is, lead) named = (raised u v is (reach v t lead named)).0

    within_next : (m : Name) (done : List Rise) (rise : Rise) (s new : SummaryParts) → IsRaised def rise s (Ok new) → Reaches def o below m done s → IsWithinAt def o below m (rise ∷ done)
    within_next m done rise s new raised reach u t (v, is, lead) named = (raised u v is (reach v t lead named)).1

    pub stands_next : (b : Bool) (done : List Rise) (rise : Rise) (s new : SummaryParts) → (b ≡ true → (meets rise n ≡ false) × (meets rise star ≡ false)) → IsRaised def rise s (Ok new)
        → StandsAs def o below star n done b s → StandsAs def o below star n (rise ∷ done) b new
    stands_next true done rise s new unmet raised (reach, within, a, b) =
        let (a1, b1) = unmet refl in
        (reach_next star done rise s new raised reach, (within_next star done rise s new raised reach, within), (a1, a), (b1, b))
    stands_next false done rise s new unmet raised (reach, within) =
        (reach_next n done rise s new raised reach, (within_next n done rise s new raised reach, within))

    -- a step of the node passes the limit, which ever tree with the candidate it is
    abbrev pub FailsAt : List Rise → Type 0
    FailsAt done = (u t : Fragment) → Leads def done u t → IsNamed def o below n t → (k : ℕ) × (k ≤ last_step def u) × PassesAt def u k

    pub stands_fail : (b : Bool) (done : List Rise) (rise : Rise) (s : SummaryParts) (step : ℕ) → (b ≡ true → (meets rise n ≡ false) × (meets rise star ≡ false))
        → IsRaised def rise s (Err (faults.Wide step)) → StandsAs def o below star n done b s → FailsAt (rise ∷ done)
    stands_fail true done rise s step unmet raised (reach, within, a, b) u t (v, is, lead) named =
        let (a1, b1) = unmet refl in
        let h = raised (turned p u) (turned p v) (rise_turned rise u v a1 b1 is) (reach (turned p v) (turned p t) (leads_turned done v t a b lead) (named_turned t named)) in
        (h.0, subst (λ m. h.0 ≤ m) (last_turned p def u) h.1, passes_from p empty def sound fewer u h.0 h.2)
    stands_fail false done rise s step unmet raised (reach, within) u t (v, is, lead) named =
        raised u v is (reach v t lead named)

    -- where the node of the operator passes the limit with the name that stands for the candidate, it does with the candidate
    pub own_fails : ((t : Fragment) → IsNamed def o below star t → (k : ℕ) × (k ≤ last_step def t) × PassesAt def t k) → FailsAt []
    own_fails fails u t e named =
        let h = fails (turned p t) (named_turned t named) in
        subst (λ x. (k : ℕ) × (k ≤ last_step def x) × PassesAt def x k) (sym e) (h.0, subst (λ m. h.0 ≤ m) (last_turned p def t) h.1, passes_from p empty def sound fewer t h.0 h.2)

    -- ---- the whole

    pub open_as : (b : Bool) (done : List Rise) (s : SummaryParts) (good : Bool) → ((f : Fragment) → IsSummaryOf def f s → IsTrue good ↔ IsOpen def f) → StandsAs def o below star n done b s
        → (u t : Fragment) → Leads def done u t → IsNamed def o below n t → IsTrue good ↔ IsOpen def u
    open_as true done s good tells (reach, within, a, b) u t lead named =
        let h = tells (turned p u) (reach (turned p u) (turned p t) (leads_turned done u t a b lead) (named_turned t named)) in
        ((λ g. open_from p def u (h.0 g)), (λ is. h.1 (open_to p def u is)))
    open_as false done s good tells (reach, within) u t lead named = tells u (reach u t lead named)

    pub within_as : (b : Bool) (done : List Rise) (s : SummaryParts) → StandsAs def o below star n done b s → IsWithin def o below n done
    within_as true done s (reach, within, a, b) = within_all done a b within
    within_as false done s (reach, within) = within
