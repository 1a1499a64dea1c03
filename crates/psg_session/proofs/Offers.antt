-- Which step the plain editor takes at a question about what may stand at a place.
use Rattle.std.proofs.Common.{◌≡◌, inl, inr, ℕ, ◌+◌, ◌*◌, ◌<◌, ◌≤◌, cond, List, [], ◌∷◌, map, length, sum_by, slice_get, Option, Some, None, refl, sym, ◌∙◌, ap, subst, arith}
use Rattle.std.specs.List.{count_by}
use Rattle.psg_grammar.specs.Levels.{is_name_position}
use Rattle.psg_eval.specs.Summaries.{are_names}
use Rattle.std.specs.Prelude.{MatchOption, Ok, Err, Vec}
use Rattle.std.specs.declared.alloc.Global.{Global}
use Rattle.std.proofs.lemmas.Option.{none-some, slice_get_within}
use Rattle.psg_eval.proofs.StartLaws.{names_in_count}
use Rattle.psg_terms.specs.Names.{Name}
use Rattle.psg_terms.specs.Relations.{IsIn}
use Rattle.psg_grammar.specs.declared.types.Kind.{Kind}
use Rattle.psg_grammar.specs.declared.types.Kind.TheVariants as kinds
use Rattle.psg_grammar.specs.declared.types.Item.{Item}
use Rattle.psg_grammar.specs.declared.types.Item.TheVariants as items
use Rattle.psg_grammar.specs.declared.types.ListKind.{ListKind}
use Rattle.psg_grammar.specs.declared.types.Operator.{Operator}
use Rattle.psg_grammar.specs.declared.types.Definition.{Definition}
use Rattle.psg_grammar.specs.Fragments.{Fragment, hole}
use Rattle.psg_grammar.specs.Kinds.{IsOfKind, op_name_of}
use Rattle.psg_grammar.specs.Lookups.{operator_at}
use Rattle.psg_grammar.specs.Open.{IsOpen}
use Rattle.psg_grammar.specs.Paths.{Path, node_at}
use Rattle.psg_grammar.specs.Sound.{IsSound}
use Rattle.psg_grammar.specs.Work.{climb_of}
use Rattle.psg_grammar.proofs.SoundParts.{elements_in}
use Rattle.psg_grammar.specs.WellFormed.{WellFormed}
use Rattle.psg_cache.specs.Annotated.{Annotated, tree_in}
use Rattle.psg_cache.specs.Edits.{IsNoSummaryAt}
use Rattle.psg_cache.specs.NoteFrames.{AreElementFramesAt, AreFramesAt, IsNoElementAt}
use Rattle.psg_cache.proofs.FormedTrees.{node_formed}
use Rattle.psg_eval.specs.declared.frame.Frame.{Frame}
use Rattle.psg_eval.specs.declared.question.FocusFault.{FocusFault}
use Rattle.psg_eval.specs.declared.question.FocusFault.TheVariants as questions
use Rattle.psg_eval.specs.Frames.{CanClimb}
use Rattle.psg_renaming.specs.Occurring.{occurring}
use Rattle.psg_menu.specs.Answers.{HasOneName, IsMenuAnswer, IsNamesAnswer, menu_ticks, names_ticks, slots_of}
use Rattle.psg_menu.specs.Menus.{HasWideNaming, HasWideTrial, IsMenu, IsNameMenu, in_byte_order, operators_of}
use Rattle.psg_script.specs.declared.command.Where.{Where}
use Rattle.psg_script.specs.declared.command.Command.TheVariants.{Menu, Names}
use Rattle.psg_session.specs.declared.changes.Listed.{Listed}
use Rattle.psg_session.specs.declared.editor.Editor.{Editor}
use Rattle.psg_session.specs.declared.finding.Target.{Target}
use Rattle.psg_session.specs.declared.menus.Site.{Site}
use Rattle.psg_session.specs.declared.refusal.Refusal.{Refusal}
use Rattle.psg_session.specs.declared.refusal.Refusal.TheVariants.{Unknown, OtherPhylum, BadArguments, TooWide}
use Rattle.psg_session.specs.declared.editor.Outcome.TheVariants.{Stays}
use Rattle.psg_session.specs.declared.replies.Reply.{Reply as Given}
use Rattle.psg_session.specs.declared.replies.Reply.TheVariants.{Refused}
use Rattle.psg_session.specs.Answers.{names_line}
use Rattle.psg_session.specs.Offering.{IsNamingAnswer, IsSite, climb_before}
use Rattle.psg_session.specs.Outcomes.{IfFound, IsOutcome, IsTarget, IsListed, HasNoTarget}
use Rattle.psg_session.specs.PlainState.{Opened, named_path, not_asked}
use Rattle.psg_session.specs.PlainStep.{AtNode, HasNoPlace, HasNotOneName, IsListOf, IsOfPhylum, IsOperator, IsWanted, refuses, offers, suggests}
use Rattle.psg_session.specs.Refusals.{place_test}
use Rattle.psg_session.specs.Replies.{answered, refused}
use Rattle.psg_session.specs.Sessions.{IsEditor, IsVersion, plain, state_of}
use Rattle.psg_session.specs.Stops.{stop_of_focus}
use Rattle.psg_session.specs.Ticks.{HasTicked, above_trial, menu_work, names_work}
use Rattle.psg_session.specs.Views.{reply_of}
use Rattle.psg_session.proofs.Asking.{Answers, stayed}
use Rattle.psg_session.proofs.ChangeLaws.{is_other, not_other, one_list_kind, one_operator}
use Rattle.psg_session.proofs.EditLaws.{opened_version}
use Rattle.psg_session.proofs.FormedTrials.{operator_in}
use Rattle.psg_session.proofs.MenuLaws.{chosen_in, wanted_once}
use Rattle.psg_session.proofs.StepLaws.{at_node, has_node, is_opened, is_there, node_is, nowhere, opened_is, some_once}

-- ---- the place

module _ (def : Definition) (kind : Kind) (n : Annotated) (version : IsVersion def kind n) (path : Path) (node : Fragment) (at : node_at (tree_in n) path ≡ Some node) where
  pub site_formed : (K : Kind) × WellFormed def node K
  site_formed = node_formed def (tree_in n) kind path node version.formed at

  pub some_frames : IsNoSummaryAt n path → ⊥
  some_frames none = none-some node (sym (none def (tree_in n) version.noted) ∙ at)

  hole_known : (p : ℕ) → node ≡ hole p → p < length def.phyla
  hole_known p is = let (K, formed) = site_formed in (subst (λ x. WellFormed def x K) is formed).0.2

  pub hole_is_site : (p : ℕ) (around : Vec Frame Global) → node ≡ hole p → AreFramesAt n path around.items
      → IsSite def (tree_in n) path None node (record { phylum = p; around = around })
  hole_is_site p around is are =
      let a = are def (tree_in n) version.noted in
      let same : a.node ≡ node = some_once a.node node (node_at (tree_in n) path) a.there at in
      let of : IsOfKind def (hole p) a.kind = subst (λ x. IsOfKind def x a.kind) (same ∙ is) a.of_kind in
      record {
        room = λ never. never p is;
        wanted = is;
        known = hole_known p is;
        stand = (a.node, a.stand);
        climb = subst (CanClimb def around.items) of a.climb;
        cost = a.cost;
      }

  module _ (k : ℕ) (l : Listed) (listed : IsListed def node l) (within : k ≤ l.elements) where
    pub some_element_frames : IsNoElementAt n path k → ⊥
    some_element_frames none =
        none def (tree_in n) version.noted node at listed.is_list (let same = listed.elements in omega (arith, same, within))

    pub element_is_site : IsSound def → (around : Vec Frame Global) → AreElementFramesAt n path k around.items
        → IsSite def (tree_in n) path (Some k) node (record { phylum = l.kind.now.element; around = around })
    element_is_site sound around are =
        let a = are def (tree_in n) version.noted in
        let same : a.node ≡ node = some_once a.node node (node_at (tree_in n) path) a.there at in
        let of : IsListOf def node a.list = (a.number, subst (λ x. IsOfKind def x (kinds.List a.number)) same a.of_kind, a.found) in
        let one : a.list ≡ l.kind.now = one_list_kind def node a.list l.kind.now of listed.kind in
        record {
          room = no_bad_place;
          wanted = (l.kind.now, listed.kind, refl);
          known = elements_in def sound listed.kind.0 l.kind.now listed.kind.2;
          stand = a.stand;
          climb = subst (λ (x : ListKind). CanClimb def around.items (kinds.Phylum x.element)) one a.climb;
          cost = a.cost;
        }
      where
        no_bad_place : HasNoPlace def (Some k) node → ⊥
        no_bad_place (inl never) = never listed.is_list
        no_bad_place (inr less) = let same = listed.elements in absurd (omega (arith, same, less, within))

-- ---- steps

module _ (def : Definition) (e : Editor) (place : Where) (k : Option ℕ) where
  pub menu_not_found : (r : Refusal) → HasNoTarget e place r → Answers def e (Menu place k) (refused r)
  menu_not_found r missing = refuses (nowhere def e place r missing)

  pub names_not_found : (name : Name) (r : Refusal) → HasNoTarget e place r → Answers def e (Names place k name) (refused r)
  names_not_found name r missing = refuses (nowhere def e place r missing)

  module _ (f : Target) (found : IsTarget e place f) where
    abbrev tree : Fragment
    tree = tree_in f.held.now.note

    abbrev HasNone : Opened → Fragment → Type 0
    HasNone old node = HasNoPlace def k node

    pub menu_no_place : HasNoPlace def k f.node.now → Answers def e (Menu place k) (refused (place_test k))
    menu_no_place none =
        refuses (inr (
          is_opened def e place f found,
          inr (is_there def e place f found, inl (has_node def e place f found HasNone none, refl)),
        ))

    pub names_no_place : (name : Name) → HasNoPlace def k f.node.now → Answers def e (Names place k name) (refused (place_test k))
    names_no_place name none =
        refuses (inr (
          is_opened def e place f found,
          inr (is_there def e place f found, inl (has_node def e place f found HasNone none, refl)),
        ))

    climb_here : climb_before tree f.path.now k ≡ above_trial def (state_of e) (plain f.held.now) place k
    climb_here = go k where
      go : (j : Option ℕ) → climb_before tree f.path.now j ≡ above_trial def (state_of e) (plain f.held.now) place j
      go None = ap (climb_of tree) found.path
      go (Some j) = ap (λ p. (j + 1) + climb_of tree p) found.path

    module _ (editor : IsEditor def e) (site : Site) (is : IsSite def tree f.path.now k f.node.now site) where
      room : AtNode def (state_of e) place HasNone → ⊥
      room h = is.room (at_node def e place f found HasNone h)

      only : (q : ℕ) → IsWanted def k f.node.now q → q ≡ site.phylum
      only q want = wanted_once def k f.node.now q site.phylum want is.wanted

      -- ---- a menu

      abbrev TooWideMenu : Opened → Fragment → Type 0
      TooWideMenu old node = (p : ℕ) × IsWanted def k node p × HasWideTrial def old.tree (named_path place (state_of e).cursor) k p

      menu_wide : HasWideTrial def tree f.path.now k site.phylum → Answers def e (Menu place k) (refused TooWide)
      menu_wide wide =
          refuses (inr (
            is_opened def e place f found,
            inr (
              is_there def e place f found,
              inr (
                room,
                inl (
                  has_node def e place f found TooWideMenu
                      (site.phylum, is.wanted, subst (λ p. HasWideTrial def tree p k site.phylum) found.path wide),
                  refl,
                ),
              ),
            ),
          ))

      menu_told : (ops : List ℕ) (names : List Name) → IsMenu def tree f.path.now k (IsOpen def) site.phylum ops
          → (HasWideTrial def tree f.path.now k site.phylum → ⊥) → map (op_name_of def) ops ≡ map Some names
          → Answers def e (Menu place k) (answered (names_line names ∷ []))
      menu_told ops names menu narrow named =
          offers (plain f.held.now) f.node.now site.phylum ops names (
            is_opened def e place f found,
            (is_there def e place f found, (room, (not_wide, tt))),
          )
          (opened_is def e place f found) (node_is def e place f found) is.wanted
          (subst (λ p. IsMenu def tree p k (IsOpen def) site.phylum ops) found.path menu) named
        where
          not_wide : AtNode def (state_of e) place TooWideMenu → ⊥
          not_wide h =
              let (p, want, wide) = at_node def e place f found TooWideMenu h in
              narrow (subst (λ q. HasWideTrial def tree q k site.phylum) (sym found.path)
              (subst (HasWideTrial def tree (named_path place (state_of e).cursor) k) (only p want) wide))

      pub menu_answered : (ops : Vec ℕ Global) → IsMenuAnswer def (IsOpen def) tree f.path.now k site.phylum (Ok ops)
          → (names : List Name) → map (op_name_of def) ops.items ≡ map Some names
          → (reply : Given) → reply_of reply ≡ answered (names_line names ∷ [])
          → IsOutcome def e not_asked (Menu place k) (Stays reply)
      menu_answered ops (menu, narrow) names named reply told =
          stayed def e (Menu place k) reply (subst (Answers def e (Menu place k)) (sym told)
          (menu_told ops.items names menu (narrow (opened_version def e f.held.now editor found.held).noted.within.narrow) named))

      -- a trial is too wide
      pub menu_stopped : (fault : FocusFault) → IsMenuAnswer def (IsOpen def) tree f.path.now k site.phylum (Err fault)
          → IfFound (Err (stop_of_focus fault)) (IsOutcome def e not_asked (Menu place k))
      menu_stopped questions.Wide wide = stayed def e (Menu place k) (Refused TooWide) (menu_wide wide)
      menu_stopped questions.Memory h = tt

      pub menu_ticked : (from to : ℕ) → to ≤ from + menu_ticks def (operators_of def site.phylum) site.around.items
          → HasTicked def (state_of e) (Menu place k) from to
      menu_ticked from to few =
          let n : ℕ = menu_ticks def (operators_of def site.phylum) site.around.items in
          let same : n ≡ menu_work def (state_of e) site.phylum (above_trial def (state_of e) (plain f.held.now) place k) =
          ap (λ c. sum_by (λ o. 1 + slots_of def (operator_at def o) + c) (operators_of def site.phylum)) (is.cost ∙ climb_here) in
          record {
            taken = n;
            counted = few;
            within = inr (has_node def e place f found
                (λ old node. (p : ℕ) × IsWanted def k node p × (n ≤ menu_work def (state_of e) p (above_trial def (state_of e) old place k)))
                (site.phylum, is.wanted, omega (arith, same)));
          }

      -- ---- names

      module _ (sound : IsSound def) (name : Name) where
        -- there is no such operator
        pub naming_refused : (r : Refusal) → IsNamingAnswer def site.phylum name (Err r) → Answers def e (Names place k name) (refused r)
        naming_refused r (inl (e', never)) =
            refuses (inr (is_opened def e place f found, inr (is_there def e place f found, inr (room, inl (never, sym e')))))
        naming_refused r (inr (inl (e', o, named, never))) =
            refuses (inr (
              is_opened def e place f found,
              inr (
                is_there def e place f found,
                inr (
                  room,
                  inr (
                    (λ h. h o named),
                    inl (is_other def e place f found sound k site.phylum is.wanted only name [] o named never, sym e'),
                  ),
                ),
              ),
            ))
        naming_refused r (inr (inr (e', o, named, of, never))) =
            refuses (inr (
              is_opened def e place f found,
              inr (
                is_there def e place f found,
                inr (
                  room,
                  inr (
                    (λ h. h o named),
                    inr (
                      not_other def e place f found sound k site.phylum is.wanted only name [] o named of,
                      inl (not_one, sym e'),
                    ),
                  ),
                ),
              ),
            ))
          where
            not_one : HasNotOneName def name
            not_one x q other has =
                let same : x ≡ o = one_operator def sound x o name other named in
                let has_it : HasOneName def o q = subst (λ y. HasOneName def y q) same has in
                let phylum : q ≡ site.phylum =
                sym has_it.phylum ∙ ap (λ (y : Operator). y.phylum) (some_once has_it.op of.0 (slice_get def.operators o) has_it.found of.1) ∙ of.2 in
                never (subst (HasOneName def o) phylum has_it)

        module _ (o : ℕ) (named : IsOperator def o name) (has : HasOneName def o site.phylum) where
          abbrev names_of_tree : List Name
          names_of_tree = in_byte_order (occurring tree)

          of_phylum : IsOfPhylum def o site.phylum
          of_phylum = (has.op, has.found, has.phylum)

          one_name : HasNotOneName def name → ⊥
          one_name never = never o site.phylum named has

          abbrev TooWideNames : Opened → Fragment → Type 0
          TooWideNames old node =
              (x : ℕ) × IsOperator def x name × HasWideNaming def old.tree (named_path place (state_of e).cursor) k x (in_byte_order (occurring old.tree))

          names_wide : HasWideNaming def tree f.path.now k o names_of_tree → Answers def e (Names place k name) (refused TooWide)
          names_wide wide =
              refuses (inr (
                is_opened def e place f found,
                inr (
                  is_there def e place f found,
                  inr (
                    room,
                    inr (
                      (λ h. h o named),
                      inr (
                        not_other def e place f found sound k site.phylum is.wanted only name [] o named of_phylum,
                        inr (
                          one_name,
                          inl (
                            has_node def e place f found TooWideNames
                                (o, named, subst (λ p. HasWideNaming def tree p k o names_of_tree) found.path wide),
                            refl,
                          ),
                        ),
                      ),
                    ),
                  ),
                ),
              ))

          names_told : (names : List Name) → IsNameMenu def tree f.path.now k (IsOpen def) o names
              → (HasWideNaming def tree f.path.now k o names_of_tree → ⊥)
              → Answers def e (Names place k name) (answered (names_line names ∷ []))
          names_told names menu narrow =
              suggests (plain f.held.now) o names (
                is_opened def e place f found,
                (
                  is_there def e place f found,
                  (
                    room,
                    (
                      (λ h. h o named),
                      (
                        not_other def e place f found sound k site.phylum is.wanted only name [] o named of_phylum,
                        (one_name, (not_wide, tt)),
                      ),
                    ),
                  ),
                ),
              )
              (opened_is def e place f found) named
              (subst (λ p. IsNameMenu def tree p k (IsOpen def) o names) found.path menu)
            where
              not_wide : AtNode def (state_of e) place TooWideNames → ⊥
              not_wide h =
                  let (x, other, wide) = at_node def e place f found TooWideNames h in
                  let same : x ≡ o = one_operator def sound x o name other named in
                  narrow (subst (λ q. HasWideNaming def tree q k o names_of_tree) (sym found.path)
                  (subst (λ y. HasWideNaming def tree (named_path place (state_of e).cursor) k y names_of_tree) same wide))

          pub names_answered : (candidates : List Name) → candidates ≡ names_of_tree → (kept : Vec Name Global)
              → IsNamesAnswer def (IsOpen def) tree f.path.now k o candidates (Ok kept)
              → (reply : Given) → reply_of reply ≡ answered (names_line kept.items ∷ [])
              → IsOutcome def e not_asked (Names place k name) (Stays reply)
          names_answered candidates are kept h reply told =
              let (menu, narrow) = subst (λ c. IsNamesAnswer def (IsOpen def) tree f.path.now k o c (Ok kept)) are h in
              stayed def e (Names place k name) reply (subst (Answers def e (Names place k name)) (sym told)
              (names_told kept.items menu (narrow (opened_version def e f.held.now editor found.held).noted.within.narrow)))

          -- a trial is too wide
          pub names_stopped : (candidates : List Name) → candidates ≡ names_of_tree → (fault : FocusFault)
              → IsNamesAnswer def (IsOpen def) tree f.path.now k o candidates (Err fault)
              → IfFound (Err (stop_of_focus fault)) (IsOutcome def e not_asked (Names place k name))
          names_stopped candidates are questions.Wide h =
              stayed def e (Names place k name) (Refused TooWide)
              (names_wide (subst (λ c. IsNamesAnswer def (IsOpen def) tree f.path.now k o c (Err questions.Wide)) are h))
          names_stopped candidates are questions.Memory h = tt

          pub names_ticked : (candidates : List Name) → candidates ≡ names_of_tree → (from to : ℕ)
              → to ≤ from + names_ticks def o candidates site.around.items → HasTicked def (state_of e) (Names place k name) from to
          names_ticked candidates are from to few =
              let n : ℕ = names_ticks def o candidates site.around.items in
              let same : n ≡ names_work def (state_of e) o names_of_tree (above_trial def (state_of e) (plain f.held.now) place k) =
              ap (λ c. names_ticks def o c site.around.items) are
              ∙ ap (λ c. length names_of_tree * (1 + slots_of def (operator_at def o) + c)) (is.cost ∙ climb_here) in
              record {
                taken = n;
                counted = few;
                within = inr (has_node def e place f found
                    (λ old node. (x : ℕ) × IsOperator def x name × (n ≤ names_work def (state_of e) x (in_byte_order (occurring old.tree)) (above_trial def (state_of e) old place k)))
                    (o, named, omega (arith, same)));
              }

-- ---- the frames that the note gave

pub element_frames_are : (n : Annotated) (path : Path) (k : ℕ) (o : Option (Vec Frame Global)) (v : Vec Frame Global) → o ≡ Some v
    → MatchOption o (IsNoElementAt n path k) (λ w. AreElementFramesAt n path k w.items) → AreElementFramesAt n path k v.items
element_frames_are n path k o v e h = subst (λ x. MatchOption x (IsNoElementAt n path k) (λ w. AreElementFramesAt n path k w.items)) e h

pub no_element_frames : (n : Annotated) (path : Path) (k : ℕ) (o : Option (Vec Frame Global)) → o ≡ None
    → MatchOption o (IsNoElementAt n path k) (λ w. AreElementFramesAt n path k w.items) → IsNoElementAt n path k
no_element_frames n path k o e h = subst (λ x. MatchOption x (IsNoElementAt n path k) (λ w. AreElementFramesAt n path k w.items)) e h

-- ---- what a call said of its answer

pub site_is : (def : Definition) (f : Fragment) (path : Path) (k : Option ℕ) (node : Fragment) (o : Option Site) (site : Site) → o ≡ Some site
    → MatchOption o (HasNoPlace def k node) (IsSite def f path k node) → IsSite def f path k node site
site_is def f path k node o site e h = subst (λ x. MatchOption x (HasNoPlace def k node) (IsSite def f path k node)) e h

pub no_site : (def : Definition) (f : Fragment) (path : Path) (k : Option ℕ) (node : Fragment) (o : Option Site) → o ≡ None
    → MatchOption o (HasNoPlace def k node) (IsSite def f path k node) → HasNoPlace def k node
no_site def f path k node o e h = subst (λ x. MatchOption x (HasNoPlace def k node) (IsSite def f path k node)) e h

-- the numbers of a menu are those of operators
pub in_range : (def : Definition) (IsGood : Fragment → Type 0) (f : Fragment) (path : Path) (k : Option ℕ) (p : ℕ) (ops : Vec ℕ Global)
    → IsMenuAnswer def IsGood f path k p (Ok ops) → (o : ℕ) → IsIn o ops.items → o < length def.operators
in_range def IsGood f path k p ops (menu, narrow) =
    λ o i. let (op, found, is) = operator_in def p o (chosen_in menu o i) in slice_get_within def.operators o op found

-- ---- operators with one name

-- a name position is counted where it stands
one_counted : (def : Definition) (x : Item) (xs : List Item)
    → length (are_names def (x ∷ xs)) ≡ cond (is_name_position x) (1 + length (are_names def xs)) (length (are_names def xs))
one_counted def (items.Word w) xs = refl
one_counted def (items.Slot k) xs = refl
one_counted def (items.Refers s) xs = omega arith
one_counted def (items.Declares s) xs = omega arith
one_counted def items.Number xs = refl
one_counted def items.Text xs = refl
one_counted def items.Space xs = refl
one_counted def items.Tight xs = refl
one_counted def items.Line xs = refl
one_counted def items.In xs = refl
one_counted def items.Out xs = refl

module _ (def : Definition) (p : ℕ) (name : Name) (o : ℕ) (named : IsOperator def o name) (op : Operator) (found : slice_get def.operators o ≡ Some op) where
  same_op : (other : Operator) → slice_get def.operators o ≡ Some other → other ≡ op
  same_op other at = some_once other op (slice_get def.operators o) at found

  pub other_phylum : (op.phylum ≡ p → ⊥) → IsNamingAnswer def p name (Err OtherPhylum)
  other_phylum never =
      inr (inl (refl, o, named, λ (other, at, is). never (ap (λ (x : Operator). x.phylum) (sym (same_op other at)) ∙ is)))

  pub not_one_name : (n : ℕ) → n ≡ count_by is_name_position op.items → (n ≡ 1 → ⊥) → op.phylum ≡ p → IsNamingAnswer def p name (Err BadArguments)
  not_one_name n counted never is =
      inr (inr (
        refl,
        o,
        named,
        (op, found, is),
        λ (has : HasOneName def o p).
            never (counted ∙ sym (names_in_count def op.items) ∙ ap (λ (x : Operator). length (are_names def x.items)) (sym (same_op has.op has.found)) ∙ has.one),
      ))

  pub one_named : (n : ℕ) → n ≡ count_by is_name_position op.items → n ≡ 1 → op.phylum ≡ p → IsNamingAnswer def p name (Ok o)
  one_named n counted one is = (named, record { op = op; found = found; phylum = is; one = names_in_count def op.items ∙ sym counted ∙ one })

pub no_operator : (def : Definition) (p : ℕ) (name : Name) → ((o : ℕ) → IsOperator def o name → None ≡ Some o) → IsNamingAnswer def p name (Err Unknown)
no_operator def p name only = inl (refl, λ o named. none-some o (only o named))
