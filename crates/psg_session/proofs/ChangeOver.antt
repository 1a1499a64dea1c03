-- What typed text is answered, before its tree is tested.
use Rattle.std.proofs.Common.{◌≡◌, ◌⊎◌, inl, inr, ℕ, ◌+◌, ◌<◌, ◌≤◌, List, length, Err, refl, sym, ◌∙◌, ap, subst, arith, Ok, Result}
use Rattle.psg_grammar.specs.Kinds.{IsOfKind}
use Rattle.psg_grammar.specs.declared.types.Kind.{Kind}
use Rattle.psg_grammar.specs.declared.types.Definition.{Definition}
use Rattle.psg_grammar.specs.Fragments.{Fragment}
use Rattle.psg_grammar.specs.Paths.{replaced}
use Rattle.psg_grammar.specs.Sizes.{depth_of, IsDeep}
use Rattle.psg_grammar.specs.WellFormed.{WellFormed}
use Rattle.psg_cache.specs.Annotated.{tree_in}
use Rattle.psg_class.specs.Class.{IsClass}
use Rattle.psg_class.specs.Texts.{ReadsAs, TextTokens}
use Rattle.psg_lexis.specs.declared.token.Spanned.{Spanned}
use Rattle.psg_script.specs.declared.command.Where.{Where}
use Rattle.psg_script.specs.declared.command.Command.TheVariants.{Over}
use Rattle.psg_session.specs.declared.changes.Proposal.{Proposal}
use Rattle.psg_session.specs.declared.stop.Stop.{Stop}
use Rattle.psg_session.specs.declared.stop.Stop.TheVariants as stops
use Rattle.psg_session.specs.declared.edits.Edit.TheVariants.{Put}
use Rattle.psg_session.specs.declared.editor.Editor.{Editor}
use Rattle.psg_session.specs.declared.editor.OpenedTree.{OpenedTree}
use Rattle.psg_session.specs.declared.finding.Target.{Target}
use Rattle.psg_session.specs.declared.judging.Trial.TheVariants.{Types}
use Rattle.psg_session.specs.declared.refusal.Refusal.{Refusal}
use Rattle.psg_cache.specs.Diff.{diff_of}
use Rattle.psg_session.specs.Edits.{cost_of}
use Rattle.psg_session.specs.Good.{IsGoodIn}
use Rattle.psg_session.specs.Outcomes.{IsTarget, IsProposal, HasNoTarget, IsPlan, proposal_of, MaySpend, tree_tests}
use Rattle.psg_session.specs.PlainState.{Opened, named_path, not_asked}
use Rattle.psg_session.specs.PlainStep.{AtNode, Gives, by_change, by_over, IsRefused, IsTaken, Makes, OfResult}
use Rattle.psg_session.specs.Refusals.{Passes, Refuses}
use Rattle.psg_session.specs.Sessions.{IsEditor, plain, state_of}
use Rattle.psg_session.specs.Ticks.{HasTicked, MayTick, OfTyped}
use Rattle.psg_session.specs.Typed.{HasDeepTree, HasNoTreeFor, HasRead, HasTree, IsTextAnswer, NestsTooDeep, ReadsFor}
use Rattle.psg_session.proofs.ChangeLaws.{kind_is, may_put, put_is}
use Rattle.psg_session.proofs.Depths.{replaced_deep}
use Rattle.psg_session.proofs.StepLaws.{at_node, has_node, is_opened, is_there, node_is, nowhere, opened_is, path_is, same_old, some_once}
use Rattle.psg_session.proofs.TypedLaws.{has_tree_for, no_fault, read_once, read_tokens}

-- where the brackets do not nest too deep, only the tree may be too deep
pub neither : {N D : Type 0} → (N → ⊥) → (D → ⊥) → N ⊎ D → ⊥
neither never shallow (inl n) = never n
neither never shallow (inr d) = shallow d

pub or_nests : {N D E X : Type 0} → (N → ⊥) → (D × E) ⊎ ((D → ⊥) × X) → ((N ⊎ D) × E) ⊎ ((N ⊎ D → ⊥) × X)
or_nests never (inl (d, is)) = inl (inr d, is)
or_nests never (inr (shallow, x)) = inr (neither never shallow, x)

module _ (def : Definition) (e : Editor) (place : Where) (text : List ℕ) where
  -- nothing is opened, or there is no node
  pub over_nowhere : (r : Refusal) → HasNoTarget e place r → IsPlan def e (Over place text) (Err (stops.Refused r))
  over_nowhere r none = nowhere def e place r none

  abbrev Fails : Opened → Fragment → Type 0
  Fails old node = HasNoTreeFor def node text

  abbrev Nests : Opened → Fragment → Type 0
  Nests old node = NestsTooDeep def node text

  module _ (f : Target) (found : IsTarget e place f) where
    -- ---- ticks

    -- the text alone was read
    pub read_ticks : (from to : ℕ) → HasRead def text from to → HasTicked def (state_of e) (Over place text) from to
    read_ticks from to (inl same) = record { taken = 0; counted = omega (arith, same); within = inl refl }
    read_ticks from to (inr (ts, are, le)) = record {
      taken = length ts;
      counted = le;
      within = inr (has_node def e place f found (λ old node. OfTyped def (state_of e) place text old (length ts))
          (ts, are, inl (omega arith)));
    }

    module _ (kind : Kind) (is : IsOfKind def f.node.now kind) where
      reads_for : (new : Fragment) (n : ℕ) → ReadsAs def kind 0 text new n → ReadsFor def f.node.now text new n
      reads_for new n reads = record { kind = kind; of_kind = is; reads = reads }

      result_of : (new : Fragment) (n : ℕ) → ReadsFor def f.node.now text new n
          → Makes def (state_of e) (Over place text) (replaced (named_path place e.cursor) new (tree_in f.held.now.note))
          (named_path place e.cursor)
      result_of new n reads =
          by_over (plain f.held.now) f.node.now new n (opened_is def e place f found) (node_is def e place f found) reads

      -- ---- refusals

      deep_result : (h : HasDeepTree def kind text) → AtNode def (state_of e) place Nests
          ⊎ OfResult def (state_of e) (Over place text) IsDeep
      deep_result h =
          let reads = reads_for h.new h.nesting h.reads in
          elim h.deep [
            | inl deep ↦
                let inside : depth_of h.new
                ≤ depth_of (replaced (named_path place e.cursor) h.new (tree_in f.held.now.note)) =
                replaced_deep h.new (named_path place e.cursor) (tree_in f.held.now.note) f.node.now
                (node_is def e place f found) in
                inr (
                  replaced (named_path place e.cursor) h.new (tree_in f.held.now.note),
                  by_change (result_of h.new h.nesting reads),
                  omega (arith, deep, inside),
                )
            | inr nests ↦
                inl (has_node def e place f found Nests
                (record { new = h.new; nesting = h.nesting; reads = reads; deep = nests }))
          ]

      -- the text has no tree that may be put in
      pub over_refused : (stop : Stop) → IsTextAnswer def kind text (Err stop)
          → IsPlan def e (Over place text) (Err stop)
      over_refused stops.Memory h = tt
      over_refused (stops.Refused r) (inl (is_r, none)) =
          inr (is_opened def e place f found, inr (is_there def e place f found, inl (none, sym is_r)))
      over_refused (stops.Refused r) (inr (inl (is_r, none))) =
          inr (
            is_opened def e place f found,
            inr (
              is_there def e place f found,
              inr (
                no_fault def text none.tokens none.are,
                inl (
                  has_node def e place f found Fails (record { kind = kind; of_kind = is; none = none }),
                  sym is_r,
                ),
              ),
            ),
          )
      over_refused (stops.Refused r) (inr (inr (is_r, deep))) =
          inr (
            is_opened def e place f found,
            inr (
              is_there def e place f found,
              inr (
                read_tokens def text deep.new deep.nesting deep.reads,
                inr (
                  (λ h. has_tree_for def f.node.now text deep.new deep.nesting
                      (reads_for deep.new deep.nesting deep.reads) (at_node def e place f found Fails h)),
                  inl (deep_result deep, sym is_r),
                ),
              ),
            ),
          )

      -- ---- a tree that is put in

      module _ (is_class : IsClass def) (new : Fragment) (tree : HasTree def kind text new) where
        abbrev here : ReadsFor def f.node.now text new tree.nesting
        here = reads_for new tree.nesting tree.reads

        over_once : (other : Fragment) → Gives def (state_of e) (Over place text) other
            → other ≡ replaced (named_path place e.cursor) new (tree_in f.held.now.note)
        over_once other (by_change (by_over old node more n opened at reads)) =
            let also : ReadsFor def f.node.now text more n =
            at_node def e place f found (λ x y. ReadsFor def y text more n) (old, opened, node, at, reads) in
            ap (λ x. replaced (named_path place e.cursor) more x.tree) (same_old def e place f found old opened)
            ∙ ap (λ x. replaced (named_path place e.cursor) x (tree_in f.held.now.note))
            (read_once def is_class f.node.now text more new n tree.nesting also here).tree

        has_a_tree : AtNode def (state_of e) place Fails → ⊥
        has_a_tree h =
            has_tree_for def f.node.now text new tree.nesting here (at_node def e place f found Fails h)

        nests_well : AtNode def (state_of e) place Nests → ⊥
        nests_well h =
            let deep = at_node def e place f found Nests h in
            let same : deep.nesting ≡ tree.nesting =
            (read_once def is_class f.node.now text deep.new new deep.nesting tree.nesting deep.reads here).nesting in
            let low : tree.nesting ≤ 400 = tree.within in
            let high : 400 < deep.nesting = deep.deep in
            omega (arith, same, low, high)

        keeps : (K : Kind) → WellFormed def f.node.now K → WellFormed def new K
        keeps K formed =
            subst (WellFormed def new) (sym (kind_is def f.node.now K kind formed is))
            tree.formed

        refuses_typed : (r : Refusal)
            → Refuses (tree_tests def Types (OfResult def (state_of e) (Over place text))) r
            → IsRefused def (IsGoodIn def) (state_of e) not_asked (Over place text) r
        refuses_typed r h = inr (
          is_opened def e place f found,
          inr (
            is_there def e place f found,
            inr (
              read_tokens def text new tree.nesting tree.reads,
              inr (
                has_a_tree,
                or_nests nests_well h,
              ),
            ),
          ),
        )

        takes_typed : Passes (tree_tests def Types (OfResult def (state_of e) (Over place text)))
            → IsTaken def (IsGoodIn def) (state_of e) not_asked (Over place text)
        takes_typed (shallow, more) = (
          is_opened def e place f found,
          (
            is_there def e place f found,
            (
              read_tokens def text new tree.nesting tree.reads,
              (
                has_a_tree,
                (neither nests_well shallow, more),
              ),
            ),
          ),
        )

        made_so : Makes def (state_of e) (Over place text) (replaced f.path.now new (tree_in f.held.now.note)) f.path.now
        made_so =
            let result = put_is e def place f found (λ old. new) new refl in
            subst (λ q. Makes def (state_of e) (Over place text) (replaced f.path.now new (tree_in f.held.now.note)) q)
            (path_is def e place f found)
            (subst (λ t. Makes def (state_of e) (Over place text) t (named_path place e.cursor)) result
            (result_of new tree.nesting here))

        -- what the change costs, after the tokens were read
        with_tokens : (ts : List Spanned) → TextTokens def text ts → (n : ℕ)
            → n ≤ length ts + diff_of (tree_in f.held.now.note) (replaced f.path.now new (tree_in f.held.now.note))
            → MayTick def (state_of e) (Over place text) n
        with_tokens ts are n le =
            inr (has_node def e place f found (λ old node. OfTyped def (state_of e) place text old n)
            (ts, are, inr (replaced f.path.now new (tree_in f.held.now.note), f.path.now, made_so, le)))

        -- the tree is in place of the node
        pub over_made : IsEditor def e
            → IsProposal def e (Over place text) (proposal_of Types (Put f.path.now new) f.path.now)
        over_made editor =
            let result = put_is e def place f found (λ old. new) new refl in
            record {
              held = f.held.now;
              opened = found.held;
              may = may_put def e place f editor found new keeps;
              makes = made_so;
              only = λ other given. over_once other given ∙ result;
              refused = refuses_typed;
              taken = takes_typed;
              sized = tt;
              counts = with_tokens tree.reads.tokens tree.reads.are
                  (diff_of (tree_in f.held.now.note) (replaced f.path.now new (tree_in f.held.now.note))) (omega arith);
            }

        -- the counts of the tokens and of the change together
        both_ticks : (from so_far to : ℕ) → HasRead def text from so_far
            → to ≤ so_far + (diff_of (tree_in f.held.now.note) (replaced f.path.now new (tree_in f.held.now.note)))
            → HasTicked def (state_of e) (Over place text) from to
        both_ticks from so_far to (inl same) le = record {
          taken = diff_of (tree_in f.held.now.note) (replaced f.path.now new (tree_in f.held.now.note));
          counted = omega (arith, same, le);
          within = with_tokens tree.reads.tokens tree.reads.are
              (diff_of (tree_in f.held.now.note) (replaced f.path.now new (tree_in f.held.now.note))) (omega arith);
        }
        both_ticks from so_far to (inr (ts, are, read)) le = record {
          taken = length ts + (diff_of (tree_in f.held.now.note) (replaced f.path.now new (tree_in f.held.now.note)));
          counted = omega (arith, read, le);
          within = with_tokens ts are (length ts + (diff_of (tree_in f.held.now.note) (replaced f.path.now new (tree_in f.held.now.note))))
              (omega arith);
        }

        pub made_spends : (made : Proposal) → made ≡ proposal_of Types (Put f.path.now new) f.path.now → (from so_far : ℕ)
            → HasRead def text from so_far → MaySpend def e (Over place text) from so_far (Ok made)
        made_spends made is_made from so_far read to (inl same) =
            both_ticks from so_far to read (omega (arith, same))
        made_spends made is_made from so_far read to (inr (m, is_plan, held, opened, le)) =
            let one : m ≡ proposal_of Types (Put f.path.now new) f.path.now = plan_once m made is_plan ∙ is_made in
            let two : held ≡ f.held.now = some_once held f.held.now e.opened opened found.held in
            both_ticks from so_far to read
            (subst (λ (h : OpenedTree). to ≤ so_far + cost_of (Put f.path.now new) (tree_in h.note)) two
            (subst (λ (x : Proposal). to ≤ so_far + cost_of x.edit (tree_in held.note)) one le)) where
              plan_once : (a b : Proposal) → ◌≡◌ {A = Result Proposal Stop} (Ok b) (Ok a) → a ≡ b
              plan_once a b same = cc

  -- a plan that refuses spends nothing more
  pub refused_spends : (stop : Stop) (from so_far : ℕ) → HasTicked def (state_of e) (Over place text) from so_far
      → MaySpend def e (Over place text) from so_far (Err stop)
  refused_spends stop from so_far ticked to (inl same) = record {
    taken = ticked.taken;
    counted = let h = ticked.counted in omega (arith, same, h);
    within = ticked.within;
  }
  refused_spends stop from so_far ticked to (inr (m, is_plan, held, opened, le)) = absurd (apart m is_plan) where
    apart : (m : Proposal) → ◌≡◌ {A = Result Proposal Stop} (Err stop) (Ok m) → ⊥
    apart m same = cc

  -- nothing is opened or no node is there, and nothing was counted
  pub unread_ticks : (from to : ℕ) → to ≡ from → HasTicked def (state_of e) (Over place text) from to
  unread_ticks from to same = record { taken = 0; counted = omega (arith, same); within = inl refl }
