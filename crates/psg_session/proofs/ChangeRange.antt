-- What replaced bytes are answered, before their tree is tested.
use Rattle.std.proofs.Common.{◌≡◌, inl, inr, ℕ, ◌+◌, ◌-◌, ◌≤◌, List, [], Option, Some, None, refl, ◌∙◌, subst, arith, Err, Ok, Result}
use Rattle.std.proofs.lemmas.Bool.{cases_lt}
use Rattle.psg_grammar.specs.declared.types.Definition.{Definition}
use Rattle.psg_grammar.specs.declared.limits.TheConstants.{MOST_DEPTH}
use Rattle.psg_grammar.specs.Fragments.{Fragment}
use Rattle.psg_grammar.specs.Paths.{Path, replaced}
use Rattle.psg_grammar.specs.Printable.{IsPrintable}
use Rattle.psg_grammar.specs.Sizes.{depth_of, IsDeep}
use Rattle.psg_grammar.specs.WellFormed.{WellFormed}
use Rattle.psg_cache.specs.Annotated.{tree_in}
use Rattle.psg_cache.specs.Diff.{diff_of}
use Rattle.psg_class.specs.Class.{IsClass}
use Rattle.psg_class.specs.Texts.{HasNoTokens, HasNoTree}
use Rattle.psg_unparse.specs.Layout.{text_of}
use Rattle.psg_textedit.specs.Regions.{Typing, IsOutside, IsReading}
use Rattle.psg_script.specs.declared.command.Command.TheVariants.{Range}
use Rattle.psg_textedit.specs.declared.change.Change.{Change}
use Rattle.psg_textedit.specs.declared.change.TextFault.{TextFault}
use Rattle.psg_textedit.specs.declared.change.TextFault.TheVariants as faults
use Rattle.psg_session.specs.declared.changes.Proposal.{Proposal}
use Rattle.psg_session.specs.declared.stop.Stop.{Stop}
use Rattle.psg_session.specs.declared.stop.Stop.TheVariants as stops
use Rattle.psg_session.specs.declared.edits.Edit.TheVariants.{Put}
use Rattle.psg_session.specs.declared.editor.Editor.{Editor}
use Rattle.psg_session.specs.declared.editor.OpenedTree.{OpenedTree}
use Rattle.psg_session.specs.declared.judging.Trial.TheVariants.{Types}
use Rattle.psg_session.specs.declared.refusal.Refusal.{Refusal}
use Rattle.psg_session.specs.declared.refusal.Refusal.TheVariants.{NothingOpened}
use Rattle.psg_session.specs.Edits.{cost_of}
use Rattle.psg_session.specs.Formed.{IsFormedState}
use Rattle.psg_session.specs.Good.{IsGoodIn}
use Rattle.psg_session.specs.Outcomes.{IsProposal, IsPlan, proposal_of, MaySpend, tree_tests}
use Rattle.psg_session.specs.PlainState.{Opened, not_asked}
use Rattle.psg_session.specs.PlainStep.{Gives, by_change, by_range, IsRefused, IsTaken, Makes, OfResult}
use Rattle.psg_session.specs.RangeAnswers.{HasChange, HasNoChange}
use Rattle.psg_session.specs.Stops.{stop_of_text}
use Rattle.psg_session.specs.Ranged.{NestsTooDeepWith, OfOpened, ReadsWith, replacing, text_with}
use Rattle.psg_session.specs.Refusals.{Passes, Refuses}
use Rattle.psg_session.specs.Sessions.{IsEditor, plain, state_of}
use Rattle.psg_session.specs.Ticks.{HasTicked, OfRanged}
use Rattle.psg_session.proofs.ChangeOver.{neither, or_nests}
use Rattle.psg_session.proofs.EditLaws.{opened_version}
use Rattle.psg_session.proofs.StepLaws.{is_opened_by, not_opened, opened_plain, some_once}
use Rattle.psg_session.proofs.TypedLaws.{has_tree, no_fault, one_tree, read_tokens}

plan_once : (a b : Proposal) → ◌≡◌ {A = Result Proposal Stop} (Ok b) (Ok a) → a ≡ b
plan_once a b same = cc

apart : (stop : Stop) (m : Proposal) → ◌≡◌ {A = Result Proposal Stop} (Err stop) (Ok m) → ⊥
apart stop m same = cc

module _ (def : Definition) (e : Editor) (start end : ℕ) (text : List ℕ) where
  abbrev here : Typing
  here = replacing start end text

  -- ---- nothing is opened

  pub range_unopened : e.opened ≡ None → IsPlan def e (Range start end text) (Err (stops.Refused NothingOpened))
  range_unopened none = inl (not_opened def e none, refl)

  pub range_unread : (from to : ℕ) → to ≡ from → HasTicked def (state_of e) (Range start end text) from to
  range_unread from to same = record { taken = 0; counted = omega (arith, same); within = inl refl }

  -- a plan that refuses spends nothing more
  pub range_refused_spends : (stop : Stop) (from so_far : ℕ)
      → HasTicked def (state_of e) (Range start end text) from so_far
      → MaySpend def e (Range start end text) from so_far (Err stop)
  range_refused_spends stop from so_far ticked to (inl same) = record {
    taken = ticked.taken;
    counted = let h = ticked.counted in omega (arith, same, h);
    within = ticked.within;
  }
  range_refused_spends stop from so_far ticked to (inr (m, is_plan, held, opened, le)) = absurd (apart stop m is_plan)

  module _ (held : OpenedTree) (is : e.opened ≡ Some held) where
    abbrev old : Opened
    old = plain held

    opened_is : (state_of e).opened ≡ Some (plain held)
    opened_is = opened_plain def e held is

    is_opened : (state_of e).opened ≡ None → ⊥
    is_opened = is_opened_by def e held is

    -- what is said of the opened fragment is said of this one
    of_opened : (P : Opened → Type 0) → OfOpened (state_of e) P → P old
    of_opened P (other, opened, holds) = subst P (some_once other old (state_of e).opened opened opened_is) holds

    has_opened : (P : Opened → Type 0) → P old → OfOpened (state_of e) P
    has_opened P holds = (old, opened_is, holds)

    abbrev Out : Opened → Type 0
    Out o = IsOutside here (text_of def o.tree)

    abbrev Faulty : Opened → Type 0
    Faulty o = HasNoTokens def (text_with def here o)

    abbrev Treeless : Opened → Type 0
    Treeless o = HasNoTree def o.kind (text_with def here o)

    -- ---- what the editor has opened

    module _ (editor : IsEditor def e) (formed : IsFormedState def (state_of e)) where
      pub held_formed : WellFormed def (tree_in held.note) held.kind
      held_formed = formed.opened old opened_is

      pub held_printable : IsPrintable (tree_in held.note)
      held_printable = formed.printable.opened old opened_is

      pub held_shallow : depth_of (tree_in held.note) ≤ MOST_DEPTH
      held_shallow = low (opened_version def e held editor is).noted.within.shallow where
        low : (IsDeep (tree_in held.note) → ⊥) → depth_of (tree_in held.note) ≤ MOST_DEPTH
        low never = elim (cases_lt MOST_DEPTH (depth_of (tree_in held.note))) [
          | inl deep ↦ absurd (never deep)
          | inr le ↦ le
        ]

    -- ---- ticks

    -- the nodes around the bytes alone were read
    pub range_ticks : (from to : ℕ)
        → ((found : Option Path) (n : ℕ) → IsReading def (tree_in held.note) here found n → to ≤ from + n)
        → HasTicked def (state_of e) (Range start end text) from to
    range_ticks from to read = record {
      taken = to - from;
      counted = omega arith;
      within = inr (has_opened (λ o. OfRanged def (state_of e) start end text o (to - from))
          (λ found n reading. inl (let le = read found n reading in omega (arith, le))));
    }

    -- ---- refusals

    result_of : (tree : Fragment) (n : ℕ) → ReadsWith def here old tree n
        → Makes def (state_of e) (Range start end text) tree []
    result_of tree n reads = by_range old tree n opened_is reads

    pub range_refused : (fault : TextFault) → HasNoChange def here old fault
        → IsPlan def e (Range start end text) (Err (stop_of_text fault))
    range_refused faults.NoPlace h = inr (is_opened, inl (has_opened Out h.reason, refl))
    range_refused faults.NoTokens h = inr (
      is_opened,
      inr ((λ out. h.reason.0 (of_opened Out out)), inl (has_opened Faulty h.reason.1, refl)),
    )
    range_refused faults.NoTree h = inr (
      is_opened,
      inr (
        (λ out. h.reason.0 (of_opened Out out)),
        inr (
          (λ fault. no_fault def (text_with def here old) h.reason.1.tokens h.reason.1.are (of_opened Faulty fault)),
          inl (has_opened Treeless h.reason.1, refl),
        ),
      ),
    )
    range_refused faults.Deep h =
        let d = h.reason.1 in
        let reads : ReadsWith def here old d.tree d.nesting = record { utf8 = h.utf8 h.reason.0; reads = d.reads } in
        inr (
          is_opened,
          inr (
            (λ out. h.reason.0 (of_opened Out out)),
            inr (
              (λ fault. read_tokens def (text_with def here old) d.tree d.nesting d.reads (of_opened Faulty fault)),
              inr (
                (λ none. has_tree def old.kind (text_with def here old) d.tree d.nesting d.reads (of_opened Treeless none)),
                inl (
                  elim d.deep [
                    | inl deep ↦ inr (d.tree, by_change (result_of d.tree d.nesting reads), deep)
                    | inr nests ↦
                        inl (has_opened (NestsTooDeepWith def here)
                        (record { tree = d.tree; nesting = d.nesting; reads = reads; deep = nests }))
                  ],
                  refl,
                ),
              ),
            ),
          ),
        )
    range_refused faults.Memory h = tt

    -- ---- a tree that is put in

    module _ (is_class : IsClass def) (change : Change) (h : HasChange def here old change) where
      abbrev whole : Fragment
      whole = replaced change.path change.tree (tree_in held.note)

      abbrev cost : ℕ
      cost = diff_of (tree_in held.note) (replaced change.path change.tree (tree_in held.note))

      reads_whole : ReadsWith def here old whole h.typed.nesting
      reads_whole = record { utf8 = h.utf8; reads = h.typed.reads }

      makes_whole : Makes def (state_of e) (Range start end text) whole []
      makes_whole = result_of whole h.typed.nesting reads_whole

      range_once : (other : Fragment) → Gives def (state_of e) (Range start end text) other → other ≡ whole
      range_once other (by_change (by_range o tree n opened reads)) =
          let also : ReadsWith def here old tree n =
          of_opened (λ x. ReadsWith def here x tree n) (o, opened, reads) in
          (one_tree def is_class old.kind (text_with def here old) tree whole n h.typed.nesting also.reads h.typed.reads).tree

      is_inside : OfOpened (state_of e) Out → ⊥
      is_inside out = h.typed.inside (of_opened Out out)

      is_faultless : OfOpened (state_of e) Faulty → ⊥
      is_faultless fault =
          read_tokens def (text_with def here old) whole h.typed.nesting h.typed.reads (of_opened Faulty fault)

      has_a_tree : OfOpened (state_of e) Treeless → ⊥
      has_a_tree none =
          has_tree def old.kind (text_with def here old) whole h.typed.nesting h.typed.reads (of_opened Treeless none)

      nests_well : OfOpened (state_of e) (NestsTooDeepWith def here) → ⊥
      nests_well nests =
          let deep = of_opened (NestsTooDeepWith def here) nests in
          let same : deep.nesting ≡ h.typed.nesting =
          (one_tree def is_class old.kind (text_with def here old) deep.tree whole deep.nesting h.typed.nesting
          deep.reads.reads h.typed.reads).nesting in
          omega (arith, deep.deep, h.typed.brackets, same)

      refuses_whole : (r : Refusal) → Refuses (tree_tests def Types (OfResult def (state_of e) (Range start end text))) r
          → IsRefused def (IsGoodIn def) (state_of e) not_asked (Range start end text) r
      refuses_whole r refused = inr (
        is_opened,
        inr (is_inside, inr (is_faultless, inr (has_a_tree, or_nests nests_well refused))),
      )

      takes_whole : Passes (tree_tests def Types (OfResult def (state_of e) (Range start end text)))
          → IsTaken def (IsGoodIn def) (state_of e) not_asked (Range start end text)
      takes_whole (shallow, more) =
          (is_opened, (is_inside, (is_faultless, (has_a_tree, (neither nests_well shallow, more)))))

      -- the counts of the tokens and of the change together
      both_ticks : (from so_far to : ℕ)
          → ((found : Option Path) (n : ℕ) → IsReading def (tree_in held.note) here found n → so_far ≤ from + n)
          → to ≤ so_far + cost → HasTicked def (state_of e) (Range start end text) from to
      both_ticks from so_far to read le = record {
        taken = to - from;
        counted = omega arith;
        within = inr (has_opened (λ o. OfRanged def (state_of e) start end text o (to - from))
            (λ found n reading. inr (
              whole,
              [],
              makes_whole,
              (let first = read found n reading in omega (arith, first, le)),
            )));
      }

      pub range_made : IsProposal def e (Range start end text) (proposal_of Types (Put change.path change.tree) [])
      range_made = record {
        held = held;
        opened = is;
        may = record {
          node = h.fits.node;
          there = h.fits.there;
          kind = h.fits.kind;
          of_kind = h.fits.of_kind;
          formed = h.fits.formed;
        };
        makes = makes_whole;
        only = range_once;
        refused = refuses_whole;
        taken = takes_whole;
        sized = tt;
        counts = inr (has_opened (λ o. OfRanged def (state_of e) start end text o cost)
            (λ found n reading. inr (whole, [], makes_whole, omega arith)));
      }

      pub range_spends : (made : Proposal) → made ≡ proposal_of Types (Put change.path change.tree) [] → (from so_far : ℕ)
          → ((found : Option Path) (n : ℕ) → IsReading def (tree_in held.note) here found n → so_far ≤ from + n)
          → MaySpend def e (Range start end text) from so_far (Ok made)
      range_spends made is_made from so_far read to (inl same) =
          both_ticks from so_far to read (omega (arith, same))
      range_spends made is_made from so_far read to (inr (m, is_plan, other, opened, le)) =
          let one : m ≡ proposal_of Types (Put change.path change.tree) [] = plan_once m made is_plan ∙ is_made in
          let two : other ≡ held = some_once other held e.opened opened is in
          both_ticks from so_far to read
          (subst (λ (x : OpenedTree). to ≤ so_far + cost_of (Put change.path change.tree) (tree_in x.note)) two
          (subst (λ (x : Proposal). to ≤ so_far + cost_of x.edit (tree_in other.note)) one le))
