-- Where two properties hold of the same well-formed trees, the editors for which they count as good take the same steps.
use Rattle.std.proofs.Common.{◌≡◌, ◌⊎◌, ◌↔◌, ◌<◌, inl, inr, ℕ, List, length, Some, None, Option, refl, sym, ◌∙◌, subst}
use Rattle.std.specs.List.{AllByRecursion}
use Rattle.psg_terms.specs.Names.{Name}
use Rattle.psg_grammar.specs.declared.types.Kind.{Kind}
use Rattle.psg_grammar.specs.declared.types.Definition.{Definition}
use Rattle.psg_grammar.specs.Fragments.{Fragment, hole, children_of}
use Rattle.psg_grammar.specs.Insertion.{blank}
use Rattle.psg_grammar.specs.Marks.{Mark, IsMarkBy}
use Rattle.psg_grammar.specs.Paths.{IsList}
use Rattle.psg_grammar.specs.Sound.{IsSound}
use Rattle.psg_grammar.specs.WellFormed.{WellFormed}
use Rattle.psg_grammar.specs.Insertion.{with_operator}
use Rattle.psg_renaming.specs.Occurring.{occurring}
use Rattle.psg_menu.specs.Menus.{in_byte_order}
use Rattle.psg_script.specs.declared.command.Where.{Where}
use Rattle.psg_script.specs.declared.command.Command.{Command}
use Rattle.psg_script.specs.declared.command.Command.TheVariants.{New, Goto, Refine, Insert, Cut, Remove, Close, Reopen, Over, Range, Show, Screen, Relation, Own, Menu, Names, Free, Undo, Redo, Save, Paste, Keep, Fetch}
use Rattle.psg_menu.specs.Menus.{HasQuietSlots}
use Rattle.psg_session.specs.declared.refusal.Refusal.{Refusal}
use Rattle.psg_session.specs.Formed.{HasText, IsFormedState}
use Rattle.psg_session.specs.PlainState.{State, Answer, named_path}
use Rattle.psg_session.specs.PlainStep.{AtNode, HasNoRoom, IsNoNode, IsOther, IsOtherSaved, Gives, by_change, IsTaken, OfResult, by_refine, by_insert, by_close, by_paste, by_paste_in, Steps, refuses, opens, changes, undoes, redoes, saves, keeps, fetches, shows, goes, screens, owns, relates, frees, offers, suggests, closing, growing, tests}
use Rattle.psg_session.specs.Refusals.{Tests, done, test, Refuses, Passes}
use Rattle.psg_session.specs.Replies.{Reply}
use Rattle.psg_session.proofs.FormedMakes.{refined, put_in, closed_given, pasted, pasted_in}
use Rattle.psg_session.proofs.FormedSteps.{makes_given, new_formed}
use Rattle.psg_session.proofs.FormedTrials.{named_phylum, operator_in, trial_formed, wanted_at}
use Rattle.psg_session.proofs.MenuLaws.{menu_same, naming_same}

-- ---- tests

-- The tests are of the same refusals, and each holds in both or in none where those before it do not hold.
abbrev AreSame : Tests → Tests → Type 0
AreSame done done = Unit {0}
AreSame (test r holds rest) (test q also more) = (r ≡ q) × (holds ↔ also) × ((holds → ⊥) → AreSame rest more)
AreSame _ _ = ⊥

same_refuses : (a b : Tests) → AreSame a b → (r : Refusal) → Refuses a r → Refuses b r
same_refuses done done same r h = h
same_refuses done (test q also more) same r h = absurd same
same_refuses (test x holds rest) done same r h = absurd same
same_refuses (test x holds rest) (test q also more) (e, both, then) r (inl (h, is)) = inl (both.0 h, sym e ∙ is)
same_refuses (test x holds rest) (test q also more) (e, both, then) r (inr (never, h)) =
    inr ((λ g. never (both.1 g)), same_refuses rest more (then never) r h)

same_passes : (a b : Tests) → AreSame a b → Passes a → Passes b
same_passes done done same h = h
same_passes done (test q also more) same h = absurd same
same_passes (test x holds rest) done same h = absurd same
same_passes (test x holds rest) (test q also more) (e, both, then) (never, h) =
    ((λ g. never (both.1 g)), same_passes rest more (then never) h)

same_itself : (a : Tests) → AreSame a a
same_itself done = tt
same_itself (test r holds rest) = (refl, ((λ h. h), (λ h. h)), λ never. same_itself rest)

-- ---- steps

module _ (def : Definition) (A B : Fragment → Type 0) (sound : IsSound def) (slots : HasQuietSlots def)
    (agree : (f : Fragment) (kind : Kind) → WellFormed def f kind → A f ↔ B f)
    (marks : (f : Fragment) (kind : Kind) → WellFormed def f kind → (mark : Mark) → IsMarkBy A f mark → IsMarkBy B f mark)
    (s : State) (answer : Answer) (formed : IsFormedState def s) where
  -- what the command gives is a tree of some kind
  abbrev GivesFormed : Command → Type 0
  GivesFormed command = (tree : Fragment) → Gives def s command tree → (kind : Kind) × WellFormed def tree kind

  same_closing : (command : Command) → GivesFormed command
      → AreSame (closing def A (OfResult def s command)) (closing def B (OfResult def s command))
  same_closing command of_kind = (
    refl,
    ((λ h. h), (λ h. h)),
    λ narrow. (
      refl,
      ((λ h. h), (λ h. h)),
      λ light. (
        refl,
        (
          (λ (tree, gives, not). (tree, gives, λ h. let (kind, whole) = of_kind tree gives in not ((agree tree kind whole).1 h))),
          (λ (tree, gives, not). (tree, gives, λ h. let (kind, whole) = of_kind tree gives in not ((agree tree kind whole).0 h))),
        ),
        λ good. tt,
      ),
    ),
  )

  same_growing : (command : Command) → GivesFormed command
      → AreSame (growing def A (OfResult def s command)) (growing def B (OfResult def s command))
  same_growing command of_kind = (
    refl,
    ((λ h. h), (λ h. h)),
    λ shallow. (
      refl,
      ((λ h. h), (λ h. h)),
      λ small. same_closing command of_kind,
    ),
  )

  refine_gives : (place : Where) (name : Name) (args : List ℕ) → (IsNoNode def s place → ⊥)
      → (AtNode def s place (λ old node. (p : ℕ) → node ≡ hole p → ⊥) → ⊥) → (IsOther def s place None name → ⊥)
      → GivesFormed (Refine place name args)
  refine_gives place name args some is_hole same tree (by_change (by_refine old o leaves opened named given)) =
      (old.kind, (refined def sound slots s formed place old opened name args o leaves named given some is_hole same).0)

  insert_gives : (place : Where) (k : ℕ) (name : Name) (args : List ℕ) → (IsNoNode def s place → ⊥)
      → (AtNode def s place (λ old node. (IsList node → ⊥) ⊎ (length (children_of node) < k)) → ⊥)
      → (IsOther def s place (Some k) name → ⊥) → GivesFormed (Insert place k name args)
  insert_gives place k name args some room same tree (by_change (by_insert old o leaves opened named given)) =
      (old.kind, (put_in def sound slots s formed place old opened name args o leaves named given k some room same).0)

  close_gives : (place : Where) → (IsNoNode def s place → ⊥) → GivesFormed (Close place)
  close_gives place some tree (by_change (by_close old opened)) =
      (old.kind, (closed_given def sound slots s formed place old opened some).0)

  paste_gives : (place : Where) (k : Option ℕ) (name : Name) → (IsNoNode def s place → ⊥)
      → (AtNode def s place (λ old node. HasNoRoom def k node) → ⊥) → (IsOtherSaved def s place k name → ⊥)
      → GivesFormed (Paste place k name)
  paste_gives place None name some room same tree (by_change (by_paste old x opened is_saved)) =
      (old.kind, (pasted def sound slots s formed place old opened name x is_saved some same).0)
  paste_gives place (Some n) name some room same tree (by_change (by_paste_in old x opened is_saved)) =
      (old.kind, (pasted_in def sound slots s formed place old opened name x is_saved n some room same).0)

  same_tests : (command : Command) → AreSame (tests def A s answer command) (tests def B s answer command)
  same_tests (Refine place name args) = (
    refl,
    ((λ h. h), (λ h. h)),
    λ opened. (
      refl,
      ((λ h. h), (λ h. h)),
      λ some. (
        refl,
        ((λ h. h), (λ h. h)),
        λ is_hole. (
          refl,
          ((λ h. h), (λ h. h)),
          λ known. (
            refl,
            ((λ h. h), (λ h. h)),
            λ same. (
              refl,
              ((λ h. h), (λ h. h)),
              λ leaves.
                  same_growing (Refine place name args) (refine_gives place name args some is_hole same),
            ),
          ),
        ),
      ),
    ),
  )
  same_tests (Insert place k name args) = (
    refl,
    ((λ h. h), (λ h. h)),
    λ opened. (
      refl,
      ((λ h. h), (λ h. h)),
      λ some. (
        refl,
        ((λ h. h), (λ h. h)),
        λ room. (
          refl,
          ((λ h. h), (λ h. h)),
          λ known. (
            refl,
            ((λ h. h), (λ h. h)),
            λ same. (
              refl,
              ((λ h. h), (λ h. h)),
              λ leaves.
                  same_growing (Insert place k name args) (insert_gives place k name args some room same),
            ),
          ),
        ),
      ),
    ),
  )
  same_tests (Close place) = (
    refl,
    ((λ h. h), (λ h. h)),
    λ opened. (
      refl,
      ((λ h. h), (λ h. h)),
      λ some. (
        refl,
        ((λ h. h), (λ h. h)),
        λ unfinished.
            same_closing (Close place) (close_gives place some),
      ),
    ),
  )
  same_tests (Paste place k name) = (
    refl,
    ((λ h. h), (λ h. h)),
    λ opened. (
      refl,
      ((λ h. h), (λ h. h)),
      λ known. (
        refl,
        ((λ h. h), (λ h. h)),
        λ some. (
          refl,
          ((λ h. h), (λ h. h)),
          λ room. (
            refl,
            ((λ h. h), (λ h. h)),
            λ same.
                same_growing (Paste place k name) (paste_gives place k name some room same),
          ),
        ),
      ),
    ),
  )
  same_tests (New name) = same_itself (tests def A s answer (New name))
  same_tests (Goto place) = same_itself (tests def A s answer (Goto place))
  same_tests (Cut place) = same_itself (tests def A s answer (Cut place))
  same_tests (Remove place k) = same_itself (tests def A s answer (Remove place k))
  same_tests (Reopen place) = same_itself (tests def A s answer (Reopen place))
  same_tests (Over place text) = same_itself (tests def A s answer (Over place text))
  same_tests (Range start end text) = same_itself (tests def A s answer (Range start end text))
  same_tests Show = same_itself (tests def A s answer Show)
  same_tests (Screen top left rows cols) = same_itself (tests def A s answer (Screen top left rows cols))
  same_tests (Relation place) = same_itself (tests def A s answer (Relation place))
  same_tests (Own place) = same_itself (tests def A s answer (Own place))
  same_tests (Menu place k) = same_itself (tests def A s answer (Menu place k))
  same_tests (Names place k name) = same_itself (tests def A s answer (Names place k name))
  same_tests Free = same_itself (tests def A s answer Free)
  same_tests Undo = same_itself (tests def A s answer Undo)
  same_tests Redo = same_itself (tests def A s answer Redo)
  same_tests (Save name place) = same_itself (tests def A s answer (Save name place))
  same_tests (Keep name file) = same_itself (tests def A s answer (Keep name file))
  same_tests (Fetch file) = same_itself (tests def A s answer (Fetch file))

  still_taken : (command : Command) → IsTaken def A s answer command → IsTaken def B s answer command
  still_taken command = same_passes (tests def A s answer command) (tests def B s answer command) (same_tests command)

  pub same_step : {command : Command} {t : State} {reply : Reply} → HasText command
      → Steps def A s answer command t reply → Steps def B s answer command t reply
  same_step text (refuses {command = command} {r = r} is) =
      refuses (same_refuses (tests def A s answer command) (tests def B s answer command) (same_tests command) r is)
  same_step text (opens {name = name} kind mark taken named is_mark) =
      opens kind mark (still_taken (New name) taken) named
      (marks (blank def kind) kind (new_formed def kind name named (λ loud. taken.1.0 (kind, named, loud))) mark is_mark)
  same_step text (changes {command = command} {tree = tree} old mark taken opened makes is_mark) =
      let (whole, node, at) = makes_given def A sound slots s answer formed text taken old opened makes in
      changes old mark (still_taken command taken) opened makes (marks tree old.kind whole mark is_mark)
  same_step text (undoes old tree rest mark taken opened is is_mark) =
      let all = subst (AllByRecursion (λ f. WellFormed def f old.kind)) is (formed.earlier old opened) in
      undoes old tree rest mark (still_taken Undo taken) opened is (marks tree old.kind all.0 mark is_mark)
  same_step text (redoes old tree rest mark taken opened is is_mark) =
      let all = subst (AllByRecursion (λ f. WellFormed def f old.kind)) is (formed.later old opened) in
      redoes old tree rest mark (still_taken Redo taken) opened is (marks tree old.kind all.0 mark is_mark)
  same_step text (saves {name = name} {place = place} old node kind taken opened at of) =
      saves old node kind (still_taken (Save name place) taken) opened at of
  same_step text (keeps {name = name} {file = file} taken is) = keeps (still_taken (Keep name file) taken) is
  same_step text (fetches {file = file} bytes x taken is kept) =
      fetches bytes x (still_taken (Fetch file) taken) is kept
  same_step text (shows old mark taken opened is_mark) =
      shows old mark (still_taken Show taken) opened (marks old.tree old.kind (formed.opened old opened) mark is_mark)
  same_step text (goes {place = place} old p kind name taken opened written of named) =
      goes old p kind name (still_taken (Goto place) taken) opened written of named
  same_step text (screens {top = top} {left = left} {rows = rows} {cols = cols} old taken opened) =
      screens old (still_taken (Screen top left rows cols) taken) opened
  same_step text (owns {place = place} old node rows taken opened at is) =
      owns old node rows (still_taken (Own place) taken) opened at is
  same_step text (relates {place = place} old rows taken opened is) =
      relates old rows (still_taken (Relation place) taken) opened is
  same_step text (frees old taken opened) = frees old (still_taken Free taken) opened
  same_step text (offers {place = place} {k = k} old node p ops names taken opened at want menu named) =
      let path = named_path place s.cursor in
      offers old node p ops names (still_taken (Menu place k) taken) opened at want
      (menu_same def A B old.tree path k p ops
      (λ o i leaves are. agree (with_operator def old.tree path k o leaves) old.kind
      (trial_formed def sound slots s formed place old opened taken.1.0 k taken.1.1.0 node p at want o (operator_in def p o i) leaves are))
      menu) named
  same_step text (suggests {place = place} {k = k} {name = name} old o names taken opened named menu) =
      let path = named_path place s.cursor in
      let w = wanted_at def sound slots s formed place old opened taken.1.0 k taken.1.1.0 in
      let there = named_phylum def sound slots s formed place old opened taken.1.0 k w name o taken.1.1.1.1.0 named in
      suggests old o names (still_taken (Names place k name) taken) opened named
      (naming_same def A B old.tree path k o (in_byte_order (occurring old.tree)) names
      (λ leaves are. agree (with_operator def old.tree path k o leaves) old.kind
      (trial_formed def sound slots s formed place old opened taken.1.0 k taken.1.1.0 w.node w.phylum w.at w.wanted o there leaves are))
      menu)
