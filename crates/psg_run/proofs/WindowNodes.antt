-- The cursors of windows stay at nodes.
use Rattle.std.proofs.Common.{◌≡◌, ◌⊎◌, inl, inr, ℕ, zero, suc, ◌<◌, ◌≤◌, Bool, true, false, cond, List, []}
use Rattle.std.proofs.Common.{◌∷◌, length, map, set, Option, Some, refl, sym, subst, arith}
use Rattle.std.specs.List.{AllByRecursion}
use Rattle.std.proofs.lemmas.Bool.Decides.{leb_tells}
use Rattle.psg_grammar.specs.declared.types.Definition.{Definition}
use Rattle.psg_grammar.specs.declared.types.Item.{Item}
use Rattle.psg_grammar.specs.declared.types.Item.TheVariants as items
use Rattle.psg_grammar.specs.declared.types.Kind.TheVariants as kinds
use Rattle.psg_grammar.specs.Fragments.{Fragment, hole, ending, cell, operator, with_child, with_name, with_number}
use Rattle.psg_grammar.specs.Fragments.{with_text, anything, observed, children_of}
use Rattle.psg_grammar.specs.Insertion.{blank, fresh_operator}
use Rattle.psg_grammar.specs.Legal.{IsCompletable}
use Rattle.psg_grammar.specs.Paths.{Path, node_at, change_at, replaced, inserted, removed, ended, IsList}
use Rattle.psg_grammar.specs.Sound.{IsSound}
use Rattle.psg_grammar.specs.WellFormed.{Fits, IsPlain, WellFormed}
use Rattle.psg_specimen.specs.Refusal.{IsAccepted}
use Rattle.psg_script.specs.declared.command.Where.{Where}
use Rattle.psg_script.specs.declared.command.Where.TheVariants.{Cursor, At}
use Rattle.psg_script.specs.declared.command.Command.{Command}
use Rattle.psg_script.specs.declared.command.Command.TheVariants.{New, Goto, Refine, Insert, Cut, Remove, Close, Reopen}
use Rattle.psg_script.specs.declared.command.Command.TheVariants.{Over, Range, Show, Screen, Relation, Own, Menu, Names}
use Rattle.psg_script.specs.declared.command.Command.TheVariants.{Free, Undo, Redo, Save, Paste, Keep, Fetch}
use Rattle.psg_session.specs.Formed.{HasText, IsFormedState}
use Rattle.psg_session.specs.PlainState.{State, Answer, Opened, named_path}
use Rattle.psg_session.specs.PlainStep.{AtNode, IsNoNode, IsTaken, Makes, Steps, by_refine, by_insert, by_cut}
use Rattle.psg_session.specs.PlainStep.{by_remove, by_close, by_reopen, by_paste, by_paste_in, by_over, by_range}
use Rattle.psg_session.specs.PlainStep.{refuses, opens, changes, undoes, redoes, saves, keeps, fetches, shows, goes}
use Rattle.psg_session.specs.PlainStep.{screens, owns, relates, frees, offers, suggests}
use Rattle.psg_session.specs.Replies.{Reply}
use Rattle.psg_session.proofs.FormedMakes.{node_there, list_at}
use Rattle.psg_session.proofs.NewTrees.{quiet_slots}
use Rattle.psg_session.proofs.StepLaws.{some_once}
use Rattle.psg_windows.specs.Moving.{moves_own, other_moved, own_moved, path_of, cursor_of, lifted, raised}
use Rattle.psg_windows.specs.Moving.{lowered}
use Rattle.psg_windows.specs.Resolving.{IsPath, IsResolved, resolved}
use Rattle.psg_windows.specs.Standing.{IsChain, Leads}
use Rattle.psg_windows.proofs.Keeping.{lifted_there, raised_there, lowered_there, ended_there}
use Rattle.psg_windows.proofs.Places.{none_left}
use Rattle.psg_run.specs.Chain as chain
use Rattle.psg_run.specs.Chain.{Point, Runs}
use Rattle.psg_run.specs.Windowed.{AnswersFor, IsPlayedFor, Windowed, cursors_after, to_none, to_window}
use Rattle.psg_run.specs.WindowLaws.{IsAtNode, StandAtNodes, WindowsStandAtNodes}
use Rattle.psg_run.proofs.FormedRuns.{accepted_keeps}
use Rattle.psg_run.proofs.LineCommands.{has_text}

-- ---- all cursors

-- each cursor is moved so, and the window's own so
moved_all : (P Q : Path → Type 0) (f own : Path → Path) → ((c : Path) → P c → Q (f c)) → ((c : Path) → P c → Q (own c))
    → (cs : List Path) (w : ℕ) → AllByRecursion P cs → AllByRecursion Q (set (map f cs) w (own (cursor_of cs w)))
moved_all P Q f own others mine [] w all = tt
moved_all P Q f own others mine (c ∷ cs) zero (here, rest) = (mine c here, each cs rest) where
  each : (cs : List Path) → AllByRecursion P cs → AllByRecursion Q (map f cs)
  each [] all = tt
  each (c ∷ cs) (here, rest) = (others c here, each cs rest)
moved_all P Q f own others mine (c ∷ cs) (suc w) (here, rest) =
    (others c here, moved_all P Q f own others mine cs w rest)

-- ---- lists of well-formed trees

module _ (def : Definition) where
  -- parts that still follow make no list
  never : (f : Fragment) (i : Item) (more : List Item) (l : ℕ) → Fits def f (i ∷ more) (kinds.List l) → ⊥
  never (hole p) i more l (none, same, few, holes) = cc
  never (ending m u) i more l (none, same, end) = cc
  never (cell m e r) i more l (none, same, k, found, inner, rest, un) = cc
  never (operator o) i more l (op, found, all, same) = cc
  never (with_child f t) i more l (k, fits, inner) = never f (items.Slot k) (i ∷ more) l fits
  never (with_name f n) i more l (inl (s, fits), name) = never f (items.Refers s) (i ∷ more) l fits
  never (with_name f n) i more l (inr (s, fits), name) = never f (items.Declares s) (i ∷ more) l fits
  never (with_number f n) i more l (fits, small) = never f items.Number (i ∷ more) l fits
  never (with_text f t) i more l (fits, text) = never f items.Text (i ∷ more) l fits
  never anything i more l fits = fits
  never (observed f) i more l (none, fits) = cc

  chain_of : (f : Fragment) (more : List Item) (l : ℕ) → Fits def f more (kinds.List l) → IsPlain f → IsChain f
  chain_of (hole p) more l (none, same, few, holes) plain = cc
  chain_of (ending m u) more l fits plain = tt
  chain_of (cell m e r) more l (none, same, k, found, inner, rest, un) (p, q) = chain_of r [] m rest q
  chain_of (operator o) more l (op, found, all, same) plain = cc
  chain_of (with_child f t) more l (k, fits, inner) plain = absurd (never f (items.Slot k) more l fits)
  chain_of (with_name f n) more l (inl (s, fits), name) plain = absurd (never f (items.Refers s) more l fits)
  chain_of (with_name f n) more l (inr (s, fits), name) plain = absurd (never f (items.Declares s) more l fits)
  chain_of (with_number f n) more l (fits, small) plain = absurd (never f items.Number more l fits)
  chain_of (with_text f t) more l (fits, text) plain = absurd (never f items.Text more l fits)
  chain_of anything more l fits plain = absurd fits
  chain_of (observed f) more l fits plain = absurd plain

  list_chain : (f : Fragment) (kind : kinds.the_data) → WellFormed def f kind → IsList f → IsChain f
  list_chain (ending m u) kind formed is = tt
  list_chain (cell m e r) kind ((none, same, k, found, inner, rest, un), (p, q)) is = chain_of r [] m rest q
  list_chain (hole p) kind formed is = absurd is
  list_chain (operator o) kind formed is = absurd is
  list_chain (with_child f t) kind formed is = absurd is
  list_chain (with_name f n) kind formed is = absurd is
  list_chain (with_number f n) kind formed is = absurd is
  list_chain (with_text f t) kind formed is = absurd is
  list_chain anything kind formed is = absurd is
  list_chain (observed f) kind formed is = absurd is

-- ---- places that are paths

same_path : (place : Where) (cursor : Path) → IsPath place → named_path place cursor ≡ path_of place
same_path Cursor cursor is = absurd is
same_path (At path) cursor is = refl

at_most : (k n : ℕ) → (n < k → ⊥) → k ≤ n
at_most k n short = elim (leb_tells k n) [ inl h ↦ h.1 | inr h ↦ absurd (short h.1) ]

module _ (def : Definition) (IsGood : Fragment → Type 0) (sound : IsSound def) (accepted : IsAccepted def) (s : State)
    (answer : Answer) (formed : IsFormedState def s) where
  -- a change has the editor's cursor as the window's own
  makes_own : {command : Command} {tree : Fragment} {path : Path} → Makes def s command tree path
      → moves_own command ≡ true
  makes_own (by_refine old o leaves e named gives) = refl
  makes_own (by_insert old o leaves e named gives) = refl
  makes_own (by_cut old node kind e at of) = refl
  makes_own (by_remove old e) = refl
  makes_own (by_close old e) = refl
  makes_own (by_reopen old e) = refl
  makes_own (by_paste old x e is) = refl
  makes_own (by_paste_in old x e is) = refl
  makes_own (by_over old node new nesting e at reads) = refl
  makes_own (by_range old tree nesting e reads) = refl

  -- a cursor of the opened tree, after a node at the place was replaced
  replaced_other : (place : Where) (it : Opened) (node new : Fragment) → IsPath place
      → node_at it.tree (named_path place s.cursor) ≡ Some node → (c : Path) → Leads it.tree c
      → Leads (replaced (named_path place s.cursor) new it.tree) (lifted (path_of place) c)
  replaced_other place it node new is at c l =
      subst (λ p. Leads (replaced (named_path place s.cursor) new it.tree) (lifted p c)) (same_path place s.cursor is)
      (lifted_there new (named_path place s.cursor) c it.tree node at l)

  inserted_other : (place : Where) (k : ℕ) (it : Opened) (new : Fragment) → s.opened ≡ Some it → IsPath place
      → (IsNoNode def s place → ⊥)
      → (AtNode def s place (λ o node. (IsList node → ⊥) ⊎ (length (children_of node) < k)) → ⊥)
      → (c : Path) → Leads it.tree c
      → Leads (change_at (inserted k new) (named_path place s.cursor) it.tree) (raised (path_of place) k c)
  inserted_other place k it new e is some room c l =
      let (node, m, list, at, of_list, found, of, is_list, short) =
      list_at def sound (quiet_slots def accepted) s formed place it e k some room in
      subst (λ p. Leads (change_at (inserted k new) (named_path place s.cursor) it.tree) (raised p k c))
      (same_path place s.cursor is)
      (raised_there new k (named_path place s.cursor) c it.tree node at
      (list_chain def node (kinds.List m) of_list is_list) (at_most k (length (children_of node)) short) l)

  removed_other : (place : Where) (k : ℕ) (it : Opened) → s.opened ≡ Some it → IsPath place
      → (IsNoNode def s place → ⊥)
      → (AtNode def s place (λ o node. (IsList node → ⊥) ⊎ (length (children_of node) ≤ k)) → ⊥)
      → (c : Path) → Leads it.tree c
      → Leads (change_at (removed k) (named_path place s.cursor) it.tree) (lowered (path_of place) k c)
  removed_other place k it e is some room c l =
      let (node, m, list, at, of_list, found, of, is_list, short) =
      list_at def sound (quiet_slots def accepted) s formed place it e k some (weaker room) in
      subst (λ p. Leads (change_at (removed k) (named_path place s.cursor) it.tree) (lowered p k c))
      (same_path place s.cursor is)
      (lowered_there k (named_path place s.cursor) c it.tree node at
      (list_chain def node (kinds.List m) of_list is_list) l)
    where
      weaker : (AtNode def s place (λ o node. (IsList node → ⊥) ⊎ (length (children_of node) ≤ k)) → ⊥)
          → AtNode def s place (λ o node. (IsList node → ⊥) ⊎ (length (children_of node) < k)) → ⊥
      weaker room (old, opened, node, at, inl other) = room (old, opened, node, at, inl other)
      weaker room (old, opened, node, at, inr less) = room (old, opened, node, at, inr (omega (arith, less)))

  ended_other : (place : Where) (u : Bool) (it : Opened) → s.opened ≡ Some it → (IsNoNode def s place → ⊥)
      → (c : Path) → Leads it.tree c → Leads (change_at (ended u) (named_path place s.cursor) it.tree) c
  ended_other place u it e some c l =
      let (node, at) = node_there def sound (quiet_slots def accepted) s formed place it e some in
      ended_there u (named_path place s.cursor) c it.tree node at l

  makes_other : {command : Command} {tree : Fragment} {path : Path} → IsResolved command
      → IsTaken def IsGood s answer command → (old : Opened) → s.opened ≡ Some old → Makes def s command tree path
      → (c : Path) → Leads old.tree c → Leads tree (other_moved command c)
  makes_other is taken old opened (by_refine {place = place} it o leaves e named gives) c l =
      let (node, at) = node_there def sound (quiet_slots def accepted) s formed place it e taken.1.0 in
      replaced_other place it node (fresh_operator def o leaves) is at c
      (subst (λ (x : Opened). Leads x.tree c) (some_once old it s.opened opened e) l)
  makes_other is taken old opened (by_insert {place = place} {k = k} it o leaves e named gives) c l =
      inserted_other place k it (fresh_operator def o leaves) e is taken.1.0 taken.1.1.0 c
      (subst (λ (x : Opened). Leads x.tree c) (some_once old it s.opened opened e) l)
  makes_other is taken old opened (by_cut {place = place} it node kind e at of) c l =
      replaced_other place it node (blank def kind) is at c
      (subst (λ (x : Opened). Leads x.tree c) (some_once old it s.opened opened e) l)
  makes_other is taken old opened (by_remove {place = place} {k = k} it e) c l =
      removed_other place k it e is taken.1.0 taken.1.1.0 c
      (subst (λ (x : Opened). Leads x.tree c) (some_once old it s.opened opened e) l)
  makes_other is taken old opened (by_close {place = place} it e) c l =
      ended_other place false it e taken.1.0 c
      (subst (λ (x : Opened). Leads x.tree c) (some_once old it s.opened opened e) l)
  makes_other is taken old opened (by_reopen {place = place} it e) c l =
      ended_other place true it e taken.1.0 c
      (subst (λ (x : Opened). Leads x.tree c) (some_once old it s.opened opened e) l)
  makes_other is taken old opened (by_paste {place = place} it x e is_saved) c l =
      let (node, at) = node_there def sound (quiet_slots def accepted) s formed place it e taken.1.1.0 in
      replaced_other place it node x.tree is at c
      (subst (λ (x : Opened). Leads x.tree c) (some_once old it s.opened opened e) l)
  makes_other is taken old opened (by_paste_in {place = place} {k = k} it x e is_saved) c l =
      inserted_other place k it x.tree e is taken.1.1.0 taken.1.1.1.0 c
      (subst (λ (x : Opened). Leads x.tree c) (some_once old it s.opened opened e) l)
  makes_other is taken old opened (by_over {place = place} it node new nesting e at reads) c l =
      replaced_other place it node new is at c
      (subst (λ (x : Opened). Leads x.tree c) (some_once old it s.opened opened e) l)
  makes_other is taken old opened (by_range it tree nesting e reads) c l = (tree, refl)

  -- nothing is moved
  stays : (cs : List Path) (w : ℕ) → AllByRecursion (IsAtNode s.opened) cs
      → AllByRecursion (IsAtNode s.opened) (set (map (λ c. c) cs) w (cursor_of cs w))
  stays cs w all = moved_all (IsAtNode s.opened) (IsAtNode s.opened) (λ c. c) (λ c. c) (λ c h. h) (λ c h. h) cs w all

  pub after_step : {command : Command} {t : State} {reply : Reply} → IsResolved command → IsFormedState def t → (w : ℕ)
      → Steps def IsGood s answer command t reply → (cs : List Path) → AllByRecursion (IsAtNode s.opened) cs
      → AllByRecursion (IsAtNode t.opened) (cursors_after w command t.cursor reply cs)
  after_step is new w (refuses held) cs all = all
  after_step is new w (opens kind mark taken named is_mark) cs all =
      moved_all (IsAtNode s.opened) (Leads (blank def kind)) (λ c. []) (λ c. [])
      (λ c h. (blank def kind, refl)) (λ c h. (blank def kind, refl)) cs w all
  after_step {command = command} is new w (changes {tree = tree} {path = path} old mark taken opened makes is_mark) cs
      all =
      let own : (c : Path) → IsAtNode s.opened c → Leads tree (own_moved command path c) =
      λ c h. subst (λ b. Leads tree (cond b path c)) (sym (makes_own makes)) (new.cursor _ refl) in
      moved_all (IsAtNode s.opened) (Leads tree) (other_moved command) (own_moved command path)
      (λ c h. makes_other is taken old opened makes c (subst (λ o. IsAtNode o c) opened h)) own cs w all
  after_step is new w (undoes old tree rest mark taken opened earlier is_mark) cs all =
      moved_all (IsAtNode s.opened) (Leads tree) (λ c. []) (λ c. []) (λ c h. (tree, refl)) (λ c h. (tree, refl)) cs w
      all
  after_step is new w (redoes old tree rest mark taken opened later is_mark) cs all =
      moved_all (IsAtNode s.opened) (Leads tree) (λ c. []) (λ c. []) (λ c h. (tree, refl)) (λ c h. (tree, refl)) cs w
      all
  after_step is new w (saves old node kind taken opened at of) cs all = stays cs w all
  after_step is new w (keeps taken stored) cs all = stays cs w all
  after_step is new w (fetches bytes x taken got kept) cs all = stays cs w all
  after_step is new w (shows old mark taken opened is_mark) cs all = stays cs w all
  after_step is new w (goes {place = place} old p kind name taken opened at of named) cs all =
      moved_all (IsAtNode s.opened) (IsAtNode s.opened) (λ c. c) (λ c. named_path place s.cursor) (λ c h. h)
      (λ c h. subst (λ o. IsAtNode o (named_path place s.cursor)) (sym opened) (new.cursor old opened)) cs w all
  after_step is new w (screens old taken opened) cs all = stays cs w all
  after_step is new w (owns old node rows taken opened at relation) cs all = stays cs w all
  after_step is new w (relates old rows taken opened relation) cs all = stays cs w all
  after_step is new w (frees old taken opened) cs all = stays cs w all
  after_step is new w (offers old node p ops names taken opened at want menu named) cs all = stays cs w all
  after_step is new w (suggests old o names taken opened named menu) cs all = stays cs w all

-- ---- lines

pub text_kept : (c : Path) (command : Command) → HasText command → HasText (resolved c command)
text_kept c (New phylum) h = tt
text_kept c (Goto place) h = tt
text_kept c (Refine place op args) h = tt
text_kept c (Insert place k op args) h = tt
text_kept c (Cut place) h = tt
text_kept c (Remove place k) h = tt
text_kept c (Close place) h = tt
text_kept c (Reopen place) h = tt
text_kept c (Over place text) h = h
text_kept c (Range start end text) h = h
text_kept c Show h = tt
text_kept c (Screen top left rows cols) h = tt
text_kept c (Relation place) h = tt
text_kept c (Own place) h = tt
text_kept c (Menu place k) h = tt
text_kept c (Names place k op) h = tt
text_kept c Free h = tt
text_kept c Undo h = tt
text_kept c Redo h = tt
text_kept c (Save name place) h = tt
text_kept c (Paste place k name) h = tt
text_kept c (Keep name file) h = tt
text_kept c (Fetch file) h = tt

module _ (def : Definition) (sound : IsSound def) (accepted : IsAccepted def) where
  one_line : (s t : Point Windowed) (line : List ℕ) {window : Option ℕ} {reply : Reply}
      → AnswersFor def s line t window reply → IsFormedState def s.state.state → StandAtNodes s.state
      → IsFormedState def t.state.state × StandAtNodes t.state
  one_line s t line (to_none none same) formed stand =
      subst (λ (p : Point Windowed). IsFormedState def p.state.state × StandAtNodes p.state) (sym same) (formed, stand)
  one_line s t line (to_window w command reply is does moves input) formed stand =
      let c : Path = cursor_of s.state.cursors w in
      let text : HasText command =
      subst HasText (sym is.resolves) (text_kept c is.spelled (has_text is.spelled is.spells.rest is.spells.spells)) in
      let none : IsResolved command = subst IsResolved (sym is.resolves) (none_left c is.spelled) in
      let new : IsFormedState def t.state.state =
      accepted_keeps def sound accepted s.state.state t.state.state does.answer command reply text formed does.steps
      in (
        new,
        subst (AllByRecursion (IsAtNode t.state.state.opened)) (sym moves)
            (after_step def (IsCompletable def) sound accepted s.state.state does.answer formed none new w does.steps
            s.state.cursors stand),
      )

  all_lines : (s t : Point Windowed) (lines : List (List ℕ)) (texts : List ℕ)
      → Runs Windowed (IsPlayedFor def) s lines texts t → IsFormedState def s.state.state → StandAtNodes s.state
      → IsFormedState def t.state.state × StandAtNodes t.state
  all_lines s t [] texts chain.rests formed stand = (formed, stand)
  all_lines s t (line ∷ lines) whole (chain.goes mid text texts plays more) formed stand =
      let (new, stands) = one_line s mid line plays.answers formed stand in
      all_lines mid t lines texts more new stands

  pub windows_stand : WindowsStandAtNodes def
  windows_stand s t lines texts runs formed stand = all_lines s t lines texts runs formed stand
