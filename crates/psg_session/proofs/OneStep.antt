-- A command has one step.
use Rattle.std.specs.Prelude.{codes}
use Rattle.std.proofs.Common.{◌≡◌, inl, inr, ℕ, true, false, List, [], ◌∷◌, ◌++◌, map, chars, Option, Some, None, refl, sym, ◌∙◌, ap, subst}
use Rattle.psg_terms.specs.Names.{Name}
use Rattle.psg_terms.specs.Terms.{Term}
use Rattle.psg_grammar.specs.declared.types.Kind.{Kind}
use Rattle.psg_grammar.specs.declared.types.Definition.{Definition}
use Rattle.psg_grammar.specs.Fragments.{Fragment}
use Rattle.psg_grammar.specs.Insertion.{blank, Leaf, with_operator}
use Rattle.psg_grammar.specs.Marks.{Mark, good, wrong, path_of, IsMarkBy}
use Rattle.psg_grammar.specs.Paths.{Path, node_at, change_at, inserted, removed, ended, replaced}
use Rattle.psg_grammar.specs.Regions.{names_of}
use Rattle.psg_grammar.specs.Relations.{IsRelationOf, IsShownRelation}
use Rattle.psg_grammar.specs.Sound.{IsSound}
use Rattle.psg_grammar.specs.WellFormed.{fixed_words}
use Rattle.psg_grammar.proofs.NamePlaces.{only_kind, only_op}
use Rattle.psg_lexis.proofs.Laws.{only_tokens}
use Rattle.psg_grammar.specs.Kinds.{kind_name_of, IsOfKind}
use Rattle.psg_class.specs.Class.{IsClass}
use Rattle.psg_cache.proofs.FormedTrees.{kind_once as node_kind_once}
use Rattle.psg_script.specs.declared.command.Command.{Command}
use Rattle.psg_script.specs.declared.command.Command.TheVariants.{Own, Free, Undo, Redo, Save, Keep, Fetch, Goto, Screen, Relation, Menu, Names}
use Rattle.psg_unparse.specs.Layout.{text_of}
use Rattle.psg_screen.specs.Window.{window_of}
use Rattle.psg_unparse.specs.Spans.{span_of}
use Rattle.psg_unparse.specs.Spots.{Placed}
use Rattle.psg_session.specs.Answers.{key_text, free_names, names_line, rows_lines}
use Rattle.psg_session.specs.Printing.{goto_line, lines_in, view_of, what_is, IsWrittenAt}
use Rattle.psg_session.proofs.PrintLaws.{written_once}
use Rattle.psg_session.specs.Leaves.{given, GivesLeaves}
use Rattle.psg_library.specs.Keeping.{IsKept}
use Rattle.psg_library.proofs.OneReading.{kept_alone}
use Rattle.psg_session.specs.PlainState.{State, Opened, Answer, got, named_path, with_new, with_change, with_version, with_saved}
use Rattle.psg_session.specs.declared.refusal.Refusal.{Refusal}
use Rattle.psg_library.specs.declared.fragment.SavedFragment.{SavedFragment as Saved}
use Rattle.psg_session.specs.Shelf.{saved_at}
use Rattle.psg_session.specs.Laws.{HasOneStep}
use Rattle.psg_session.specs.Refusals.{Tests, done, test, Refuses, Passes}
use Rattle.psg_session.proofs.StepLaws.{some_once}
use Rattle.psg_session.specs.Replies.{Reply, refused, answered, marked, shown}
use Rattle.psg_session.specs.PlainStep.{HasName, IsOperator, Makes, by_refine, by_insert, by_cut, by_remove, by_close, by_reopen, by_paste, by_paste_in, tests, IsRefused, IsTaken, Steps, refuses, opens, changes, undoes, redoes, saves, keeps, fetches, shows, owns, frees, goes, screens, by_over, by_range, relates, offers, suggests}
use Rattle.psg_session.proofs.MenuLaws.{chosen_once, offered_once, suggested_once}
use Rattle.psg_session.proofs.RowLines.{relation_lines, shown_lines}
use Rattle.psg_session.proofs.TypedLaws.{one_tree, read_once}
use Rattle.psg_session.specs.Ranged.{ReadsWith, replacing, text_with}
use Rattle.psg_textedit.specs.Regions.{Typing}
use Rattle.psg_session.specs.Typed.{ReadsFor}

-- ---- marks

pub mark_once : (IsGood : Fragment → Type 0) (f : Fragment) (a b : Mark) → IsMarkBy IsGood f a → IsMarkBy IsGood f b
    → a ≡ b
mark_once IsGood f good good h g = refl
mark_once IsGood f good (wrong paths) h g = absurd (g.0 h)
mark_once IsGood f (wrong paths) good h g = absurd (h.0 g)
mark_once IsGood f (wrong paths) (wrong others) h g =
    ap wrong (h.1.2 ∙ ap (map path_of) (chosen_once h.1.1 g.1.1) ∙ sym g.1.2)

-- ---- steps

refuses_once : (ts : Tests) (q r : Refusal) → Refuses ts q → Refuses ts r → q ≡ r
refuses_once done q r h g = absurd h
refuses_once (test x holds rest) q r (inl (h, e)) (inl (g, d)) = sym e ∙ d
refuses_once (test x holds rest) q r (inl (h, e)) (inr (n, g)) = absurd (n h)
refuses_once (test x holds rest) q r (inr (n, h)) (inl (g, d)) = absurd (n g)
refuses_once (test x holds rest) q r (inr (n, h)) (inr (m, g)) = refuses_once rest q r h g

passes_not : (ts : Tests) (r : Refusal) → Passes ts → Refuses ts r → ⊥
passes_not done r h g = g
passes_not (test x holds rest) r (n, h) (inl (g, e)) = n g
passes_not (test x holds rest) r (n, h) (inr (m, g)) = passes_not rest r h g

-- ---- names and literals

leaves_by : (ls ms : List Leaf) → map Some ls ≡ map Some ms → ls ≡ ms
leaves_by [] [] e = refl
leaves_by [] (m ∷ ms) e = absurd (cc)
leaves_by (l ∷ ls) [] e = absurd (cc)
leaves_by (l ∷ ls) (m ∷ ms) e =
    let head : l ≡ m = cc in
    let tail : map Some ls ≡ map Some ms = cc in
    ap (λ x. x ∷ ls) head ∙ ap (λ rest. m ∷ rest) (leaves_by ls ms tail)

-- a text gives one list of leaves
leaves_once : (def : Definition) (o u : ℕ) (args : List ℕ) (ls ms : List Leaf) → GivesLeaves def o args ls
    → GivesLeaves def u args ms → ls ≡ ms
leaves_once def o u args ls ms (found, tokens, are, fit) (other, tokens', are', fit') =
    leaves_by ls ms (sym are ∙ ap (map given) (only_tokens (fixed_words def) (chars args) 0 found other tokens
    tokens') ∙ are')

module _ (def : Definition) (IsGood : Fragment → Type 0) (s : State) (answer : Answer) where
  -- the first test that holds is one
  refusal_once : (command : Command) (r q : Refusal) → IsRefused def IsGood s answer command r
      → IsRefused def IsGood s answer command q → r ≡ q
  refusal_once command = refuses_once (tests def IsGood s answer command)

  not_both : (command : Command) (r : Refusal) → IsTaken def IsGood s answer command
      → IsRefused def IsGood s answer command r → ⊥
  not_both command r taken_is h = passes_not (tests def IsGood s answer command) r taken_is h

  module _ (sound : IsSound def) (is_class : IsClass def) where
    kind_once : (a b : Kind) (name : Name) → HasName def a name → HasName def b name → a ≡ b
    kind_once a b name = only_kind def sound.kind_names a b name

    operator_once : (a b : ℕ) (name : Name) → IsOperator def a name → IsOperator def b name → a ≡ b
    operator_once a b name = only_op def sound.operator_names a b name

    -- two times the operator that a name and a text give
    module _ (old old' : Opened) (o o' : ℕ) (ls ls' : List Leaf) (name : Name) (args : List ℕ)
        (opened : s.opened ≡ Some old) (opened' : s.opened ≡ Some old')
        (named : IsOperator def o name) (named' : IsOperator def o' name) (gives : GivesLeaves def o args ls)
        (gives' : GivesLeaves def o' args ls') where
      operator_made_once : (path : Path) (k : Option ℕ)
          → with_operator def old.tree path k o ls ≡ with_operator def old'.tree path k o' ls'
      operator_made_once path k =
          ap (λ (x : Opened). with_operator def x.tree path k o ls) (some_once old old' s.opened opened opened')
          ∙ ap (λ x. with_operator def old'.tree path k x ls) (operator_once o o' name named named')
          ∙ ap (with_operator def old'.tree path k o') (leaves_once def o o' args ls ls' gives gives')

    -- two times a change of the opened tree
    change_made_once : (old old' : Opened) (g : Fragment → Fragment) (path : Path) → s.opened ≡ Some old
        → s.opened ≡ Some old'
        → change_at g path old.tree ≡ change_at g path old'.tree
    change_made_once old old' g path opened opened' =
        ap (λ (x : Opened). change_at g path x.tree) (some_once old old' s.opened opened opened')

    node_once : (old old' : Opened) (node node' : Fragment) (path : Path) → s.opened ≡ Some old → s.opened ≡ Some old'
        → node_at old.tree path ≡ Some node
        → node_at old'.tree path ≡ Some node' → node ≡ node'
    node_once old old' node node' path opened opened' at at' =
        some_once node node' (node_at old'.tree path)
        (subst (λ (x : Opened). node_at x.tree path ≡ Some node) (some_once old old' s.opened opened opened') at) at'

    -- a change gives one tree and one place
    makes_once : {command : Command} {tree other : Fragment} {path place : Path}
        → Makes def s command tree path → Makes def s command other place → (tree ≡ other) × (path ≡ place)
    makes_once (by_refine {place = at} {name = name} {args = args} old o ls opened named gives)
        (by_refine old' o' ls' opened' named' gives') = (
          operator_made_once old old' o o' ls ls' name args opened opened' named named' gives gives'
              (named_path at s.cursor) None,
          refl,
        )
    makes_once (by_insert {place = at} {k = k} {name = name} {args = args} old o ls opened named gives)
        (by_insert old' o' ls' opened' named' gives') = (
          operator_made_once old old' o o' ls ls' name args opened opened' named named' gives gives'
              (named_path at s.cursor) (Some k),
          refl,
        )
    makes_once (by_cut {place = at} old node kind opened here is) (by_cut old' node' kind' opened' here' is') =
        let one : node ≡ node' = node_once old old' node node' (named_path at s.cursor) opened opened' here here' in
        let same : kind ≡ kind' = node_kind_once def node' kind kind' (subst (λ f. IsOfKind def f kind) one is) is' in (
          change_made_once old old' (λ _. blank def kind) (named_path at s.cursor) opened opened'
              ∙ ap (λ x. replaced (named_path at s.cursor) (blank def x) old'.tree) same,
          refl,
        )
    makes_once (by_remove {place = at} {k = k} old opened) (by_remove old' opened') =
        (change_made_once old old' (removed k) (named_path at s.cursor) opened opened', refl)
    makes_once (by_close {place = at} old opened) (by_close old' opened') =
        (change_made_once old old' (ended false) (named_path at s.cursor) opened opened', refl)
    makes_once (by_reopen {place = at} old opened) (by_reopen old' opened') =
        (change_made_once old old' (ended true) (named_path at s.cursor) opened opened', refl)
    makes_once (by_paste {place = at} {name = name} old x opened saved) (by_paste old' y opened' saved') = (
      change_made_once old old' (λ _. x.tree) (named_path at s.cursor) opened opened'
          ∙ ap (λ (z : Saved). replaced (named_path at s.cursor) z.tree old'.tree)
          (some_once x y (saved_at s.saved name) saved saved'),
      refl,
    )
    makes_once (by_paste_in {place = at} {k = k} {name = name} old x opened saved)
        (by_paste_in old' y opened' saved') = (
          change_made_once old old' (inserted k x.tree) (named_path at s.cursor) opened opened'
              ∙ ap (λ (z : Saved). change_at (inserted k z.tree) (named_path at s.cursor) old'.tree)
              (some_once x y (saved_at s.saved name) saved saved'),
          refl,
        )
    makes_once (by_over {place = at} {text = text} old node new n opened here reads)
        (by_over old' node' new' n' opened' here' reads') =
        let one : node ≡ node' = node_once old old' node node' (named_path at s.cursor) opened opened' here here' in
        let same : new ≡ new' = (read_once def is_class node' text new new' n n'
        (subst (λ f. ReadsFor def f text new n) one reads) reads').tree in (
          change_made_once old old' (λ _. new) (named_path at s.cursor) opened opened'
              ∙ ap (λ x. replaced (named_path at s.cursor) x old'.tree) same,
          refl,
        )
    makes_once (by_range {start = start} {end = end} {text = text} old tree n opened reads)
        (by_range old' tree' n' opened' reads') = (
          range_once (replacing start end text) tree tree' n n'
              (subst (λ (x : Opened). ReadsWith def (replacing start end text) x tree n)
              (some_once old old' s.opened opened opened') reads) reads',
          refl,
        ) where
          range_once : {x : Opened} (e : Typing) (f g : Fragment) (n m : ℕ) → ReadsWith def e x f n → ReadsWith def e x g m
              → f ≡ g
          range_once {x = x} e f g n m r q =
              (one_tree def is_class x.kind (text_with def e x) f g n m r.reads q.reads).tree

    -- the lines of a node are told by one of its relations
    lines_once : (old old' : Opened) (node node' : Fragment) (path : Path) (rows rows' : List (List Term))
        → s.opened ≡ Some old → s.opened ≡ Some old'
        → node_at old.tree path ≡ Some node → node_at old'.tree path ≡ Some node' → IsRelationOf def node rows
        → IsRelationOf def node' rows'
        → answered (rows_lines def.signature (map (key_text def) (names_of def node)) rows) ≡ answered
        (rows_lines def.signature (map (key_text def) (names_of def node')) rows')
    lines_once old old' node node' path rows rows' opened opened' at at' rel rel' =
        let one : node ≡ node' = node_once old old' node node' path opened opened' at at' in
        ap (λ f. answered (rows_lines def.signature (map (key_text def) (names_of def f)) rows)) one
        ∙ ap answered (relation_lines def sound node' rows rows' (subst (λ f. IsRelationOf def f rows) one rel) rel'
        (map (key_text def) (names_of def node')))

    -- and those of its values in the fragment
    shown_once : (old old' : Opened) (path : Path) (rows rows' : List (List Term))
        → s.opened ≡ Some old → s.opened ≡ Some old' → IsShownRelation def old.tree path rows
        → IsShownRelation def old'.tree path rows'
        → answered (rows_lines def.signature [] rows) ≡ answered (rows_lines def.signature [] rows')
    shown_once old old' path rows rows' opened opened' rel rel' =
        let same : old ≡ old' = some_once old old' s.opened opened opened' in
        ap answered (shown_lines def sound old'.tree path rows rows'
        (subst (λ (x : Opened). IsShownRelation def x.tree path rows) same rel) rel' [])

    -- a node is said in one way
    place_once : (old old' : Opened) (p p' : Placed) (kind kind' : Kind) (name name' : Name) (path : Path)
        → s.opened ≡ Some old → s.opened ≡ Some old' → IsWrittenAt def old.tree path p
        → IsWrittenAt def old'.tree path p' → IsOfKind def p.node kind → IsOfKind def p'.node kind'
        → HasName def kind name → HasName def kind' name'
        → answered (goto_line name (what_is def p.node) (span_of def p) ∷ [])
        ≡ answered (goto_line name' (what_is def p'.node) (span_of def p') ∷ [])
    place_once old old' p p' kind kind' name name' path opened opened' at at' of_kind of_kind' named named' =
        let same : old ≡ old' = some_once old old' s.opened opened opened' in
        let one : p ≡ p' =
        written_once def old'.tree path p p' (subst (λ (x : Opened). IsWrittenAt def x.tree path p) same at) at' in
        let alike : kind ≡ kind' =
        node_kind_once def p'.node kind kind' (subst (λ (x : Placed). IsOfKind def x.node kind) one of_kind) of_kind' in
        let called : name ≡ name' =
        some_once name name' (kind_name_of def kind') (subst (λ k. HasName def k name) alike named) named' in
        ap (λ n. answered (goto_line n (what_is def p.node) (span_of def p) ∷ [])) called
        ∙ ap (λ (x : Placed). answered (goto_line name' (what_is def x.node) (span_of def x) ∷ [])) one

    -- what was got keeps one fragment
    fetched_once : (bytes bytes' : List ℕ) (x x' : Saved) → answer ≡ got bytes → answer ≡ got bytes'
        → IsKept def bytes x → IsKept def bytes' x' → x ≡ x'
    fetched_once bytes bytes' x x' is is' kept kept' =
        let both : got bytes ≡ got bytes' = sym is ∙ is' in
        let one : bytes ≡ bytes' = cc in
        kept_alone def sound is_class bytes' x x' (subst (λ b. IsKept def b x) one kept) kept'

    pub step_once : {command : Command} {t u : State} {reply other : Reply}
        → Steps def IsGood s answer command t reply → Steps def IsGood s answer command u other
        → (t ≡ u) × (reply ≡ other)
    step_once (refuses {command = command} {r = r} h) (refuses {r = q} g) =
        (refl, ap refused (refusal_once command r q h g))
    step_once (refuses {command = command} {r = r} h) (opens kind mark taken_is named is_mark) =
        absurd (not_both command r taken_is h)
    step_once (refuses {command = command} {r = r} h) (changes old mark taken_is opened makes is_mark) =
        absurd (not_both command r taken_is h)
    step_once (refuses {command = command} {r = r} h) (undoes old tree rest mark taken_is opened is is_mark) =
        absurd (not_both command r taken_is h)
    step_once (refuses {command = command} {r = r} h) (redoes old tree rest mark taken_is opened is is_mark) =
        absurd (not_both command r taken_is h)
    step_once (refuses {command = command} {r = r} h) (saves old node kind taken_is opened here is) =
        absurd (not_both command r taken_is h)
    step_once (refuses {command = command} {r = r} h) (keeps taken_is is) = absurd (not_both command r taken_is h)
    step_once (refuses {command = command} {r = r} h) (fetches bytes x taken_is is kept) =
        absurd (not_both command r taken_is h)
    step_once (refuses {command = command} {r = r} h) (shows old mark taken_is opened is_mark) =
        absurd (not_both command r taken_is h)
    step_once (refuses {command = command} {r = r} h) (goes old p kind name taken_is opened at of_kind named) =
        absurd (not_both command r taken_is h)
    step_once (refuses {command = command} {r = r} h) (screens old taken_is opened) =
        absurd (not_both command r taken_is h)
    step_once (refuses {command = command} {r = r} h) (owns old node rows taken_is opened at rel) =
        absurd (not_both command r taken_is h)
    step_once (refuses {command = command} {r = r} h) (relates old rows taken_is opened rel) =
        absurd (not_both command r taken_is h)
    step_once (refuses {command = command} {r = r} h) (frees old taken_is opened) =
        absurd (not_both command r taken_is h)
    step_once (refuses {command = command} {r = r} h) (offers old node p ops names taken_is opened at want menu named) =
        absurd (not_both command r taken_is h)
    step_once (refuses {command = command} {r = r} h) (suggests old o names taken_is opened named menu) =
        absurd (not_both command r taken_is h)
    step_once (opens kind mark taken_is named is_mark) (refuses {command = command} {r = r} h) =
        absurd (not_both command r taken_is h)
    step_once (opens {name = name} kind mark taken_is named is_mark) (opens kind' mark' taken_is' named' is_mark') =
        let same : kind ≡ kind' = kind_once kind kind' name named named' in
        let is_mark'' : IsMarkBy IsGood (blank def kind') mark = subst (λ k. IsMarkBy IsGood (blank def k) mark) same
        is_mark in (
          ap (λ k. with_new s k (blank def k)) same,
          ap marked
              (mark_once IsGood (blank def kind') mark mark' is_mark'' is_mark'),
        )
    step_once (opens kind mark taken_is named is_mark) (changes old' mark' taken_is' opened' makes' is_mark') =
        elim makes' [ ]
    step_once (changes {command = command} old mark taken_is opened makes is_mark) (refuses {r = r} h) =
        absurd (not_both command r taken_is h)
    step_once (changes old mark taken_is opened makes is_mark) (opens kind' mark' taken_is' named' is_mark') =
        elim makes [ ]
    step_once (changes {tree = tree} {path = path} old mark taken_is opened makes is_mark)
        (changes {tree = tree'} {path = path'} old' mark' taken_is' opened' makes' is_mark') =
        let same : old ≡ old' = some_once old old' s.opened opened opened' in
        let both = makes_once makes makes' in
        let is_mark'' : IsMarkBy IsGood tree' mark = subst (λ f. IsMarkBy IsGood f mark) both.0 is_mark in (
          ap (λ x. with_change s x tree path) same ∙ ap (λ f. with_change s old' f path) both.0 ∙ ap
              (with_change s old' tree') both.1,
          ap marked (mark_once IsGood tree' mark mark' is_mark'' is_mark'),
        )
    step_once (changes old mark taken_is opened makes is_mark) (undoes old' tree' rest' mark' taken_is' opened' is' is_mark') =
        elim makes [ ]
    step_once (changes old mark taken_is opened makes is_mark) (redoes old' tree' rest' mark' taken_is' opened' is' is_mark') =
        elim makes [ ]
    step_once (changes old mark taken_is opened makes is_mark) (saves old' node' kind' taken_is' opened' here' is') =
        elim makes [ ]
    step_once (changes old mark taken_is opened makes is_mark) (shows old' mark' taken_is' opened' is_mark') =
        elim makes [ ]
    step_once (changes old mark taken_is opened makes is_mark)
        (goes old' p' kind' name' taken_is' opened' at' of_kind' named') = elim makes [ ]
    step_once (changes old mark taken_is opened makes is_mark) (keeps taken_is' is') = elim makes [ ]
    step_once (changes old mark taken_is opened makes is_mark) (fetches bytes' x' taken_is' is' kept') = elim makes [ ]
    step_once (changes old mark taken_is opened makes is_mark) (screens old' taken_is' opened') = elim makes [ ]
    step_once (changes old mark taken_is opened makes is_mark) (owns old' node' rows' taken_is' opened' at' rel') =
        elim makes [ ]
    step_once (changes old mark taken_is opened makes is_mark) (frees old' taken_is' opened') = elim makes [ ]
    step_once (undoes old tree rest mark taken_is opened is is_mark) (refuses {r = r} h) =
        absurd (not_both Undo r taken_is h)
    step_once (undoes old tree rest mark taken_is opened is is_mark) (changes old' mark' taken_is' opened' makes' is_mark') =
        elim makes' [ ]
    step_once (undoes old tree rest mark taken_is opened is is_mark)
        (undoes old' tree' rest' mark' taken_is' opened' is' is_mark') =
        let same : old ≡ old' = some_once old old' s.opened opened opened' in
        let both : tree ∷ rest ≡ tree' ∷ rest' = sym is ∙ is' in
        let one : tree ≡ tree' = cc in
        let more : rest ≡ rest' = cc in (
          ap (λ (x : Opened). with_version s x tree rest (x.tree ∷ s.later)) same
              ∙ ap (λ x. with_version s old' x rest (old'.tree ∷ s.later)) one
              ∙ ap (λ x. with_version s old' tree' x (old'.tree ∷ s.later)) more,
          ap marked (mark_once IsGood tree' mark mark' (subst (λ f. IsMarkBy IsGood f mark) one is_mark) is_mark'),
        )
    step_once (redoes old tree rest mark taken_is opened is is_mark) (refuses {r = r} h) =
        absurd (not_both Redo r taken_is h)
    step_once (redoes old tree rest mark taken_is opened is is_mark) (changes old' mark' taken_is' opened' makes' is_mark') =
        elim makes' [ ]
    step_once (redoes old tree rest mark taken_is opened is is_mark)
        (redoes old' tree' rest' mark' taken_is' opened' is' is_mark') =
        let same : old ≡ old' = some_once old old' s.opened opened opened' in
        let both : tree ∷ rest ≡ tree' ∷ rest' = sym is ∙ is' in
        let one : tree ≡ tree' = cc in
        let more : rest ≡ rest' = cc in (
          ap (λ (x : Opened). with_version s x tree (x.tree ∷ s.earlier) rest) same
              ∙ ap (λ x. with_version s old' x (old'.tree ∷ s.earlier) rest) one
              ∙ ap (λ x. with_version s old' tree' (old'.tree ∷ s.earlier) x) more,
          ap marked (mark_once IsGood tree' mark mark' (subst (λ f. IsMarkBy IsGood f mark) one is_mark) is_mark'),
        )
    step_once (saves {name = name} {place = place} old node kind taken_is opened here is) (refuses {r = r} h) =
        absurd (not_both (Save name place) r taken_is h)
    step_once (saves old node kind taken_is opened here is) (changes old' mark' taken_is' opened' makes' is_mark') =
        elim makes' [ ]
    step_once (saves {name = name} {place = place} old node kind taken_is opened here is)
        (saves old' node' kind' taken_is' opened' here' is') =
        let one : node ≡ node' = node_once old old' node node' (named_path place s.cursor) opened opened' here here' in
        let same : kind ≡ kind' = node_kind_once def node' kind kind' (subst (λ f. IsOfKind def f kind) one is) is' in (
          ap (λ f. with_saved s (record { name = name; kind = kind; tree = f })) one
              ∙ ap (λ x. with_saved s (record { name = name; kind = x; tree = node' })) same,
          refl,
        )
    step_once (keeps {name = name} {file = file} taken_is is) (refuses {r = r} h) =
        absurd (not_both (Keep name file) r taken_is h)
    step_once (keeps taken_is is) (changes old' mark' taken_is' opened' makes' is_mark') = elim makes' [ ]
    step_once (keeps taken_is is) (keeps taken_is' is') = (refl, refl)
    step_once (fetches {file = file} bytes x taken_is is kept) (refuses {r = r} h) =
        absurd (not_both (Fetch file) r taken_is h)
    step_once (fetches bytes x taken_is is kept) (changes old' mark' taken_is' opened' makes' is_mark') = elim makes' [ ]
    step_once (fetches bytes x taken_is is kept) (fetches bytes' x' taken_is' is' kept') =
        let same : x ≡ x' = fetched_once bytes bytes' x x' is is' kept kept' in (
          ap (with_saved s) same,
          ap (λ (z : Saved). answered ((codes "fetched " ++ z.name) ∷ [])) same,
        )
    step_once (shows old mark taken_is opened is_mark) (refuses {command = command} {r = r} h) =
        absurd (not_both command r taken_is h)
    step_once (shows old mark taken_is opened is_mark) (changes old' mark' taken_is' opened' makes' is_mark') =
        elim makes' [ ]
    step_once (shows old mark taken_is opened is_mark) (shows old' mark' taken_is' opened' is_mark') =
        let same : old ≡ old' = some_once old old' s.opened opened opened' in
        let is_mark'' : IsMarkBy IsGood old'.tree mark = subst (λ x. IsMarkBy IsGood x.tree mark) same is_mark in (
          refl,
          ap (λ x. shown (lines_in (text_of def x.tree)) mark) same ∙ ap (shown (lines_in (text_of def old'.tree)))
              (mark_once IsGood old'.tree mark mark' is_mark'' is_mark'),
        )
    step_once (goes {place = place} old p kind name taken_is opened at of_kind named) (refuses {r = r} h) =
        absurd (not_both (Goto place) r taken_is h)
    step_once (goes old p kind name taken_is opened at of_kind named)
        (changes old' mark' taken_is' opened' makes' is_mark') = elim makes' [ ]
    step_once (goes {place = place} old p kind name taken_is opened at of_kind named)
        (goes old' p' kind' name' taken_is' opened' at' of_kind' named') = (
          refl,
          place_once old old' p p' kind kind' name name' (named_path place s.cursor) opened opened' at at' of_kind
              of_kind' named named',
        )
    step_once (screens {top = top} {left = left} {rows = rows} {cols = cols} old taken_is opened) (refuses {r = r} h) =
        absurd (not_both (Screen top left rows cols) r taken_is h)
    step_once (screens old taken_is opened) (changes old' mark' taken_is' opened' makes' is_mark') = elim makes' [ ]
    step_once (screens {top = top} {left = left} {rows = rows} {cols = cols} old taken_is opened)
        (screens old' taken_is' opened') = (
          refl,
          ap (λ (x : Opened). answered (window_of (text_of def x.tree) (view_of top left rows cols)))
              (some_once old old' s.opened opened opened'),
        )
    step_once (owns {place = place} old node rows taken_is opened at rel) (refuses {r = r} h) =
        absurd (not_both (Own place) r taken_is h)
    step_once (owns old node rows taken_is opened at rel) (changes old' mark' taken_is' opened' makes' is_mark') =
        elim makes' [ ]
    step_once (owns {place = place} old node rows taken_is opened at rel)
        (owns old' node' rows' taken_is' opened' at' rel') =
        (refl, lines_once old old' node node' (named_path place s.cursor) rows rows' opened opened' at at' rel rel')
    step_once (changes old mark taken_is opened makes is_mark) (relates old' rows' taken_is' opened' rel') = elim makes [ ]
    step_once (relates {place = place} old rows taken_is opened rel) (refuses {r = r} h) =
        absurd (not_both (Relation place) r taken_is h)
    step_once (relates old rows taken_is opened rel) (changes old' mark' taken_is' opened' makes' is_mark') =
        elim makes' [ ]
    step_once (relates {place = place} old rows taken_is opened rel) (relates old' rows' taken_is' opened' rel') =
        (refl, shown_once old old' (named_path place s.cursor) rows rows' opened opened' rel rel')
    step_once (changes old mark taken_is opened makes is_mark)
        (offers old' node' p' ops' names' taken_is' opened' at' want' menu' named') = elim makes [ ]
    step_once (changes old mark taken_is opened makes is_mark) (suggests old' o' names' taken_is' opened' named' menu') =
        elim makes [ ]
    step_once (offers {place = place} {k = k} old node p ops names taken_is opened at want menu named) (refuses {r = r} h) =
        absurd (not_both (Menu place k) r taken_is h)
    step_once (offers old node p ops names taken_is opened at want menu named)
        (changes old' mark' taken_is' opened' makes' is_mark') = elim makes' [ ]
    step_once (offers {place = place} {k = k} old node p ops names taken_is opened at want menu named)
        (offers old' node' p' ops' names' taken_is' opened' at' want' menu' named') = (
          refl,
          ap (λ ns. answered (names_line ns ∷ []))
              (offered_once def sound IsGood s (named_path place s.cursor) k old old' opened opened' node node' p p' ops ops'
              names names' at at' want want' menu menu' named named'),
        )
    step_once (suggests {place = place} {k = k} {name = name} old o names taken_is opened named menu) (refuses {r = r} h) =
        absurd (not_both (Names place k name) r taken_is h)
    step_once (suggests old o names taken_is opened named menu) (changes old' mark' taken_is' opened' makes' is_mark') =
        elim makes' [ ]
    step_once (suggests {place = place} {k = k} {name = name} old o names taken_is opened named menu)
        (suggests old' o' names' taken_is' opened' named' menu') = (
          refl,
          ap (λ ns. answered (names_line ns ∷ []))
              (suggested_once def sound IsGood s (named_path place s.cursor) k old old' opened opened' name o o' names names'
              named named' menu menu'),
        )
    step_once (frees old taken_is opened) (refuses {r = r} h) = absurd (not_both Free r taken_is h)
    step_once (frees old taken_is opened) (changes old' mark' taken_is' opened' makes' is_mark') = elim makes' [ ]
    step_once (frees old taken_is opened) (frees old' taken_is' opened') = (
      refl,
      ap (λ (x : Opened). answered (names_line (free_names def x.tree) ∷ []))
          (some_once old old' s.opened opened opened'),
    )

-- a command has at most one step
pub has_one_step : (def : Definition) (IsGood : Fragment → Type 0) → IsSound def → IsClass def
    → HasOneStep def IsGood
has_one_step def IsGood sound is_class s t u answer command reply other h g =
    step_once def IsGood s answer sound is_class h g
