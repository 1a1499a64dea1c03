-- An operator that is put into the program that is opened.
use Rattle.std.proofs.Common.{◌≡◌, ℕ, List, Option, Some, None, Bor, ap, refl, sym, subst, ◌∙◌}
use Rattle.std.proofs.lemmas.Option.{none-some}
use Rattle.std.specs.Prelude.{MatchOption, option_copied, option_map}
use Rattle.psg_terms.specs.Names.{Name}
use Rattle.psg_grammar.specs.declared.types.Definition.{Definition}
use Rattle.psg_grammar.specs.declared.types.Kind.{Kind}
use Rattle.psg_grammar.specs.Fragments.{Fragment}
use Rattle.psg_grammar.specs.Legal.{IsCompletable}
use Rattle.psg_grammar.specs.Paths.{Path, node_at}
use Rattle.psg_cache.specs.Annotated.{tree_in}
use Rattle.psg_keymap.specs.declared.spots.Spot.{Spot}
use Rattle.psg_keymap.specs.Faces.{with_place}
use Rattle.psg_keymap.specs.declared.table.Due.{Due}
use Rattle.psg_keymap.specs.Table.{put_command, putting, text_at}
use Rattle.psg_script.specs.declared.command.Command.{Command}
use Rattle.psg_script.specs.declared.command.Where.TheVariants.{At}
use Rattle.psg_session.specs.declared.editor.Editor.{Editor}
use Rattle.psg_session.specs.declared.editor.OpenedTree.{OpenedTree}
use Rattle.psg_session.specs.Applied.{HasApplied}
use Rattle.psg_session.specs.Exchanges.{Outside}
use Rattle.psg_session.specs.PlainState.{Answer, Opened, State, not_asked}
use Rattle.psg_session.specs.PlainStep.{Steps, changes, refuses, by_insert, by_refine}
use Rattle.psg_session.specs.declared.refusal.Refusal.{Refusal}
use Rattle.psg_session.specs.Replies.{Reply, refused}
use Rattle.psg_session.specs.Sessions.{IsSession, plain, opened_of, state_of}
use Rattle.psg_unparse.specs.declared.spans.Span.{Span}
use Rattle.psg_unparse.specs.Layout.{text_of}
use Rattle.psg_asking.specs.Asked.{IsAskedAt, there, there_by}
use Rattle.psg_asking.specs.Programs.{opened_with}
use Rattle.psg_asking.specs.declared.asked.Asked.{Asked}
use Rattle.psg_asking.specs.Putting.{IsAtNode, IsPutText, IsTextHere, IsTextOf, nowhere, puts, refuses as is_refused}
use Rattle.psg_asking.specs.Putting.{there as there_is}
use Rattle.psg_asking.specs.Told.{refusal_in}
use Rattle.psg_asking.proofs.QuestionLaws.{AsksNothing, by_nobody}
use Rattle.psg_asking.proofs.WordLaws.{answered_in}

-- the command that puts an operator at the spot
abbrev pub put_at : Path → Option ℕ → Name → List ℕ → Command
put_at target place op args = put_command (At target) place op args

put_asks : (def : Definition) (s : State) (target : Path) (place : Option ℕ) (op : Name) (args : List ℕ)
    → AsksNothing def s (put_at target place op args)
put_asks def s target None op args None h = refl
put_asks def s target None op args (Some a) h = absurd h
put_asks def s target (Some k) op args None h = refl
put_asks def s target (Some k) op args (Some a) h = absurd h

-- what is put is at the cursor, in the tree that is then opened
pub record IsPut (s t : State) (path : Path) : Type 0 where
  pub cursor : t.cursor ≡ path
  pub old : Opened
  pub was : s.opened ≡ Some old
  pub grown : Fragment
  pub opened : t.opened ≡ Some (record { kind = old.kind; tree = grown })

module _ (def : Definition) (s : State) (answer : Answer) (target : Path) (op : Name) (args : List ℕ) where
  put_is : (place : Option ℕ) (t : State) (reply : Reply)
      → Steps def (IsCompletable def) s answer (put_at target place op args) t reply → None ≡ refusal_in reply
      → IsPut s t (with_place target place)
  put_is None t reply (refuses h) none = absurd (none-some _ none)
  put_is None t reply (changes {tree = tree} old mark taken opened (by_refine o2 o leaves e is gives) is_mark) none =
      record { cursor = refl; old = old; was = opened; grown = tree; opened = refl }
  put_is (Some k) t reply (refuses h) none = absurd (none-some _ none)
  put_is (Some k) t reply (changes {tree = tree} old mark taken opened (by_insert o2 o leaves e is gives) is_mark) none =
      record { cursor = refl; old = old; was = opened; grown = tree; opened = refl }

  -- an operator that is refused leaves all as it is
  refused_is : (place : Option ℕ) (t : State) (reply : Reply)
      → Steps def (IsCompletable def) s answer (put_at target place op args) t reply → (None ≡ refusal_in reply → ⊥)
      → (r : Refusal) × Steps def (IsCompletable def) s answer (put_at target place op args) s (refused r)
  refused_is None t reply (refuses {r = r} h) some = (r, refuses h)
  refused_is None t reply (changes old mark taken opened makes is_mark) some = absurd (some refl)
  refused_is (Some k) t reply (refuses {r = r} h) some = (r, refuses h)
  refused_is (Some k) t reply (changes old mark taken opened makes is_mark) some = absurd (some refl)

same_opened : (a b : Opened) → Some a ≡ Some b → a ≡ b
same_opened a b e = cc

-- the node at the cursor is the one at the path of what was put
node_put : (kind : Kind) (tree : Fragment) (t : State) (path : Path)
    (p : IsPut (opened_with kind tree) t path) (old : Opened) → t.opened ≡ Some old → (node : Fragment)
    → node_at old.tree t.cursor ≡ Some node
    → (t.opened ≡ Some (record { kind = kind; tree = p.grown })) × (node_at p.grown path ≡ Some node)
node_put kind tree t path p old opened node at =
    let was = same_opened (record { kind = kind; tree = tree }) p.old p.was in
    let now = same_opened old (record { kind = p.old.kind; tree = p.grown }) (sym opened ∙ p.opened) in (
      p.opened ∙ ap (λ (o : Opened). Some (record { kind = o.kind; tree = p.grown })) (sym was),
      subst (λ (c : Path). node_at p.grown c ≡ Some node) p.cursor
          (subst (λ (o : Opened). node_at o.tree t.cursor ≡ Some node) now at),
    )

module _ (def : Definition) (kind : Kind) (tree : Fragment) (spot : Spot) (op : Name) (args : List ℕ) (e : Editor) (before after : Outside) (from to : ℕ) (reply : Reply) (is : HasApplied def (opened_with kind tree) (state_of e) (put_at spot.target spot.place op args) before after from to reply) where
  answered_by : (after ≡ before) × (is.answer ≡ not_asked)
  answered_by =
      by_nobody before after is.asked is.answer
      (put_asks def (opened_with kind tree) spot.target spot.place op args is.asked is.asks) is.answers

  pub put_files : after ≡ before
  put_files = answered_by.0

  abbrev StepsTo : State → Reply → Type 0
  StepsTo t r =
      Steps def (IsCompletable def) (opened_with kind tree) not_asked (put_at spot.target spot.place op args) t r

  steps : StepsTo (state_of e) reply
  steps =
      subst (λ (a : Answer). Steps def (IsCompletable def) (opened_with kind tree) a
      (put_at spot.target spot.place op args) (state_of e) reply) answered_by.1 is.steps

  put : None ≡ refusal_in reply → IsPut (opened_with kind tree) (state_of e) (with_place spot.target spot.place)
  put none = put_is def (opened_with kind tree) not_asked spot.target op args spot.place (state_of e) reply steps none

  -- the cursor leads to a node
  pub put_here : IsSession (record { language = def; editor = e }) → None ≡ refusal_in reply → IsAtNode (state_of e)
  put_here session none =
      let p = put none in
      let new : Opened = record { kind = p.old.kind; tree = p.grown } in
      let at = session.formed.cursor new p.opened in
      (new, p.opened, at.0, at.1)

  pub text_refused : (None ≡ refusal_in reply → ⊥) → IsPutText def kind (there tree spot) op args None
  text_refused some =
      let r = refused_is def (opened_with kind tree) not_asked spot.target op args spot.place (state_of e) reply steps some in
      is_refused r.0 r.1

  pub text_put : (words : List ℕ) → None ≡ refusal_in reply → IsTextHere def (state_of e) words
      → IsPutText def kind (there tree spot) op args (Some words)
  text_put words none (old, opened, node, at, same) =
      let p = put none in
      let a = answered_in reply none in
      let n = node_put kind tree (state_of e) (with_place spot.target spot.place) p old opened node at in
      subst (λ (w : List ℕ). IsPutText def kind (there tree spot) op args (Some w)) (sym same)
      (puts (state_of e) a.0 p.grown node (subst (λ (r : Reply). StepsTo (state_of e) r) a.1 steps) n.0 n.1)

  -- the text that is returned
  pub put_told : (text : Option (List ℕ)) → MatchOption text ((None ≡ refusal_in reply) → ⊥)
      (λ words. (None ≡ refusal_in reply) × IsTextHere def (state_of e) words)
      → IsPutText def kind (there tree spot) op args text
  put_told None some = text_refused some
  put_told (Some words) h = text_put words h.0 h.1

-- ---- the node at the cursor

module _ (e : Editor) where
  pub none_opened : e.opened ≡ None → IsAtNode (state_of e) → ⊥
  none_opened n h = none-some h.0 (sym (ap opened_of n) ∙ h.1)

  pub node_opened : (held : OpenedTree) → e.opened ≡ Some held → (f : Fragment) → f ≡ tree_in held.note
      → (found : Option (Bor Fragment)) → option_copied found ≡ node_at f e.cursor
      → MatchOption found (IsAtNode (state_of e) → ⊥) (λ node. (old : Opened)
      × ((state_of e).opened ≡ Some old) × (node_at old.tree (state_of e).cursor ≡ Some node.now))
  node_opened held o f is None n =
      λ h. none-some h.2 (n ∙ ap (λ t. node_at t e.cursor)
      (is ∙ ap (λ (x : Opened). x.tree) (same_opened (plain held) h.0 (sym (ap opened_of o) ∙ h.1))) ∙ h.3)
  node_opened held o f is (Some node) n =
      (plain held, ap opened_of o, ap (λ t. node_at t e.cursor) (sym is) ∙ sym n)

-- the text of a node at the cursor
pub text_at_node : (def : Definition) (s : State) (node : Fragment) (old : Opened) → s.opened ≡ Some old
    → node_at old.tree s.cursor ≡ Some node → (text : List ℕ) → text ≡ text_of def node → IsTextHere def s text
text_at_node def s node old o n text is = (old, o, node, n, is)

module _ (e : Editor) (found : Option (Bor Fragment)) where
  abbrev pub IsFoundHere : Type 0
  IsFoundHere = MatchOption found (IsAtNode (state_of e) → ⊥) (λ node. (old : Opened)
      × ((state_of e).opened ≡ Some old) × (node_at old.tree (state_of e).cursor ≡ Some node.now))

  pub found_here : (node : Bor Fragment) → found ≡ Some node → IsFoundHere → (old : Opened)
      × ((state_of e).opened ≡ Some old) × (node_at old.tree (state_of e).cursor ≡ Some node.now)
  found_here node e2 h = subst (λ (o : Option (Bor Fragment)). MatchOption o (IsAtNode (state_of e) → ⊥) (λ node. (old : Opened)
      × ((state_of e).opened ≡ Some old) × (node_at old.tree (state_of e).cursor ≡ Some node.now))) e2 h

  pub nothing_here : ((node : Bor Fragment) → found ≡ Some node → ⊥) → IsFoundHere → IsAtNode (state_of e) → ⊥
  nothing_here no_node h here = by found no_node h where
    by : (o : Option (Bor Fragment)) → ((node : Bor Fragment) → o ≡ Some node → ⊥)
        → MatchOption o (IsAtNode (state_of e) → ⊥) (λ node. (old : Opened)
        × ((state_of e).opened ≡ Some old) × (node_at old.tree (state_of e).cursor ≡ Some node.now)) → ⊥
    by None n h = h here
    by (Some node) n h = n node refl

-- a refusal is one
pub is_refusal : (reply : Reply) (r : Refusal) → Some r ≡ refusal_in reply → None ≡ refusal_in reply → ⊥
is_refusal reply r e none = none-some r (none ∙ sym e)

-- what was applied is the command of the operator
pub applied_put : (def : Definition) (kind : Kind) (tree : Fragment) (spot : Spot) (op : Name) (args : List ℕ) (e : Editor)
    (before after : Outside) (from to : ℕ) (reply : Reply) (put : Due) → put ≡ putting spot.target spot.place op args
    → HasApplied def (opened_with kind tree) (state_of e) put.command before after from to reply
    → HasApplied def (opened_with kind tree) (state_of e) (put_at spot.target spot.place op args) before after from to reply
applied_put def kind tree spot op args e before after from to reply put is h =
    subst (λ (d : Due). HasApplied def (opened_with kind tree) (state_of e) d.command before after from to reply) is h

-- ---- the command that puts the text

module _ (def : Definition) (kind : Kind) (tree : Fragment) (spans : List Span) (spot : Spot) (op : Name) (args : List ℕ) (found : Option Asked) (at : IsAskedAt def tree spot (there_by found)) where
  pub due_there : (asked : Asked) → found ≡ Some asked → (text : Option (List ℕ))
      → IsPutText def kind (there (tree_in asked.note.now) asked.spot) op args text → (seen : Fragment) → seen ≡ tree
      → (due : Option Due) → due ≡ option_map (λ words. text_at def seen spans spot.target spot.place words) text
      → IsTextOf def kind tree spans spot op args due
  due_there asked e text put seen same due is =
      subst (λ (d : Option Due). IsTextOf def kind tree spans spot op args d)
      (sym (is ∙ ap (λ (f : Fragment). option_map (λ words. text_at def f spans spot.target spot.place words) text) same))
      (there_is (there (tree_in asked.note.now) asked.spot) text
      (subst (λ (o : Option Asked). IsAskedAt def tree spot (there_by o)) e at) put)

  pub due_nowhere : found ≡ None → IsTextOf def kind tree spans spot op args None
  due_nowhere e = nowhere (subst (λ (o : Option Asked). IsAskedAt def tree spot (there_by o)) e at)
