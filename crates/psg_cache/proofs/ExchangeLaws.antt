-- A node with another tree in its place, and the nodes above it.
use Rattle.std.proofs.Common.{◌≡◌, inl, inr, suc, ◌+◌, ◌≤◌, [], ◌∷◌, ◌++◌, drop, length, take, slice_get, Option, Some, None, refl, sym, ◌∙◌, ap, subst, append_assoc, append-nil, arith}
use Rattle.std.specs.Prelude.{option_and_then, option_map}
use Rattle.std.proofs.lemmas.Bool.{false≢true, cases_Bool}
use Rattle.std.proofs.lemmas.Option.{none-some, slice_get_within, same_Some}
use Rattle.psg_grammar.proofs.PathLaws.{step}
use Rattle.psg_grammar.specs.declared.types.Definition.{Definition}
use Rattle.psg_grammar.specs.Fragments.{Fragment, children_of}
use Rattle.psg_grammar.specs.Paths.{Path, node_at, put_child, replaced}
use Rattle.psg_grammar.specs.Same.{same_tree}
use Rattle.psg_grammar.specs.Steps.{steps_of}
use Rattle.psg_grammar.specs.Work.{climb_of}
use Rattle.psg_grammar.proofs.SameLaws.{same-refl}
use Rattle.psg_grammar.specs.WellFormed.{WellFormed}
use Rattle.psg_cache.specs.declared.editing.Edit.TheVariants as edits
use Rattle.psg_cache.specs.declared.note.NoteFault.{NoteFault}
use Rattle.psg_cache.specs.Annotated.{Annotated, tree_in, note_at}
use Rattle.psg_cache.specs.Changes.{IsExchange, IsPlace}
use Rattle.psg_cache.specs.Diff.{diff_below, diff_of}
use Rattle.psg_cache.specs.Edits.{MayReplace}
use Rattle.psg_cache.specs.Noted.{IsNoted, IsNotedAs}
use Rattle.psg_cache.specs.Notes.{IsFormed, IsNoteOf}
use Rattle.psg_cache.specs.Renoting.{IsRenoted}
use Rattle.psg_cache.specs.Walks.{IsStepFault}
use Rattle.psg_tree.specs.Faults.{IsReplaced}
use Rattle.psg_cache.proofs.ChangeLaws.{got_behind, new_fault}
use Rattle.psg_cache.proofs.ClimbLaws.{change-put, climb_diff}
use Rattle.psg_cache.proofs.CulpritLaws.{real_children}
use Rattle.psg_cache.proofs.DiffLaws.{diff-same, same-put}
use Rattle.psg_cache.proofs.Each.{each_got}
use Rattle.psg_cache.proofs.NoteParts.{noted_at}
use Rattle.psg_cache.proofs.PairLaws.{same_equal, same_false}
use Rattle.psg_cache.proofs.RealTrees.{IsReal, real}
use Rattle.psg_cache.proofs.FormedTrees.{replaced_formed}
use Rattle.psg_cache.proofs.SpliceLaws.{children_changed}
use Rattle.psg_cache.proofs.WalkLaws.{formed_children}

found : (node : Fragment) (o : Option Annotated) → Some node ≡ option_map tree_in o → (m : Annotated) × (o ≡ Some m)
found node None e = absurd (none-some node (sym e))
found node (Some m) e = (m, refl)

-- an equal tree in place of a node changes nothing
pub same_replaced : (path : Path) (f : Fragment) → IsReal f → (node new : Fragment) → node_at f path ≡ Some node → node ≡ new
    → f ≡ replaced path new f
same_replaced [] f is node new at same = same_Some f node at ∙ same
same_replaced (k ∷ path) f is node new at same =
    let (c, child, below) = step (slice_get (children_of f) k) path node at in
    let real_child : IsReal c = each_got IsReal (children_of f) k c (real_children f is) child in
    let inner : Fragment = replaced path new c in
    let kept : c ≡ inner = same_replaced path c real_child node new below same in
    let made : replaced (k ∷ path) new f ≡ put_child inner k f = change-put (replaced path new) f k c child in
    let told : same_tree c inner ≡ same_tree c c = ap (same_tree c) (sym kept) in
    same_equal f (put_child inner k f) (same-put inner c f is k child ∙ told ∙ same-refl c) ∙ sym made

module _ (def : Definition) where
  pub none_equal : (old new : Fragment) (made : Option Annotated) → ((n : Annotated) → made ≡ Some n → ⊥)
      → IsRenoted def old new made → old ≡ new
  none_equal old new None none h = h
  none_equal old new (Some n) none h = absurd (none n refl)

  pub some_noted : (old new : Fragment) (made : Option Annotated) (n : Annotated) → made ≡ Some n
      → IsRenoted def old new made → (old ≡ new → ⊥) × IsNotedAs def new n
  some_noted old new made n e h =
      let it : IsRenoted def old new (Some n) = subst (IsRenoted def old new) e h in (it.0, it.1)

  -- the note of a node that is there
  pub there_at : (path : Path) (n : Annotated) → IsNoted def n → IsFormed def (tree_in n) → (node : Fragment)
      → node_at (tree_in n) path ≡ Some node → (m : Annotated) × (note_at n path ≡ Some m)
  there_at path n noted formed node at = found node (note_at n path) (sym at ∙ (noted_at def path n noted formed).0)

  pub there_is : (path : Path) (n m : Annotated) → IsNoted def n → IsFormed def (tree_in n) → (node : Fragment)
      → node_at (tree_in n) path ≡ Some node → note_at n path ≡ Some m
      → (tree_in m ≡ node) × IsNoted def m × IsFormed def (tree_in m)
  there_is path n m noted formed node at here =
      let h = noted_at def path n noted formed in
      (same_Some (tree_in m) node (sym (ap (option_map tree_in) here) ∙ sym h.0 ∙ at), (h.1 m here).0, (h.1 m here).1)

  -- the first step of the new tree that is too large is the first of the whole one
  put_fault : (left path : Path) (n : Annotated) (new made node : Fragment) (fault : NoteFault) → IsNoted def n
      → IsFormed def (tree_in n) → IsFormed def made → node_at (tree_in n) left ≡ Some node
      → made ≡ replaced left new (tree_in n) → IsStepFault def (steps_of def (path ++ left) new) fault
      → IsStepFault def (steps_of def path made) fault
  put_fault [] path n new made node fault noted old formed at is f =
      subst (λ x. IsStepFault def (steps_of def path x) fault) (sym is)
      (subst (λ q. IsStepFault def (steps_of def q new) fault) (append-nil path) f)
  put_fault (k ∷ left) path n new made node fault noted old formed at is f =
      let (c, child, below) = step (slice_get (children_of (tree_in n)) k) left node at in
      let one : node_at (tree_in n) (k ∷ []) ≡ Some c = ap (option_and_then (λ t. node_at t [])) child in
      let (m, here) = there_at (k ∷ []) n noted old c one in
      let facts = there_is (k ∷ []) n m noted old c one here in
      let inner : Fragment = replaced left new c in
      let few : k ≤ length (children_of (tree_in n)) =
      (let s = slice_get_within (children_of (tree_in n)) k c child in omega (arith, s)) in
      let children : children_of made
      ≡ take k (children_of (tree_in n)) ++ inner ∷ drop (suc k) (children_of (tree_in n)) =
      ap children_of is ∙ children_changed (replaced left new) (tree_in n) k c child in
      let formed_inner : IsFormed def inner =
      each_got (IsFormed def) (children_of made) k inner (formed_children def made formed)
      (ap (λ xs. slice_get xs k) children
      ∙ got_behind (children_of (tree_in n)) k inner (drop (suc k) (children_of (tree_in n))) few) in
      let there : node_at (tree_in m) left ≡ Some node = ap (λ x. node_at x left) facts.0 ∙ below in
      let made_inner : inner ≡ replaced left new (tree_in m) = ap (replaced left new) (sym facts.0) in
      let g = put_fault left (path ++ k ∷ []) m new inner node fault facts.1 facts.2 formed_inner there made_inner
      (subst (λ q. IsStepFault def (steps_of def q new) fault) (sym (append_assoc path (k ∷ []) left)) f) in
      new_fault def path n made k inner (drop (suc k) (children_of (tree_in n))) fault noted old formed few children g

  module _ (n : Annotated) (path : Path) (new made : Fragment) (h : IsExchange def n path new made) where
    pub exchange_there : (m : Annotated) × (note_at n path ≡ Some m)
    exchange_there = there_at path n h.whole.noted h.whole.formed h.node h.there

    pub exchange_old : (m : Annotated) → note_at n path ≡ Some m
        → (tree_in m ≡ h.node) × IsNoted def m × IsFormed def (tree_in m)
    exchange_old m here = there_is path n m h.whole.noted h.whole.formed h.node h.there here

    pub exchange_fault : (fault : NoteFault) → IsStepFault def (steps_of def path new) fault
        → IsStepFault def (steps_of def [] made) fault
    exchange_fault fault f =
        put_fault path [] n new made h.node fault h.whole.noted h.whole.formed h.formed h.there h.changed f

    pub exchange_put : (child : Annotated) → IsNotedAs def new child → IsPlace def n path (edits.Put child) made
    exchange_put child noted = record {
      noted = h.whole.noted;
      formed_old = h.whole.formed;
      formed = h.formed;
      node = h.node;
      there = h.there;
      takes = noted.1;
      changed = h.changed ∙ ap (λ x. replaced path x (tree_in n)) (sym noted.0);
    }

    -- a note of an equal node is the whole note
    pub exchange_same : (m : Annotated) → note_at n path ≡ Some m → tree_in m ≡ new → IsNoteOf def made n
    exchange_same m here same =
        let kept : tree_in n ≡ replaced path new (tree_in n) =
        same_replaced path (tree_in n) (real def (tree_in n) h.whole.formed) h.node new h.there
        (sym (exchange_old m here).0 ∙ same) in
        subst (λ x. IsNoteOf def x n) (kept ∙ sym h.changed) h.whole

    pub exchange_whole : (m : Annotated) → note_at n path ≡ Some m → (tree_in m ≡ new → ⊥)
        → diff_of (tree_in n) made ≡ diff_of (tree_in m) new + climb_of (tree_in n) path
    exchange_whole m here never =
        let old = (exchange_old m here).0 in
        let climb = climb_diff path (tree_in n) (real def (tree_in n) h.whole.formed) h.node new h.there
        (same_false h.node new (λ e. never (old ∙ e))) in
        ap (diff_of (tree_in n)) h.changed ∙ climb.0 ∙ ap (λ x. diff_of x new + climb_of (tree_in n) path) (sym old)

    pub exchange_least : (m : Annotated) → note_at n path ≡ Some m → diff_of (tree_in m) new ≤ diff_of (tree_in n) made
    exchange_least m here =
        elim (cases_Bool (same_tree (tree_in m) new)) [
          | inl e ↦
              let same : tree_in m ≡ new = same_equal (tree_in m) new e in
              let none : diff_of (tree_in m) new ≡ 0 =
              ap (diff_of (tree_in m)) (sym same) ∙ diff-same (tree_in m) (diff_below (tree_in m) (tree_in m)) in
              omega (arith, none)
          | inr e ↦
              let never : tree_in m ≡ new → ⊥ =
              λ same. false≢true (sym e ∙ ap (same_tree (tree_in m)) (sym same) ∙ same-refl (tree_in m)) in
              let all = exchange_whole m here never in
              omega (arith, all)
        ]

  -- what the command asks for
  pub exchange_asked : (n : Annotated) (path : Path) (new made : Fragment) → IsNoteOf def (tree_in n) n
      → MayReplace def (tree_in n) path new → IsReplaced (tree_in n) path new made → IsExchange def n path new made
  exchange_asked n path new made note may is =
      let (kind, formed) = note.formed in
      let whole = replaced_formed def (tree_in n) kind path may.node new may.kind formed may.there may.of_kind may.formed in
      record {
        whole = note;
        formed = (kind, subst (λ x. WellFormed def x kind) (sym is.1) whole);
        formed_new = (may.kind, may.formed);
        node = may.node;
        there = may.there;
        changed = is.1;
      }
