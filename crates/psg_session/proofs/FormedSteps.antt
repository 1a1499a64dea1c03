-- A command keeps trees of their kinds.
use Rattle.std.proofs.Common.{◌≡◌, List, [], ◌∷◌, take, Some, None, Option, refl, subst}
use Rattle.std.specs.List.{AllByRecursion}
use Rattle.psg_terms.proofs.Lists.{each_push, each_take}
use Rattle.psg_terms.specs.Names.{Name}
use Rattle.psg_grammar.specs.declared.types.Kind.{Kind}
use Rattle.psg_grammar.specs.declared.types.Definition.{Definition}
use Rattle.psg_grammar.specs.Fragments.{Fragment}
use Rattle.psg_grammar.specs.Insertion.{blank}
use Rattle.psg_grammar.specs.Kinds.{IsOfKind}
use Rattle.psg_grammar.specs.Paths.{Path, node_at}
use Rattle.psg_grammar.specs.Sound.{IsSound}
use Rattle.psg_grammar.specs.WellFormed.{WellFormed}
use Rattle.psg_cache.proofs.FormedTrees.{node_formed}
use Rattle.psg_script.specs.declared.command.Command.{Command}
use Rattle.psg_menu.specs.Menus.{HasQuietSlots}
use Rattle.psg_session.specs.Formed.{HasText, IsFormedSaved, IsFormedState, IsPrintableState}
use Rattle.psg_session.specs.Laws.{KeepsForm}
use Rattle.psg_session.specs.PlainState.{State, Opened, Answer, most_versions, named_path}
use Rattle.psg_session.specs.PlainStep.{HasName, IsDeclaringPhylum, IsTaken, Makes, by_refine, by_insert, by_cut, by_remove, by_close, by_reopen, by_paste, by_paste_in, by_over, by_range, Steps, refuses, opens, changes, undoes, redoes, saves, keeps, fetches, shows, goes, screens, owns, relates, frees, offers, suggests}
use Rattle.psg_session.specs.Replies.{Reply}
use Rattle.psg_session.specs.Shelf.{others}
use Rattle.psg_session.proofs.AllOf.{all_others}
use Rattle.psg_session.proofs.ChangeLaws.{kind_is}
use Rattle.psg_session.proofs.FetchedTrees.{fetched_formed}
use Rattle.psg_session.proofs.FormedMakes.{refined, put_in, cut_given, removed_given, closed_given, reopened_given, pasted, pasted_in, typed_given}
use Rattle.psg_session.proofs.Opening.{has_kind}
use Rattle.psg_session.proofs.PrintableTrees.{node_printable}
use Rattle.psg_session.proofs.PrintableSteps.{changed_state, fetched_printable, new_printable, read_formed, redone_printable, saved_printable, undone_printable}
use Rattle.psg_session.proofs.NewTrees.{blank_formed}
use Rattle.psg_session.proofs.StepLaws.{some_once}

module _ (def : Definition) where
  -- ---- nodes of trees

  -- a node of a well-formed tree is one
  pub node_of_kind : (f : Fragment) (kind : Kind) (path : Path) (node : Fragment) (K : Kind) → WellFormed def f kind
      → node_at f path ≡ Some node → IsOfKind def node K → WellFormed def node K
  node_of_kind f kind path node K formed at of =
      let (J, here) = node_formed def f kind path node formed at in
      subst (WellFormed def node) (kind_is def node J K here of) here

  -- the new tree of a named kind of which there may be a placeholder
  pub new_formed : (kind : Kind) (name : Name) → HasName def kind name → (IsDeclaringPhylum def kind → ⊥)
      → WellFormed def (blank def kind) kind
  new_formed kind name named silent = blank_formed def kind (has_kind def kind name named) silent

  -- ---- states

  opened_one : (P : Opened → Type 0) (it old : Opened) → P it → Some it ≡ Some old → P old
  opened_one P it old h e = let same : it ≡ old = cc in subst P same h

  -- with another opened tree, and these versions
  turned : (s : State) → IsFormedState def s → (it : Opened) (cursor : Path) (earlier later : List Fragment)
      → WellFormed def it.tree it.kind → (node : Fragment) → node_at it.tree cursor ≡ Some node
      → AllByRecursion (λ f. WellFormed def f it.kind) earlier → AllByRecursion (λ f. WellFormed def f it.kind) later
      → IsPrintableState (record { opened = Some it; cursor = cursor; earlier = earlier; later = later; saved = s.saved })
      → IsFormedState def (record { opened = Some it; cursor = cursor; earlier = earlier; later = later; saved = s.saved })
  turned s formed it cursor earlier later whole node at are also printable = record {
    opened = λ old e. opened_one (λ o. WellFormed def o.tree o.kind) it old whole e;
    cursor = λ old e.
        opened_one (λ o. (x : Fragment) × (node_at o.tree cursor ≡ Some x)) it old (node, at) e;
    earlier = λ old e. opened_one (λ o. AllByRecursion (λ f. WellFormed def f o.kind) earlier) it old are e;
    later = λ old e. opened_one (λ o. AllByRecursion (λ f. WellFormed def f o.kind) later) it old also e;
    saved = formed.saved;
    printable = printable;
  }

  module _ (IsGood : Fragment → Type 0) (sound : IsSound def) (slots : HasQuietSlots def)
      (s : State) (answer : Answer) (formed : IsFormedState def s) where
    -- what a change gives, by a tree of the kind that is opened
    abbrev pub IsOne : Opened → Fragment → Path → Type 0
    IsOne old tree path = WellFormed def tree old.kind × (node : Fragment) × (node_at tree path ≡ Some node)

    one_given : (a b : Opened) → s.opened ≡ Some a → s.opened ≡ Some b → (tree : Fragment) (path : Path) → IsOne a tree path
        → IsOne b tree path
    one_given a b e d tree path h = subst (λ o. IsOne o tree path) (some_once a b s.opened e d) h

    pub makes_given : {command : Command} {tree : Fragment} {path : Path} → HasText command
        → IsTaken def IsGood s answer command → (old : Opened) → s.opened ≡ Some old → Makes def s command tree path
        → IsOne old tree path
    makes_given text taken old opened (by_refine {place = place} {name = name} {args = args} it o leaves e named gives) =
        one_given it old e opened _ _
        (refined def sound slots s formed place it e name args o leaves named gives taken.1.0 taken.1.1.0
        taken.1.1.1.1.0)
    makes_given text taken old opened (by_insert {place = place} {k = k} {name = name} {args = args} it o leaves e named
        gives) =
        one_given it old e opened _ _
        (put_in def sound slots s formed place it e name args o leaves named gives k taken.1.0 taken.1.1.0
        taken.1.1.1.1.0)
    makes_given text taken old opened (by_cut {place = place} it node kind e at of) =
        one_given it old e opened _ _ (cut_given def sound slots s formed place it e node kind at of taken.1.1.0)
    makes_given text taken old opened (by_remove {place = place} {k = k} it e) =
        one_given it old e opened _ _ (removed_given def sound slots s formed place it e k taken.1.0)
    makes_given text taken old opened (by_close {place = place} it e) =
        one_given it old e opened _ _ (closed_given def sound slots s formed place it e taken.1.0)
    makes_given text taken old opened (by_reopen {place = place} it e) =
        one_given it old e opened _ _ (reopened_given def sound slots s formed place it e taken.1.0 taken.1.1.0)
    makes_given text taken old opened (by_paste {place = place} {name = name} it x e is_saved) =
        one_given it old e opened _ _
        (pasted def sound slots s formed place it e name x is_saved taken.1.1.0 taken.1.1.1.1.0)
    makes_given text taken old opened (by_paste_in {place = place} {k = k} {name = name} it x e is_saved) =
        one_given it old e opened _ _
        (pasted_in def sound slots s formed place it e name x is_saved k taken.1.1.0 taken.1.1.1.0 taken.1.1.1.1.0)
    makes_given text taken old opened (by_over {place = place} {text = typed} it node new nesting e at reads) =
        one_given it old e opened _ _ (typed_given def sound slots s formed place it e typed node new nesting text at reads)
    makes_given text taken old opened (by_range it tree nesting e reads) =
        one_given it old e opened tree [] (read_formed def it tree nesting reads, tree, refl)

    pub step_formed : {command : Command} {t : State} {reply : Reply} → HasText command
        → Steps def IsGood s answer command t reply → IsFormedState def t
    step_formed text (refuses refused_is) = formed
    step_formed text (opens {name = name} kind mark taken named is_mark) =
        turned s formed (record { kind = kind; tree = blank def kind }) [] [] []
        (new_formed kind name named (λ loud. taken.1.0 (kind, named, loud))) (blank def kind) refl tt tt
        (new_printable def s formed.printable kind)
    step_formed text (changes {tree = tree} {path = path} old mark taken opened makes is_mark) =
        let (whole, node, at) = makes_given text taken old opened makes in
        turned s formed (record { kind = old.kind; tree = tree }) path (take most_versions (old.tree ∷ s.earlier)) []
        whole node at
        (each_take (λ f. WellFormed def f old.kind) most_versions (old.tree ∷ s.earlier)
        (formed.opened old opened, formed.earlier old opened)) tt
        (changed_state def s formed.printable text old tree path opened makes)
    step_formed text (undoes old tree rest mark taken opened is is_mark) =
        let all = subst (AllByRecursion (λ f. WellFormed def f old.kind)) is (formed.earlier old opened) in
        turned s formed (record { kind = old.kind; tree = tree }) [] rest (old.tree ∷ s.later) all.0 tree refl all.1
        (formed.opened old opened, formed.later old opened)
        (undone_printable s formed.printable old tree rest opened is)
    step_formed text (redoes old tree rest mark taken opened is is_mark) =
        let all = subst (AllByRecursion (λ f. WellFormed def f old.kind)) is (formed.later old opened) in
        turned s formed (record { kind = old.kind; tree = tree }) [] (old.tree ∷ s.earlier) rest all.0 tree refl
        (formed.opened old opened, formed.earlier old opened) all.1
        (redone_printable s formed.printable old tree rest opened is)
    step_formed text (saves {name = name} {place = place} old node kind taken opened at of) = record {
      opened = formed.opened;
      cursor = formed.cursor;
      earlier = formed.earlier;
      later = formed.later;
      saved = each_push (IsFormedSaved def) (others name s.saved) (record { name = name; kind = kind; tree = node })
          (all_others (IsFormedSaved def) name s.saved formed.saved)
          (node_of_kind old.tree old.kind (named_path place s.cursor) node kind (formed.opened old opened) at of);
      printable = saved_printable s formed.printable (record { name = name; kind = kind; tree = node })
          (node_printable (named_path place s.cursor) old.tree node at (formed.printable.opened old opened));
    }
    step_formed text (keeps taken is) = formed
    step_formed text (fetches bytes x taken is kept) = record {
      opened = formed.opened;
      cursor = formed.cursor;
      earlier = formed.earlier;
      later = formed.later;
      saved = each_push (IsFormedSaved def) (others x.name s.saved) x
          (all_others (IsFormedSaved def) x.name s.saved formed.saved) (fetched_formed def bytes x kept);
      printable = saved_printable s formed.printable x (fetched_printable def bytes x kept);
    }
    step_formed text (shows old mark taken opened is_mark) = formed
    step_formed text (goes {place = place} old p kind name taken opened written of named) = record {
      opened = formed.opened;
      cursor = λ it e. there (node_at it.tree (named_path place s.cursor)) it e refl;
      earlier = formed.earlier;
      later = formed.later;
      saved = formed.saved;
      printable = record {
        opened = formed.printable.opened;
        earlier = formed.printable.earlier;
        later = formed.printable.later;
        saved = formed.printable.saved;
      };
    } where
      there : (o : Option Fragment) → (it : Opened) → s.opened ≡ Some it
          → node_at it.tree (named_path place s.cursor) ≡ o → (node : Fragment) × (node_at it.tree (named_path place s.cursor) ≡ Some node)
      there None it e at = absurd (taken.1.0 (it, e, at))
      there (Some node) it e at = (node, at)
    step_formed text (screens old taken opened) = formed
    step_formed text (owns old node rows taken opened at of) = formed
    step_formed text (relates old rows taken opened is) = formed
    step_formed text (frees old taken opened) = formed
    step_formed text (offers old node p ops names taken opened at want menu named) = formed
    step_formed text (suggests old o names taken opened named menu) = formed

pub keeps_form : (def : Definition) (IsGood : Fragment → Type 0) → IsSound def
    → HasQuietSlots def → KeepsForm def IsGood
keeps_form def IsGood sound slots s t answer command reply text formed steps =
    step_formed def IsGood sound slots s answer formed text steps
