-- A command has a step: where no test holds there is what it makes, or what it is answered.
use Rattle.std.proofs.Common.{◌≡◌, inl, inr, ℕ, List, [], ◌∷◌, ◌++◌, length, map, slice_get, Option, Some, None, IsUtf8, refl, sym, ◌∙◌, ap, ap₂, arith}
use Rattle.std.specs.Option.{option_map}
use Rattle.std.specs.List.{AllByRecursion}
use Rattle.std.specs.Prelude.{chars, codes}
use Rattle.std.proofs.lemmas.Bool.{cases_lt}
use Rattle.psg_terms.proofs.Lists.{slice_get_some}
use Rattle.psg_terms.specs.Names.{Name}
use Rattle.psg_terms.specs.Relations.{IsIn, first, later}
use Rattle.psg_grammar.specs.declared.types.Kind.{Kind}
use Rattle.psg_grammar.specs.declared.types.Kind.TheVariants as kinds
use Rattle.psg_grammar.specs.declared.types.ListKind.{ListKind}
use Rattle.psg_grammar.specs.declared.types.Phylum.{Phylum}
use Rattle.psg_grammar.specs.declared.types.Operator.{Operator}
use Rattle.psg_grammar.specs.declared.types.Definition.{Definition}
use Rattle.psg_grammar.specs.Fragments.{Fragment, hole, ending, cell, operator, with_child, with_name, with_number, with_text, anything, observed}
use Rattle.psg_grammar.specs.Insertion.{blank}
use Rattle.psg_grammar.specs.Kinds.{HasKind, IsOfKind, op_name_of}
use Rattle.psg_grammar.specs.Marks.{Chosen, nothing, taken as chosen, passed, good, wrong, Mark, IsMarkBy, IsCulpritBy, nodes_from, path_of}
use Rattle.psg_grammar.specs.Paths.{Path, node_at, IsList}
use Rattle.psg_grammar.specs.Regions.{names_of}
use Rattle.psg_grammar.specs.Sound.{IsSound}
use Rattle.psg_grammar.specs.WellFormed.{fixed_words, WellFormed}
use Rattle.psg_cache.proofs.FormedTrees.{formed_is_kind, node_formed}
use Rattle.psg_class.specs.Class.{IsClass}
use Rattle.psg_lexis.specs.Tokens.{IsFixedWord}
use Rattle.psg_menu.specs.Menus.{in_byte_order, IsChoosable, IsNameable, operators_of}
use Rattle.psg_menu.proofs.MenuLaws.{op_there}
use Rattle.psg_unparse.specs.Layout.{text_of}
use Rattle.psg_unparse.specs.Spots.{Placed}
use Rattle.psg_renaming.specs.Occurring.{occurring}
use Rattle.psg_screen.specs.Window.{window_of}
use Rattle.psg_unparse.specs.Listing.{IsListing}
use Rattle.psg_unparse.proofs.Listed.{listing as formed_listing}
use Rattle.psg_unparse.specs.Spans.{span_of}
use Rattle.psg_library.specs.Keeping.{bytes_of}
use Rattle.psg_script.specs.declared.command.Where.{Where}
use Rattle.psg_script.specs.declared.command.Command.{Command}
use Rattle.psg_script.specs.declared.command.Command.TheVariants.{New, Goto, Refine, Insert, Cut, Remove, Close, Reopen, Over, Range, Show, Screen, Relation, Own, Menu, Names, Free, Undo, Redo, Save, Paste, Keep, Fetch}
use Rattle.psg_session.specs.Answers.{free_names, key_text, names_line, rows_lines}
use Rattle.psg_session.specs.Applied.{IsAskedBy}
use Rattle.psg_session.specs.Exchanges.{Asked, fetching, gets, IsAnswered, keeping, loses_fetch, loses_keep, most_kept_bytes, Outside, stores}
use Rattle.psg_session.specs.Formed.{HasText, IsFormedState}
use Rattle.psg_session.specs.Kept.{Asks}
use Rattle.psg_session.specs.PlainState.{Answer, got, lost, named_path, Opened, State, stored, with_change, with_cursor, with_new, with_saved, with_version}
use Rattle.psg_session.specs.PlainStep.{by_close, by_cut, by_insert, by_over, by_paste, by_paste_in, by_range, by_refine, by_remove, by_reopen, changes, fetches, frees, goes, HasName, HasNoPlace, IsListOf, IsNoNode, IsTaken, IsWanted, keeps, Makes, offers, opens, owns, redoes, refuses, relates, saves, screens, shows, suggests, tests, undoes}
use Rattle.psg_session.specs.Printing.{goto_line, IsWrittenAt, lines_in, view_of, what_is}
use Rattle.psg_session.specs.Ranged.{replacing, text_with}
use Rattle.psg_session.specs.Refusals.{done, Passes, Refuses, test, Tests}
use Rattle.psg_session.specs.declared.refusal.Refusal.{Refusal}
use Rattle.psg_session.specs.Replies.{answered, marked, refused, shown}
use Rattle.psg_session.specs.Shelf.{saved_at}
use Rattle.psg_session.specs.SomeStep.{CannotLack, HasSomeStep, HasStep}
use Rattle.psg_session.proofs.ChangeLaws.{kind_there}
use Rattle.psg_session.proofs.FormedSteps.{node_of_kind}
use Rattle.psg_session.proofs.MenuLaws.{chosen_in}
use Rattle.psg_session.proofs.RangeTexts.{new_utf8}
use Rattle.psg_textedit.proofs.Lexed.{lexed}
use Rattle.psg_session.proofs.ShownTold.{some_relations, some_shown}

-- ---- tests, lists and options

-- a list of tests refuses, or none of them holds
refused_or : (ts : Tests) → ((r : Refusal) → Refuses ts r → ⊥) → (Passes ts → ⊥) → ⊥
refused_or done stops goes_by = goes_by tt
refused_or (test refusal holds rest) stops goes_by =
    let fails : holds → ⊥ = λ h. stops refusal (inl (h, refl)) in
    refused_or rest (λ r h. stops r (inr (fails, h))) (λ h. goes_by (fails, h))

-- the members of a list that have a property
some_chosen : {X : Type 0} (P : X → Type 0) (xs : List X) → ((ys : List X) → Chosen P xs ys → ⊥) → ⊥
some_chosen P [] none = none [] nothing
some_chosen P (x ∷ xs) none =
    some_chosen P xs (λ ys h.
    let fails : P x → ⊥ = λ p. none (x ∷ ys) (chosen p h) in
    none ys (passed fails h))

some_mark : (IsGood : Fragment → Type 0) (f : Fragment) → ((mark : Mark) → IsMarkBy IsGood f mark → ⊥) → ⊥
some_mark IsGood f none =
    let fails : IsGood f → ⊥ = λ h. none good h in
    some_chosen (IsCulpritBy IsGood) (nodes_from [] f)
    (λ found h. none (wrong (map path_of found)) (fails, (found, h, refl)))

there : {X : Type 0} (o : Option X) → (o ≡ None → ⊥) → (x : X) × (o ≡ Some x)
there None never = absurd (never refl)
there (Some x) never = (x, refl)

nearest : (xs : List Fragment) → (xs ≡ [] → ⊥) → (x : Fragment) × (rest : List Fragment) × (xs ≡ x ∷ rest)
nearest [] never = absurd (never refl)
nearest (x ∷ xs) never = (x, xs, refl)

-- ---- what the files answer

kept_answer : {before after : Outside} {answer : Answer} (asked : Asked) (file : Name) (bytes : List ℕ)
    → asked ≡ keeping file bytes → IsAnswered before after (Some asked) answer → (answer ≡ lost → ⊥) → answer ≡ stored
kept_answer (keeping f b) file bytes e (stores held entries) never = refl
kept_answer (keeping f b) file bytes e (loses_keep held entries) never = absurd (never refl)
kept_answer (fetching f) file bytes e h never = absurd (cc)

fetched_answer : {before after : Outside} {answer : Answer} (asked : Asked) (file : Name) → asked ≡ fetching file
    → IsAnswered before after (Some asked) answer → (answer ≡ lost → ⊥) → (bytes : List ℕ) × (answer ≡ got bytes)
fetched_answer (fetching f) file e (gets {bytes = bytes} same short held) never = (bytes, refl)
fetched_answer (fetching f) file e (loses_fetch held entries) never = absurd (never refl)
fetched_answer (keeping f b) file e h never = absurd (cc)

-- ---- kinds and operators

module _ (def : Definition) where
  named_kind : (K : Kind) → HasKind def K → (name : Name) × HasName def K name
  named_kind (kinds.Phylum p) has =
      let (x, at) = slice_get_some def.phyla p has in (x.name, ap (option_map (λ (k : Phylum). k.name)) at)
  named_kind (kinds.List l) has =
      let (x, at) = slice_get_some def.lists l has in (x.name, ap (option_map (λ (k : ListKind). k.name)) at)

  named_operators : (ops : List ℕ)
      → ((o : ℕ) → IsIn o ops → (op : Operator) × (slice_get def.operators o ≡ Some op))
      → (names : List Name) × (map (op_name_of def) ops ≡ map Some names)
  named_operators [] are = ([], refl)
  named_operators (o ∷ ops) are =
      let (op, at) = are o first in
      let (names, more) = named_operators ops (λ x i. are x (later i)) in
      let name : op_name_of def o ≡ Some op.name = ap (option_map (λ (x : Operator). x.name)) at in
      (op.name ∷ names, ap₂ (λ x xs. x ∷ xs) name more)

  -- a list is of a list kind
  list_of : (f : Fragment) (K : Kind) → WellFormed def f K → IsList f → (list : ListKind) × IsListOf def f list
  list_of (ending l u) K ((none, is, (list, found, may)), plain) is_list = (list, (l, refl, found))
  list_of (cell l e r) K ((none, is, list, found, fe, fr, z), plain) is_list = (list, (l, refl, found))
  list_of (hole p) K h is_list = absurd is_list
  list_of (operator o) K h is_list = absurd is_list
  list_of (with_child f t) K h is_list = absurd is_list
  list_of (with_name f n) K h is_list = absurd is_list
  list_of (with_number f n) K h is_list = absurd is_list
  list_of (with_text f t) K h is_list = absurd is_list
  list_of anything K h is_list = absurd is_list
  list_of (observed f) K h is_list = absurd is_list

  -- where there is a place for an operator, a phylum is wanted
  some_wanted : (k : Option ℕ) (node : Fragment) (K : Kind) → WellFormed def node K → (HasNoPlace def k node → ⊥)
      → ((p : ℕ) → IsWanted def k node p → ⊥) → ⊥
  some_wanted None node K shaped room none = room none
  some_wanted (Some k) node K shaped room none =
      room (inl (λ is. let (list, of) = list_of node K shaped is in none list.element (list, of, refl)))

  -- a node is written at its path
  written : (f : Fragment) (K : Kind) (path : Path) (node : Fragment) → WellFormed def f K → node_at f path ≡ Some node
      → (p : Placed) × IsWrittenAt def f path p × (node_at f path ≡ Some p.node)
  written f K path node shaped at =
      let all : IsListing def f = formed_listing def f K shaped in
      let (p, (k, here, is)) = all.all path node at in (
        p,
        (
          k,
          here,
          is,
          λ j q less also same.
              let e : j ≡ k = all.once j k q p also here (same ∙ sym is) in
              absurd (omega (arith, e, less)),
        ),
        all.nodes path p (k, here, is),
      )

module _ (def : Definition) (sound : IsSound def) (words : AllByRecursion IsFixedWord (fixed_words def))
    (class : IsClass def)
    (IsGood : Fragment → Type 0) (s : State) (answer : Answer) (formed : IsFormedState def s) where
  abbrev NoStep : Command → Type 0
  NoStep command = HasStep def IsGood s answer command → ⊥

  -- the command is taken, and has no step
  abbrev IsStuck : Command → Type 0
  IsStuck command = IsTaken def IsGood s answer command → NoStep command → ⊥

  changed : {command : Command} {tree : Fragment} {path : Path} (old : Opened) → s.opened ≡ Some old
      → Makes def s command tree path → IsStuck command
  changed {tree = tree} {path = path} old opened makes is none =
      some_mark IsGood tree (λ mark told. none (record {
        next = with_change s old tree path;
        reply = marked mark;
        steps = changes old mark is opened makes told;
      }))

  -- ---- places

  shaped : (old : Opened) → s.opened ≡ Some old → WellFormed def old.tree old.kind
  shaped old opened = formed.opened old opened

  module _ (place : Where) (old : Opened) (opened : s.opened ≡ Some old) where
    abbrev here : Path
    here = named_path place s.cursor

    node_here : (node : Fragment) → node_at old.tree here ≡ Some node → (K : Kind) × WellFormed def node K
    node_here node at = node_formed def old.tree old.kind here node (shaped old opened) at

    kind_here : (node : Fragment) → node_at old.tree here ≡ Some node
        → (K : Kind) × IsOfKind def node K × (name : Name) × HasName def K name
    kind_here node at =
        let (K, whole) = node_here node at in
        let of : IsOfKind def node K = formed_is_kind def node K whole in
        let (name, named) = named_kind def K (kind_there def sound node K (K, whole) of) in
        (K, of, name, named)

    node_there : (IsNoNode def s place → ⊥) → (node : Fragment) × (node_at old.tree here ≡ Some node)
    node_there some = there (node_at old.tree here) (λ none. some (old, opened, none))

  -- ---- changes

  module _ (place : Where) where
    refine_goes : (name : Name) (args : List ℕ) → IsStuck (Refine place name args)
    refine_goes name args is none =
        let (old, opened) = there s.opened is.0 in
        is.1.1.1.1.1.0 (λ o leaves named gives. changed old opened (by_refine old o leaves opened named gives) is none)

    insert_goes : (k : ℕ) (name : Name) (args : List ℕ) → IsStuck (Insert place k name args)
    insert_goes k name args is none =
        let (old, opened) = there s.opened is.0 in
        is.1.1.1.1.1.0 (λ o leaves named gives. changed old opened (by_insert old o leaves opened named gives) is none)

    cut_goes : IsStuck (Cut place)
    cut_goes is none =
        let (old, opened) = there s.opened is.0 in
        let (node, at) = node_there place old opened is.1.0 in
        let (K, of, name, named) = kind_here place old opened node at in
        changed old opened (by_cut old node K opened at of) is none

    remove_goes : (k : ℕ) → IsStuck (Remove place k)
    remove_goes k is none = let (old, opened) = there s.opened is.0 in changed old opened (by_remove old opened) is none

    close_goes : IsStuck (Close place)
    close_goes is none = let (old, opened) = there s.opened is.0 in changed old opened (by_close old opened) is none

    reopen_goes : IsStuck (Reopen place)
    reopen_goes is none = let (old, opened) = there s.opened is.0 in changed old opened (by_reopen old opened) is none

    paste_goes : (k : Option ℕ) (name : Name) → IsStuck (Paste place k name)
    paste_goes None name is none =
        let (old, opened) = there s.opened is.0 in
        let (x, found) = there (saved_at s.saved name) is.1.0 in
        changed old opened (by_paste old x opened found) is none
    paste_goes (Some k) name is none =
        let (old, opened) = there s.opened is.0 in
        let (x, found) = there (saved_at s.saved name) is.1.0 in
        changed old opened (by_paste_in old x opened found) is none

    over_goes : (text : List ℕ) → IsUtf8 text → IsStuck (Over place text)
    over_goes text utf8 is none =
        let (old, opened) = there s.opened is.0 in
        let (node, at) = node_there place old opened is.1.0 in
        let (K, of, name, named) = kind_here place old opened node at in
        elim (lexed (fixed_words def) (chars text)) [
          | inr fault ↦ is.1.1.0 fault
          | inl (ts, are) ↦ is.1.1.1.0 (
            old,
            opened,
            node,
            at,
            record {
              kind = K;
              of_kind = of;
              none = record {
                tokens = ts;
                are = are;
                none = λ new nesting yields.
                    changed old opened
                    (by_over old node new nesting opened at
                    (record { kind = K; of_kind = of; reads = record { tokens = ts; are = are; yields = yields } })) is none;
              };
            },
          )
        ]

  range_goes : (start end : ℕ) (text : List ℕ) → IsUtf8 text → IsStuck (Range start end text)
  range_goes start end text utf8 is none =
      let (old, opened) = there s.opened is.0 in
      let e = replacing start end text in
      let whole : IsUtf8 (text_with def e old) =
      new_utf8 def sound words class old.tree old.kind (formed.printable.opened old opened) (formed.opened old opened) e utf8
      (λ out. is.1.0 (old, opened, out)) in
      elim (lexed (fixed_words def) (chars (text_with def e old))) [
        | inr fault ↦ is.1.1.0 (old, opened, fault)
        | inl (ts, are) ↦ is.1.1.1.0 (
          old,
          opened,
          record {
            tokens = ts;
            are = are;
            none = λ new nesting yields.
                changed old opened
                (by_range old new nesting opened
                (record { utf8 = whole; reads = record { tokens = ts; are = are; yields = yields } })) is none;
          },
        )
      ]

  -- ---- new trees, versions and saved fragments

  new_goes : (name : Name) → IsStuck (New name)
  new_goes name is none =
      is.0 (λ kind named.
      some_mark IsGood (blank def kind) (λ mark told. none (record {
        next = with_new s kind (blank def kind);
        reply = marked mark;
        steps = opens kind mark is named told;
      })))

  undo_goes : IsStuck Undo
  undo_goes is none =
      let (old, opened) = there s.opened is.0 in
      let (tree, rest, some) = nearest s.earlier is.1.0 in
      some_mark IsGood tree (λ mark told. none (record {
        next = with_version s old tree rest (old.tree ∷ s.later);
        reply = marked mark;
        steps = undoes old tree rest mark is opened some told;
      }))

  redo_goes : IsStuck Redo
  redo_goes is none =
      let (old, opened) = there s.opened is.0 in
      let (tree, rest, some) = nearest s.later is.1.0 in
      some_mark IsGood tree (λ mark told. none (record {
        next = with_version s old tree (old.tree ∷ s.earlier) rest;
        reply = marked mark;
        steps = redoes old tree rest mark is opened some told;
      }))

  save_goes : (name : Name) (place : Where) → IsStuck (Save name place)
  save_goes name place is none =
      let (old, opened) = there s.opened is.0 in
      let (node, at) = node_there place old opened is.1.0 in
      let (K, of, kind_name, named) = kind_here place old opened node at in
      none (record {
        next = with_saved s (record { name = name; kind = K; tree = node });
        reply = answered ((codes "saved " ++ name) ∷ []);
        steps = saves old node K is opened at of;
      })

  keep_goes : (name file : Name) {before after : Outside} (asked : Option Asked) → IsAskedBy def s (Keep name file) asked
      → IsAnswered before after asked answer → IsStuck (Keep name file)
  keep_goes name file asked asks answers is none =
      let (x, found) = there (saved_at s.saved name) is.0 in
      let bytes = bytes_of def x in
      elim (cases_lt most_kept_bytes (length (bytes_of def x))) [
        | inl long ↦ is.1.0 (x, found, long)
        | inr short ↦ kept asked asks answers bytes (x, found, (short, refl))
      ]
    where
      kept : {before after : Outside} (asked : Option Asked) → IsAskedBy def s (Keep name file) asked
          → IsAnswered before after asked answer → (bytes : List ℕ) → Asks def s (Keep name file) (keeping file bytes) → ⊥
      kept None asks answers bytes would = asks (keeping file bytes) would
      kept (Some a) (x, found, (short, e)) answers bytes would = none (record {
        next = s;
        reply = answered ((codes "kept " ++ name) ∷ []);
        steps = keeps is (kept_answer a file (bytes_of def x) e answers is.1.1.0);
      })

  fetch_goes : (file : Name) {before after : Outside} (asked : Option Asked) → IsAskedBy def s (Fetch file) asked
      → IsAnswered before after asked answer → IsStuck (Fetch file)
  fetch_goes file None asks answers is none = asks (fetching file) refl
  fetch_goes file (Some a) asks answers is none =
      let (bytes, was) = fetched_answer a file asks answers is.0 in
      is.1.0 (
        bytes,
        was,
        inr (λ x kept. none (record {
          next = with_saved s x;
          reply = answered ((codes "fetched " ++ x.name) ∷ []);
          steps = fetches bytes x is was kept;
        })),
      )

  -- ---- questions

  show_goes : IsStuck Show
  show_goes is none =
      let (old, opened) = there s.opened is.0 in
      some_mark IsGood old.tree (λ mark told. none (record {
        next = s;
        reply = shown (lines_in (text_of def old.tree)) mark;
        steps = shows old mark is opened told;
      }))

  goto_goes : (place : Where) → IsStuck (Goto place)
  goto_goes place is none =
      let (old, opened) = there s.opened is.0 in
      let (node, at) = node_there place old opened is.1.0 in
      let (p, is_written, at_p) = written def old.tree old.kind (here place old opened) node (shaped old opened) at in
      let (K, of, name, named) = kind_here place old opened p.node at_p in
      none (record {
        next = with_cursor s (named_path place s.cursor);
        reply = answered (goto_line name (what_is def p.node) (span_of def p) ∷ []);
        steps = goes old p K name is opened is_written of named;
      })

  screen_goes : (top left rows cols : ℕ) → IsStuck (Screen top left rows cols)
  screen_goes top left rows cols is none =
      let (old, opened) = there s.opened is.0 in
      none (record {
        next = s;
        reply = answered (window_of (text_of def old.tree) (view_of top left rows cols));
        steps = screens old is opened;
      })

  own_goes : (place : Where) → IsStuck (Own place)
  own_goes place is none =
      let (old, opened) = there s.opened is.0 in
      let (node, at) = node_there place old opened is.1.0 in
      let (K, of, name, named) = kind_here place old opened node at in
      let (rows, h) = some_relations def sound node K
      (node_of_kind def old.tree old.kind (named_path place s.cursor) node K (formed.opened old opened) at of) in
      none (record {
        next = s;
        reply = answered (rows_lines def.signature (map (key_text def) (names_of def node)) rows);
        steps = owns old node rows is opened at h;
      })

  relation_goes : (place : Where) → IsStuck (Relation place)
  relation_goes place is none =
      let (old, opened) = there s.opened is.0 in
      let (node, at) = node_there place old opened is.1.0 in
      let (rows, h) = some_shown def sound old.tree old.kind (named_path place s.cursor) node (formed.opened old opened) at in
      none (record {
        next = s;
        reply = answered (rows_lines def.signature [] rows);
        steps = relates old rows is opened h;
      })

  free_goes : IsStuck Free
  free_goes is none =
      let (old, opened) = there s.opened is.0 in
      none (record { next = s; reply = answered (names_line (free_names def old.tree) ∷ []); steps = frees old is opened })

  menu_goes : (place : Where) (k : Option ℕ) → IsStuck (Menu place k)
  menu_goes place k is none =
      let (old, opened) = there s.opened is.0 in
      let (node, at) = node_there place old opened is.1.0 in
      let (K, whole) = node_here place old opened node at in
      some_wanted def k node K whole (λ full. is.1.1.0 (old, opened, node, at, full)) (λ p want.
      some_chosen (IsChoosable def old.tree (named_path place s.cursor) k IsGood) (operators_of def p) (λ ops menu.
      let (names, named) = named_operators def ops (λ o i. let (op, found, e) = op_there def p o (chosen_in menu o i) in (op, found)) in
      none (record {
        next = s;
        reply = answered (names_line names ∷ []);
        steps = offers old node p ops names is opened at want menu named;
      })))

  names_goes : (place : Where) (k : Option ℕ) (name : Name) → IsStuck (Names place k name)
  names_goes place k name is none =
      let (old, opened) = there s.opened is.0 in
      is.1.1.1.0 (λ o named.
      some_chosen (IsNameable def old.tree (named_path place s.cursor) k IsGood o) (in_byte_order (occurring old.tree))
      (λ names menu. none (record {
        next = s;
        reply = answered (names_line names ∷ []);
        steps = suggests old o names is opened named menu;
      })))

  -- ---- all commands

  goes_on : (command : Command) {before after : Outside} (asked : Option Asked) → HasText command
      → IsAskedBy def s command asked → IsAnswered before after asked answer → IsStuck command
  goes_on (New name) asked text asks answers = new_goes name
  goes_on (Goto place) asked text asks answers = goto_goes place
  goes_on (Refine place name args) asked text asks answers = refine_goes place name args
  goes_on (Insert place k name args) asked text asks answers = insert_goes place k name args
  goes_on (Cut place) asked text asks answers = cut_goes place
  goes_on (Remove place k) asked text asks answers = remove_goes place k
  goes_on (Close place) asked text asks answers = close_goes place
  goes_on (Reopen place) asked text asks answers = reopen_goes place
  goes_on (Over place typed) asked text asks answers = over_goes place typed text
  goes_on (Range start end typed) asked text asks answers = range_goes start end typed text
  goes_on Show asked text asks answers = show_goes
  goes_on (Screen top left rows cols) asked text asks answers = screen_goes top left rows cols
  goes_on (Relation place) asked text asks answers = relation_goes place
  goes_on (Own place) asked text asks answers = own_goes place
  goes_on (Menu place k) asked text asks answers = menu_goes place k
  goes_on (Names place k name) asked text asks answers = names_goes place k name
  goes_on Free asked text asks answers = free_goes
  goes_on Undo asked text asks answers = undo_goes
  goes_on Redo asked text asks answers = redo_goes
  goes_on (Save name place) asked text asks answers = save_goes name place
  goes_on (Paste place k name) asked text asks answers = paste_goes place k name
  goes_on (Keep name file) asked text asks answers = keep_goes name file asked asks answers
  goes_on (Fetch file) asked text asks answers = fetch_goes file asked asks answers

  -- a test refuses the command, or it goes on
  pub some_next : (command : Command) {before after : Outside} (asked : Option Asked) → HasText command
      → IsAskedBy def s command asked → IsAnswered before after asked answer → CannotLack (HasStep def IsGood s answer command)
  some_next command asked text asks answers none =
      refused_or (tests def IsGood s answer command)
      (λ r h. none (record { next = s; reply = refused r; steps = refuses h }))
      (λ is. goes_on command asked text asks answers is none)

pub has_some_step : (def : Definition) → IsSound def → AllByRecursion IsFixedWord (fixed_words def) → IsClass def
    → (IsGood : Fragment → Type 0) → HasSomeStep def IsGood
has_some_step def sound words class IsGood s command before after asked answer text formed asks answers =
    some_next def sound words class IsGood s answer formed command asked text asks answers
