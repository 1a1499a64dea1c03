-- A command keeps the trees of a state printable.
use Rattle.std.proofs.Common.{◌≡◌, ℕ, List, [], ◌∷◌, take, Some, true, false, subst}
use Rattle.psg_terms.proofs.Lists.{each_push, each_take}
use Rattle.std.specs.List.{AllByRecursion}
use Rattle.psg_grammar.specs.declared.types.Kind.{Kind}
use Rattle.psg_grammar.specs.declared.types.Definition.{Definition}
use Rattle.psg_grammar.specs.Fragments.{Fragment}
use Rattle.psg_grammar.specs.Insertion.{blank, fresh_operator}
use Rattle.psg_grammar.specs.Paths.{Path, ended, inserted, removed}
use Rattle.psg_grammar.specs.Printable.{IsPrintable}
use Rattle.psg_grammar.specs.WellFormed.{fixed_words, WellFormed}
use Rattle.psg_class.specs.Texts.{tokens_of}
use Rattle.psg_class.proofs.FormedLaws.{yields_are_trees}
use Rattle.psg_library.specs.declared.fragment.SavedFragment.{SavedFragment as Saved}
use Rattle.psg_library.specs.Heads.{text_in}
use Rattle.psg_library.specs.Keeping.{IsKept}
use Rattle.psg_textedit.specs.Regions.{Typing}
use Rattle.psg_script.specs.declared.command.Command.{Command}
use Rattle.psg_session.specs.Formed.{HasText, IsPrintableState}
use Rattle.psg_session.specs.PlainState.{State, Opened, most_versions, named_path}
use Rattle.psg_session.specs.PlainStep.{Makes, by_refine, by_insert, by_cut, by_remove, by_close, by_reopen, by_paste, by_paste_in, by_over, by_range}
use Rattle.psg_session.specs.Ranged.{ReadsWith, replacing, text_with}
use Rattle.psg_session.specs.Shelf.{others, saved_with}
use Rattle.psg_session.proofs.AllOf.{all_others}
use Rattle.psg_session.proofs.FetchedTrees.{rest_utf8}
use Rattle.psg_session.proofs.FormedMakes.{found_has}
use Rattle.psg_session.proofs.PrintableTrees.{blank_printable, changed_printable, ended_printable, fresh_printable, inserted_printable, removed_printable, replaced_printable}
use Rattle.psg_session.proofs.PrintableYields.{reads_printable}
use Rattle.psg_textedit.proofs.TokenValues.{text_values}

abbrev HasPrintable : Saved → Type 0
HasPrintable x = IsPrintable x.tree

module _ (s : State) (h : IsPrintableState s) where
  -- with another opened tree, and these versions
  turned : (it : Opened) (cursor : Path) (earlier later : List Fragment) → IsPrintable it.tree
      → AllByRecursion IsPrintable earlier → AllByRecursion IsPrintable later
      → IsPrintableState (record { opened = Some it; cursor = cursor; earlier = earlier; later = later; saved = s.saved })
  turned it cursor earlier later tree are also = record {
    opened = λ old e. (let same : it ≡ old = cc in subst (λ (o : Opened). IsPrintable o.tree) same tree);
    earlier = are;
    later = also;
    saved = h.saved;
  }

  pub undone_printable : (old : Opened) (tree : Fragment) (rest : List Fragment) → s.opened ≡ Some old → s.earlier ≡ tree ∷ rest
      → IsPrintableState (record {
        opened = Some (record { kind = old.kind; tree = tree });
        cursor = [];
        earlier = rest;
        later = old.tree ∷ s.later;
        saved = s.saved;
      })
  undone_printable old tree rest opened is =
      let all = subst (AllByRecursion IsPrintable) is h.earlier in
      turned (record { kind = old.kind; tree = tree }) [] rest (old.tree ∷ s.later) all.0 all.1 (h.opened old opened, h.later)

  pub redone_printable : (old : Opened) (tree : Fragment) (rest : List Fragment) → s.opened ≡ Some old → s.later ≡ tree ∷ rest
      → IsPrintableState (record {
        opened = Some (record { kind = old.kind; tree = tree });
        cursor = [];
        earlier = old.tree ∷ s.earlier;
        later = rest;
        saved = s.saved;
      })
  redone_printable old tree rest opened is =
      let all = subst (AllByRecursion IsPrintable) is h.later in
      turned (record { kind = old.kind; tree = tree }) [] (old.tree ∷ s.earlier) rest all.0 (h.opened old opened, h.earlier) all.1

  -- with one more saved fragment
  pub saved_printable : (x : Saved) → IsPrintable x.tree
      → IsPrintableState (record {
        opened = s.opened;
        cursor = s.cursor;
        earlier = s.earlier;
        later = s.later;
        saved = saved_with s.saved x;
      })
  saved_printable x is = record {
    opened = h.opened;
    earlier = h.earlier;
    later = h.later;
    saved = each_push HasPrintable (others x.name s.saved) x (all_others HasPrintable x.name s.saved h.saved) is;
  }

module _ (def : Definition) where
  -- what the whole new text is read as is a tree of the opened kind
  pub read_formed : {e : Typing} (old : Opened) (tree : Fragment) (nesting : ℕ) → ReadsWith def e old tree nesting
      → WellFormed def tree old.kind
  read_formed {e = e} old tree nesting reads =
      yields_are_trees def old.kind 0 nesting tree (tokens_of reads.reads.tokens)
      (text_values (fixed_words def) (text_with def e old) 0 reads.reads.tokens reads.utf8 reads.reads.are)
      reads.reads.yields

  -- a fragment that bytes keep
  pub fetched_printable : (bytes : List ℕ) (x : Saved) → IsKept def bytes x → IsPrintable x.tree
  fetched_printable bytes x kept =
      reads_printable def (text_in bytes) x.kind 0 kept.reads.nesting x.tree (rest_utf8 bytes kept.begins.head.utf8)
      kept.reads.reads

  module _ (s : State) (h : IsPrintableState s) where
    pub new_printable : (kind : Kind)
        → IsPrintableState (record {
          opened = Some (record { kind = kind; tree = blank def kind });
          cursor = [];
          earlier = [];
          later = [];
          saved = s.saved;
        })
    new_printable kind =
        turned s h (record { kind = kind; tree = blank def kind }) [] [] [] (blank_printable def kind) tt tt

    made_printable : {command : Command} {tree : Fragment} {path : Path} → HasText command
        → Makes def s command tree path → IsPrintable tree
    made_printable text (by_refine {place = place} {args = args} old o leaves opened named gives) =
        replaced_printable (named_path place s.cursor) (fresh_operator def o leaves) old.tree
        (fresh_printable def o args leaves gives) (h.opened old opened)
    made_printable text (by_insert {place = place} {k = k} {args = args} old o leaves opened named gives) =
        changed_printable (inserted k (fresh_operator def o leaves))
        (λ x is. inserted_printable k (fresh_operator def o leaves) x (fresh_printable def o args leaves gives) is)
        (named_path place s.cursor) old.tree (h.opened old opened)
    made_printable text (by_cut {place = place} old node kind opened at of) =
        replaced_printable (named_path place s.cursor) (blank def kind) old.tree (blank_printable def kind)
        (h.opened old opened)
    made_printable text (by_remove {place = place} {k = k} old opened) =
        changed_printable (removed k) (removed_printable k) (named_path place s.cursor) old.tree (h.opened old opened)
    made_printable text (by_close {place = place} old opened) =
        changed_printable (ended false) (ended_printable false) (named_path place s.cursor) old.tree (h.opened old opened)
    made_printable text (by_reopen {place = place} old opened) =
        changed_printable (ended true) (ended_printable true) (named_path place s.cursor) old.tree (h.opened old opened)
    made_printable text (by_paste {place = place} {name = name} old x opened is_saved) =
        replaced_printable (named_path place s.cursor) x.tree old.tree
        (found_has name HasPrintable s.saved x h.saved is_saved) (h.opened old opened)
    made_printable text (by_paste_in {place = place} {k = k} {name = name} old x opened is_saved) =
        changed_printable (inserted k x.tree)
        (λ y is. inserted_printable k x.tree y (found_has name HasPrintable s.saved x h.saved is_saved) is)
        (named_path place s.cursor) old.tree (h.opened old opened)
    made_printable text (by_over {place = place} {text = typed} old node new nesting opened at reads) =
        replaced_printable (named_path place s.cursor) new old.tree
        (reads_printable def typed reads.kind 0 nesting new text reads.reads) (h.opened old opened)
    made_printable text (by_range {start = start} {end = end} {text = typed} old tree nesting opened reads) =
        reads_printable def (text_with def (replacing start end typed) old) old.kind 0 nesting tree reads.utf8 reads.reads

    pub changed_state : {command : Command} → HasText command → (old : Opened) (tree : Fragment) (path : Path)
        → s.opened ≡ Some old → Makes def s command tree path
        → IsPrintableState (record {
          opened = Some (record { kind = old.kind; tree = tree });
          cursor = path;
          earlier = take most_versions (old.tree ∷ s.earlier);
          later = [];
          saved = s.saved;
        })
    changed_state text old tree path opened makes =
        turned s h (record { kind = old.kind; tree = tree }) path (take most_versions (old.tree ∷ s.earlier)) []
        (made_printable text makes)
        (each_take IsPrintable most_versions (old.tree ∷ s.earlier) (h.opened old opened, h.earlier)) tt
