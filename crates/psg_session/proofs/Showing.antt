-- Which step the plain editor takes at a command that reads the printed text.
use Rattle.std.proofs.Common.{◌≡◌, inl, ℕ, List, [], ◌∷◌, map, Some, None, refl, sym, ◌∙◌, ap, subst}
use Rattle.std.specs.Prelude.{String, Vec, string_bytes}
use Rattle.std.specs.declared.alloc.Global.{Global}
use Rattle.psg_terms.specs.Names.{Name}
use Rattle.psg_grammar.specs.declared.types.Kind.{Kind}
use Rattle.psg_grammar.specs.declared.types.Definition.{Definition}
use Rattle.psg_grammar.specs.Kinds.{kind_name_of, IsOfKind}
use Rattle.psg_grammar.specs.Marks.{Mark, IsMark}
use Rattle.psg_grammar.specs.Paths.{Path, node_at}
use Rattle.psg_cache.specs.Annotated.{tree_in}
use Rattle.psg_cache.specs.Blames.{culprits_in}
use Rattle.psg_cache.specs.Notes.{mark_by}
use Rattle.psg_unparse.specs.Layout.{text_of}
use Rattle.psg_unparse.specs.Spots.{Placed}
use Rattle.psg_script.specs.declared.command.Where.{Where}
use Rattle.psg_script.specs.declared.command.Command.TheVariants.{Goto, Show, Screen}
use Rattle.psg_screen.specs.Window.{window_of}
use Rattle.psg_screen.specs.declared.View.{View}
use Rattle.psg_unparse.specs.Listing.{IsListing}
use Rattle.psg_unparse.specs.Spans.{printed_of, span_of}
use Rattle.psg_unparse.specs.declared.spans.Printed.{Printed}
use Rattle.psg_unparse.specs.declared.spans.Span.{Span}
use Rattle.psg_session.specs.declared.editor.Editor.{Editor}
use Rattle.psg_session.specs.declared.editor.OpenedTree.{OpenedTree}
use Rattle.psg_session.specs.declared.editor.Outcome.TheVariants.{Goes}
use Rattle.psg_session.specs.declared.finding.Target.{Target}
use Rattle.psg_session.specs.declared.refusal.Refusal.{Refusal}
use Rattle.psg_session.specs.declared.refusal.Refusal.TheVariants.{NothingOpened}
use Rattle.psg_session.specs.Good.{IsGoodIn}
use Rattle.psg_session.specs.Outcomes.{IsTarget, HasNoTarget, IsOutcome}
use Rattle.psg_session.specs.PlainState.{named_path, not_asked, with_cursor}
use Rattle.psg_session.specs.PlainStep.{Steps, goes, refuses, screens, shows}
use Rattle.psg_session.specs.Printing.{goto_line, lines_in, view_of, what_is, HasNoSpan, IsFirstSpan, IsWrittenAt}
use Rattle.psg_session.specs.Replies.{answered, refused, shown}
use Rattle.psg_session.specs.Sessions.{IsEditor, plain, state_of}
use Rattle.psg_session.proofs.Asking.{Answers}
use Rattle.psg_session.proofs.EditLaws.{opened_version}
use Rattle.psg_unparse.proofs.Listed.{listing}
use Rattle.psg_session.proofs.PrintLaws.{written_first, written_some}
use Rattle.psg_session.proofs.StepLaws.{is_opened, is_opened_by, is_there, not_opened, nowhere, opened_is, opened_plain, some_once}
use Rattle.psg_session.proofs.Verdicts.{mark_is}

module _ (def : Definition) (e : Editor) where
  module _ (none : e.opened ≡ None) where
    pub show_unopened : Answers def e Show (refused NothingOpened)
    show_unopened = refuses (inl (not_opened def e none, refl))

    pub screen_unopened : (top left rows cols : ℕ) → Answers def e (Screen top left rows cols) (refused NothingOpened)
    screen_unopened top left rows cols = refuses (inl (not_opened def e none, refl))

  module _ (held : OpenedTree) (opened : e.opened ≡ Some held) where
    pub show_opened : IsEditor def e → (text : List ℕ) (mark : Mark) → text ≡ text_of def (tree_in held.note)
        → mark ≡ mark_by (culprits_in held.note) → Answers def e Show (shown (lines_in text) mark)
    show_opened editor text mark written told =
        let marks : IsMark def (tree_in held.note) mark = subst (IsMark def (tree_in held.note)) (sym told)
        (mark_is def (tree_in held.note) held.note (opened_version def e held editor opened).noted) in
        let step : Answers def e Show (shown (lines_in (text_of def (tree_in held.note))) mark) =
        shows (plain held) mark (is_opened_by def e held opened, tt) (opened_plain def e held opened) marks in
        subst (λ t. Answers def e Show (shown (lines_in t) mark)) (sym written) step

    pub screen_opened : (text : List ℕ) (view : View) → text ≡ text_of def (tree_in held.note)
        → (lines : List (List ℕ)) → lines ≡ window_of text view
        → Answers def e (Screen view.top view.left view.rows view.cols) (answered lines)
    screen_opened text view written lines seen =
        let step : Answers def e (Screen view.top view.left view.rows view.cols)
        (answered (window_of (text_of def (tree_in held.note)) (view_of view.top view.left view.rows view.cols))) =
        screens (plain held) (is_opened_by def e held opened, tt) (opened_plain def e held opened) in
        subst (λ l. Answers def e (Screen view.top view.left view.rows view.cols) (answered l)) (sym seen)
        (subst (λ t. Answers def e (Screen view.top view.left view.rows view.cols) (answered (window_of t view)))
        (sym written) step)

  module _ (place : Where) where
    pub go_not_found : (r : Refusal) → HasNoTarget e place r → Answers def e (Goto place) (refused r)
    go_not_found r missing = refuses (nowhere def e place r missing)

    module _ (editor : IsEditor def e) (f : Target) (found : IsTarget e place f) where
      listed : IsListing def (tree_in f.held.now.note)
      listed = listing def (tree_in f.held.now.note) f.held.now.kind
          (opened_version def e f.held.now editor found.held).formed

      -- the node that was found has a span
      pub go_some : (printed : Printed) → printed ≡ printed_of def (tree_in f.held.now.note)
          → (spans : List Span) (path : Path) → spans ≡ printed.spans → path ≡ f.path.now → HasNoSpan spans path → ⊥
      go_some printed is spans path are same none =
          let (p, (k, at, here)) = listed.all f.path.now f.node.now found.node in
          written_some def (tree_in f.held.now.note) path spans (are ∙ ap (λ (x : Printed). x.spans) is) k p at
          (here ∙ sym same) none

      -- the node that is listed for the path is the one that was found
      node_listed : (p : Placed) → IsWrittenAt def (tree_in f.held.now.note) f.path.now p → p.node ≡ f.node.now
      node_listed p (k, at, here, first) =
          some_once p.node f.node.now (node_at (tree_in f.held.now.note) f.path.now)
          (listed.nodes f.path.now p (k, at, here)) found.node

      pub go_found : (printed : Printed) → printed ≡ printed_of def (tree_in f.held.now.note)
          → (spans : List Span) (path : Path) → spans ≡ printed.spans → path ≡ f.path.now
          → (s : Span) (k : ℕ) → IsFirstSpan spans path s k → (kind : Kind) (name : Name)
          → IsOfKind def f.node.now kind → kind_name_of def kind ≡ Some name
          → (text : String Global) → string_bytes text ≡ goto_line name (what_is def f.node.now) s
          → (lines : Vec (String Global) Global) → lines.items ≡ text ∷ []
          → (cursor : Path) → cursor ≡ f.path.now → IsOutcome def e not_asked (Goto place) (Goes cursor lines)
      go_found printed is spans path are same_path s k first kind name of_kind named text told lines only cursor moved =
          let tree = tree_in f.held.now.note in
          let (p, written, same) = written_first def tree f.path.now spans (are ∙ ap (λ (x : Printed). x.spans) is) s k
          (subst (λ q. IsFirstSpan spans q s k) same_path first) in
          let node : p.node ≡ f.node.now = node_listed p written in
          let there : IsWrittenAt def tree (named_path place e.cursor) p =
          subst (λ q. IsWrittenAt def tree q p) found.path written in
          let step : Steps def (IsGoodIn def) (state_of e) not_asked (Goto place)
          (with_cursor (state_of e) (named_path place e.cursor))
          (answered (goto_line name (what_is def p.node) (span_of def p) ∷ [])) =
          goes (plain f.held.now) p kind name (is_opened def e place f found, (is_there def e place f found, tt))
          (opened_is def e place f found) there (subst (λ t. IsOfKind def t kind) (sym node) of_kind) named in
          let line : goto_line name (what_is def p.node) (span_of def p) ∷ [] ≡ map string_bytes lines.items =
          ap (λ t. goto_line name (what_is def t) (span_of def p) ∷ []) node
          ∙ ap (λ x. goto_line name (what_is def f.node.now) x ∷ []) (sym same)
          ∙ ap (λ (l : List ℕ). l ∷ []) (sym told) ∙ ap (map string_bytes) (sym only) in
          let there_now : named_path place e.cursor ≡ cursor = sym found.path ∙ sym moved in
          record {
            steps = subst (λ l. Steps def (IsGoodIn def) (state_of e) not_asked (Goto place)
                (with_cursor (state_of e) cursor) (answered l)) line
                (subst (λ q. Steps def (IsGoodIn def) (state_of e) not_asked (Goto place) (with_cursor (state_of e) q)
                (answered (goto_line name (what_is def p.node) (span_of def p) ∷ []))) there_now step);
            fit = tt;
          }
