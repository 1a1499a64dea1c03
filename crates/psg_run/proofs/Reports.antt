-- What is said of an opened fragment that is to be written to a file.
use Rattle.std.proofs.Common.{◌≡◌, ℕ, List, [], ◌∷◌, ◌++◌, Option, Some, None, Result, Ok, Err, option_map, sym, ◌∙◌, ap, subst}
use Rattle.std.specs.FinMap as map
use Rattle.std.specs.Prelude.{IfOk, String, codes, string_bytes}
use Rattle.std.specs.declared.alloc.Global.{Global}
use Rattle.psg_terms.specs.Names.{Name}
use Rattle.psg_grammar.specs.declared.types.Definition.{Definition}
use Rattle.psg_grammar.specs.declared.types.Kind.TheVariants as kinds
use Rattle.psg_grammar.specs.Fragments.{Fragment}
use Rattle.psg_grammar.specs.Paths.{Path}
use Rattle.psg_grammar.specs.WellFormed.{IsComplete}
use Rattle.psg_self.specs.Export.{IsFirstOpen, exported}
use Rattle.psg_session.specs.Exchanges.{IsAnswered, Outside, keeping, loses_keep, stores}
use Rattle.psg_session.specs.Marked.{path_text}
use Rattle.psg_session.specs.PlainState.{Opened, lost, stored}
use Rattle.psg_session.specs.Replies.{feed}
use Rattle.psg_world.specs.Files.{Held, writing}
use Rattle.psg_run.specs.Exporting.{IsCheckLine, IsExport, is_exported, is_lost, is_unfinished, no_lines, nothing_opened}

module _ (def : Definition) (file : Name) where
  -- the text is what is said of each opened fragment that is this whole definition
  abbrev pub IsSaidOf : Fragment → Outside → Outside → List ℕ → Type 0
  IsSaidOf tree before after text = (opened : Option Opened) (old : Opened) → opened ≡ Some old
      → old.kind ≡ kinds.List 0 → old.tree ≡ tree → IsExport def file opened before after text

  pub unfinished_said : (tree : Fragment) (path : Path) (before after : Outside) → IsFirstOpen def tree path → after ≡ before
      → {E : Type 0} (r : Result (String Global) E) → IfOk r (λ t. string_bytes t ≡ feed (codes "unfinished " ++ path_text path))
      → IfOk r (λ t. IsSaidOf tree before after (string_bytes t))
  unfinished_said tree path before after first same (Ok t) is = λ opened old opens lines whole.
      subst (IsExport def file opened before after) (sym is)
      (is_unfinished old path opens lines (subst (λ (f : Fragment). IsFirstOpen def f path) (sym whole) first) same)
  unfinished_said tree path before after first same (Err e) is = tt

  module _ (tree : Fragment) (complete : IsComplete tree) (bytes : List ℕ) (are : bytes ≡ exported tree)
      (before after : Outside) where
    pub stored_said : (line text : List ℕ) → IsCheckLine (exported tree) line
        → after.held ≡ option_map (λ (held : Held). map.insert held file bytes) before.held → after.entries ≡ before.entries
        → text ≡ feed (codes "exported") ++ feed line → IsSaidOf tree before after text
    stored_said line text check held entries is opened old opens lines whole =
        subst (IsExport def file opened before after) (sym is)
        (subst (λ (f : Fragment). IsComplete f → IsCheckLine (exported f) line
        → IsAnswered before after (Some (keeping file (exported f))) stored
        → IsExport def file opened before after (feed (codes "exported") ++ feed line)) whole
        (λ all good answered. is_exported old line opens lines all answered good) complete check
        (subst (λ b. IsAnswered before after (Some (keeping file b)) stored) are
        (stores held entries)))

    pub lost_said : (text : List ℕ) → after.held ≡ before.held → after.entries ≡ before.entries ++ writing file ∷ []
        → text ≡ feed (codes "refused 18") → IsSaidOf tree before after text
    lost_said text held entries is opened old opens lines whole =
        subst (IsExport def file opened before after) (sym is)
        (is_lost old opens lines (subst IsComplete (sym whole) complete)
        (subst (λ (f : Fragment). IsAnswered before after (Some (keeping file (exported f))) lost) (sym whole)
        (loses_keep held entries)))

  module _ (opened : Option Opened) (before after : Outside) (same : after ≡ before) {E : Type 0} (r : Result (String Global) E) where
    -- it is said of what is opened
    abbrev IsSaid : Type 0
    IsSaid = IfOk r (λ t. IsExport def file opened before after (string_bytes t))

    as_text : (text : List ℕ) → IsExport def file opened before after text → IfOk r (λ t. string_bytes t ≡ text) → IsSaid
    as_text text export is = by r is where
      by : (x : Result (String Global) E) → IfOk x (λ t. string_bytes t ≡ text)
          → IfOk x (λ t. IsExport def file opened before after (string_bytes t))
      by (Ok t) h = subst (IsExport def file opened before after) (sym h) export
      by (Err e) h = tt

    pub none_said : opened ≡ None → IfOk r (λ t. string_bytes t ≡ codes "none\n") → IsSaid
    none_said none is = as_text (codes "none\n") (nothing_opened none same) is

    pub no_lines_said : (old : Opened) → opened ≡ Some old → (old.kind ≡ kinds.List 0 → ⊥)
        → IfOk r (λ t. string_bytes t ≡ codes "refused 5\n") → IsSaid
    no_lines_said old opens other is = as_text (codes "refused 5\n") (no_lines old opens other same) is

  pub said_of_opened : (opened : Option Opened) (old : Opened) (tree : Fragment) (before after : Outside) → opened ≡ Some old
      → old.kind ≡ kinds.List 0 → old.tree ≡ tree → {E : Type 0} (r : Result (String Global) E)
      → IfOk r (λ t. IsSaidOf tree before after (string_bytes t))
      → IfOk r (λ t. IsExport def file opened before after (string_bytes t))
  said_of_opened opened old tree before after opens lines whole (Ok t) said = said opened old opens lines whole
  said_of_opened opened old tree before after opens lines whole (Err e) said = tt
