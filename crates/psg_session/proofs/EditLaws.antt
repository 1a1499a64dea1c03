-- Changes of a tree leave a tree of its kind.
use Rattle.std.proofs.Common.{◌≡◌, Some, sym, subst}
use Rattle.psg_grammar.specs.declared.types.Kind.{Kind}
use Rattle.psg_grammar.specs.declared.types.Kind.TheVariants as kinds
use Rattle.psg_grammar.specs.declared.types.Definition.{Definition}
use Rattle.psg_grammar.specs.Fragments.{Fragment}
use Rattle.psg_grammar.specs.Paths.{inserted, removed}
use Rattle.psg_grammar.specs.WellFormed.{WellFormed}
use Rattle.psg_cache.proofs.FormedTrees.{changed_formed, inserted_formed, kind_once, removed_formed, replaced_formed, formed_is_kind}
use Rattle.psg_session.specs.declared.edits.Edit.{Edit}
use Rattle.psg_session.specs.declared.edits.Edit.TheVariants.{Put, Add, Take}
use Rattle.psg_session.specs.declared.editor.Editor.{Editor}
use Rattle.psg_session.specs.declared.editor.OpenedTree.{OpenedTree}
use Rattle.psg_session.specs.Edits.{edited, MayEdit}
use Rattle.psg_session.specs.Sessions.{AreVersions, IsEditor, IsVersion}

pub edited_formed : (def : Definition) (edit : Edit) (f : Fragment) (kind : Kind) → WellFormed def f kind
    → MayEdit def f edit → WellFormed def (edited edit f) kind
edited_formed def (Put at new) f kind h may =
    replaced_formed def f kind at may.node new may.kind h may.there may.of_kind may.formed
edited_formed def (Add at place new) f kind h may =
    changed_formed def (inserted place new) f kind at may.node h may.there
    (λ K formed. let is : K ≡ kinds.List may.number =
    kind_once def may.node K (kinds.List may.number) (formed_is_kind def may.node K formed) may.of_kind in
    subst (WellFormed def (inserted place new may.node)) (sym is)
    (inserted_formed def place new may.node may.number may.list (subst (WellFormed def may.node) is formed) may.found
    may.formed))
edited_formed def (Take at place) f kind h may =
    changed_formed def (removed place) f kind at may.node h may.there
    (λ K formed. removed_formed def place may.node K formed)

pub opened_version : (def : Definition) (e : Editor) (held : OpenedTree) → IsEditor def e → e.opened ≡ Some held
    → IsVersion def held.kind held.note
opened_version def e held editor is = (subst (λ o. AreVersions def o e.history.earlier) is editor.earlier).0
