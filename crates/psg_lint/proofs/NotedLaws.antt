-- One open place: the placeholder or the list, and its note.
use Rattle.std.proofs.Common.{◌≡◌, ℕ, ◌<◌, ◌++◌, ◌∷◌, [], List, Some, None, length, slice_get, true, ap, sym, subst, ◌∙◌, arith}
use Rattle.std.specs.Prelude.{codes}
use Rattle.psg_terms.specs.Terms.{Term}
use Rattle.psg_grammar.specs.declared.types.Definition.{Definition}
use Rattle.psg_grammar.specs.declared.types.Phylum.{Phylum}
use Rattle.psg_grammar.specs.Fragments.{Fragment, children_of, hole}
use Rattle.psg_grammar.specs.Paths.{IsList, Path, node_at}
use Rattle.psg_cache.specs.Annotated.{tree_in}
use Rattle.psg_cache.specs.Notes.{IsNoteOf}
use Rattle.psg_cache.proofs.FormedTrees.{node_formed}
use Rattle.psg_menu.specs.Menus.{IsMenu}
use Rattle.psg_renaming.specs.Occurring.{occurring}
use Rattle.psg_recover.specs.declared.finding.Finding.{Finding}
use Rattle.psg_recover.specs.Findings.{note_at}
use Rattle.psg_recover.specs.TextPlaces.{Read, last_byte, node_byte}
use Rattle.psg_wanted.specs.Fronts.{AreValues, IsListed}
use Rattle.psg_wanted.specs.Listed.{IsListAt}
use Rattle.psg_wanted.specs.Texts.{menu_or_none}
use Rattle.psg_lint.specs.declared.ends.Listed.{Listed}
use Rattle.psg_lint.specs.declared.open_places.Open.{Open}
use Rattle.psg_lint.specs.Blamed.{element_of, element_phylum}
use Rattle.psg_lint.specs.Lists.{IsListOf, IsListThere}
use Rattle.psg_lint.specs.OpenPlaces.{IsNoted, hole_message, open_hole, open_list}
use Rattle.psg_lint.specs.Opens.{IsOpenOne}

abbrev def_in : Open → Definition
def_in o = o.judged.definition.now

abbrev tree_of_open : Open → Fragment
tree_of_open o = o.judged.tree.now

pub own_note : (o : Open) → IsOpenOne o → IsNoteOf (def_in o) (tree_in o.note.now) o.note.now
own_note o h = subst (λ (f : Fragment). IsNoteOf (def_in o) f o.note.now) (sym h.note.tree) h.note

pub used_names : (o : Open) → IsOpenOne o → o.used.now ≡ occurring (tree_in o.note.now)
used_names o h = h.used ∙ ap occurring (sym h.note.tree)

pub there_in : (o : Open) → IsOpenOne o → (path : Path) (node : Fragment) → node_at (tree_of_open o) path ≡ Some node
    → node_at (tree_in o.note.now) path ≡ Some node
there_in o h path node e = ap (λ f. node_at f path) h.note.tree ∙ e

pub hole_in : (o : Open) → IsOpenOne o → (path : Path) (p : ℕ) → node_at (tree_of_open o) path ≡ Some (hole p)
    → p < length (def_in o).phyla
hole_in o h path p e =
    let (kind, own) = h.judged.formed in
    let (K, at) = node_formed (def_in o) (tree_of_open o) kind path (hole p) own e in at.0.2

module _ (o : Open) (h : IsOpenOne o) (r : Read) (path : Path) where
  pub hole_noted : (p : ℕ) (phylum : Phylum) (values : List Term) (ops : List ℕ) (told : Finding)
      → slice_get (def_in o).phyla p ≡ Some phylum → AreValues (def_in o) (tree_in o.note.now) path values
      → IsMenu (def_in o) (tree_in o.note.now) path None (IsListed (def_in o)) p ops
      → told ≡ note_at (node_byte (def_in o) r path) (hole_message (def_in o) phylum values ops)
      → IsNoted (def_in o) (tree_of_open o) r path (hole p) (told ∷ [])
  hole_noted p phylum values ops told found are menu e =
      let def = def_in o in
      let own = subst (λ (f : Fragment). AreValues def f path values) h.note.tree are in
      let listed = subst (λ (f : Fragment). IsMenu def f path None (IsListed def) p ops) h.note.tree menu in
      subst (λ (x : Finding). IsNoted def (tree_of_open o) r path (hole p) (x ∷ [])) (sym e)
      (open_hole path p phylum values ops found own listed)

  pub list_noted : (tree : Fragment) (list : Listed) (ops : List ℕ) (told : Finding) → IsListOf (def_in o) tree list
      → list.unfinished ≡ true
      → IsMenu (def_in o) (tree_of_open o) path (Some list.elements) (IsListed (def_in o)) list.phylum ops
      → told ≡ note_at (last_byte (def_in o) r path) (codes "the list is open: " ++ menu_or_none (def_in o) ops)
      → IsNoted (def_in o) (tree_of_open o) r path tree (told ∷ [])
  list_noted tree list ops told is unfinished menu e =
      let def = def_in o in
      let phylum : list.phylum ≡ element_phylum def (Some tree) =
      is.phylum ∙ sym (ap element_of is.found) in
      let own : IsMenu def (tree_of_open o) path (Some (length (children_of tree))) (IsListed def) (element_phylum def (Some tree)) ops =
      subst (λ n. IsMenu def (tree_of_open o) path (Some n) (IsListed def) (element_phylum def (Some tree)) ops) is.elements
      (subst (λ p. IsMenu def (tree_of_open o) path (Some list.elements) (IsListed def) p ops) phylum menu) in
      subst (λ (x : Finding). IsNoted def (tree_of_open o) r path tree (x ∷ [])) (sym e)
      (open_list path tree ops (sym is.unfinished ∙ unfinished) own)

pub list_at : (o : Open) → IsOpenOne o → (path : Path) (list : Listed) (place : ℕ) → IsListThere (def_in o) (tree_of_open o) path list
    → place ≡ list.elements → IsListAt (def_in o) (tree_in o.note.now) path place list.phylum
list_at o h path list place is e = record {
  node = is.node;
  there = there_in o h path is.node is.there;
  is_list = is.is.is_list;
  within = (let same : place ≡ length (children_of is.node) = e ∙ is.is.elements in omega (arith, same));
  kind = is.is.kind;
  found = is.is.found;
  element = is.is.phylum;
}

pub no_hole : (f : Fragment) → IsList f → (p : ℕ) → f ≡ hole p → ⊥
no_hole f h p e = subst IsList e h
