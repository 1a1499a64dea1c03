use Rattle.std.proofs.Common.{◌++◌, Some, ap, ap₂, subst, ◌∙◌}
use Rattle.std.specs.Prelude.{codes}
use Rattle.psg_grammar.specs.Fragments.{Fragment}
use Rattle.psg_cache.specs.Annotated.{tree_in}
use Rattle.psg_menu.specs.Menus.{IsMenu}
use Rattle.psg_recover.specs.Findings.{note_at}
use Rattle.psg_recover.specs.TextPlaces.{last_byte}
use Rattle.psg_wanted.specs.Fronts.{IsListed}
use Rattle.psg_wanted.specs.Texts.{menu_or_none}
use Rattle.psg_lint.proofs.ReadLaws.{byte_is}
use Rattle.psg_lint.proofs.WrongLaws.{is_sound}
use Rattle.psg_lint.proofs.NotedLaws.{list_at, own_note, used_names}
use Rattle.psg_lint.proofs.open_places.told_list.Goals as goal

pub element_menu-requires-clause-sound : goal.element_menu-requires-clause-sound
element_menu-requires-clause-sound g c = is_sound c.args.own.judged c.requires.program.judged

pub element_menu-requires-clause-tables : goal.element_menu-requires-clause-tables
element_menu-requires-clause-tables g c = c.requires.program.judged.tables

pub element_menu-requires-clause-note : goal.element_menu-requires-clause-note
element_menu-requires-clause-note g c = own_note c.args.own c.requires.program

pub element_menu-requires-clause-list : goal.element_menu-requires-clause-list
element_menu-requires-clause-list g c =
    list_at c.args.own c.requires.program c.args.path.now c.args.list c.in_ok-place.place c.requires.there c.in_ok-place.ensures.step

pub element_menu-requires-clause-used : goal.element_menu-requires-clause-used
element_menu-requires-clause-used g c = used_names c.args.own c.requires.program

pub returns : goal.returns
returns g c = λ r is.
    let o = c.args.own in
    let def = o.judged.definition.now in
    let at_note = subst (λ n. IsMenu def (tree_in o.note.now) c.args.path.now (Some n) (IsListed def) c.args.list.phylum c.in_ok-ops.ops.items)
    c.in_ok-place.ensures.step c.in_ok-ops.ensures in (
      c.in_ok-ops.ops.items,
      subst (λ (f : Fragment). IsMenu def f c.args.path.now (Some c.args.list.elements) (IsListed def) c.args.list.phylum c.in_ok-ops.ops.items)
          c.requires.program.note.tree at_note,
      c.in_ok-told.ensures
          ∙ ap₂ note_at (byte_is (λ d q. last_byte d q c.args.path.now) o.judged c.requires.program.judged r is c.in_ok-byte.byte c.in_ok-byte.ensures)
          (c.in_ok-message.ensures.ok ∙ ap (λ m. codes "the list is open: " ++ m)
          (c.as_str.ensures.value ∙ c.in_ok-names.ensures ∙ ap (menu_or_none def) c.as_slice.ensures.value)),
    )
