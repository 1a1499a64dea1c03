use Rattle.std.proofs.Common.{IfSome, ap, sym, subst, ◌∙◌}
use Rattle.std.specs.Prelude.{Option}
use Rattle.psg_grammar.specs.Fragments.{Fragment}
use Rattle.psg_cache.specs.Annotated.{Annotated}
use Rattle.psg_cache.specs.Notes.{IsNoteOf}
use Rattle.psg_renaming.specs.Occurring.{occurring}
use Rattle.psg_wanted.specs.Listed.{IsListAt}
use Rattle.psg_lint.proofs.EndLaws.{list_at_is, menu_told, no_menu, own_note}
use Rattle.psg_lint.proofs.MessageLaws.{judged_sound}
use Rattle.psg_lint.proofs.WrongLaws.{note_beside, note_own}
use Rattle.psg_lint.proofs.ends.menu_at.Goals as goal

pub noted_beside-requires-clause-sound : goal.noted_beside-requires-clause-sound
noted_beside-requires-clause-sound g c = judged_sound c.args.wrong.judged c.requires.wrong.judged

pub noted_beside-requires-clause-old : goal.noted_beside-requires-clause-old
noted_beside-requires-clause-old g c = note_own c.args.wrong c.requires.wrong

pub noted_beside-requires-clause-kinds : goal.noted_beside-requires-clause-kinds
noted_beside-requires-clause-kinds g c = note_beside c.args.wrong c.requires.wrong c.args.tree.now c.requires.kinds

pub element_menu-requires-clause-sound : goal.element_menu-requires-clause-sound
element_menu-requires-clause-sound g c = judged_sound c.args.wrong.judged c.requires.wrong.judged

pub element_menu-requires-clause-note : goal.element_menu-requires-clause-note
element_menu-requires-clause-note g c =
    let is = subst (λ (o : Option Annotated). IfSome o (IsNoteOf c.args.wrong.judged.definition.now c.args.tree.now)) c.in-Some.is c.in_ok-found.ensures.note in
    own_note c.args.wrong.judged.definition.now c.args.tree.now c.in-Some.note is

pub element_menu-requires-clause-list : goal.element_menu-requires-clause-list
element_menu-requires-clause-list g c =
    let def = c.args.wrong.judged.definition.now in
    let is = subst (λ (o : Option Annotated). IfSome o (IsNoteOf def c.args.tree.now)) c.in-Some.is c.in_ok-found.ensures.note in
    subst (λ (t : Fragment). IsListAt def t c.args.path.now c.in_ok-place.place c.args.list.phylum) (sym is.tree)
    (list_at_is def c.args.tree.now c.args.path.now c.args.list c.in_ok-place.place c.requires.there c.in_ok-place.ensures.step)

pub element_menu-requires-clause-used : goal.element_menu-requires-clause-used
element_menu-requires-clause-used g c =
    let is = subst (λ (o : Option Annotated). IfSome o (IsNoteOf c.args.wrong.judged.definition.now c.args.tree.now)) c.in-Some.is c.in_ok-found.ensures.note in
    c.as_slice-names.ensures.value ∙ c.in_ok-used.ensures ∙ ap occurring (sym is.tree)

pub returns-in-Some : goal.returns-in-Some
returns-in-Some g c =
    let def = c.args.wrong.judged.definition.now in
    let is = subst (λ (o : Option Annotated). IfSome o (IsNoteOf def c.args.tree.now)) c.in-Some.is c.in_ok-found.ensures.note in
    menu_told def c.args.tree.now c.in-Some.note is c.args.path.now c.args.list c.in_ok-place.place c.requires.there c.in_ok-place.ensures.step c.in_ok-ops-in-Some.ops.items c.in_ok-ops-in-Some.ensures

pub returns : goal.returns
returns g c =
    no_menu c.args.wrong.judged.definition.now c.args.tree.now c.args.path.now c.args.list.phylum c.new.result.items (c.in_ok-found.ensures.none c.in-None.is) c.new.ensures.items
