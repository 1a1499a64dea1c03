use Rattle.std.proofs.Common.{◌≡◌, ◌<◌, ◌++◌, ◌||◌, List, get_or, length, rules, subst, ap, ap₂, ◌∙◌}
use Rattle.std.proofs.lemmas.Iterator.Adapters.{YieldsList-from_vec}
use Rattle.std.proofs.lemmas.Iterator.Consumers.{YieldsList-end, YieldsList-turn}
use Rattle.psg_uses.specs.declared.names.Written.{Written}
use Rattle.psg_uses.specs.Free as free_names
use Rattle.psg_uses.specs.Linked.{is_linked_in, regions_around}
use Rattle.psg_uses.specs.Naming.{used_names}
use Rattle.psg_uses.proofs.FreeLaws.{all_free, first_free, free_end, free_turn, none_on_way, on_way, told_is}
use Rattle.psg_uses.proofs.free.free_uses.Goals as goal

pub loop-name-init : goal.loop-name-init
loop-name-init c =
    let def = c.args.linking.known.definition.now in
    let f = c.args.linking.tree.now in (
      none_on_way def f c.new-regions.result.items c.new-regions.ensures.items,
      ap (λ seen. seen ++ first_free def f seen (used_names def f)) c.new-free.ensures.items ∙ all_free def f,
    )

pub go_to-requires-clause-way : goal.go_to-requires-clause-way
go_to-requires-clause-way c = c.loop-name.invariant.0

pub loop-name-preserved : goal.loop-name-preserved
loop-name-preserved c =
    let def = c.args.linking.known.definition.now in
    let f = c.args.linking.tree.now in
    let w = c.in-Some.name in
    let used = used_names def f in
    let road = YieldsList-from_vec {s = c.into_iter-name-iterator.result} c.in_ok-used.used.items (search rules) (search rules) in
    let turn = YieldsList-turn road c.loop-name.yielded c.loop-name.name-iterator c.loop-name.yielded_by c.next.result c.next.new.self w c.in-Some.is c.next.ensures.steps in
    let inside : length c.loop-name.yielded < length used =
    subst (λ (l : List Written). length c.loop-name.yielded < length l) c.in_ok-used.ensures turn.0 in
    let at : w ≡ get_or used (length c.loop-name.yielded) w =
    subst (λ (l : List Written). w ≡ get_or l (length c.loop-name.yielded) w) c.in_ok-used.ensures turn.1 in
    let around : c.go_to.new.regions.items ≡ regions_around def f w.path =
    c.in_ok-go_to.ensures ∙ ap (regions_around def f) c.steps.ensures in
    let told : c.is_told-told.result
    ≡ (is_linked_in c.go_to.new.regions.items w || free_names.has_key c.loop-name.free.items w) =
    c.is_told-told.ensures
    ∙ ap₂ (λ rs ws. is_linked_in rs w || free_names.has_key ws w) c.as_slice-around.ensures.value c.as_slice-seen.ensures.value in (
      on_way def f c.go_to.new.regions.items w.path around,
      free_turn def f used c.loop-name.yielded w c.loop-name.free.items c.push_free.new.free.items (free_names.free_uses def f)
          c.is_told-told.result inside at
          (told_is def c.requires.known.sound f w c.go_to.new.regions.items c.loop-name.free.items c.is_told-told.result told around)
          c.in_ok-push_free.ensures c.loop-name.invariant.1,
    )

pub returns : goal.returns
returns c =
    let def = c.args.linking.known.definition.now in
    let f = c.args.linking.tree.now in
    let end = YieldsList-end (YieldsList-from_vec {s = c.into_iter-name-iterator.result} c.in_ok-used.used.items (search rules) (search rules))
    c.loop-name.yielded c.loop-name.name-iterator c.loop-name.yielded_by c.next.result c.next.new.self c.in-None.is c.next.ensures.steps in
    free_end def f (used_names def f) c.loop-name.yielded c.loop-name.free.items (free_names.free_uses def f)
    (end.1 ∙ ap length c.in_ok-used.ensures) c.loop-name.invariant.1
