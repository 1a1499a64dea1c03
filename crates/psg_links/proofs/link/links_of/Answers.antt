use Rattle.std.proofs.Common.{◌≡◌, ◌<◌, ◌++◌, List, get_or, length, map, rules, subst, ap, ◌∙◌}
use Rattle.std.proofs.lemmas.Iterator.Adapters.{YieldsList-from_vec}
use Rattle.std.proofs.lemmas.Iterator.Consumers.{YieldsList-end, YieldsList-turn}
use Rattle.psg_uses.specs.declared.names.Named.{Named}
use Rattle.psg_links.specs.Around.{regions_around}
use Rattle.psg_links.specs.Linking.{link_by}
use Rattle.psg_links.specs.Links.{link_of, links_of}
use Rattle.psg_links.specs.Names.{names_of}
use Rattle.psg_links.proofs.AroundLaws.{none_on_way, on_way}
use Rattle.psg_links.proofs.LinkLaws.{around_is, link_end, link_is, link_turn}
use Rattle.psg_links.proofs.link.links_of.Goals as goal

pub loop-named-init : goal.loop-named-init
loop-named-init c =
    let def = c.args.definition.now in
    let f = c.args.tree.now in (
      none_on_way def f c.new-regions.result.items c.new-regions.ensures.items,
      ap (λ ls. ls ++ map (link_of def f) (names_of def f)) c.new-found.ensures.items,
    )

pub go_to-requires : goal.go_to-requires
go_to-requires c = record { way = c.loop-named.invariant.0 }

pub loop-named-preserved : goal.loop-named-preserved
loop-named-preserved c =
    let def = c.args.definition.now in
    let f = c.args.tree.now in
    let n = c.in-Some.named in
    let names = names_of def f in
    let road = YieldsList-from_vec {s = c.into_iter-named-iterator.result} c.in_ok-names.names.items (search rules) (search rules) in
    let turn = YieldsList-turn road c.loop-named.yielded c.loop-named.named-iterator c.loop-named.yielded_by c.next.result c.next.new.self n c.in-Some.is c.next.ensures.steps in
    let inside : length c.loop-named.yielded < length names =
    subst (λ (l : List Named). length c.loop-named.yielded < length l) c.in_ok-names.ensures turn.0 in
    let at : n ≡ get_or names (length c.loop-named.yielded) n =
    subst (λ (l : List Named). n ≡ get_or l (length c.loop-named.yielded) n) c.in_ok-names.ensures turn.1 in
    let around : c.go_to.new.regions.items ≡ regions_around def f n.name.path =
    around_is def f c.go_to.new.regions.items c.steps.result.now n.name.path c.in_ok-go_to.ensures c.steps.ensures in
    let is : c.in_ok-link.link ≡ link_by c.go_to.new.regions.items n =
    c.in_ok-link.ensures ∙ ap (λ rs. link_by rs n) c.as_slice-around.ensures.value in (
      on_way def f c.go_to.new.regions.items n.name.path around,
      link_turn def f names c.loop-named.yielded n c.in_ok-link.link c.loop-named.found.items c.push.new.self.items (links_of def f)
          inside at (link_is def f c.go_to.new.regions.items n c.in_ok-link.link around is) c.in_ok-push.ensures.items
          c.loop-named.invariant.1,
    )

pub returns : goal.returns
returns c =
    let def = c.args.definition.now in
    let f = c.args.tree.now in
    let end = YieldsList-end (YieldsList-from_vec {s = c.into_iter-named-iterator.result} c.in_ok-names.names.items (search rules) (search rules))
    c.loop-named.yielded c.loop-named.named-iterator c.loop-named.yielded_by c.next.result c.next.new.self c.in-None.is c.next.ensures.steps in
    link_end def f (names_of def f) c.loop-named.yielded c.loop-named.found.items (links_of def f)
    (end.1 ∙ ap length c.in_ok-names.ensures) c.loop-named.invariant.1
