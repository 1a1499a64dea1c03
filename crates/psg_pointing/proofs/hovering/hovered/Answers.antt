use Rattle.std.proofs.Common.{sym, subst}
use Rattle.psg_cache.specs.Annotated.{tree_in}
use Rattle.psg_class.specs.Texts.{tokens_of}
use Rattle.psg_ranges.proofs.OwnLaws.{ranges_are}
use Rattle.psg_pointing.specs.Hovering.{hovered, nowhere, own_byte}
use Rattle.psg_pointing.specs.Judging.{nodes_in}
use Rattle.psg_pointing.specs.Pointing.{IsPointed}
use Rattle.psg_pointing.proofs.Hovers.{pointed_in}
use Rattle.psg_pointing.proofs.Walks.{node_there}
use Rattle.psg_pointing.proofs.hovering.hovered.Goals as goal

pub hover_of-requires : goal.hover_of-requires
hover_of-requires g c =
    let language = c.args.language.now in
    let j = c.args.judged.now in
    let is = c.requires in
    let nodes = nodes_in language c.args.kind j is in
    let found = pointed_in language c.args.kind j is (own_byte c.args.text.now c.args.byte) _ _ _ _
    c.as_slice-tokens.ensures.value c.own_byte-own.ensures c.all-ranges.ensures
    c.in_ok-found.ensures in
    record {
      known = is.known;
      text = is.is_text;
      tokens = is.tokens;
      there = (
        nodes,
        sym is.ranges,
        node_there j.tokens.items (own_byte c.args.text.now c.args.byte) language (tokens_of j.tokens.items)
            (tree_in j.note) nodes
            (ranges_are language (tree_in j.note) c.args.kind 0 is.nesting (tokens_of j.tokens.items) is.yields)
            c.in-Some.path
            (subst (IsPointed j.tokens.items (own_byte c.args.text.now c.args.byte) nodes) c.in-Some.is found),
      );
    }

pub returns-in_ok-hover-in-Some : goal.returns-in_ok-hover-in-Some
returns-in_ok-hover-in-Some g c =
    let language = c.args.language.now in
    let j = c.args.judged.now in
    let is = c.requires in
    let nodes = nodes_in language c.args.kind j is in
    let found = pointed_in language c.args.kind j is (own_byte c.args.text.now c.args.byte) _ _ _ _
    c.as_slice-tokens.ensures.value c.own_byte-own.ensures c.all-ranges.ensures
    c.in_ok-found.ensures in
    hovered j is c.in-Some.path
    (subst (IsPointed j.tokens.items (own_byte c.args.text.now c.args.byte) nodes) c.in-Some.is found) _
    (c.in_ok-hover-in-Some.ensures nodes (sym is.ranges))

pub returns-in-None : goal.returns-in-None
returns-in-None g c =
    let language = c.args.language.now in
    let j = c.args.judged.now in
    let is = c.requires in
    let found = pointed_in language c.args.kind j is (own_byte c.args.text.now c.args.byte) _ _ _ _
    c.as_slice-tokens.ensures.value c.own_byte-own.ensures c.all-ranges.ensures
    c.in_ok-found.ensures in
    nowhere j is
    (subst (IsPointed j.tokens.items (own_byte c.args.text.now c.args.byte) (nodes_in language c.args.kind j is))
    c.in-None.is found)
