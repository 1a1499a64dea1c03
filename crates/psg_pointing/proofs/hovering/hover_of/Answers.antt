use Rattle.std.proofs.Common.{◌≤◌, ◌+◌, ◌∷◌, ap, length, sym, subst, ◌∙◌}
use Rattle.std.specs.Prelude.{option_map, string_bytes}
use Rattle.psg_cache.specs.Annotated.{tree_in}
use Rattle.psg_grammar.specs.Paths.{node_at}
use Rattle.psg_program.specs.Decoding.{unmarked}
use Rattle.psg_asking.specs.Told.{read_of}
use Rattle.psg_pointing.specs.Hovering.{head_of, lines_of, mark_size}
use Rattle.psg_pointing.specs.Pointing.{begin_of, finish_of}
use Rattle.psg_pointing.proofs.Tellings.{begin_within, finish_within, told_as}
use Rattle.psg_pointing.proofs.hovering.hover_of.Goals as goal

pub node_there-node-requires : goal.node_there-node-requires
node_there-node-requires g c =
    let (nodes, e, there) = c.requires.there in
    (there.node, ap (λ f. node_at f c.args.path.now) c.tree-tree.ensures ∙ there.node_is)

pub range_there-range-requires : goal.range_there-range-requires
range_there-range-requires g c =
    let (nodes, e, there) = c.requires.there in
    (nodes, e, there.range, there.range_is)

pub whole_byte-start-requires : goal.whole_byte-start-requires
whole_byte-start-requires g c =
    let own = unmarked c.args.text.now in
    let range = c.range_there-range.result.now in
    subst (λ n. n ≤ length own)
    (sym (c.begin_of-first.ensures ∙ ap (λ l. begin_of l range) c.as_slice-tokens.ensures.value))
    (begin_within c.args.language.now own c.requires.text c.args.judged.now.tokens.items c.requires.tokens range)

pub whole_byte-end-requires : goal.whole_byte-end-requires
whole_byte-end-requires g c =
    let own = unmarked c.args.text.now in
    let range = c.range_there-range.result.now in
    subst (λ n. n ≤ length own)
    (sym (c.finish_of-last.ensures ∙ ap (λ l. finish_of l range) c.as_slice-tokens.ensures.value))
    (finish_within c.args.language.now own c.requires.text c.args.judged.now.tokens.items c.requires.tokens range)

pub known-asked-requires : goal.known-asked-requires
known-asked-requires g c = c.requires.known

pub relation_read-requires : goal.relation_read-requires
relation_read-requires g c = c.known-asked.ensures.known

pub returns : goal.returns
returns g c = λ nodes e.
    let node = c.node_there-node.result.now in
    let range = c.range_there-range.result.now in
    let mark = mark_size c.args.text.now in
    record {
      node = node;
      node_is = ap (λ f. node_at f c.args.path.now) (sym c.tree-tree.ensures) ∙ c.node_there-node.ensures;
      range = range;
      range_is = c.range_there-range.ensures nodes e;
      starts = c.whole_byte-start.ensures
          ∙ ap (λ n. mark + n) (c.begin_of-first.ensures ∙ ap (λ l. begin_of l range) c.as_slice-tokens.ensures.value);
      ends = c.whole_byte-end.ensures
          ∙ ap (λ n. mark + n) (c.finish_of-last.ensures ∙ ap (λ l. finish_of l range) c.as_slice-tokens.ensures.value);
      told = option_map read_of c.in_ok-read.read;
      is_told = told_as _ c.args.language.now _ c.args.kind _ (tree_in c.args.judged.now.note) c.args.path.now
          (option_map read_of c.in_ok-read.read) c.known-asked.ensures.language c.known-asked.ensures.kind
          (ap tree_in c.known-asked.ensures.note) c.in_ok-read.ensures;
      lines = c.in_ok-lines.ensures
          ∙ ap (λ h. h ∷ lines_of (option_map read_of c.in_ok-read.read))
          (c.in_ok-head.ensures ∙ ap (λ d. head_of d node) c.definition-definition.ensures.same);
    }
