use Rattle.std.proofs.Common.{◌∙◌, refl}
use Rattle.psg_textedit.proofs.NodeReads.{few_around, has_span, in_order, no_node, lines_long, node_answer, node_counted, node_steps, ready_encloses, ready_end, ready_inside, ready_start}
use Rattle.psg_textedit.proofs.nodes.read_node.Goals as goal

pub span_at-span-requires-clause-order : goal.span_at-span-requires-clause-order
span_at-span-requires-clause-order g c =
    in_order c.args.job.now c.requires.job c.args.path.now c.requires.here c.as_slice-spans.result.now c.as_slice-spans.ensures

pub span_at-span-requires-clause-there : goal.span_at-span-requires-clause-there
span_at-span-requires-clause-there g c =
    has_span c.args.job.now c.requires.job c.args.path.now c.requires.here c.as_slice-spans.result.now c.as_slice-spans.ensures

pub returns-in_default-clause-answer : goal.returns-in_default-clause-answer
returns-in_default-clause-answer g c =
    absurd (no_node c.args.job.now c.requires.job c.args.path.now c.requires.here c.in_default.ensures.none)

pub returns-in_default-clause-counted : goal.returns-in_default-clause-counted
returns-in_default-clause-counted g c =
    absurd (no_node c.args.job.now c.requires.job c.args.path.now c.requires.here c.in_default.ensures.none)

pub place_of-requires-clause-sound : goal.place_of-requires-clause-sound
place_of-requires-clause-sound g c =
    c.requires.job.reader.sound

pub place_of-requires-clause-shallow : goal.place_of-requires-clause-shallow
place_of-requires-clause-shallow g c =
    c.requires.job.shallow

pub region_among-region_in-requires-clause-encloses : goal.region_among-region_in-requires-clause-encloses
region_among-region_in-requires-clause-encloses g c =
    ready_encloses c.args.job.now c.requires.job c.args.path.now c.requires.here c.as_slice-spans.result.now c.as_slice-spans.ensures
    c.as_str-text.result.now c.as_str-text.ensures c.span_at-span.result.now c.span_at-span.ensures

pub region_among-region_in-requires-clause-bytes : goal.region_among-region_in-requires-clause-bytes
region_among-region_in-requires-clause-bytes g c =
    lines_long c.args.job.now c.requires.job c.args.path.now c.requires.here

pub region-requires-clause-inside : goal.region-requires-clause-inside
region-requires-clause-inside g c =
    ready_inside c.args.job.now c.requires.job c.args.path.now c.requires.here c.as_slice-spans.result.now c.as_slice-spans.ensures
    c.as_str-text.result.now c.as_str-text.ensures c.span_at-span.result.now c.span_at-span.ensures

pub region-requires-clause-encloses : goal.region-requires-clause-encloses
region-requires-clause-encloses g c =
    ready_encloses c.args.job.now c.requires.job c.args.path.now c.requires.here c.as_slice-spans.result.now c.as_slice-spans.ensures
    c.as_str-text.result.now c.as_str-text.ensures c.span_at-span.result.now c.span_at-span.ensures

pub region-requires-clause-start : goal.region-requires-clause-start
region-requires-clause-start g c =
    ready_start c.args.job.now c.requires.job c.args.path.now c.requires.here c.as_slice-spans.result.now c.as_slice-spans.ensures
    c.as_str-text.result.now c.as_str-text.ensures c.span_at-span.result.now c.span_at-span.ensures

pub region-requires-clause-end : goal.region-requires-clause-end
region-requires-clause-end g c =
    ready_end c.args.job.now c.requires.job c.args.path.now c.requires.here c.as_slice-spans.result.now c.as_slice-spans.ensures
    c.as_str-text.result.now c.as_str-text.ensures c.span_at-span.result.now c.span_at-span.ensures

pub read_region-requires-clause-reader : goal.read_region-requires-clause-reader
read_region-requires-clause-reader g c =
    c.requires.job.reader

pub read_region-requires-clause-around : goal.read_region-requires-clause-around
read_region-requires-clause-around g c =
    few_around c.args.job.now c.requires.job c.args.path.now c.requires.here c.in-Some.place.node.now
    c.in-Some.place.least c.in-Some.place.around c.in-Some.ensures.some

pub returns-in_err-reading-clause-steps : goal.returns-in_err-reading-clause-steps
returns-in_err-reading-clause-steps g c =
    node_steps c.args.job.now c.requires.job c.args.path.now c.requires.here c.as_slice-spans.result.now c.as_slice-spans.ensures
    c.as_str-text.result.now c.as_str-text.ensures c.span_at-span.result.now c.span_at-span.ensures
    c.as_str-own.result.now (c.as_str-own.ensures.value ∙ c.in_ok-new.ensures) c.args.steps.now c.read_region.new.steps c.in_err-reading.ensures.steps

pub returns-clause-answer : goal.returns-clause-answer
returns-clause-answer g c =
    node_answer c.args.job.now c.requires.job c.args.path.now c.requires.here c.as_slice-spans.result.now c.as_slice-spans.ensures
    c.as_str-text.result.now c.as_str-text.ensures c.span_at-span.result.now c.span_at-span.ensures
    _ c.in-Some.place.node.now c.in-Some.place.least c.in-Some.place.around c.in-Some.ensures.some
    c.kind_of-kind.ensures refl refl _ c.region_among-region_in.ensures.all _ c.region_among-region_in.ensures.start
    _ c.region_among-region_in.ensures.end c.as_str-own.result.now (c.as_str-own.ensures.value ∙ c.in_ok-new.ensures)
    c.in_ok-reading.reading c.in_ok-reading.ensures.answer

pub returns-clause-counted : goal.returns-clause-counted
returns-clause-counted g c =
    node_counted c.args.job.now c.requires.job c.args.path.now c.requires.here c.as_slice-spans.result.now c.as_slice-spans.ensures
    c.as_str-text.result.now c.as_str-text.ensures c.span_at-span.result.now c.span_at-span.ensures
    c.as_str-own.result.now (c.as_str-own.ensures.value ∙ c.in_ok-new.ensures) c.args.steps.now c.read_region.new.steps c.in_ok-reading.ensures.counted

pub returns-clause-steps : goal.returns-clause-steps
returns-clause-steps g c =
    node_steps c.args.job.now c.requires.job c.args.path.now c.requires.here c.as_slice-spans.result.now c.as_slice-spans.ensures
    c.as_str-text.result.now c.as_str-text.ensures c.span_at-span.result.now c.span_at-span.ensures
    c.as_str-own.result.now (c.as_str-own.ensures.value ∙ c.in_ok-new.ensures) c.args.steps.now c.read_region.new.steps c.in_ok-reading.ensures.steps
