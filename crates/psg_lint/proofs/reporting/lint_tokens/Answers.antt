use Rattle.std.proofs.Common.{ap, sym, subst}
use Rattle.psg_grammar.specs.declared.types.Definition.{Definition}
use Rattle.psg_recover.specs.Readers.{IsReadText, stops_last, tokens_in}
use Rattle.psg_lint.proofs.ReportLaws.{judged_report, last_row, no_row, stops_of, stops_report}
use Rattle.psg_lint.proofs.reporting.lint_tokens.Goals as goal

pub all_stops-requires-clause-reader : goal.all_stops-requires-clause-reader
all_stops-requires-clause-reader g c = c.requires.linting.reader

pub all_stops-requires-clause-text : goal.all_stops-requires-clause-text
all_stops-requires-clause-text g c =
    let l = c.args.linting in
    subst (λ (d : Definition). IsReadText d l.text.now c.args.tokens.items) (sym c.requires.linting.same) c.requires.tokens

pub tell_tokens-requires-clause-last : goal.tell_tokens-requires-clause-last
tell_tokens-requires-clause-last g c =
    let l = c.args.linting in
    let stops = c.in_ok-stops.stops in (
      stops.told.items,
      last_row l.language.now l.reader.kind l.text.now stops.told.items (stops_last stops) c.in-Some.row.items c.as_slice.result.now
          (stops_of l c.requires.linting c.args.tokens.items stops.told.items (stops_last stops) c.requires.tokens c.in_ok-stops.ensures)
          (ap tokens_in c.in-Some.is) c.as_slice.ensures.value,
    )

pub returns-in_ok-made-in-Some : goal.returns-in_ok-made-in-Some
returns-in_ok-made-in-Some g c =
    let l = c.args.linting in
    let stops = c.in_ok-stops.stops in
    let (told, limited, e, are) = c.in_ok-more-in-Some.ensures in
    judged_report l.language.now l.reader.kind l.text.now stops.told.items told _ c.as_slice.result.now limited c.in_ok-more-in-Some.more
    c.in_ok-made-in-Some.made
    (last_row l.language.now l.reader.kind l.text.now stops.told.items (stops_last stops) c.in-Some.row.items c.as_slice.result.now
    (stops_of l c.requires.linting c.args.tokens.items stops.told.items (stops_last stops) c.requires.tokens c.in_ok-stops.ensures)
    (ap tokens_in c.in-Some.is) c.as_slice.ensures.value)
    e are c.in_ok-made-in-Some.ensures.order c.in_ok-made-in-Some.ensures.more

pub returns-in_ok-made-in-None : goal.returns-in_ok-made-in-None
returns-in_ok-made-in-None g c =
    let l = c.args.linting in
    let stops = c.in_ok-stops.stops in
    stops_report l.language.now l.reader.kind l.text.now stops.told.items c.in_ok-made-in-None.made
    (no_row l.language.now l.reader.kind l.text.now stops.told.items (stops_last stops)
    (stops_of l c.requires.linting c.args.tokens.items stops.told.items (stops_last stops) c.requires.tokens c.in_ok-stops.ensures)
    (ap tokens_in c.in-None.is))
    c.in_ok-made-in-None.ensures.order c.in_ok-made-in-None.ensures.more
