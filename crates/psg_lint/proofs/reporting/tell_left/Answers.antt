use Rattle.std.proofs.Common.{refl, sym, subst, ◌∙◌}
use Rattle.psg_grammar.specs.declared.types.Definition.{Definition}
use Rattle.psg_cache.specs.Notes.{AreTables, IsFormed}
use Rattle.psg_completions.specs.Conditions.{HasTrueRows}
use Rattle.psg_recover.specs.Findings.{has_error}
use Rattle.psg_recover.specs.TextPlaces.{Read}
use Rattle.psg_lint.proofs.ReportLaws.{judged_left, rows_true}
use Rattle.psg_lint.proofs.reporting.tell_left.Goals as goal

pub tell_program-requires-clause-judged : goal.tell_program-requires-clause-judged
tell_program-requires-clause-judged g c =
    let l = c.args.linting in
    let h = c.requires.linting in record {
      known = h.reader.known;
      same = refl;
      tables = subst (λ (d : Definition). AreTables d c.parts.result.now.tables) (c.parts.ensures.definition ∙ sym h.same) c.parts.ensures.parts.tables;
      formed = subst (λ (d : Definition). IsFormed d c.args.tree.now) (sym h.same) (l.reader.kind, c.requires.formed);
    }

pub tell_program-requires-clause-rows : goal.tell_program-requires-clause-rows
tell_program-requires-clause-rows g c =
    let h = c.requires.linting in subst HasTrueRows (sym h.same) (rows_true c.args.linting.language.now h.accepted)

pub returns : goal.returns
returns g c =
    let l = c.args.linting in
    let h = c.requires.linting in
    let (nodes, read, ranges) = c.requires.read in
    let r : Read = record { tokens = c.args.tokens.now; whole = c.args.parsed.now.tree; nodes = nodes } in
    let (told, e, (limited, found)) = c.in_ok-more.ensures r (record { known = h.reader.known; tokens = refl; whole = refl; nodes = ranges }) in (
      told,
      limited,
      e,
      judged_left l.language.now l.reader.known.definition.now l.reader.kind l.text.now (has_error c.args.found.now.items) limited c.in_ok-more.more
          c.args.tokens.now c.args.parsed.now.tree c.args.tree.now nodes told h.same c.requires.parsed read c.requires.tree
          c.requires.formed c.requires.small found,
    )
