use Rattle.std.proofs.Common.{◌∙◌, sym, subst}
use Rattle.psg_grammar.specs.declared.types.Definition.{Definition}
use Rattle.psg_grammar.specs.Sound.{IsSound}
use Rattle.psg_cache.specs.Notes.{AreTables}
use Rattle.psg_lint.proofs.ReportLaws.{linting_of, read_text}
use Rattle.psg_lint.proofs.reporting.lint_read.Goals as goal

pub of-requires : goal.of-requires
of-requires g c = record { sound = subst IsSound (sym c.definition.ensures.same) c.definition.ensures.sound }

pub own_tokens-requires : goal.own_tokens-requires
own_tokens-requires g c = record {
  known = record {
    sound = subst IsSound (sym c.definition.ensures.same) c.definition.ensures.sound;
    spaces = c.spaces.ensures c.definition.result.now
        (subst (λ (d : Definition). AreTables d c.parts.result.now.tables) (c.parts.ensures.definition ∙ sym c.definition.ensures.same)
        c.parts.ensures.parts.tables);
  };
}

pub lint_tokens-requires-clause-linting : goal.lint_tokens-requires-clause-linting
lint_tokens-requires-clause-linting g c =
    linting_of _ c.definition.ensures.same c.definition.ensures.sound c.definition.ensures.accepted c.definition.ensures.tokens
    (c.spaces.ensures c.definition.result.now
    (subst (λ (d : Definition). AreTables d c.parts.result.now.tables) (c.parts.ensures.definition ∙ sym c.definition.ensures.same)
    c.parts.ensures.parts.tables))
    c.in_ok-grammar.ensures.definition c.in_ok-grammar.ensures.table c.requires.kind c.requires.quiet_kind

pub lint_tokens-requires-clause-tokens : goal.lint_tokens-requires-clause-tokens
lint_tokens-requires-clause-tokens g c =
    read_text c.args.language.now c.definition.result.now c.args.text.now c.args.tokens.now c.in_ok-own.own.items c.definition.ensures.same
    c.requires.tokens c.in_ok-own.ensures
