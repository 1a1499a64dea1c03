use Rattle.std.proofs.Common.{sym, subst}
use Rattle.psg_grammar.specs.declared.types.Definition.{Definition}
use Rattle.psg_cache.specs.Annotated.{tree_in}
use Rattle.psg_cache.specs.Notes.{IsNoteOf}
use Rattle.psg_explain.specs.Relations.{HasRows, IsRelated}
use Rattle.psg_explain.proofs.claiming.rows_up_to_none.Goals as goal

pub rows_along-requires-clause-note : goal.rows_along-requires-clause-note
rows_along-requires-clause-note g c =
    subst (λ (d : Definition). IsNoteOf d (tree_in c.args.note.now) c.args.note.now) (sym c.parts-language.ensures.definition) c.requires.note

pub rows_along-requires-clause-related : goal.rows_along-requires-clause-related
rows_along-requires-clause-related g c =
    let (path, node, related) = c.requires.related in
    (path, node, subst (λ (d : Definition). IsRelated d (tree_in c.args.note.now) path node c.args.stages.now) (sym c.parts-language.ensures.definition) related)

pub returns-clause-rows : goal.returns-clause-rows
returns-clause-rows g c = λ path node related.
    subst (λ (d : Definition). HasRows d path node c.in_ok-made.made.items) c.parts-language.ensures.definition
    (c.in_ok-made.ensures.rows path node (subst (λ (d : Definition). IsRelated d (tree_in c.args.note.now) path node c.args.stages.now) (sym c.parts-language.ensures.definition) related))

pub returns-clause-ticks : goal.returns-clause-ticks
returns-clause-ticks g c = λ path node related.
    c.rows_along.ensures.ticks path node (subst (λ (d : Definition). IsRelated d (tree_in c.args.note.now) path node c.args.stages.now) (sym c.parts-language.ensures.definition) related)

pub returns-in_err-made-clause-ticks : goal.returns-in_err-made-clause-ticks
returns-in_err-made-clause-ticks g c = λ path node related.
    c.rows_along.ensures.ticks path node (subst (λ (d : Definition). IsRelated d (tree_in c.args.note.now) path node c.args.stages.now) (sym c.parts-language.ensures.definition) related)
