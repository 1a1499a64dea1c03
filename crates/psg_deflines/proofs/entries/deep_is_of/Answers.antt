use Rattle.std.proofs.Common.{cond, ap, sym, ◌∙◌}
use Rattle.std.specs.Prelude.{◌==◌, not, true}
use Rattle.psg_deflines.proofs.EntryLaws.{deep-of}
use Rattle.psg_deflines.proofs.entries.deep_is_of.Goals as goal

pub returns-then-bare : goal.returns-then-bare
returns-then-bare c = λ rest line f deep.
    sym (ap (λ b. cond b (not (c.args.version == 2)) (cond c.is_tagged-tagged.result (c.args.version == 2) true)) c.if-bare.true)
    ∙ deep-of c.args.version c.args.word.now rest c.is-bare.result c.is_tagged-tagged.result line c.is-bare.ensures c.is_tagged-tagged.ensures f deep

pub returns-then-tagged : goal.returns-then-tagged
returns-then-tagged c = λ rest line f deep.
    sym (ap (λ b. cond b (c.args.version == 2) true) c.if-tagged.true)
    ∙ sym (ap (λ b. cond b (not (c.args.version == 2)) (cond c.is_tagged-tagged.result (c.args.version == 2) true)) c.if-bare.false)
    ∙ deep-of c.args.version c.args.word.now rest c.is-bare.result c.is_tagged-tagged.result line c.is-bare.ensures c.is_tagged-tagged.ensures f deep

pub returns-else-tagged : goal.returns-else-tagged
returns-else-tagged c = λ rest line f deep.
    sym (ap (λ b. cond b (c.args.version == 2) true) c.if-tagged.false)
    ∙ sym (ap (λ b. cond b (not (c.args.version == 2)) (cond c.is_tagged-tagged.result (c.args.version == 2) true)) c.if-bare.false)
    ∙ deep-of c.args.version c.args.word.now rest c.is-bare.result c.is_tagged-tagged.result line c.is-bare.ensures c.is_tagged-tagged.ensures f deep
