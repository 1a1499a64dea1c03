use Rattle.std.proofs.Common.{refl}
use Rattle.psg_parse.specs.Seen.{terminal_seen}
use Rattle.psg_parse.proofs.Opens.{hole_first, bracket_first, opens_else}
use Rattle.psg_parse.proofs.begins.opens.Goals as goal

pub returns-then-opens_hole : goal.returns-then-opens_hole
returns-then-opens_hole c = (λ x. hole_first c.args.definition.now c.args.phylum (terminal_seen c.args.seen) (c.opens_hole.ensures.0 c.if-opens_hole.true), λ x. refl)

pub returns-then-opens_bracket : goal.returns-then-opens_bracket
returns-then-opens_bracket c = (λ x. bracket_first c.args.definition.now c.args.phylum (terminal_seen c.args.seen) (c.opens_bracket.ensures.0 c.if-opens_bracket.true), λ x. refl)

pub returns : goal.returns
returns c = opens_else c.args.definition.now c.args.phylum (terminal_seen c.args.seen) c.opens_hole.result c.opens_bracket.result c.opens_hole.ensures.1 c.if-opens_hole.false c.opens_bracket.ensures.1 c.if-opens_bracket.false
    c.leading.result c.leading.ensures c.is_some.result c.is_some.ensures
