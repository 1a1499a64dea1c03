use Rattle.std.proofs.Common.{ap, ◌∙◌, slice_get}
use Rattle.psg_recover.specs.TextPlaces.{byte_or_none}
use Rattle.psg_recover.proofs.SpotLaws.{found_none, found_some, got_at}
use Rattle.psg_recover.proofs.spots.name_of.Goals as goal

pub returns-in-Some : goal.returns-in-Some
returns-in-Some c =
    c.token_byte.ensures ∙ ap (byte_or_none c.args.tokens.now) (found_some c.get.result c.in-Some.token (slice_get c.args.range.now.names c.args.number) c.in-Some.is (got_at c.as_slice.result.now c.args.number c.get.result c.get.ensures.lookup ∙ ap (λ xs. slice_get xs c.args.number) c.as_slice.ensures))

pub returns-in-None : goal.returns-in-None
returns-in-None c =
    ap (byte_or_none c.args.tokens.now) (found_none c.get.result (slice_get c.args.range.now.names c.args.number) c.in-None.is (got_at c.as_slice.result.now c.args.number c.get.result c.get.ensures.lookup ∙ ap (λ xs. slice_get xs c.args.number) c.as_slice.ensures))
