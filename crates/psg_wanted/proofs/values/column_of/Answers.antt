use Rattle.std.proofs.Common.{rules, ◌≡◌, ◌<◌, ◌∷◌, true, false, length}
use Rattle.psg_wanted.proofs.KeyLaws.{among_next, among_whole, column_is}
use Rattle.psg_wanted.proofs.values.column_of.Goals as goal

pub returns-then-is_key-clause-some : goal.returns-then-is_key-clause-some
returns-then-is_key-clause-some c =
    let within : c.loop-place.place < length c.args.names.now = search rules in
    let is : c.is_key.result ≡ true = search rules in
    column_is c.args.names.now c.loop-place.place c.index-names-place.result (c.args.space ∷ c.args.name.now) c.is_key.result within c.index-names-place.is c.is_key.ensures is

pub loop-place-preserved : goal.loop-place-preserved
loop-place-preserved c =
    let within : c.loop-place.place < length c.args.names.now = search rules in
    let is : c.is_key.result ≡ false = search rules in
    among_next c.args.names.now c.loop-place.place c.index-names-place.result (c.args.space ∷ c.args.name.now) c.is_key.result within c.index-names-place.is c.is_key.ensures is c.loop-place.invariant

pub returns-clause-none : goal.returns-clause-none
returns-clause-none c =
    let end : c.loop-place.place ≡ length c.args.names.now = search rules in
    among_whole c.args.names.now c.loop-place.place (c.args.space ∷ c.args.name.now) end c.loop-place.invariant
