use Rattle.std.proofs.Common.{◌≡◌, ◌++◌, drop}
use Rattle.std.specs.Prelude.{eqb, map, string_bytes}
use Rattle.std.specs.List.{filter, starts_with}
use Rattle.psg_keymap.proofs.face.offers_with.Given as goal

abbrev pub invariant-loop-offer : goal.invariant-loop-offer
invariant-loop-offer l = map (λ t. t.now) l.shown.items
    ++ filter (λ o. starts_with eqb o l.front) (map string_bytes (drop l.offer-index l.offers))
    ≡ filter (λ o. starts_with eqb o l.front) (map string_bytes l.offers)
