use Rattle.std.proofs.Common.{rules, ◌≡◌, ◌+◌, List, [], ◌∷◌, ◌++◌, take, drop}
use Rattle.std.specs.Prelude.{string_bytes}
use Rattle.psg_server.proofs.JudgingLaws.{mark_end, spaced_is}
use Rattle.psg_server.proofs.judging.with_space_at.Goals as goal

pub range_from-requires : goal.range_from-requires
range_from-requires c = λ some. mark_end c.args.text.now c.args.place c.utf8.text c.requires

pub returns : goal.returns
returns c =
    let first : string_bytes c.in_ok-bare.bare ≡ take c.args.place c.args.text.now = search rules in
    let second : string_bytes c.push.new.self ≡ string_bytes c.in_ok-bare.bare ++ 32 ∷ [] = search rules in
    let last : string_bytes c.push_str.new.self ≡ string_bytes c.push.new.self ++ drop (c.args.place + 1) c.args.text.now =
    search rules in
    spaced_is c.args.text.now c.args.place (string_bytes c.in_ok-bare.bare) (string_bytes c.push.new.self) _ c.requires
    first second last
