use Rattle.std.proofs.Common.{sym, ◌∙◌}
use Rattle.std.specs.Prelude.{map, string_bytes}
use Rattle.psg_terms.specs.Names.{is_among}
use Rattle.psg_asking.proofs.WordLaws.{kept_none, kept_one, pushed}
use Rattle.psg_asking.proofs.named.keep_if.Goals as goal

pub returns-then-among : goal.returns-then-among
returns-then-among c =
    kept_one (λ w. is_among c.args.names.now w) c.args.word.now (map string_bytes c.args.kept.now.items) _
    (sym c.has_name-among.ensures ∙ c.if-among.true)
    (pushed string_bytes c.args.kept.now.items _ c.in_ok-copy.copy c.args.word.now c.in_ok-push.ensures.items
    c.in_ok-copy.ensures.ok)

pub returns : goal.returns
returns c =
    kept_none (λ w. is_among c.args.names.now w) c.args.word.now (map string_bytes c.args.kept.now.items)
    (sym c.has_name-among.ensures ∙ c.if-among.false)
