use Rattle.std.proofs.Common.{◌≡◌, ◌≤◌, ◌+◌, [], ◌∷◌, ◌++◌, List, ℕ, length, Err, IfSome, refl, sym, ap, ◌∙◌, subst, arith}
use Rattle.psg_terms.specs.Names.{Name}
use Rattle.psg_world.specs.Files.{Held, bytes_of, entries_after_read, front_of, reading}
use Rattle.psg_session.specs.declared.kept.TheConstants.{MOST_KEPT_BYTES}
use Rattle.psg_session.proofs.KeptLaws.{fetch_got, fetch_lost, fetch_stopped, same_outside}
use Rattle.psg_script.specs.declared.command.Command.TheVariants.{Fetch}
use Rattle.psg_session.specs.Outcomes.{IsOutcome}
use Rattle.psg_session.specs.PlainState.{got}
use Rattle.psg_session.specs.Reached.{HasReached}
use Rattle.psg_session.proofs.Stopping.{found_map, in_memory}
use Rattle.psg_session.proofs.kept.fetch.Goals as goal

pub returns-in-Err-Failed-clause-reached : goal.returns-in-Err-Failed-clause-reached
returns-in-Err-Failed-clause-reached g c =
    fetch_lost c.args.language.now.definition c.args.editor.now c.args.file.now _ _ c.args.steps.now _
    c.read.ensures.keeps
    (c.read.ensures.entries
    ∙ ap (entries_after_read (g.F.Files.faults c.args.files.now) c.as_str-from.result.now)
    (c.in-Err-Failed.is ∙ ap Err c.in-Err-Failed.field-0-is)
    ∙ ap (λ (n : Name). g.F.Files.faults c.args.files.now ++ reading n ∷ []) c.as_str-from.ensures)
    refl

pub returns-clause-stopped : goal.returns-clause-stopped
returns-clause-stopped g c =
    let within = c.in-Ok.ensures.within in
    let long = c.as_slice-shown.ensures.len in
    let short : length c.as_slice-shown.result.now ≤ MOST_KEPT_BYTES + 1 = omega (arith, within, long) in
    in_memory c.take_in.result
    (fetch_stopped c.args.language.now.definition c.args.editor.now c.args.file.now _ _ c.args.steps.now
    c.take_in.new.steps c.as_slice-shown.result.now
    (same_outside c.in-Ok.ensures.keeps c.in-Ok.ensures.entries) short
    (subst (λ (b : List ℕ). IfSome (g.F.Files.holds c.args.files.now) (λ (held : Held). b ≡ front_of MOST_KEPT_BYTES
    (bytes_of held c.args.file.now))) (sym c.as_slice-shown.ensures.value)
    (subst (λ (n : Name). IfSome (g.F.Files.holds c.args.files.now) (λ (held : Held). c.in-Ok.bytes.items
    ≡ front_of MOST_KEPT_BYTES (bytes_of held n))) c.as_str-from.ensures c.in-Ok.ensures.front))
    c.take_in.ensures.read)

pub returns-clause-reached : goal.returns-clause-reached
returns-clause-reached g c =
    let within = c.in-Ok.ensures.within in
    let long = c.as_slice-shown.ensures.len in
    let short : length c.as_slice-shown.result.now ≤ MOST_KEPT_BYTES + 1 = omega (arith, within, long) in
    let def = c.args.language.now.definition in
    let e = c.args.editor.now in
    found_map (IsOutcome def e (got c.as_slice-shown.result.now) (Fetch c.args.file.now))
    (HasReached def e (Fetch c.args.file.now) _ _ c.args.steps.now c.take_in.new.steps) c.take_in.result
    (fetch_got def e c.args.file.now _ _ c.args.steps.now c.take_in.new.steps c.as_slice-shown.result.now
    (same_outside c.in-Ok.ensures.keeps c.in-Ok.ensures.entries) short
    (subst (λ (b : List ℕ). IfSome (g.F.Files.holds c.args.files.now) (λ (held : Held). b ≡ front_of MOST_KEPT_BYTES
    (bytes_of held c.args.file.now))) (sym c.as_slice-shown.ensures.value)
    (subst (λ (n : Name). IfSome (g.F.Files.holds c.args.files.now) (λ (held : Held). c.in-Ok.bytes.items
    ≡ front_of MOST_KEPT_BYTES (bytes_of held n))) c.as_str-from.ensures c.in-Ok.ensures.front))
    c.take_in.ensures.read) (c.take_in.ensures.outcome c.args.file.now)
