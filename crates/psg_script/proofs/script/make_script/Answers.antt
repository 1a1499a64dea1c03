use Rattle.psg_script.proofs.LineLemmas.{whole_script}
use Rattle.psg_script.proofs.script.make_script.Goals as goal

pub returns : goal.returns
returns c =
    rw c.into_bytes.ensures.value
    (whole_script c.args.n _ _ _ _ _ c.in_ok-script.ensures.ok c.in_ok-push_declarations.ensures c.in_ok-push_str.ensures.bytes c.in_ok-push_assignments.ensures c.in_ok-push_str-2.ensures.bytes)
