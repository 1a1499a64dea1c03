use Rattle.std.proofs.Common.{◌≡◌, ◌++◌, subst}
use Rattle.std.specs.Prelude.{IfOk, codes, decimal, string_bytes}
use Rattle.psg_deflines.proofs.fault.fault_text.Goals as goal

pub returns : goal.returns
returns c =
    subst (λ n. IfOk c.format.result (λ text. string_bytes text ≡ codes "line " ++ (decimal c.args.fault.now.line ++ (codes " code " ++ decimal n)))) c.code_number-code.ensures
    (c.format.ensures.ok)
