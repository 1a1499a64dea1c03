-- How a fault is printed.
use Rattle.std.specs.Prelude.{ℕ, List, ◌++◌, codes, decimal}
use Rattle.psg_deflines.specs.declared.fault.DefCode.{DefCode}
use Rattle.psg_deflines.specs.declared.fault.DefCode.TheVariants.{NotText, Form, Version, Repeated, Unknown, Sort}
use Rattle.psg_deflines.specs.declared.fault.DefCode.TheVariants.{Count, Token, NoEntity, Later, Nested, NoGround}
use Rattle.psg_deflines.specs.declared.fault.DefCode.TheVariants.{OneWide}
use Rattle.psg_deflines.specs.declared.fault.DefFault.{DefFault}

-- codes are counted from 1
abbrev pub code_number : DefCode → ℕ
code_number NotText = 1
code_number Form = 2
code_number Version = 3
code_number Repeated = 4
code_number Unknown = 5
code_number Sort = 6
code_number Count = 7
code_number Token = 8
code_number NoEntity = 9
code_number Later = 10
code_number Nested = 11
code_number NoGround = 12
code_number OneWide = 13

-- `line L code C`, with the numbers in decimal
abbrev pub fault_text : DefFault → List ℕ
fault_text f = codes "line " ++ (decimal f.line ++ (codes " code " ++ decimal (code_number f.code)))
