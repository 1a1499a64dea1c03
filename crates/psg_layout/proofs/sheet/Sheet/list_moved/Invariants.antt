use Rattle.std.proofs.Common.{◌≡◌, ◌++◌, length, map, take}
use Rattle.std.specs.Prelude.{string_bytes}
use Rattle.psg_layout.specs.Sheets.{moved}
use Rattle.psg_layout.proofs.sheet.Sheet.list_moved.Given as goal

abbrev pub invariant-loop-token : goal.invariant-loop-token
invariant-loop-token l = record {
  tokens : l.self.tokens.items ≡ l.initial.self.tokens.items ++ map (moved l.from (length (string_bytes l.initial.self.out))) (take l.token-index l.tokens);
  kept : l.self ≡ record l.initial.self { tokens = l.self.tokens };
}
