use Rattle.std.proofs.Common.{◌<◌, ◌≤◌, ◌-◌, ◌*◌, length, arith}
use Rattle.psg_grammar.specs.DeclaringTables.{PassesAll, spaces_count}
use Rattle.psg_grammar.proofs.DeclaringLaws.{search_exact}
use Rattle.psg_grammar.proofs.PassLaws.{spaces_of, count_inside}
use Rattle.psg_grammar.proofs.spaces.declaring.Goals as goal

pub returns-in_err-found-clause-search : goal.returns-in_err-found-clause-search
returns-in_err-found-clause-search c = search_exact c.args.definition.now c.requires

pub returns-in_err-pass_all-clause-search : goal.returns-in_err-pass_all-clause-search
returns-in_err-pass_all-clause-search c = search_exact c.args.definition.now c.requires

pub returns-then-not-branch-clause-exact : goal.returns-then-not-branch-clause-exact
returns-then-not-branch-clause-exact c =
    let f : PassesAll c.args.definition.now c.passes.found.items c.pass_all.new.found.items c.in_ok-pass_all.field-0 = c.in_ok-pass_all.ensures in
    spaces_of c.args.definition.now c.pass_all.new.found.items f.right (f.closed c.if-not-branch.true)

pub returns-then-not-branch-clause-search : goal.returns-then-not-branch-clause-search
returns-then-not-branch-clause-search c = search_exact c.args.definition.now c.requires

pub passes-smaller : goal.passes-smaller
passes-smaller c =
    let def = c.args.definition.now in
    let f : PassesAll def c.passes.found.items c.pass_all.new.found.items c.in_ok-pass_all.field-0 = c.in_ok-pass_all.ensures in
    let more : spaces_count c.passes.found.items < spaces_count c.pass_all.new.found.items = f.grows.more c.if-not-branch.false in
    let most : spaces_count c.pass_all.new.found.items ≤ length def.phyla * length def.spaces = count_inside def c.requires c.pass_all.new.found.items f.right in
    let less : length def.phyla * length def.spaces - spaces_count c.pass_all.new.found.items < length def.phyla * length def.spaces - spaces_count c.passes.found.items = omega (arith, more, most) in
    less
