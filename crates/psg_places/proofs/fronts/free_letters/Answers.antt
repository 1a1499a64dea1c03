use Rattle.std.proofs.Common.{◌<◌, ◌^◌, length, rules, subst}
use Rattle.std.specs.Prelude.{string_bytes}
use Rattle.psg_places.specs.NewNames.{IsLonger}
use Rattle.psg_places.proofs.FrontLaws.{all_free, fewer, none_yet, one_more}
use Rattle.psg_places.proofs.fronts.free_letters.Goals as goal

pub letters-init : goal.letters-init
letters-init c =
    let few : length c.args.names.now < 2 ^ 64 = search rules in
    none_yet c.args.names.now (string_bytes c.new-letters.result) (length c.args.names.now) (search rules) (search rules) few

pub letters-preserved : goal.letters-preserved
letters-preserved c =
    let longer = subst (λ n. IsLonger c.args.names.now n (string_bytes c.in_ok-next.next.letters) c.in_ok-next.next.left)
    c.as_str.ensures.value c.in_ok-next.ensures in
    one_more c.args.names.now (string_bytes c.letters.letters) (string_bytes c.in_ok-next.next.letters) c.letters.left
    c.in_ok-next.next.left c.letters.invariant c.letters-test.true longer

pub letters-smaller : goal.letters-smaller
letters-smaller c =
    let longer = subst (λ n. IsLonger c.args.names.now n (string_bytes c.in_ok-next.next.letters) c.in_ok-next.next.left)
    c.as_str.ensures.value c.in_ok-next.ensures in
    fewer c.args.names.now (string_bytes c.letters.letters) (string_bytes c.in_ok-next.next.letters) c.letters.left
    c.in_ok-next.next.left c.letters.invariant c.letters-test.true longer

pub returns : goal.returns
returns c =
    all_free c.args.names.now (string_bytes c.letters.letters) c.letters.left c.letters.invariant c.letters-test.false
