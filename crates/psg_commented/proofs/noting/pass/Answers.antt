use Rattle.std.proofs.Common.{◌≡◌, ◌+◌, drop, take, ap, ◌∙◌, arith}
use Rattle.std.specs.List.{count_by}
use Rattle.std.proofs.lemmas.List.Sums.{prefix_len-le-length}
use Rattle.psg_commented.specs.Noting.{counts, ended_by, ends_by}
use Rattle.psg_commented.proofs.Counts.{counted_more, ended_rest}
use Rattle.psg_commented.proofs.noting.pass.Goals as goal

pub split_at-requires : goal.split_at-requires
split_at-requires c =
    omega (arith, c.known-before.ensures.within, prefix_len-le-length (ends_by c.args.place) c.args.tokens.now)

pub returns : goal.returns
returns c =
    let ts = c.args.tokens.now in
    let k = c.known-before.result.tokens in
    let m = c.ended-more.result in
    let more : m ≡ ended_by (drop k ts) c.args.place =
    c.ended-more.ensures.count ∙ ap (λ r. ended_by r c.args.place) c.split_at.ensures.back in
    let all : k + m ≡ ended_by ts c.args.place =
    omega (arith, more, ended_rest ts k c.args.place c.known-before.ensures.within) in
    let these : c.counted.result ≡ count_by counts (take m (drop k ts)) =
    c.counted.ensures.count ∙ ap (count_by counts) (c.split_at-2.ensures.front ∙ ap (take m) c.split_at.ensures.back) in
    record {
      passed = record {
        tokens = omega (arith, all);
        counted = omega (arith, c.known-before.ensures.passed.counted, these, counted_more ts k m);
      };
      all = all;
    }
