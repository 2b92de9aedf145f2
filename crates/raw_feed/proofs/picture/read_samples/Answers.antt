use Rattle.std.proofs.Common.{◌≡◌, ◌/◌, length, arith}
use Rattle.std.proofs.lemmas.List.{length-take}
use Rattle.raw_feed.proofs.PictureLemmas.{SamplesRead-wrong, SamplesRead-cut}
use Rattle.raw_feed.proofs.picture.read_samples.Goals as goal

pub returns-in-Some-clause-read : goal.returns-in-Some-clause-read
returns-in-Some-clause-read g c =
    let same = c.read_part.auto.out in
    let most = c.in_ok-came.ensures.most in
    let l = length-take (c.in_ok-came.came / 2) c.args.samples.now in
    let long : length c.take_samples.new.samples ≡ c.in_ok-came.came / 2 = omega (arith, c.take_samples.auto.samples, c.requires.long) in
    SamplesRead-wrong c.args.at (length c.args.samples.now) c.in_ok-came.came c.in-Some.k _ _ c.read_part.new.out c.take_samples.new.samples _
    (omega (arith, c.requires.long)) most long c.take_samples.ensures.read c.in-Some.ensures.wrong c.in_ok-came.ensures.taken

pub returns-then-came-bytes-clause-read : goal.returns-then-came-bytes-clause-read
returns-then-came-bytes-clause-read g c =
    let same = c.read_part.auto.out in
    let most = c.in_ok-came.ensures.most in
    let l = length-take (c.in_ok-came.came / 2) c.args.samples.now in
    let long : length c.take_samples.new.samples ≡ c.in_ok-came.came / 2 = omega (arith, c.take_samples.auto.samples, c.requires.long) in
    SamplesRead-cut c.args.at (length c.args.samples.now) c.in_ok-came.came _ _ c.read_part.new.out c.take_samples.new.samples _
    (omega (arith, c.requires.long)) (omega (arith, c.if-came-bytes.true)) long c.take_samples.ensures.read c.in_default.ensures.right c.in_ok-came.ensures.taken
