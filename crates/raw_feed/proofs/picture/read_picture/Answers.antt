use Rattle.std.proofs.Common.{◌≡◌, ◌≤◌, ◌+◌, ◌*◌, ◌∙◌, length, take, drop, refl, ap, sym, arith}
use Rattle.std.proofs.lemmas.Result.{err_from_is_err_and}
use Rattle.std.proofs.lemmas.List.{take_at, length-take, length-drop, length-append}
use Rattle.rec_bytes.specs.Views.{view}
use Rattle.rec_bytes.specs.Places.{with_bytes}
use Rattle.rec_bytes.specs.laws.Places.{length-with_bytes}
use Rattle.picture_plane.specs.Pictures.{Planes, sample_count}
use Rattle.raw_feed.specs.Items.{picture_samples}
use Rattle.raw_feed.proofs.PictureLemmas.{ItemRead-samples, Gathered-samples, picture_samples_are}
use Rattle.raw_feed.proofs.picture.read_picture.Goals as goal

pub returns-in_err-read_samples-clause-broken : goal.returns-in_err-read_samples-clause-broken
returns-in_err-read_samples-clause-broken g c =
    let p = err_from_is_err_and c.from_residual.result c.from_residual.ensures.1 in
    let whole = c.ranges-in-loop-done.ensures in
    let config = view c.args.config.now in
    let count : length c.loop-done.into.samples ≡ picture_samples config =
    whole.all ∙ ap sample_count (c.loop-done.invariant.kept ∙ c.requires.sized) ∙ sym (picture_samples_are config) in
    let all = c.loop-done.invariant.all in
    let most = c.loop-done.invariant.most in
    let within = c.loop-done.invariant.within in
    let fewer = c.piece_samples-more.ensures.fewer in
    let piece = take c.piece_samples-more.result c.loop-done.samples in
    let l = length-take c.piece_samples-more.result c.loop-done.samples in
    rw (p.1, p.2) (ItemRead-samples config c.args.at c.loop-done.done (length piece) (c.args.at + 4 + 2 * c.loop-done.done) _
    (g.S.Source.told c.loop-done.source) _ c.loop-done.into.samples _ _ (λ k. let s = whole.small k in omega arith) (omega arith) (omega arith) refl
    within c.loop-done.invariant.gathered c.in_err-read_samples.ensures.read)

pub loop-done-preserved : goal.loop-done-preserved
loop-done-preserved g c =
    let long : length c.read_samples.new.samples ≡ c.piece_samples-more.result =
    let l = length-take c.piece_samples-more.result c.loop-done.samples in
    let array = c.loop-done.invariant.long in
    let most = c.piece_samples-more.ensures.most in
    omega (arith, c.read_samples.auto.samples) in
    let all = c.loop-done.invariant.all in
    let fewer = c.piece_samples-more.ensures.fewer in
    let within = c.in_ok-read_samples.ensures.within in
    let room : c.loop-done.done + length c.read_samples.new.samples ≤ length c.loop-done.into.samples = omega arith in
    let put : c.fill.new.self.samples ≡ with_bytes c.loop-done.into.samples c.loop-done.done c.read_samples.new.samples =
    ap (λ (p : Planes). p.samples) c.fill.ensures
    ∙ ap (with_bytes c.loop-done.into.samples c.loop-done.done) (take_at c.read_samples.new.samples _ c.piece_samples-more.result long) in
    record {
      most = omega arith;
      all = c.loop-done.invariant.all ∙ sym (length-with_bytes c.loop-done.into.samples c.loop-done.done c.read_samples.new.samples room) ∙ ap length (sym put);
      long =
          length-append c.read_samples.new.samples (drop c.piece_samples-more.result c.loop-done.samples)
          ∙ (let l = length-drop c.piece_samples-more.result c.loop-done.samples in
          let array = c.loop-done.invariant.long in
          let most = c.piece_samples-more.ensures.most in
          omega arith);
      within = omega arith;
      kept = ap (λ (p : Planes). p.size) c.fill.ensures ∙ c.loop-done.invariant.kept;
      gathered =
          Gathered-samples _ _ c.piece_samples-more.result c.loop-done.done _ (g.S.Source.told c.loop-done.source) _ c.loop-done.into.samples
          c.fill.new.self.samples c.read_samples.new.samples long (omega arith) put c.loop-done.invariant.gathered c.in_ok-read_samples.ensures.read;
      count = c.in_ok-read_samples.ensures.cause ∙ c.loop-done.invariant.count;
    }
