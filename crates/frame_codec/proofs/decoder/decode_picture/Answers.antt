use Rattle.std.proofs.Common.{◌≡◌, ◌∙◌, ℕ, List, subst, arith}
use Rattle.slice_codec.specs.Setups.{Setup}
use Rattle.slice_codec.specs.Slices.{MeansSlice}
use Rattle.slice_codec.specs.Faults.{Refuses as RefusesSlice}
use Rattle.frame_syntax.specs.Frames.{slices_of}
use Rattle.frame_codec.specs.Frames.{number_of, slice_at}
use Rattle.frame_codec.specs.inner.Decoding.{IsReached}
use Rattle.frame_codec.proofs.CodedPictureLemmas.{named_by, number_rises}
use Rattle.frame_codec.proofs.DecodingLemmas.{first_refused, left_next, next_bytes, shown_next, some_left}
use Rattle.frame_codec.proofs.decoder.decode_picture.Goals as goal

pub decode_next-requires-clause-some : goal.decode_next-requires-clause-some
decode_next-requires-clause-some g c =
    let parts = c.args.parts.now in
    some_left (number_of parts c.args.picture c.loop-n.n) (number_of parts c.args.picture c.args.coded.now.slices) c.loop-n.slices.left
    (slices_of c.args.bytes.now parts) c.loop-n.invariant.reached.left c.requires.coded.counted
    (number_rises parts c.args.picture c.loop-n.n c.args.coded.now.slices c.loop-n-test.true)

pub returns-in-Err-clause-refused : goal.returns-in-Err-clause-refused
returns-in-Err-clause-refused g c =
    let bytes = c.args.bytes.now in
    let parts = c.args.parts.now in
    let picture = c.args.picture in
    let n = c.loop-n.n in
    let name = c.picture_slice-name.result in
    let named = named_by parts _ c.args.coded.now.log2 picture n name (c.size-size.ensures ∙ c.requires.reached.shown.size) c.requires.coded.log2
    c.requires.coded.there c.picture_slice-name.ensures.named in
    let setup = c.loop-n.invariant.reached.setup_is in
    let slice = next_bytes bytes parts (number_of parts picture n) c.loop-n.slices.left c.loop-n.invariant.reached.left in
    let refused = subst (λ (s : Setup). RefusesSlice s name.count (slice_at bytes parts (number_of parts picture n)) c.in-Err.fault) setup
    (subst (λ (xs : List ℕ). RefusesSlice (g.S.SampleSource.setup c.loop-n.source) name.count xs c.in-Err.fault) slice c.in-Err.ensures.refused) in
    first_refused bytes parts c.loop-n.out picture n c.slice_number.result name c.in-Err.fault c.requires.whole named c.loop-n.invariant.reached.shown c.slice_number.ensures refused

pub loop-n-preserved : goal.loop-n-preserved
loop-n-preserved g c =
    let bytes = c.args.bytes.now in
    let parts = c.args.parts.now in
    let picture = c.args.picture in
    let n = c.loop-n.n in
    let name = c.picture_slice-name.result in
    let samples = c.in-Ok.ensures.read.samples in
    let named = named_by parts _ c.args.coded.now.log2 picture n name (c.size-size.ensures ∙ c.requires.reached.shown.size) c.requires.coded.log2
    c.requires.coded.there c.picture_slice-name.ensures.named in
    let setup = c.loop-n.invariant.reached.setup_is in
    let slice = next_bytes bytes parts (number_of parts picture n) c.loop-n.slices.left c.loop-n.invariant.reached.left in
    let means = subst (λ (s : Setup). MeansSlice s name.count (slice_at bytes parts (number_of parts picture n)) samples) setup
    (subst (λ (xs : List ℕ). MeansSlice (g.S.SampleSource.setup c.loop-n.source) name.count xs samples) slice c.in-Ok.ensures.read.means) in
    record {
      reached = record {
        bytes_are = c.in-Ok.ensures.bytes;
        left = c.in-Ok.ensures.left ∙ left_next parts picture n c.loop-n.slices.left (slices_of bytes parts) c.loop-n.invariant.reached.left;
        setup_is = c.in-Ok.ensures.setup ∙ setup;
        shown = shown_next bytes parts c.loop-n.out c.decode_next.new.out picture n name samples c.requires.whole.frame
            (record { named = named; means = means; placed = c.in-Ok.ensures.read.placed }) c.loop-n.invariant.reached.shown;
      };
      held = c.in-Ok.ensures.held;
    }

pub returns-clause-reached : goal.returns-clause-reached
returns-clause-reached g c =
    let bytes = c.args.bytes.now in
    let parts = c.args.parts.now in
    let all : c.loop-n.n ≡ c.args.coded.now.slices = omega arith in
    subst (λ (n : ℕ). IsReached bytes parts c.loop-n.slices (g.S.SampleSource.setup c.loop-n.source) c.loop-n.out (number_of parts c.args.picture n)) all c.loop-n.invariant.reached
