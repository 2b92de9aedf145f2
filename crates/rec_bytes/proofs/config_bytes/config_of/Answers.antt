use Rattle.std.proofs.Common.{◌≡◌, true, sym, subst, slice_index}
use Rattle.rec_bytes.specs.Configuration.{Fields, fields_of, is_config}
use Rattle.rec_bytes.proofs.config_bytes.config_of.Goals as goal

pub invariant_of-result : goal.invariant_of-result
unfolding fields_of
invariant_of-result c =
    let stand : _ ≡ fields_of c.args.bytes.now = λ i. record {
      width = c.u16_at.ensures i;
      height = c.u16_at-2.ensures i;
      interlace = slice_index c.args.bytes.now 4;
      rate = slice_index c.args.bytes.now 5;
      aspect = slice_index c.args.bytes.now 6;
      primaries = slice_index c.args.bytes.now 7;
      transfer = slice_index c.args.bytes.now 8;
      matrix = slice_index c.args.bytes.now 9;
      log2 = slice_index c.args.bytes.now 10;
      qmin = slice_index c.args.bytes.now 11;
      qmax = slice_index c.args.bytes.now 12;
      weights = slice_index c.args.bytes.now 13;
      coding = slice_index c.args.bytes.now 14;
      drop = slice_index c.args.bytes.now 15;
      budget = c.u16_at-3.ensures i;
      part = c.u16_at-4.ensures i;
      max_frames = c.u32_at.ensures i;
      lag = c.u16_at-5.ensures i;
      start = c.u32_at-2.ensures i;
      take_id = c.array_at-take_id.ensures i;
      encoder = c.array_at-encoder.ensures i;
    } in
    record { in_range = subst (λ (f : Fields). is_config f ≡ true) (sym stand) c.requires }

pub returns : goal.returns
unfolding fields_of
returns c = λ i. record {
  width = c.u16_at.ensures i;
  height = c.u16_at-2.ensures i;
  interlace = slice_index c.args.bytes.now 4;
  rate = slice_index c.args.bytes.now 5;
  aspect = slice_index c.args.bytes.now 6;
  primaries = slice_index c.args.bytes.now 7;
  transfer = slice_index c.args.bytes.now 8;
  matrix = slice_index c.args.bytes.now 9;
  log2 = slice_index c.args.bytes.now 10;
  qmin = slice_index c.args.bytes.now 11;
  qmax = slice_index c.args.bytes.now 12;
  weights = slice_index c.args.bytes.now 13;
  coding = slice_index c.args.bytes.now 14;
  drop = slice_index c.args.bytes.now 15;
  budget = c.u16_at-3.ensures i;
  part = c.u16_at-4.ensures i;
  max_frames = c.u32_at.ensures i;
  lag = c.u16_at-5.ensures i;
  start = c.u32_at-2.ensures i;
  take_id = c.array_at-take_id.ensures i;
  encoder = c.array_at-encoder.ensures i;
}
