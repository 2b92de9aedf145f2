use Rattle.std.proofs.Common.{◌≡◌, ◌-◌, length, take, drop, ℕ, List, sym, subst, ◌∙◌, arith}
use Rattle.std.proofs.lemmas.List.{length-drop, length-take-le}
use Rattle.picture_plane.specs.Slices.{Size, IsSlice}
use Rattle.rec_bytes.specs.Views.{view}
use Rattle.slice_codec.specs.Coded.{IsCodedSlice}
use Rattle.frame_codec.proofs.BytesLemmas.{drop_mid}
use Rattle.frame_codec.proofs.SlicesLemmas.{coded_by_any}
use Rattle.frame_codec.proofs.source.SliceWriterSliceSource.put_slice.Goals as goal

pub returns-clause-coded : goal.returns-clause-coded
returns-clause-coded c = λ name is.
    let fields = view c.args.self.now.coder.coding.config in
    let at : ℕ = c.args.at in
    let out : List ℕ = c.args.out.now in
    let found = c.picture_slice-name in
    let named = subst (λ (size : Size). IsSlice size fields.log2 c.args.number c.args.n found.result) (c.size.ensures ∙ c.requires.size) found.ensures.named in
    let behind = length-drop at out in
    let long : length c.encode.new.out ≡ length out - at = omega (arith, c.encode.auto.out, length-take-le (length out - at) (drop at out) (omega (arith, behind))) in
    let there = drop_mid at out c.encode.new.out (omega (arith, c.requires.room)) long in
    coded_by_any fields c.args.picture.now c.args.number c.args.n found.result name (take c.encode.result (drop at _)) named
    (record {
      samples = c.cut_slice.new.out;
      whole = c.ranges-3.ensures;
      cut = c.cut_slice.ensures;
      coded = subst (λ (bytes : List ℕ). IsCodedSlice fields found.result.count c.cut_slice.new.out (take c.encode.result bytes)) (sym there) c.encode.ensures.coded;
    }) is
