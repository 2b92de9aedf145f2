use Rattle.std.proofs.Common.{◌≡◌, ℕ, ◌^◌, length, take, List, sym, ap, subst, ◌∙◌, arith}
use Rattle.std.specs.List.{refill}
use Rattle.rec_bytes.specs.Configuration.{Fields}
use Rattle.rec_bytes.specs.Views.{view}
use Rattle.picture_plane.specs.Sizes.{size_of}
use Rattle.picture_plane.specs.Slices.{IsFrameSlice}
use Rattle.slice_desk.specs.Slices.{IsCodedFor}
use Rattle.slice_desk.proofs.NameLemmas.{count_most, coded_for, all_new}
use Rattle.slice_desk.proofs.worker.SliceWorker.code.Goals as goal

pub encode-len-requires-clause-room : goal.encode-len-requires-clause-room
encode-len-requires-clause-room g c =
    let fields = view c.self.inside.encoder.coding.config in
    let most = count_most (size_of fields) fields.log2 c.args.job.index c.slice_name-name.result c.slice_name-name.ensures.named in
    let same : 2 ^ fields.log2 ≡ 2 ^ g.P.DeskName.config.log2 = ap (λ (f : Fields). 2 ^ f.log2) (c.self.view_is ∙ c.requires.named) in
    omega (arith, most, same, c.requires.room.size, c.bytes_mut.ensures.size)

pub invariant_of-result : goal.invariant_of-result
invariant_of-result g c =
    let job = c.args.job in let fields = view c.self.inside.encoder.coding.config in let name = c.slice_name-name.result in let out = c.encode-len.new.out in let len = c.encode-len.result in
    let same : length out ≡ length job.slot.bytes = c.encode-len.auto.out ∙ ap (λ (l : List ℕ). length l) c.bytes_mut.ensures.bytes in
    let now : refill (length job.slot.bytes) job.slot.bytes out ≡ out = all_new job.slot.bytes out same in
    let coded = coded_for g.N.Feed.bytes g.P.DeskName.config fields job.frame job.index name job.samples (take len out) (c.self.view_is ∙ c.requires.named) c.ranges-3.ensures job.own c.slice_name-name.ensures.named c.encode-len.ensures.coded in
    let most = count_most (size_of fields) fields.log2 job.index name c.slice_name-name.ensures.named in
    let desired : 2 ^ fields.log2 ≡ 2 ^ g.P.DeskName.config.log2 = ap (λ (f : Fields). 2 ^ f.log2) (c.self.view_is ∙ c.requires.named) in
    let long : length (refill (length job.slot.bytes) job.slot.bytes out) ≡ length job.slot.bytes = ap (λ (l : List ℕ). length l) now ∙ same in
    let Named : Fields → Type 0 = λ f. IsFrameSlice (size_of f) f.log2 job.index name in
    let here : Named g.P.DeskName.config = subst Named (c.self.view_is ∙ c.requires.named) c.slice_name-name.ensures.named in
    record {
      short = omega (arith, c.encode-len.ensures.most, here.count);
      within = omega (arith, c.encode-len.ensures.most, most, desired, long, c.requires.room.size, c.bytes_mut.ensures.size, ap (λ (l : List ℕ). length l) c.bytes_mut.ensures.bytes);
      coded = subst (λ l. IsCodedFor g.N.Feed.bytes g.P.DeskName.config job.frame job.index (take len l)) (sym now) coded;
    }
