-- Laws of what a frame means.
use Rattle.std.proofs.Common.{◌≡◌, ◌≢◌, ◌<◌, ℕ, List, refl, sym, subst, ◌∙◌}
use Rattle.picture_plane.specs.Pictures.{Planes}
use Rattle.picture_plane.specs.Blocks.{Shows}
use Rattle.picture_plane.specs.Slices.{Size, IsSlice, picture_count}
use Rattle.picture_plane.specs.declared.slice_names.SliceName.{SliceName}
use Rattle.picture_plane.specs.laws.WholeLaws.{one_picture}
use Rattle.slice_codec.specs.Faults.{Refuses as RefusesSlice}
use Rattle.slice_codec.specs.declared.fault.SliceFault.{SliceFault}
use Rattle.slice_codec.specs.laws.SliceLaws.{refused_slices_mean_nothing, slices_mean_one}
use Rattle.frame_syntax.specs.Headers.{size_of}
use Rattle.frame_syntax.specs.Frames.{IsFrame}
use Rattle.frame_syntax.specs.declared.frame.FrameParts.{FrameParts}
use Rattle.frame_syntax.specs.laws.FrameLaws.{frame_not_refused}
use Rattle.frame_codec.specs.Frames.{HasMeaning, IsNamed, IsShown, MeansFrame, log2_of, number_of, setup_of, slice_at}
use Rattle.frame_codec.specs.Faults.{IsFirstRefused, LoadsOne, Refuses}
use Rattle.frame_codec.specs.declared.fault.DecodeFault.{DecodeFault}
use Rattle.frame_codec.specs.declared.fault.DecodeFault.TheVariants.{Memory, Frame, OneMatrix, Slice}

-- bytes are a frame of one list of parts
one_parts : (bytes : List ℕ) (a b : FrameParts) → IsFrame bytes a → IsFrame bytes b → a ≡ b
one_parts bytes a b is_a is_b = sym is_a.stand ∙ is_b.stand

-- a frame that loads one matrix alone means nothing
one_matrix : (bytes : List ℕ) (picture : Planes) → LoadsOne bytes → MeansFrame bytes picture → ⊥
one_matrix bytes picture loads means =
    let same = one_parts bytes means.parts loads.parts means.frame loads.frame in
    loads.one (subst (λ (p : FrameParts). p.head.load_luma ≡ p.head.load_chroma) same means.matrices)

-- nor does one with a slice that is refused
refused_slice : (bytes : List ℕ) (index : ℕ) (fault : SliceFault) (picture : Planes) → IsFirstRefused bytes index fault → MeansFrame bytes picture → ⊥
refused_slice bytes index fault picture first means =
    let same = one_parts bytes first.parts means.parts first.frame means.frame in
    let named : IsNamed means.parts first.picture first.n first.name = subst (λ (p : FrameParts). IsNamed p first.picture first.n first.name) same first.named in
    let shown = means.slices first.picture first.n first.name named in
    let meaning : HasMeaning bytes first.parts first.picture first.n first.name =
    subst (λ (p : FrameParts). HasMeaning bytes p first.picture first.n first.name) (sym same) shown.meaning in
    let refused = subst (λ (k : ℕ). RefusesSlice (setup_of first.parts.head) first.name.count (slice_at bytes first.parts k) fault) first.numbered first.refused in
    refused_slices_mean_nothing (setup_of first.parts.head) first.name.count (slice_at bytes first.parts (number_of first.parts first.picture first.n)) fault meaning.samples refused meaning.means

-- bytes that are refused mean no picture
pub refused_frames_mean_nothing : (bytes : List ℕ) (fault : DecodeFault) (picture : Planes) → fault ≢ Memory → Refuses bytes fault → MeansFrame bytes picture → ⊥
refused_frames_mean_nothing bytes Memory picture other refuses means = absurd (other refl)
refused_frames_mean_nothing bytes (Frame fault) picture other refuses means = frame_not_refused bytes means.parts fault means.frame refuses
refused_frames_mean_nothing bytes (OneMatrix at) picture other refuses means = one_matrix bytes picture refuses.1 means
refused_frames_mean_nothing bytes (Slice index fault) picture other refuses means = refused_slice bytes index fault picture refuses means

-- so of bytes that mean a picture only want of memory is a fault
pub memory_alone : (bytes : List ℕ) (fault : DecodeFault) (picture : Planes) → Refuses bytes fault → MeansFrame bytes picture → fault ≡ Memory
memory_alone bytes Memory picture refuses means = refl
memory_alone bytes (Frame fault) picture refuses means = absurd (frame_not_refused bytes means.parts fault means.frame refuses)
memory_alone bytes (OneMatrix at) picture refuses means = absurd (one_matrix bytes picture refuses.1 means)
memory_alone bytes (Slice index fault) picture refuses means = absurd (refused_slice bytes index fault picture refuses means)

-- two pictures show samples of a slice that are the same at each place
shown_samples : (bytes : List ℕ) (parts : FrameParts) (one two : Planes) (picture n : ℕ) (name : SliceName)
    → IsShown bytes parts one picture n name → IsShown bytes parts two picture n name → (samples : List (List ℕ)) × Shows one name samples × Shows two name samples
shown_samples bytes parts one two picture n name here there =
    let samples = here.meaning.samples in (
      samples,
      here.shown,
      λ plane block place inside. there.shown plane block place inside
          ∙ slices_mean_one (setup_of parts.head) name.count (slice_at bytes parts (number_of parts picture n)) there.meaning.samples samples there.meaning.means here.meaning.means
          plane block place inside.in_slice inside.in_block,
    )

-- bytes mean one picture
pub frames_mean_one : (bytes : List ℕ) (one two : Planes) → MeansFrame bytes one → MeansFrame bytes two → one ≡ two
frames_mean_one bytes one two first second =
    let parts = first.parts in
    let same = one_parts bytes second.parts parts second.frame first.frame in
    let sizes : two.size ≡ size_of parts.head = subst (λ (p : FrameParts). two.size ≡ size_of p.head) same second.size in
    let slices = subst (λ (p : FrameParts). (picture n : ℕ) (name : SliceName) → IsNamed p picture n name → IsShown bytes p two picture n name) same second.slices in
    one_picture (log2_of parts) one two (first.size ∙ sym sizes) first.whole second.whole (λ picture n name there named.
    let is : IsNamed parts picture n name = record {
      there = subst (λ (s : Size). picture < picture_count s) first.size there;
      named = subst (λ (s : Size). IsSlice s (log2_of parts picture) picture n name) first.size named;
    } in
    shown_samples bytes parts one two picture n name (first.slices picture n name is) (slices picture n name is))
