-- The answer where a unit is refused.
use Rattle.std.proofs.Common.{◌≡◌, ℕ, refl}
use Rattle.run_parts.specs.Statuses.{unit_answer}
use Rattle.run_parts.specs.declared.unit.UnitFault.{UnitFault}
use Rattle.run_parts.specs.declared.unit.UnitFault.TheVariants.{Frame, Differs}
use Rattle.frame_syntax.specs.declared.fault.FrameFault.TheVariants.{FrameShort, NotIcpf, SizeWord, HeadSize, Version, Chroma, Interlace, Dimensions, Alpha, PictureSize, SliceTable}

-- its code is 8
pub unit_code : (unit : ℕ) (fault : UnitFault) → (unit_answer unit fault).code ≡ 8
unit_code unit (Frame (FrameShort at other)) = refl
unit_code unit (Frame (NotIcpf at other)) = refl
unit_code unit (Frame (SizeWord at other)) = refl
unit_code unit (Frame (HeadSize at other)) = refl
unit_code unit (Frame (Version at other)) = refl
unit_code unit (Frame (Chroma at other)) = refl
unit_code unit (Frame (Interlace at other)) = refl
unit_code unit (Frame (Dimensions at other)) = refl
unit_code unit (Frame (Alpha at other)) = refl
unit_code unit (Frame (PictureSize at other)) = refl
unit_code unit (Frame (SliceTable at other)) = refl
unit_code unit (Differs at) = refl
