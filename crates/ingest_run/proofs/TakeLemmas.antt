-- The answer where a command over a take ends before it has written all.
use Rattle.std.proofs.Common.{◌≡◌, ◌≢◌, ℕ, Err, refl, arith}
use Rattle.frame_codec.specs.declared.fault.DecodeFault.{DecodeFault}
use Rattle.frame_codec.specs.declared.fault.DecodeFault.TheVariants.{Memory, Frame, OneMatrix, Slice}
use Rattle.frame_syntax.specs.declared.fault.FrameFault.{FrameFault}
use Rattle.frame_syntax.specs.declared.fault.FrameFault.TheVariants.{FrameShort, NotIcpf, SizeWord, HeadSize, Version, Chroma, Interlace, Dimensions, Alpha, PictureSize, SliceTable}
use Rattle.take_commands.specs.Answers.{decode_answer, frame_answer, take_answer}
use Rattle.take_commands.specs.declared.fault.TakeFault.{TakeFault}
use Rattle.take_commands.specs.declared.fault.TakeFault.TheVariants.{Memory as NoMemory, Disk, Sink, NotOp1a, Past, Refused, NoTake, Damaged}

-- its code is 8 where the bytes are no frame
frame_code : (fault : FrameFault) → (frame_answer fault).code ≡ 8
frame_code (FrameShort at other) = refl
frame_code (NotIcpf at other) = refl
frame_code (SizeWord at other) = refl
frame_code (HeadSize at other) = refl
frame_code (Version at other) = refl
frame_code (Chroma at other) = refl
frame_code (Interlace at other) = refl
frame_code (Dimensions at other) = refl
frame_code (Alpha at other) = refl
frame_code (PictureSize at other) = refl
frame_code (SliceTable at other) = refl

-- it isn't 0 where a frame isn't decoded
decode_code : (number : ℕ) (fault : DecodeFault) → (decode_answer number fault).code ≢ 0
decode_code number Memory e = omega arith
decode_code number (Frame fault) e = let eight = frame_code fault in omega arith
decode_code number (OneMatrix at) e = omega arith
decode_code number (Slice index fault) e = omega arith

-- nor where such a command ends so
pub take_code : (fault : TakeFault) → (take_answer (Err fault)).code ≢ 0
take_code NoMemory e = omega arith
take_code (Disk count) e = omega arith
take_code (Sink count) e = omega arith
take_code (NotOp1a clause at) e = omega arith
take_code (Past count number) e = omega arith
take_code (Refused number fault) e = decode_code number fault e
take_code (NoTake at area) e = omega arith
take_code (Damaged at area) e = omega arith
