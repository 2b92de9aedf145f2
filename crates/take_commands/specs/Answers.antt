-- The answers of the commands over a take (own). docs/FORMATS.md, "Statuses" and "Refusals".
use Rattle.std.specs.Prelude.{ℕ, Result, Ok, Err}
use Rattle.rec_bytes.specs.declared.status.Status.{Status}
use Rattle.frame_codec.specs.declared.fault.DecodeFault.{DecodeFault}
use Rattle.frame_codec.specs.declared.fault.DecodeFault.TheVariants.{Memory, Frame, OneMatrix, Slice}
use Rattle.frame_syntax.specs.declared.fault.FrameFault.{FrameFault}
use Rattle.frame_syntax.specs.declared.fault.FrameFault.TheVariants.{FrameShort, NotIcpf, SizeWord, HeadSize, Version, Chroma, Interlace}
use Rattle.frame_syntax.specs.declared.fault.FrameFault.TheVariants.{Dimensions, Alpha, PictureSize, SliceTable}
use Rattle.recovery.specs.declared.answer.RecoverFault.{RecoverFault}
use Rattle.recovery.specs.declared.answer.RecoverFault.TheVariants as recovery
use Rattle.run_parts.specs.Statuses.{answer, memory_answer, sink_answer}
use Rattle.slice_codec.specs.declared.fault.SliceFault.{SliceFault}
use Rattle.slice_codec.specs.declared.fault.SliceFault.TheVariants.{SliceShort, SliceHeader, Index, Parts, BitsEnd, TooLong, RunPast, CoefficientRange}
use Rattle.take_commands.specs.declared.fault.TakeFault.{TakeFault}
use Rattle.take_commands.specs.declared.fault.TakeFault.TheVariants.{Memory as NoMemory, Disk, Sink, NotOp1a, Past, Refused, NoTake, Damaged}

-- the disk failed, and has failed so often
abbrev pub disk_answer : ℕ → Status
disk_answer count = answer 6 83 count 0

-- the file breaks this clause first, at this place
abbrev pub clause_answer : ℕ → ℕ → Status
clause_answer clause at = answer 8 73 at clause

-- there are so many frames, and this one was asked for
abbrev pub past_answer : ℕ → ℕ → Status
past_answer count number = answer 8 93 count number

-- the area of this number is no part of a take, at this place
abbrev pub no_take_answer : ℕ → ℕ → Status
no_take_answer at area = answer 8 80 at area

-- the area of this number is damaged, at this place
abbrev pub damaged_answer : ℕ → ℕ → Status
damaged_answer at area = answer 8 81 at area

-- why a take isn't recovered
abbrev pub recover_answer : RecoverFault → Status
recover_answer recovery.Memory = memory_answer
recover_answer (recovery.NoTake at other) = no_take_answer at other
recover_answer (recovery.Damaged at other) = damaged_answer at other
recover_answer (recovery.DiskFault at) = disk_answer at

-- the refusal of a slice
abbrev pub slice_number : SliceFault → ℕ
slice_number (SliceShort at) = 20
slice_number (SliceHeader at) = 21
slice_number (Index at) = 22
slice_number (Parts at) = 23
slice_number (BitsEnd part at) = 11
slice_number (TooLong part at) = 12
slice_number (RunPast part at) = 24
slice_number (CoefficientRange block place) = 25

-- the bytes are no frame
abbrev pub frame_answer : FrameFault → Status
frame_answer (FrameShort at other) = answer 8 30 at other
frame_answer (NotIcpf at other) = answer 8 31 at other
frame_answer (SizeWord at other) = answer 8 32 at other
frame_answer (HeadSize at other) = answer 8 33 at other
frame_answer (Version at other) = answer 8 34 at other
frame_answer (Chroma at other) = answer 8 35 at other
frame_answer (Interlace at other) = answer 8 36 at other
frame_answer (Dimensions at other) = answer 8 37 at other
frame_answer (Alpha at other) = answer 8 38 at other
frame_answer (PictureSize at other) = answer 8 40 at other
frame_answer (SliceTable at other) = answer 8 41 at other

-- the frame of this number isn't decoded
abbrev pub decode_answer : ℕ → DecodeFault → Status
decode_answer number Memory = memory_answer
decode_answer number (Frame fault) = frame_answer fault
decode_answer number (OneMatrix at) = answer 8 39 at 0
decode_answer number (Slice index fault) = answer 8 (slice_number fault) index number

-- all was done, or the command ended before
abbrev pub take_answer : Result (Unit {0}) TakeFault → Status
take_answer (Ok done) = answer 0 0 0 0
take_answer (Err NoMemory) = memory_answer
take_answer (Err (Disk count)) = disk_answer count
take_answer (Err (Sink count)) = sink_answer count
take_answer (Err (NotOp1a clause at)) = clause_answer clause at
take_answer (Err (Past count number)) = past_answer count number
take_answer (Err (Refused number fault)) = decode_answer number fault
take_answer (Err (NoTake at area)) = no_take_answer at area
take_answer (Err (Damaged at area)) = damaged_answer at area
