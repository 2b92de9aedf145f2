-- What the counts of faults show of a command's answer.
use Rattle.std.proofs.Common.{◌≡◌, ◌≢◌, ⊎_elim, inl, inr, ◌⊎◌, ℕ, Result, Ok, Err, refl, sym, ap, ◌∙◌, subst, arith}
use Rattle.rec_bytes.specs.declared.status.Status.{Status}
use Rattle.frame_codec.specs.declared.fault.DecodeFault.{DecodeFault}
use Rattle.frame_codec.specs.declared.fault.DecodeFault.TheVariants.{Memory as NoPicture, Frame, OneMatrix, Slice}
use Rattle.frame_syntax.specs.declared.fault.FrameFault.TheVariants.{FrameShort, NotIcpf, SizeWord, HeadSize, Version, Chroma, Interlace}
use Rattle.frame_syntax.specs.declared.fault.FrameFault.TheVariants.{Dimensions, Alpha, PictureSize, SliceTable}
use Rattle.mxf_reader.specs.Calls.{HasCheckCause}
use Rattle.mxf_reader.specs.Catalogues.{Contents}
use Rattle.mxf_reader.specs.declared.fault.CheckFault.{CheckFault}
use Rattle.mxf_reader.specs.declared.fault.CheckFault.TheVariants.{Memory as NoCatalogue, DiskFault as NotRead, NotOp1a as NotFile}
use Rattle.run_parts.specs.Statuses.{memory_answer}
use Rattle.take_commands.specs.Answers.{decode_answer, disk_answer, take_answer}
use Rattle.take_commands.specs.Causes.{HasTakeCauses}
use Rattle.take_commands.specs.Views.{Devices}
use Rattle.take_commands.specs.declared.fault.TakeFault.{TakeFault}
use Rattle.take_commands.specs.declared.fault.TakeFault.TheVariants.{Memory, Disk, Sink, NotOp1a, Past, Refused, NoTake, Damaged}
use Rattle.take_commands.specs.inner.Faults.{check_fault, decode_fault}
use Rattle.take_commands.specs.inner.Steps.{HasSinkCause, IsDiskFault}

-- a refused unit is answered by 8, or by want of memory
decode_code : (number : ℕ) (fault : DecodeFault) → (decode_answer number fault ≡ memory_answer) ⊎ ((decode_answer number fault).code ≡ 8)
decode_code number NoPicture = inl refl
decode_code number (Frame (FrameShort at other)) = inr refl
decode_code number (Frame (NotIcpf at other)) = inr refl
decode_code number (Frame (SizeWord at other)) = inr refl
decode_code number (Frame (HeadSize at other)) = inr refl
decode_code number (Frame (Version at other)) = inr refl
decode_code number (Frame (Chroma at other)) = inr refl
decode_code number (Frame (Interlace at other)) = inr refl
decode_code number (Frame (Dimensions at other)) = inr refl
decode_code number (Frame (Alpha at other)) = inr refl
decode_code number (Frame (PictureSize at other)) = inr refl
decode_code number (Frame (SliceTable at other)) = inr refl
decode_code number (OneMatrix at) = inr refl
decode_code number (Slice index fault) = inr refl

-- the part that calls the disk doesn't answer for the sink
pub not_sink : (before now : ℕ) (fault : TakeFault) → IsDiskFault before now fault
    → (take_answer (Err fault)).code ≢ 7
not_sink before now Memory cause = λ (e : 1 ≡ 7). absurd (omega arith)
not_sink before now (Disk count) cause = λ (e : 6 ≡ 7). absurd (omega arith)
not_sink before now (Sink count) cause = absurd cause
not_sink before now (NotOp1a clause at) cause = λ (e : 8 ≡ 7). absurd (omega arith)
not_sink before now (Past count number) cause = λ (e : 8 ≡ 7). absurd (omega arith)
not_sink before now (Refused number fault) cause =
    λ e.
    ⊎_elim
    (λ (memory : decode_answer number fault ≡ memory_answer). let is : 1 ≡ 7 = sym (ap (λ (s : Status). s.code) memory) ∙ e in absurd (omega arith))
    (λ (eight : (decode_answer number fault).code ≡ 8). let is : 8 ≡ 7 = sym eight ∙ e in absurd (omega arith))
    (decode_code number fault)
not_sink before now (NoTake at area) cause = λ (e : 8 ≡ 7). absurd (omega arith)
not_sink before now (Damaged at area) cause = λ (e : 8 ≡ 7). absurd (omega arith)

-- memory was wanted
causes_memory : (before now : Devices) → now.disk ≡ before.disk → now.sink ≡ before.sink → HasTakeCauses before now memory_answer
causes_memory before now disk sink = record {
  answered = inr (inl refl);
  disk = λ (e : 1 ≡ 6). absurd (omega arith);
  disk_kept = λ other. disk;
  sink = λ (e : 1 ≡ 7). absurd (omega arith);
  sink_kept = λ other. sink;
}

-- what was read is refused
causes_refused : (before now : Devices) (status : Status) → status.code ≡ 8 → now.disk ≡ before.disk → now.sink ≡ before.sink → HasTakeCauses before now status
causes_refused before now status eight disk sink = record {
  answered = inr (inr (inl eight));
  disk = λ e. let is : 8 ≡ 6 = sym eight ∙ e in absurd (omega arith);
  disk_kept = λ other. disk;
  sink = λ e. let is : 8 ≡ 7 = sym eight ∙ e in absurd (omega arith);
  sink_kept = λ other. sink;
}

-- the part that calls the disk ended with a fault
pub causes_fault : (before now : Devices) (fault : TakeFault) → IsDiskFault before.disk now.disk fault
    → now.sink ≡ before.sink → HasTakeCauses before now (take_answer (Err fault))
causes_fault before now Memory cause sink = causes_memory before now cause sink
causes_fault before now (Disk count) cause sink = record {
  answered = inr (inr (inr (inl refl)));
  disk = λ six. (ap disk_answer cause.0, cause.1);
  disk_kept = λ other. absurd (other refl);
  sink = λ (e : 6 ≡ 7). absurd (omega arith);
  sink_kept = λ other. sink;
}
causes_fault before now (Sink count) cause sink = absurd cause
causes_fault before now (NotOp1a clause at) cause sink = causes_refused before now (take_answer (Err (NotOp1a clause at))) refl cause sink
causes_fault before now (Past count number) cause sink = causes_refused before now (take_answer (Err (Past count number))) refl cause sink
causes_fault before now (Refused number fault) cause sink =
    ⊎_elim
    (λ (memory : decode_answer number fault ≡ memory_answer).
    subst (λ (s : Status). HasTakeCauses before now s) (sym memory) (causes_memory before now cause sink))
    (λ (eight : (decode_answer number fault).code ≡ 8). causes_refused before now (decode_answer number fault) eight cause sink)
    (decode_code number fault)
causes_fault before now (NoTake at area) cause sink = causes_refused before now (take_answer (Err (NoTake at area))) refl cause sink
causes_fault before now (Damaged at area) cause sink = causes_refused before now (take_answer (Err (Damaged at area))) refl cause sink

-- the part that writes ended
pub causes_written : (before now : Devices) (r : Result (Unit {0}) TakeFault) → now.disk ≡ before.disk → HasSinkCause before.sink now.sink r
    → HasTakeCauses before now (take_answer r)
causes_written before now (Ok done) disk cause = record {
  answered = inl refl;
  disk = λ (e : 0 ≡ 6). absurd (omega arith);
  disk_kept = λ other. disk;
  sink = λ (e : 0 ≡ 7). absurd (omega arith);
  sink_kept = λ other. cause;
}
causes_written before now (Err (Sink count)) disk cause = record {
  answered = inr (inr (inr (inr refl)));
  disk = λ (e : 7 ≡ 6). absurd (omega arith);
  disk_kept = λ other. disk;
  sink = λ seven. (ap (λ (n : ℕ). take_answer (Err (Sink n))) cause.0, cause.1);
  sink_kept = λ other. absurd (other refl);
}
causes_written before now (Err Memory) disk cause = absurd cause
causes_written before now (Err (Disk count)) disk cause = absurd cause
causes_written before now (Err (NotOp1a clause at)) disk cause = absurd cause
causes_written before now (Err (Past count number)) disk cause = absurd cause
causes_written before now (Err (Refused number fault)) disk cause = absurd cause
causes_written before now (Err (NoTake at area)) disk cause = absurd cause
causes_written before now (Err (Damaged at area)) disk cause = absurd cause

-- the file wasn't read
pub check_cause : (before now : ℕ) (fault : CheckFault) (is : TakeFault) → is ≡ check_fault fault
    → HasCheckCause {T = Contents} before now (Err fault) → IsDiskFault before now is
check_cause before now fault is same cause =
    subst (λ (f : TakeFault). IsDiskFault before now f) (sym same) (by_case fault cause)
  where
    by_case : (fault : CheckFault) → HasCheckCause {T = Contents} before now (Err fault) → IsDiskFault before now (check_fault fault)
    by_case NoCatalogue c = c
    by_case (NotRead faults) c = c
    by_case (NotFile clause at) c = c

-- a unit wasn't decoded: no device failed
pub decode_cause : (number before now : ℕ) (fault : DecodeFault) (is : TakeFault) → is ≡ decode_fault number fault → now ≡ before
    → IsDiskFault before now is
decode_cause number before now fault is same kept =
    subst (λ (f : TakeFault). IsDiskFault before now f) (sym same) (by_case fault)
  where
    by_case : (fault : DecodeFault) → IsDiskFault before now (decode_fault number fault)
    by_case NoPicture = kept
    by_case (Frame f) = kept
    by_case (OneMatrix at) = kept
    by_case (Slice index f) = kept
