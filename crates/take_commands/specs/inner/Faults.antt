-- Why a command ends, by why what it called failed.
use Rattle.std.specs.Prelude.{ℕ}
use Rattle.frame_codec.specs.declared.fault.DecodeFault.{DecodeFault}
use Rattle.frame_codec.specs.declared.fault.DecodeFault.TheVariants.{Memory as NoPicture, Frame, OneMatrix, Slice}
use Rattle.mxf_reader.specs.declared.fault.CheckFault.{CheckFault}
use Rattle.mxf_reader.specs.declared.fault.CheckFault.TheVariants.{Memory as NoCatalogue, DiskFault as NotRead, NotOp1a as NotFile}
use Rattle.mxf_reader.specs.declared.fault.UnitFault.{UnitFault}
use Rattle.mxf_reader.specs.declared.fault.UnitFault.TheVariants.{Memory as NoUnit, DiskFault, Past as PastUnits}
use Rattle.recovery.specs.declared.answer.RecoverFault.{RecoverFault}
use Rattle.recovery.specs.declared.answer.RecoverFault.TheVariants as recovery
use Rattle.take_commands.specs.declared.fault.TakeFault.{TakeFault}
use Rattle.take_commands.specs.declared.fault.TakeFault.TheVariants.{Memory, Disk, NotOp1a, Past, Refused, NoTake, Damaged}

-- the take's file isn't read
abbrev pub check_fault : CheckFault → TakeFault
check_fault NoCatalogue = Memory
check_fault (NotRead faults) = Disk faults
check_fault (NotFile clause at) = NotOp1a clause at

-- the unit of this number isn't read
abbrev pub unit_fault : ℕ → UnitFault → TakeFault
unit_fault number NoUnit = Memory
unit_fault number (DiskFault faults) = Disk faults
unit_fault number (PastUnits count) = Past count number

-- the unit of this number isn't decoded
abbrev pub decode_fault : ℕ → DecodeFault → TakeFault
decode_fault number NoPicture = Memory
decode_fault number (Frame fault) = Refused number (Frame fault)
decode_fault number (OneMatrix at) = Refused number (OneMatrix at)
decode_fault number (Slice index fault) = Refused number (Slice index fault)

-- the take isn't recovered
abbrev pub recover_fault : RecoverFault → TakeFault
recover_fault recovery.Memory = Memory
recover_fault (recovery.NoTake at other) = NoTake at other
recover_fault (recovery.Damaged at other) = Damaged at other
recover_fault (recovery.DiskFault at) = Disk at
