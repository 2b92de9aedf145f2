-- The answer that each end of a run gives (own). docs/FORMATS.md, "Statuses" and "Refusals".
use Rattle.std.specs.Prelude.{ℕ, Result, Ok, Err}
use Rattle.rec_bytes.specs.declared.status.Status.{Status}
use Rattle.raw_feed.specs.declared.fault.FeedFault.{FeedFault}
use Rattle.raw_feed.specs.declared.fault.FeedFault.TheVariants.{Memory, FeedHead, Marker, FeedCut, SourceFault, TooLong, Sample, UnitLong}
use Rattle.raw_feed.specs.Items.{Ending, Clean, Full, Broken}
use Rattle.frame_syntax.specs.declared.fault.FrameFault.TheVariants.{FrameShort, NotIcpf, SizeWord, HeadSize, Version, Chroma, Interlace}
use Rattle.frame_syntax.specs.declared.fault.FrameFault.TheVariants.{Dimensions, Alpha, PictureSize, SliceTable}
use Rattle.run_parts.specs.declared.unit.UnitFault.{UnitFault}
use Rattle.run_parts.specs.declared.unit.UnitFault.TheVariants.{Frame, Differs}
use Rattle.run_parts.specs.declared.end.CommandEnd.{CommandEnd}
use Rattle.run_parts.specs.declared.end.CommandEnd.TheVariants.{Read, Refused}
use Rattle.run_parts.specs.declared.end.FeedEnd.{FeedEnd}
use Rattle.run_parts.specs.declared.end.FeedEnd.TheVariants.{Clean as EndClean, Full as EndFull, Broken as EndBroken}
use Rattle.run_parts.specs.declared.end.PutFault.{PutFault}
use Rattle.run_parts.specs.declared.end.PutFault.TheVariants.{Memory as NoMemory, Sink}

-- an answer with its numbers
abbrev pub answer : ℕ → ℕ → ℕ → ℕ → Status
answer code number at other = record { code = code; number = number; at = at; other = other }

-- the feed can't be read on
abbrev pub feed_answer : FeedFault → Status
feed_answer Memory = answer 1 1 0 0
feed_answer (FeedHead at) = answer 3 110 at 0
feed_answer (Marker at) = answer 3 111 at 0
feed_answer (FeedCut at) = answer 3 112 at 0
feed_answer (SourceFault count) = answer 5 113 count 0
feed_answer (TooLong at) = answer 3 114 at 0
feed_answer (Sample at) = answer 3 115 at 0
feed_answer (UnitLong at) = answer 3 116 at 0

-- the feed was read to its end, behind so many items
abbrev pub ending_answer : ℕ → Ending → Status
ending_answer items Clean = answer 0 0 0 0
ending_answer items Full = answer 10 95 items 0
ending_answer items (Broken fault) = feed_answer fault

-- memory was wanted
abbrev pub memory_answer : Status
memory_answer = answer 1 1 0 0

-- the words are no command
abbrev pub words_answer : Status
words_answer = answer 2 0 0 0

-- the sink failed, and has failed so often
abbrev pub sink_answer : ℕ → Status
sink_answer count = answer 7 117 count 0

-- the feed ended so for a command that wrote all
abbrev pub feed_end_answer : FeedEnd → Status
feed_end_answer EndClean = answer 0 0 0 0
feed_end_answer (EndFull items) = answer 10 95 items 0
feed_end_answer (EndBroken fault) = feed_answer fault

-- the unit of this number is refused
abbrev pub unit_answer : ℕ → UnitFault → Status
unit_answer unit (Frame (FrameShort at other)) = answer 8 30 at unit
unit_answer unit (Frame (NotIcpf at other)) = answer 8 31 at unit
unit_answer unit (Frame (SizeWord at other)) = answer 8 32 at unit
unit_answer unit (Frame (HeadSize at other)) = answer 8 33 at unit
unit_answer unit (Frame (Version at other)) = answer 8 34 at unit
unit_answer unit (Frame (Chroma at other)) = answer 8 35 at unit
unit_answer unit (Frame (Interlace at other)) = answer 8 36 at unit
unit_answer unit (Frame (Dimensions at other)) = answer 8 37 at unit
unit_answer unit (Frame (Alpha at other)) = answer 8 38 at unit
unit_answer unit (Frame (PictureSize at other)) = answer 8 40 at unit
unit_answer unit (Frame (SliceTable at other)) = answer 8 41 at unit
unit_answer unit (Differs at) = answer 8 42 at unit

-- the feed was read to its end, or up to a unit that is refused
abbrev pub command_end_answer : CommandEnd → Status
command_end_answer (Read end) = feed_end_answer end
command_end_answer (Refused unit fault) = unit_answer unit fault

-- a command wrote all behind its feed's end, or ended before, and its sink has failed so often
abbrev pub end_answer : ℕ → Result CommandEnd PutFault → Status
end_answer count (Ok end) = command_end_answer end
end_answer count (Err NoMemory) = memory_answer
end_answer count (Err Sink) = sink_answer count
