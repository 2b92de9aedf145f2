use Rattle.std.proofs.Common.{◌≡◌}
use Rattle.slice_workers.specs.inner.Readers.{AreJobs}
use Rattle.slice_workers.proofs.jobs.jobs_of.Given as goal

abbrev pub invariant-jobs : goal.invariant-jobs
invariant-jobs l = record { bytes : l.slices.bytes ≡ l.bytes; jobs : AreJobs l.bytes l.jobs.items }
