use Rattle.std.proofs.Common.{rules}
use Rattle.std.proofs.lemmas.List.Elements.{All-same, All-push}
use Rattle.slice_workers.specs.declared.jobs.Job.{Job}
use Rattle.slice_workers.specs.inner.Readers.{IsJob}
use Rattle.slice_workers.proofs.jobs.jobs_of.Goals as goal

pub jobs-preserved : goal.jobs-preserved
jobs-preserved c =
    let job : Job = record { at = c.in-Some.at; len = c.in-Some.len; count = c.in-Some-count_of.count } in
    let is : IsJob c.args.bytes.now job = search rules in
    record {
      bytes = search rules;
      jobs = All-same (IsJob c.args.bytes.now) c.push.new.self.items _ c.in_ok-push.ensures.items (All-push (IsJob c.args.bytes.now) c.jobs.jobs.items job c.jobs.invariant.jobs is);
    }
