use Rattle.std.proofs.Common.{◌≡◌, ◌≤◌, ℕ, length, subst, ◌∙◌, arith}
use Rattle.take_disk.specs.declared.area.Area.TheVariants.{Essence}
use Rattle.mxf_reader.specs.inner.Inside.{IsInside}
use Rattle.mxf_reader.proofs.FileLemmas.{is_seen}
use Rattle.mxf_reader.proofs.InsideLemmas.{inside_all}
use Rattle.mxf_reader.proofs.file.walk.Goals as goal

pub returns-in-Ok-clause-seen : goal.returns-in-Ok-clause-seen
returns-in-Ok-clause-seen g c =
    λ told is.
    let len : c.len-len.result ≡ length told.essence.reads =
    c.len-len.ensures ∙ c.in_ok-walked.ensures.stays.lengths Essence ∙ g.met.D.TakeDisk.long c.args.disk.now told Essence is in
    is_seen told.essence.reads c.in_ok-walked.walked c.len-len.result c.in-Ok.file (c.in_ok-walked.ensures.walked told is) c.in-Ok.ensures len

pub returns-in-Ok-clause-inside : goal.returns-in-Ok-clause-inside
returns-in-Ok-clause-inside g c =
    let len : c.len-len.result ≡ g.D.TakeDisk.length_of c.args.disk.now Essence = c.len-len.ensures ∙ c.in_ok-walked.ensures.stays.lengths Essence in
    let within = c.in_ok-walked.ensures.within in
    let stop : c.in_ok-walked.walked.stop ≤ c.len-len.result = omega (arith, len, within) in
    subst (λ (n : ℕ). IsInside n c.in-Ok.file) len
    (inside_all c.in_ok-walked.walked c.len-len.result c.in-Ok.file c.in-Ok.ensures c.in_ok-walked.ensures.inside stop)
