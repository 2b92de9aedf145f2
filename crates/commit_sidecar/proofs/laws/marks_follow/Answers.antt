use Rattle.commit_sidecar.specs.Notes.{last_of}
use Rattle.commit_sidecar.specs.laws.Records.{follows-said}
use Rattle.commit_sidecar.proofs.laws.marks_follow.Goals as goal

pub returns : goal.returns
returns c = λ head_len marks mark fits later. follows-said head_len (last_of marks) mark fits later
