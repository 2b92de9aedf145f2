use Rattle.std.proofs.Common.{Bool, length, ap, sym, ◌∙◌, arith}
use Rattle.commit_sidecar.specs.Recovers.{file_of}
use Rattle.recovery.proofs.FoundLemmas.{closed_leads, closing_safe}
use Rattle.recovery.proofs.recovering.close.Goals as goal

pub overflow_add-len : goal.overflow_add-len
overflow_add-len g c =
    let l = g.L.TakeLayout in let found = c.args.found.now in
    let small = c.in-Ok.ensures.small found.mark.length (λ units lie.
    c.requires.inside.length_is units lie ∙ ap (λ (b : Bool). length (file_of l b found.file.config units)) c.requires.goes_on) in
    omega (arith, small, c.len.ensures, c.in-Ok.tail.ok)

pub returns-in-Ok-close_both-clause-recovered : goal.returns-in-Ok-close_both-clause-recovered
returns-in-Ok-close_both-clause-recovered g c =
    let l = g.L.TakeLayout in let T = g.D.TakeDisk.told in let found = c.args.found.now in let done = c.in-Ok-close_both.ensures in
    closed_leads l found.file found.gate found.mark c.lays_out.ensures c.marks_follow.ensures c.commits_say.ensures.opened
    c.as_slice.result.now c.len.result (c.len.ensures ∙ sym c.as_slice.ensures.len) c.requires.goes_on
    (λ units lie. c.as_slice.ensures.value ∙ c.in-Ok.ensures.tail units lie)
    done.fits (T c.args.disk.now) (T c.close_both.new.disk) c.requires.ready done.closed done.noted

pub returns-in-Ok-close_both-clause-safe : goal.returns-in-Ok-close_both-clause-safe
returns-in-Ok-close_both-clause-safe g c =
    let found = c.args.found.now in
    closing_safe g.L.TakeLayout found.file found.gate found.mark g.D.TakeDisk c.args.disk.now c.close_both.new.disk c.as_slice.result.now c.len.result
    (c.len.ensures ∙ sym c.as_slice.ensures.len) c.requires.goes_on (λ units lie. c.as_slice.ensures.value ∙ c.in-Ok.ensures.tail units lie)
    c.requires.ready c.close_both.ensures.safe

pub returns-clause-safe : goal.returns-clause-safe
returns-clause-safe g c =
    let found = c.args.found.now in
    closing_safe g.L.TakeLayout found.file found.gate found.mark g.D.TakeDisk c.args.disk.now c.close_both.new.disk c.as_slice.result.now c.len.result
    (c.len.ensures ∙ sym c.as_slice.ensures.len) c.requires.goes_on (λ units lie. c.as_slice.ensures.value ∙ c.in-Ok.ensures.tail units lie)
    c.requires.ready c.close_both.ensures.safe
