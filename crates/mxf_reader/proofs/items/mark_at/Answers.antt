use Rattle.std.proofs.Common.{◌≡◌, ◌+◌, ◌-◌, ℕ, List, length, take, drop, sym, ◌∙◌, arith}
use Rattle.std.proofs.lemmas.List.{length-drop}
use Rattle.take_disk.specs.laws.TimeLaws.{elapsed_more}
use Rattle.mxf_reader.proofs.StandLemmas.{front_key, front_whole}
use Rattle.take_disk.specs.declared.area.Area.TheVariants.{Essence}
use Rattle.mxf_reader.proofs.items.mark_at.Goals as goal

pub returns-in_err-mark-in-Ok-clause-time : goal.returns-in_err-mark-in-Ok-clause-time
returns-in_err-mark-in-Ok-clause-time g c = elapsed_more _ _ _ _ _ _ _ _ _ c.in_ok-count.ensures.time c.mark_by.ensures.time

pub returns-in-Err-clause-found : goal.returns-in-Err-clause-found
returns-in-Err-clause-found g c =
    λ told is.
    let bytes : List ℕ = told.essence.reads in
    let len = c.len.ensures in
    let size = g.met.D.TakeDisk.long c.args.disk.now told Essence is in
    let left : c.len.result - c.args.at ≡ length (drop c.args.at bytes) = omega (arith, length-drop c.args.at bytes, size) in
    let n = c.in_ok-count.ensures.count in
    let front : take c.in_ok-count.count c.read_front.new.front ≡ take 25 (drop c.args.at bytes) =
    front_whole (drop c.args.at bytes) c.read_front.new.front c.in_ok-count.count (c.len.result - c.args.at) left (omega arith)
    (c.in_ok-count.ensures.read told is) in
    c.refusals_are_exact.ensures.none bytes c.args.at c.in-Err.field-0 (c.in-Err.ensures.refused bytes (record { front_is = front; left_is = left }))

pub returns-in_ok-mark-in-Ok-clause-found : goal.returns-in_ok-mark-in-Ok-clause-found
returns-in_ok-mark-in-Ok-clause-found g c =
    λ told is.
    let bytes : List ℕ = told.essence.reads in
    let len = c.len.ensures in
    let size = g.met.D.TakeDisk.long c.args.disk.now told Essence is in
    let left : c.len.result - c.args.at ≡ length (drop c.args.at bytes) = omega (arith, length-drop c.args.at bytes, size) in
    let n = c.in_ok-count.ensures.count in
    let front : take c.in_ok-count.count c.read_front.new.front ≡ take 25 (drop c.args.at bytes) =
    front_whole (drop c.args.at bytes) c.read_front.new.front c.in_ok-count.count (c.len.result - c.args.at) left (omega arith)
    (c.in_ok-count.ensures.read told is) in
    let head = c.in-Ok.ensures.head bytes (record { front_is = front; left_is = left }) in
    let some = c.in-Ok.ensures.some in
    let within = c.in-Ok.ensures.within in
    let key : head.item.key ≡ c.key_of.result =
    sym {b = head.item.key}
    (c.key_of.ensures ∙ front_key bytes c.read_front.new.front c.args.at c.in_ok-count.count head.item head.stands (omega arith) front) in
    let head_is = head.head_len in
    let value_at : c.args.at + c.in-Ok.head.head_len ≡ c.args.at + (17 + head.item.form) = omega arith in
    record {
      item = head.item;
      stands = head.stands;
      is = c.in_ok-mark-in-Ok.ensures.mark told (c.in_ok-count.ensures.stays.same ∙ is) head.item head.stands key value_at head.value_len;
    }

pub returns-in_ok-mark-in-Ok-clause-time : goal.returns-in_ok-mark-in-Ok-clause-time
returns-in_ok-mark-in-Ok-clause-time g c = elapsed_more _ _ _ _ _ _ _ _ _ c.in_ok-count.ensures.time c.mark_by.ensures.time
