use Rattle.std.proofs.Common.{◌≡◌, ◌-◌, ◌∙◌, ℕ, ap, ◌≤◌, min, arith, refl, length, take, drop}
use Rattle.std.proofs.lemmas.List.{take_rest, length-drop, length-append, length-take}
use Rattle.raw_feed.proofs.Moves.{gives_from}
use Rattle.raw_feed.proofs.memory_source.MemorySourceSource.read.Goals as goal

pub returns-clause-read : goal.returns-clause-read
returns-clause-read g c =
    let bytes = c.args.self.now.bytes.now in
    let at = c.args.self.now.at in
    let n = c.min-count.result in
    let out = c.args.out.now in
    let within : at ≤ length bytes = c.args.self.now.within in
    let rest : take (length bytes - at) (drop at bytes) ≡ drop at bytes = take_rest bytes at in
    let long : length (take (length bytes - at) (drop at bytes)) ≡ length bytes - at = ap length rest ∙ length-drop at bytes in
    let least : n ≡ min (length (take (length bytes - at) (drop at bytes))) (length out) = c.min-count.ensures in
    let front : c.copy_from_slice.new.self ≡ take n (drop at bytes) = c.copy_from_slice.ensures.after ∙ ap (take n) rest in
    let same : length c.copy_from_slice.new.self ≡ n = omega (arith, ap (length {A = ℕ}) front, length-take n (drop at bytes), length-drop at bytes) in
    gives_from bytes at n c.copy_from_slice.new.self (drop n out) _ same (omega arith) front refl
    (λ none room. omega (arith, length-append c.copy_from_slice.new.self (drop n out), length-drop n out))
