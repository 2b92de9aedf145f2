use Rattle.std.proofs.Common.{rules, ◌≡◌, ◌<◌, ◌*◌, ◌-◌, ◌^◌, ℕ, length, ap₂, arith}
use Rattle.mxf_take_file.specs.Extents.{body_count}
use Rattle.mxf_take_file.specs.laws.Counts.{count_some, last_within, last_of_none}
use Rattle.mxf_take_file.proofs.packs.last_first.Goals as goal

pub returns-then-is_empty-clause-first : goal.returns-then-is_empty-clause-first
returns-then-is_empty-clause-first c = last_of_none c.args.cfg.now.part (length c.args.places.now) c.requires.range.part.least (search rules)

pub overflow_sub-result : goal.overflow_sub-result
overflow_sub-result c =
    let some : 0 < length c.args.places.now = search rules in
    omega (arith, count_some c.args.cfg.now.part (length c.args.places.now) c.requires.range.part.least some)

pub overflow_mul-result : goal.overflow_mul-result
overflow_mul-result c =
    let times : (c.body_count.result - 1) * c.from.result ≡ (body_count c.args.cfg.now.part (length c.args.places.now) - 1) * c.args.cfg.now.part =
    ap₂ (λ (n k : ℕ). (n - 1) * k) c.body_count.ensures.count c.from.ensures in
    let within = last_within c.args.cfg.now.part (length c.args.places.now) c.requires.range.part.least in
    let few : length c.args.places.now < 2 ^ 63 = search rules in
    omega arith

pub returns-clause-within : goal.returns-clause-within
returns-clause-within c =
    let times : (c.body_count.result - 1) * c.from.result ≡ (body_count c.args.cfg.now.part (length c.args.places.now) - 1) * c.args.cfg.now.part =
    ap₂ (λ (n k : ℕ). (n - 1) * k) c.body_count.ensures.count c.from.ensures in
    omega (arith, last_within c.args.cfg.now.part (length c.args.places.now) c.requires.range.part.least)
