-- The fields of a configuration that has a spelling are in their ranges.
use Rattle.std.proofs.Common.{◌≡◌, ℕ, ◌-◌, ◌<◌, ◌^◌, ◌%◌, Bool, true, false, None, List, [], ◌∷◌, ◌++◌, length, drop, replicate, min, refl, sym, ap, ◌∙◌, arith}
use Rattle.std.proofs.lemmas.List.{length-drop, length-take}
use Rattle.std.proofs.Math.Nat.{mod-lt}
use Rattle.std.specs.List.{list_all}
use Rattle.byteorder.specs.Endian.{big_number}
use Rattle.byteorder.specs.Numbers.{big_from-bytes}
use Rattle.rec_bytes.specs.Configuration.{Fields, Spells, spelling, fields_of, field_rules, zero_rules, first_broken, first_fault, is_config}
use Rattle.rec_bytes.specs.Ranges.{IsInRange}
use Rattle.rec_bytes.specs.laws.Spellings.{all_kept, spelling_long}
use Rattle.rec_bytes.proofs.RangeLemmas.{in_range}

-- of rules of which none is broken, none of the first ones is
none_before : (rules more : List (ℕ × Bool)) → first_broken (rules ++ more) ≡ None → first_broken rules ≡ None
unfolding first_broken
none_before [] more e = refl
none_before ((place, true) ∷ rules) more e = none_before rules more e
none_before ((place, false) ∷ rules) more e = absurd (cc)

-- so the rules of the fields are kept
kept : (cfg : Fields) → Spells (spelling cfg) cfg → is_config cfg ≡ true
unfolding is_config first_fault
kept cfg s =
    let none : first_broken (field_rules (fields_of (spelling cfg))) ≡ None =
    none_before (field_rules (fields_of (spelling cfg))) (zero_rules (spelling cfg)) s.kept in
    let all : list_all (λ (rule : ℕ × Bool). rule.1) (field_rules (fields_of (spelling cfg))) ≡ true = all_kept (field_rules (fields_of (spelling cfg))) none in
    ap (λ (f : Fields). list_all (λ (rule : ℕ × Bool). rule.1) (field_rules f)) (sym s.stand) ∙ all

-- the first timecode is a number of four bytes
start_fits : (cfg : Fields) → Spells (spelling cfg) cfg → cfg.start < 2 ^ 32
unfolding fields_of spelling
start_fits cfg s =
    let stands : cfg.start ≡ big_number 4 (drop 28 (spelling cfg)) = ap (λ (f : Fields). f.start) (sym s.stand) in
    let read : big_number 4 (drop 28 (spelling cfg)) ≡ cfg.start % 256 ^ 4 = big_from-bytes 4 cfg.start ((cfg.take_id ++ cfg.encoder) ++ replicate 12 0) in
    omega (arith, stands, read, mod-lt cfg.start {m = 256 ^ 4} (omega arith))

-- a configuration that has a spelling is in its ranges
pub ranged : (cfg : Fields) → Spells (spelling cfg) cfg → IsInRange cfg
unfolding fields_of
ranged cfg s =
    let bytes : List ℕ = spelling cfg in
    let long : length bytes ≡ 64 = spelling_long bytes cfg s in
    let id : length cfg.take_id ≡ min 16 (length bytes - 32) =
    ap (λ (f : Fields). length f.take_id) (sym s.stand) ∙ length-take 16 (drop 32 bytes) ∙ ap (min 16) (length-drop 32 bytes) in
    let encoder : length cfg.encoder ≡ min 4 (length bytes - 48) =
    ap (λ (f : Fields). length f.encoder) (sym s.stand) ∙ length-take 4 (drop 48 bytes) ∙ ap (min 4) (length-drop 48 bytes) in
    in_range cfg (kept cfg s) (start_fits cfg s) (omega (arith, id, long)) (omega (arith, encoder, long))
