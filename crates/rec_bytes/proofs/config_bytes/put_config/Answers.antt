use Rattle.std.proofs.Common.{◌≡◌, ℕ, List, rules, sym, subst, arith, ◌∙◌}
use Rattle.std.proofs.lemmas.List.{take_all}
use Rattle.rec_bytes.specs.Configuration.{Fields, Spells, spelling}
use Rattle.rec_bytes.specs.Views.{view}
use Rattle.rec_bytes.proofs.Spelling.{Fits, read_back, more}
use Rattle.rec_bytes.proofs.config_bytes.put_config.Goals as goal

pub returns : goal.returns
unfolding spelling
returns c =
    let f : Fields = view c.args.cfg.now in
    let fits : Fits f = record {
      width = c.append_u16.ensures.fits;
      height = c.append_u16-2.ensures.fits;
      budget = c.append_u16-3.ensures.fits;
      part = c.append_u16-4.ensures.fits;
      max_frames = c.append_u32.ensures.fits;
      lag = c.append_u16-5.ensures.fits;
      start = c.append_u32-2.ensures.fits;
      take_id = search rules;
      encoder = search rules;
    } in
    let to_2 = c.append_u16.ensures.appended in
    let to_4 = more _ _ _ _ to_2 c.append_u16-2.ensures.appended in
    let to_5 = more _ _ _ _ to_4 c.append_u8.ensures in
    let to_6 = more _ _ _ _ to_5 c.append_u8-2.ensures in
    let to_7 = more _ _ _ _ to_6 c.append_u8-3.ensures in
    let to_8 = more _ _ _ _ to_7 c.append_u8-4.ensures in
    let to_9 = more _ _ _ _ to_8 c.append_u8-5.ensures in
    let to_10 = more _ _ _ _ to_9 c.append_u8-6.ensures in
    let to_11 = more _ _ _ _ to_10 c.append_u8-7.ensures in
    let to_12 = more _ _ _ _ to_11 c.append_u8-8.ensures in
    let to_13 = more _ _ _ _ to_12 c.append_u8-9.ensures in
    let to_14 = more _ _ _ _ to_13 c.append_u8-10.ensures in
    let to_15 = more _ _ _ _ to_14 c.append_u8-11.ensures in
    let to_16 = more _ _ _ _ to_15 c.append_u8-12.ensures in
    let to_18 = more _ _ _ _ to_16 c.append_u16-3.ensures.appended in
    let to_20 = more _ _ _ _ to_18 c.append_u16-4.ensures.appended in
    let to_24 = more _ _ _ _ to_20 c.append_u32.ensures.appended in
    let to_26 = more _ _ _ _ to_24 c.append_u16-5.ensures.appended in
    let to_28 = more _ _ _ _ to_26 c.append.ensures in
    let to_32 = more _ _ _ _ to_28 c.append_u32-2.ensures.appended in
    let to_48 = more _ _ _ _ to_32 c.append-2.ensures in
    let to_52 = more _ _ _ _ to_48 c.append-3.ensures in
    let to_64 = more _ _ _ _ to_52 c.append-4.ensures in
    let whole : c.append-4.new.out ≡ spelling f = sym (take_all 64 c.append-4.new.out (omega (arith, c.append-4.array_long))) ∙ to_64 in
    record { spelled = subst (λ (bytes : List ℕ). Spells bytes f) (sym whole) (read_back f fits c.args.cfg.now.in_range) }
