-- At most one unit stands behind the same units.
use Rattle.std.proofs.Common.{◌≡◌, ℕ, ◌≤◌, List, [], ◌∷◌, ◌++◌, length, take, drop, refl, sym, subst, ap, ◌∙◌, arith, append_assoc}
use Rattle.std.specs.List.{All}
use Rattle.std.proofs.lemmas.List.{append_cancel_left, take_at, get_or_push, length_push}
use Rattle.byteorder.specs.Endian.{big_bytes, big_number}
use Rattle.byteorder.specs.Numbers.{big_number-reads_back}
use Rattle.rec_bytes.specs.Configuration.{Fields}
use Rattle.klv.specs.Items.{klv_head, length_bytes}
use Rattle.mxf_names.specs.declared.keys.TheConstants.{PICTURE_ELEMENT_KEY}
use Rattle.take_layout.specs.Takes.{AreUnits}
use Rattle.mxf_take_file.specs.Extents.{extents}
use Rattle.mxf_take_file.specs.Layout.{is_unit, lead, lead_of, start_of}
use Rattle.mxf_take_file.specs.declared.picture_layout.TheConstants.{MAX_UNIT}

-- the last of units is short where all are
pub last_small : (units : List (List ℕ)) (unit : List ℕ) → All (λ (u : List ℕ). length u ≤ MAX_UNIT) (units ++ unit ∷ []) → length unit ≤ MAX_UNIT
last_small units unit each =
    subst (λ (u : List ℕ). length u ≤ MAX_UNIT) (get_or_push units unit [] (length units) refl) (each (length units) [] (omega (arith, length_push units unit)))

-- an element's key and length tell the length, whatever follows
same_element : (n m : ℕ) (x y : List ℕ) → n ≤ MAX_UNIT → m ≤ MAX_UNIT → klv_head PICTURE_ELEMENT_KEY 7 n ++ x ≡ klv_head PICTURE_ELEMENT_KEY 7 m ++ y
    → (n ≡ m) × (x ≡ y)
unfolding length_bytes
same_element n m x y a b e =
    let digits : big_bytes 7 n ++ x ≡ big_bytes 7 m ++ y = ap (drop 17) e in
    (sym (big_number-reads_back 7 n x (omega arith)) ∙ ap (big_number 7) digits ∙ big_number-reads_back 7 m y (omega arith), ap (drop 24) e)

-- so bytes begin with the lead and the bytes of one unit at most
pub one_next : (cfg : Fields) (units : List (List ℕ)) (unit other rest other_rest : List ℕ)
    → AreUnits (is_unit cfg) cfg.max_frames (units ++ unit ∷ []) → AreUnits (is_unit cfg) cfg.max_frames (units ++ other ∷ [])
    → lead cfg units (length unit) ++ (unit ++ rest) ≡ lead cfg units (length other) ++ (other ++ other_rest) → unit ≡ other
unfolding lead_of
one_next cfg units unit other rest other_rest are are_other e =
    let start : List ℕ = start_of cfg (extents cfg.part units) in
    let parts : start ++ (klv_head PICTURE_ELEMENT_KEY 7 (length unit) ++ (unit ++ rest))
    ≡ start ++ (klv_head PICTURE_ELEMENT_KEY 7 (length other) ++ (other ++ other_rest)) =
    sym (append_assoc start (klv_head PICTURE_ELEMENT_KEY 7 (length unit)) (unit ++ rest)) ∙ e
    ∙ append_assoc start (klv_head PICTURE_ELEMENT_KEY 7 (length other)) (other ++ other_rest) in
    let same = same_element (length unit) (length other) (unit ++ rest) (other ++ other_rest)
    (last_small units unit are.each) (last_small units other are_other.each)
    (append_cancel_left start _ _ parts) in
    sym (take_at unit rest (length unit) refl) ∙ ap (λ (xs : List ℕ). take (length unit) xs) same.1 ∙ take_at other other_rest (length unit) (sym same.0)
