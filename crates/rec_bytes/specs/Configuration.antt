-- The configuration, 64 bytes: its fields, their rules and its one spelling (own). docs/FORMATS.md, "Configuration".
use Rattle.std.specs.Prelude.{◌≡◌, ℕ, ◌%◌, List, [], ◌∷◌, ◌++◌, Bool, nat_le, ◌==◌, ◌&&◌, ◌||◌, Option, Some, None, if◌then◌else◌, drop, take}
use Rattle.std.specs.Prelude.{slice_index, replicate}
use Rattle.std.specs.List.{list_all}
use Rattle.byteorder.specs.Endian.{big_number, big_bytes}
use Rattle.rec_bytes.specs.declared.config_fields.TheConstants.{MAX_WIDTH, MAX_HEIGHT, MAX_INTERLACE, MAX_RATE, MAX_ASPECT, MAX_LOG2, MAX_INDEX, MAX_WEIGHTS}
use Rattle.rec_bytes.specs.declared.config_fields.TheConstants.{MAX_CODING, MAX_DROP, MAX_BUDGET, MAX_PART, MAX_FRAMES, MAX_LAG}
use Rattle.rec_bytes.specs.declared.config_fields.TheConstants.{WIDTH_AT, HEIGHT_AT, INTERLACE_AT, RATE_AT, ASPECT_AT, PRIMARIES_AT, TRANSFER_AT, MATRIX_AT}
use Rattle.rec_bytes.specs.declared.config_fields.TheConstants.{LOG2_AT, QMIN_AT, QMAX_AT, WEIGHTS_AT, CODING_AT, DROP_AT, BUDGET_AT, PART_AT, MAX_FRAMES_AT}
use Rattle.rec_bytes.specs.declared.config_fields.TheConstants.{LAG_AT, ZERO_AT, START_AT, TAKE_ID_AT, ENCODER_AT, END_AT}

-- the fields, in the order of their bytes
pub record Fields : Type 0 where
  pub width : ℕ
  pub height : ℕ
  pub interlace : ℕ
  pub rate : ℕ
  pub aspect : ℕ
  pub primaries : ℕ
  pub transfer : ℕ
  pub matrix : ℕ
  pub log2 : ℕ
  pub qmin : ℕ
  pub qmax : ℕ
  pub weights : ℕ
  pub coding : ℕ
  pub drop : ℕ
  pub budget : ℕ
  pub part : ℕ
  pub max_frames : ℕ
  pub lag : ℕ
  pub start : ℕ
  pub take_id : List ℕ
  pub encoder : List ℕ

-- the fields that stand in 64 bytes
unfoldable pub fields_of : List ℕ → Fields
fields_of bytes = record {
  width = big_number 2 (drop WIDTH_AT bytes);
  height = big_number 2 (drop HEIGHT_AT bytes);
  interlace = slice_index bytes INTERLACE_AT;
  rate = slice_index bytes RATE_AT;
  aspect = slice_index bytes ASPECT_AT;
  primaries = slice_index bytes PRIMARIES_AT;
  transfer = slice_index bytes TRANSFER_AT;
  matrix = slice_index bytes MATRIX_AT;
  log2 = slice_index bytes LOG2_AT;
  qmin = slice_index bytes QMIN_AT;
  qmax = slice_index bytes QMAX_AT;
  weights = slice_index bytes WEIGHTS_AT;
  coding = slice_index bytes CODING_AT;
  drop = slice_index bytes DROP_AT;
  budget = big_number 2 (drop BUDGET_AT bytes);
  part = big_number 2 (drop PART_AT bytes);
  max_frames = big_number 4 (drop MAX_FRAMES_AT bytes);
  lag = big_number 2 (drop LAG_AT bytes);
  start = big_number 4 (drop START_AT bytes);
  take_id = take 16 (drop TAKE_ID_AT bytes);
  encoder = take 4 (drop ENCODER_AT bytes);
}

-- the one spelling of the fields
unfoldable pub spelling : Fields → List ℕ
spelling f =
    big_bytes 2 f.width ++ big_bytes 2 f.height
    ++ (f.interlace ∷ f.rate ∷ f.aspect ∷ f.primaries ∷ f.transfer ∷ f.matrix ∷ [])
    ++ (f.log2 ∷ f.qmin ∷ f.qmax ∷ f.weights ∷ f.coding ∷ f.drop ∷ [])
    ++ big_bytes 2 f.budget ++ big_bytes 2 f.part ++ big_bytes 4 f.max_frames ++ big_bytes 2 f.lag
    ++ replicate 2 0 ++ big_bytes 4 f.start ++ f.take_id ++ f.encoder ++ replicate 12 0

-- from low to high, both among them
abbrev pub within : ℕ → ℕ → ℕ → Bool
within low n high = nat_le low n && nat_le n high

-- a multiple of two
abbrev pub is_even : ℕ → Bool
is_even n = n % 2 == 0

-- each byte is 0
abbrev pub are_zero : List ℕ → Bool
are_zero bytes = list_all (λ b. b == 0) bytes

-- the rules on the picture, each at the first byte of its field
unfoldable pub picture_rules : Fields → List (ℕ × Bool)
picture_rules f =
    (WIDTH_AT, within 2 f.width MAX_WIDTH && is_even f.width)
    ∷ (HEIGHT_AT, within 1 f.height MAX_HEIGHT && (f.interlace == 0 || is_even f.height))
    ∷ (INTERLACE_AT, nat_le f.interlace MAX_INTERLACE)
    ∷ (RATE_AT, within 1 f.rate MAX_RATE)
    ∷ (ASPECT_AT, nat_le f.aspect MAX_ASPECT)
    ∷ []

-- the rules on the coding
unfoldable pub coding_rules : Fields → List (ℕ × Bool)
coding_rules f =
    (LOG2_AT, nat_le f.log2 MAX_LOG2)
    ∷ (QMIN_AT, within 1 f.qmin MAX_INDEX)
    ∷ (QMAX_AT, within f.qmin f.qmax MAX_INDEX)
    ∷ (WEIGHTS_AT, nat_le f.weights MAX_WEIGHTS)
    ∷ (CODING_AT, nat_le f.coding MAX_CODING)
    ∷ []

-- the rules on the take
unfoldable pub take_rules : Fields → List (ℕ × Bool)
take_rules f =
    (DROP_AT, nat_le f.drop MAX_DROP)
    ∷ (BUDGET_AT, within 1 f.budget MAX_BUDGET)
    ∷ (PART_AT, within 1 f.part MAX_PART)
    ∷ (MAX_FRAMES_AT, within 1 f.max_frames MAX_FRAMES)
    ∷ (LAG_AT, within 1 f.lag MAX_LAG)
    ∷ []

-- the rules on the bytes that belong to no field
unfoldable pub zero_rules : List ℕ → List (ℕ × Bool)
zero_rules bytes =
    (ZERO_AT, are_zero (take 2 (drop ZERO_AT bytes)))
    ∷ (END_AT, are_zero (take 12 (drop END_AT bytes)))
    ∷ []

-- the rules on the fields, in the order in which they are tried
unfoldable pub field_rules : Fields → List (ℕ × Bool)
field_rules f = picture_rules f ++ coding_rules f ++ take_rules f

-- the place of the first rule that is broken
unfoldable pub first_broken : List (ℕ × Bool) → Option ℕ
first_broken [] = None
first_broken (rule ∷ rules) = if rule.1 then first_broken rules else Some rule.0

-- the fields keep every rule
unfoldable pub is_config : Fields → Bool
is_config f = list_all (λ rule. rule.1) (field_rules f)

-- the first byte of the first field of 64 bytes that breaks its rule
unfoldable pub first_fault : List ℕ → Option ℕ
first_fault bytes = first_broken (field_rules (fields_of bytes) ++ zero_rules bytes)

-- the 64 bytes are the spelling of a configuration with these fields
pub record Spells (bytes : List ℕ) (fields : Fields) : Type 0 where
  pub kept : first_fault bytes ≡ None
  pub stand : fields_of bytes ≡ fields
  pub spelled : bytes ≡ spelling fields
