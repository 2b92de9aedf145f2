-- What is said of a take's file whose catalogue is read, and of its units.
use Rattle.std.proofs.Common.{◌≡◌, ◌≢◌, ◌⊎◌, inl, inr, ℕ, List, [], length, take, Option, Some, Err, refl, sym, ap, ◌∙◌, subst, arith}
use Rattle.std.proofs.lemmas.List.{take_all}
use Rattle.std.proofs.lemmas.Slice.Zip.{AllZip-long}
use Rattle.std.specs.Prelude.{slice_get}
use Rattle.frame_codec.specs.Faults.{Refuses}
use Rattle.frame_codec.specs.Frames.{MeansFrame}
use Rattle.frame_codec.specs.declared.fault.DecodeFault.{DecodeFault}
use Rattle.frame_codec.specs.declared.fault.DecodeFault.TheVariants.{Memory as NoPicture, Frame, OneMatrix, Slice}
use Rattle.mxf_reader.specs.Calls.{HasUnitCause}
use Rattle.mxf_reader.specs.Catalogues.{BreaksBy, Contents, IsCatalogueOf, StandsAt}
use Rattle.mxf_reader.specs.declared.fault.CheckFault.{CheckFault}
use Rattle.mxf_reader.specs.declared.fault.CheckFault.TheVariants.{Memory as NoCatalogue, DiskFault as NotRead, NotOp1a as NotFile}
use Rattle.mxf_reader.specs.declared.fault.UnitFault.{UnitFault}
use Rattle.mxf_reader.specs.declared.fault.UnitFault.TheVariants.{Memory as NoUnit, DiskFault, Past as PastUnits}
use Rattle.picture_plane.specs.Pictures.{Planes}
use Rattle.raw_feed.specs.Pictures.{picture_bytes}
use Rattle.rec_bytes.specs.declared.status.Status.{Status}
use Rattle.run_parts.specs.Statuses.{answer}
use Rattle.take_disk.specs.Held.{Disk as Holds}
use Rattle.take_commands.specs.Answers.{decode_answer, past_answer, take_answer}
use Rattle.take_commands.specs.Checks.{RefusesFile}
use Rattle.take_commands.specs.Shows.{HasUnit, RefusesUnit, Shows, ShowsPicture}
use Rattle.take_commands.specs.Views.{IsCutShort}
use Rattle.take_commands.specs.declared.fault.TakeFault.{TakeFault}
use Rattle.take_commands.specs.inner.Faults.{check_fault, decode_fault, unit_fault}
use Rattle.take_commands.specs.inner.Steps.{IsToAnswer, IsToWrite, OfReads}

-- a fault under which the file isn't read is to be answered
pub answers_check : (Said : List ℕ → List ℕ → Status → Type 0) (told : Option Holds) (fault : CheckFault) (is : TakeFault) → is ≡ check_fault fault
    → ((bytes written : List ℕ) (status : Status) → RefusesFile bytes written status → Said bytes written status)
    → ((disk : Holds) → told ≡ Some disk → BreaksBy disk.essence.reads fault) → IsToAnswer Said told is
answers_check Said told fault is same said breaks =
    subst (λ (f : TakeFault). IsToAnswer Said told f) (sym same) (λ disk here. by_case disk.essence.reads fault (breaks disk here))
  where
    by_case : (bytes : List ℕ) (fault : CheckFault) → BreaksBy bytes fault → ¬ IsCutShort (take_answer (Err (check_fault fault)))
        → Said bytes [] (take_answer (Err (check_fault fault)))
    by_case bytes NoCatalogue b whole = absurd (whole (inl refl))
    by_case bytes (NotRead faults) b whole = absurd (whole (inr (inl refl)))
    by_case bytes (NotFile clause at) b whole =
        said bytes [] (take_answer (Err (check_fault (NotFile clause at))))
        (record { clause = clause; at = at; breaks = b; nothing = refl; answered = refl })

-- the unit that is read by a catalogue of the file
pub has_unit : (bytes : List ℕ) (units : List (List ℕ)) (contents : Contents) (number : ℕ) (unit : List ℕ) → IsCatalogueOf bytes units contents
    → ((of : List (List ℕ)) → IsCatalogueOf (take contents.bytes bytes) of contents → slice_get of number ≡ Some unit)
    → HasUnit number bytes (λ (is : List ℕ). is ≡ unit)
has_unit bytes units contents number unit catalogue read =
    let whole : take contents.bytes bytes ≡ bytes = take_all contents.bytes bytes (let is = catalogue.bytes_are in omega arith) in
    record {
      units = units;
      file = catalogue.file;
      unit = unit;
      is_unit = read units (subst (λ (xs : List ℕ). IsCatalogueOf xs units contents) (sym whole) catalogue);
      holds = refl;
    }

-- a unit that isn't read is to be answered
pub answers_unit : (told : Option Holds) (contents : Contents) (number before now : ℕ) (fault : UnitFault) (is : TakeFault) → is ≡ unit_fault number fault
    → ((disk : Holds) → told ≡ Some disk → (units : List (List ℕ)) × IsCatalogueOf disk.essence.reads units contents)
    → HasUnitCause {T = List ℕ} (length contents.places) number before now (Err fault) → IsToAnswer (Shows number) told is
answers_unit told contents number before now fault is same catalogue cause =
    subst (λ (f : TakeFault). IsToAnswer (Shows number) told f) (sym same)
    (λ disk here. by_case disk.essence.reads (catalogue disk here) fault cause)
  where
    by_case : (bytes : List ℕ) → ((units : List (List ℕ)) × IsCatalogueOf bytes units contents) → (fault : UnitFault)
        → HasUnitCause {T = List ℕ} (length contents.places) number before now (Err fault)
        → ¬ IsCutShort (take_answer (Err (unit_fault number fault))) → Shows number bytes [] (take_answer (Err (unit_fault number fault)))
    by_case bytes found NoUnit c whole = absurd (whole (inl refl))
    by_case bytes found (DiskFault faults) c whole = absurd (whole (inr (inl refl)))
    by_case bytes (units, of) (PastUnits count) (is_count, few, kept) whole =
        let long = AllZip-long (StandsAt bytes) contents.places units of.places in
        let count_is : count ≡ length units = omega arith in
        inl (inr (record {
          units = units;
          file = of.file;
          few = omega arith;
          nothing = refl;
          answered = ap (λ (n : ℕ). past_answer n number) count_is;
        }))

-- what holds of one unit
unit_more : (number : ℕ) (bytes unit : List ℕ) (P : List ℕ → Type 0) → HasUnit number bytes (λ (is : List ℕ). is ≡ unit) → P unit → HasUnit number bytes P
unit_more number bytes unit P has here = record {
  units = has.units;
  file = has.file;
  unit = unit;
  is_unit = has.is_unit ∙ ap Some has.holds;
  holds = here;
}

-- the picture that a unit means is to be written
pub writes_picture : (told : Option Holds) (number : ℕ) (unit : List ℕ) (picture : Planes)
    → OfReads told (λ bytes. HasUnit number bytes (λ (is : List ℕ). is ≡ unit)) → MeansFrame unit picture
    → IsToWrite (Shows number) told (picture_bytes picture)
writes_picture told number unit picture has means =
    λ disk here.
    let shown : ShowsPicture unit (picture_bytes picture) (answer 0 0 0 0) = record { picture = picture; means = means; samples = refl; answered = refl } in
    inl (inl (unit_more number disk.essence.reads unit
    (λ (of : List ℕ). ShowsPicture of (picture_bytes picture) (answer 0 0 0 0) ⊎ RefusesUnit number of (picture_bytes picture) (answer 0 0 0 0))
    (has disk here)
    (inl shown)))

-- a unit that isn't decoded is to be answered
pub answers_decode : (told : Option Holds) (number : ℕ) (unit : List ℕ) (fault : DecodeFault) (is : TakeFault) → is ≡ decode_fault number fault
    → OfReads told (λ bytes. HasUnit number bytes (λ (is : List ℕ). is ≡ unit)) → Refuses unit fault → IsToAnswer (Shows number) told is
answers_decode told number unit fault is same has refused =
    subst (λ (f : TakeFault). IsToAnswer (Shows number) told f) (sym same) (λ disk here. by_case disk.essence.reads (has disk here) fault refused)
  where
    broken : (bytes : List ℕ) (fault : DecodeFault) (status : Status) → HasUnit number bytes (λ (is : List ℕ). is ≡ unit) → fault ≢ NoPicture
        → Refuses unit fault → status ≡ decode_answer number fault → Shows number bytes [] status
    broken bytes fault status has some refused answered =
        let refuses : RefusesUnit number unit [] status = record { fault = fault; broken = some; refused = refused; nothing = refl; answered = answered } in
        inl (inl (unit_more number bytes unit (λ (of : List ℕ). ShowsPicture of [] status ⊎ RefusesUnit number of [] status) has (inr refuses)))

    by_case : (bytes : List ℕ) → HasUnit number bytes (λ (is : List ℕ). is ≡ unit) → (fault : DecodeFault) → Refuses unit fault
        → ¬ IsCutShort (take_answer (Err (decode_fault number fault))) → Shows number bytes [] (take_answer (Err (decode_fault number fault)))
    by_case bytes has NoPicture r whole = absurd (whole (inl refl))
    by_case bytes has (Frame f) r whole = broken bytes (Frame f) _ has (λ e. absurd (cc)) r refl
    by_case bytes has (OneMatrix at) r whole = broken bytes (OneMatrix at) _ has (λ e. absurd (cc)) r refl
    by_case bytes has (Slice index f) r whole = broken bytes (Slice index f) _ has (λ e. absurd (cc)) r refl
