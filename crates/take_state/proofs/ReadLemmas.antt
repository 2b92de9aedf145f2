-- Where a published frame lies, and a take whose disk was only read.
use Rattle.std.proofs.Common.{◌≡◌, ℕ, ◌+◌, ◌-◌, ◌≤◌, ◌<◌, List, [], ◌++◌, length, map, take, drop, get_or, slice_get, Option, Some, None, refl, sym, ap, subst, ◌∙◌, arith, length-append, option_map}
use Rattle.std.proofs.lemmas.List.{length-take, length-drop, get_or-take}
use Rattle.std.proofs.lemmas.Option.{slice_get-get_or, slice_get-map}
use Rattle.rec_bytes.specs.Configuration.{Fields}
use Rattle.take_core.specs.declared.numbers.TheConstants.{MAX_UNIT}
use Rattle.take_disk.specs.Calls.{IfTold, Stays}
use Rattle.take_disk.specs.Held.{Disk}
use Rattle.take_disk.specs.declared.area.Area.{Area}
use Rattle.take_disk.specs.declared.area.Area.TheVariants.{Essence, Commits}
use Rattle.take_disk.specs.declared.disk.TakeDisk.{Ghosts}
use Rattle.take_disk.specs.declared.ticket.Ticket.{Ticket}
use Rattle.take_layout.specs.declared.layout.TakeLayout.{Ghosts as LayoutGhosts}
use Rattle.take_layout.specs.declared.place.Place.{Place}
use Rattle.commit_phases.specs.laws.Told.{changes, same_told, two}
use Rattle.take_state.specs.Stands.{AreFirst, Begins, IsTakeOf, IsOwn, Grows, Ended}
use Rattle.take_state.specs.Seen.{lengths_in}
use Rattle.take_state.specs.inner.Keeping.{TakeParts, KeepsTake, seen_of}

abbrev pub nowhere : Place
nowhere = record { at = 0; stream = 0; len = 0 }

-- there are as many places as units
abbrev pub AreCounted : {L : Type 0} → LayoutGhosts L → Type 0
AreCounted layout = (cfg : Fields) (units : List (List ℕ)) → length (layout.places_of cfg units) ≡ length units

-- each unit lies at its place
abbrev pub AreNumbered : {L : Type 0} → LayoutGhosts L → Type 0
AreNumbered layout = (cfg : Fields) (units : List (List ℕ)) (unit rest : List ℕ) (place : Place) (i : ℕ)
    → slice_get (layout.places_of cfg units) i ≡ Some place → slice_get units i ≡ Some unit
    → (place.at + place.len ≤ length (layout.growing cfg units))
    × (take place.len (drop place.at (layout.growing cfg units ++ rest)) ≡ unit)

-- the unit of a number and its place
pub record Lies {L : Type 0} (layout : LayoutGhosts L) (cfg : Fields) (units : List (List ℕ)) (i : ℕ) (place : Place) : Type 0 where
  pub has : slice_get units i ≡ Some (get_or units i [])
  pub long : place.len ≡ length (get_or units i [])
  pub inside : place.at + place.len ≤ length (layout.growing cfg units)
  pub reads : (rest : List ℕ) → take place.len (drop place.at (layout.growing cfg units ++ rest)) ≡ get_or units i []

long_enough : (n at : ℕ) (xs unit : List ℕ) → at + n ≤ length xs → take n (drop at xs) ≡ unit → n ≡ length unit
long_enough n at xs unit fits is = omega (arith, fits, ap (length {A = ℕ}) is, length-take n (drop at xs), length-drop at xs)

append-none : (xs : List ℕ) → length (xs ++ []) ≡ length xs
append-none xs = omega (arith, length-append xs [])

pub lies : {L : Type 0} (layout : LayoutGhosts L) → AreCounted layout → AreNumbered layout → (cfg : Fields) (units : List (List ℕ)) (places : List Place) (i : ℕ)
    → places ≡ layout.places_of cfg units → i < length units → Lies layout cfg units i (get_or places i nowhere)
lies layout counted numbered cfg units places i lie l =
    let there : i < length places = omega (arith, l, counted cfg units, ap (length {A = Place}) lie) in
    let has : slice_get units i ≡ Some (get_or units i []) = slice_get-get_or units i [] l in
    let place : slice_get (layout.places_of cfg units) i ≡ Some (get_or places i nowhere) =
    ap (λ (ps : List Place). slice_get ps i) (sym lie) ∙ slice_get-get_or places i nowhere there in
    let at = λ (rest : List ℕ). numbered cfg units (get_or units i []) rest (get_or places i nowhere) i place has in
    record {
      has = has;
      long = long_enough (get_or places i nowhere).len (get_or places i nowhere).at (layout.growing cfg units ++ []) (get_or units i [])
          (omega (arith, (at []).0, append-none (layout.growing cfg units))) (at []).1;
      inside = (at []).0;
      reads = λ rest. (at rest).1;
    }

-- the length of the frame of a number, as the history tells it
pub length_told : (units : List (List ℕ)) (lengths : List ℕ) (i : ℕ) → lengths ≡ map (length {A = ℕ}) units → i < length units
    → slice_get lengths i ≡ Some (length (get_or units i []))
length_told units lengths i is l =
    ap (λ (ns : List ℕ). slice_get ns i) is ∙ slice_get-map (length {A = ℕ}) units i
    ∙ ap (λ (o : Option (List ℕ)). option_map (length {A = ℕ}) o) (slice_get-get_or units i [] l)

-- the unit of a number among all that are named
pub named_unit : (named : Option (List (List ℕ))) (units : List (List ℕ)) (i : ℕ) → AreFirst named units → i < length units
    → IfTold named (λ all. slice_get all i ≡ Some (get_or units i []))
named_unit None units i first l = tt
named_unit (Some all) units i first l =
    let n : ℕ = length units in
    let long : i < length all = omega (arith, l, ap (length {A = List ℕ}) first, length-take n all) in
    slice_get-get_or all i [] long
    ∙ ap (λ (u : List ℕ). Some u) (sym (get_or-take n all i [] l) ∙ ap (λ (us : List (List ℕ)). get_or us i []) (sym first))

-- What was read at the place of a frame is the named unit of its number.
pub is_read : {L : Type 0} (named : Option (List (List ℕ))) (told : Option Disk) (cfg : Fields) (layout : LayoutGhosts L) (units : List (List ℕ)) (i n : ℕ)
    (out : List ℕ) (place : Place) → Lies layout cfg units i place → n ≡ place.len → i < length units → AreFirst named units
    → IfTold told (Begins layout cfg units) → IfTold told (λ disk. out ≡ take n (drop place.at disk.essence.reads))
    → IfTold named (λ all. IfTold told (λ disk. slice_get all i ≡ Some out))
is_read named told cfg layout units i n out place at long l first begins read =
    changes named _ _ (named_unit named units i first l) (λ all has.
    two told _ _ _ begins read (λ disk b r.
    has ∙ ap (λ (u : List ℕ). Some u) (sym (r ∙ ap (λ (k : ℕ). take k (drop place.at disk.essence.reads)) long
    ∙ ap (λ (xs : List ℕ). take place.len (drop place.at xs)) b.reads ∙ at.reads b.rest))))

-- A take whose disk was read keeps all that stood.
pub reads_on : {L D : Type 0} (layout : LayoutGhosts L) (device : Ghosts D) (named : Fields → Option (List (List ℕ))) (parts : TakeParts D) (d : D)
    → KeepsTake layout device named parts → Stays (device.told parts.disk) (device.told d) (device.length_of parts.disk) (device.length_of d)
    → ((ticket : Ticket) → device.made parts.disk ticket → device.made d ticket) → KeepsTake layout device named (record parts { disk = d })
reads_on layout device named parts d k stays tickets = record {
  laws = k.laws;
  rooms = record {
    ranged = k.rooms.ranged;
    records = k.rooms.records;
    stop = k.rooms.stop;
    places = k.rooms.places;
    entries = k.rooms.entries;
    buffer = k.rooms.buffer;
  };
  units = k.units;
  lie = k.lie;
  stands = record {
    sound = k.stands.sound;
    are_units = k.stands.are_units;
    sized = k.stands.sized;
    counted = k.stands.counted;
    lengths = k.stands.lengths;
    first = k.stands.first;
    reaches = omega (arith, k.stands.reaches, stays.lengths Essence);
    begins = same_told (device.told parts.disk) (device.told d) _ stays.same k.stands.begins;
    safe = same_told (device.told parts.disk) (device.told d) _ stays.same k.stands.safe;
  };
  grows = λ going.
      let g = k.grows going in
      record {
        essence_len = stays.lengths Essence ∙ g.essence_len;
        commits_len = omega (arith, g.commits_len, stays.lengths Commits);
        due = g.due;
        own = λ ticket is.
            let o = g.own ticket is in
            record { is_out = o.is_out; area = o.area; made = λ n. tickets ticket (o.made n) };
        table = same_told (device.told parts.disk) (device.told d) _ stays.same g.table;
      };
  ended = λ whole.
      let e = k.ended whole in
      record { tail = e.tail; closed = same_told (device.told parts.disk) (device.told d) _ stays.same e.closed };
}
