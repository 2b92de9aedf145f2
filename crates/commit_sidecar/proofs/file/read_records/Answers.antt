use Rattle.std.proofs.Common.{subst, refl, ℕ, List, drop, None}
use Rattle.std.proofs.lemmas.List.{take_rest}
use Rattle.rec_bytes.specs.Views.{view}
use Rattle.commit_sidecar.specs.Looks.{Sees}
use Rattle.commit_sidecar.specs.Refusals.{Breaks}
use Rattle.commit_sidecar.specs.declared.looks.Look.TheVariants.{Shut, Open}
use Rattle.commit_sidecar.specs.laws.Reads.{begun, read_more, room_for, read_within, read_said, read_damaged}
use Rattle.commit_sidecar.proofs.file.read_records.Goals as goal

pub records-init : goal.records-init
records-init c =
    let read = begun c.args.bytes.now (view c.args.config) c.requires.head in
    record { read = read; within = read_within c.args.bytes.now (view c.args.config) 72 0 None read }

pub returns-in-Shut-clause-said : goal.returns-in-Shut-clause-said
returns-in-Shut-clause-said c =
    let bytes = c.args.bytes.now in
    let sees : Sees c.records.mark (drop c.records.at bytes) Shut = subst (λ (xs : List ℕ). Sees c.records.mark xs Shut) (take_rest bytes c.records.at) c.in-Shut.ensures in
    record {
      marks = c.records.invariant.read.marks;
      says = read_said bytes (view c.args.config) c.records.at c.records.number c.records.mark c.records.invariant.read sees;
      number = c.records.invariant.read.counted;
      mark = c.records.invariant.read.ends;
    }

pub returns-in-Broken-clause-refused : goal.returns-in-Broken-clause-refused
returns-in-Broken-clause-refused c =
    let bytes = c.args.bytes.now in
    let breaks : Breaks c.records.mark (drop c.records.at bytes) =
    subst (λ (xs : List ℕ). Breaks c.records.mark xs) (take_rest bytes c.records.at) c.in-Broken.ensures in
    (read_damaged bytes (view c.args.config) c.records.at c.records.number c.records.mark c.records.invariant.read breaks, refl)

pub records-preserved : goal.records-preserved
records-preserved c =
    let bytes = c.args.bytes.now in
    let sees : Sees c.records.mark (drop c.records.at bytes) (Open c.in-Open.next) =
    subst (λ (xs : List ℕ). Sees c.records.mark xs (Open c.in-Open.next)) (take_rest bytes c.records.at) c.in-Open.ensures in
    record {
      read = read_more bytes (view c.args.config) c.records.at c.records.number c.records.mark c.in-Open.next c.records.invariant.read sees;
      within = room_for bytes (view c.args.config) c.records.at c.records.number c.records.mark c.in-Open.next c.records.invariant.read sees;
    }
