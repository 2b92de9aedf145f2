use Rattle.std.proofs.Common.{ℕ, List, get_or, sym, ap}
use Rattle.prores_scan.proofs.ScanLemmas.{place_is, progressive_is, field_is, progressive_tables, field_tables}
use Rattle.prores_scan.specs.declared.scans.TheConstants.{PROGRESSIVE, FIELD, PROGRESSIVE_POSITIONS, FIELD_POSITIONS}
use Rattle.prores_scan.proofs.scans.place.Goals as goal

pub returns-in-Progressive-clause-entry : goal.returns-in-Progressive-clause-entry
returns-in-Progressive-clause-entry c =
    sym (ap (λ (xs : List ℕ). get_or xs c.args.k 0) (progressive_is c.args.scan c.in-Progressive.is))

pub returns-in-Progressive-clause-position : goal.returns-in-Progressive-clause-position
returns-in-Progressive-clause-position c =
    place_is c.args.scan PROGRESSIVE PROGRESSIVE_POSITIONS (progressive_is c.args.scan c.in-Progressive.is)
    progressive_tables c.args.k c.requires

pub returns-in-Field-clause-entry : goal.returns-in-Field-clause-entry
returns-in-Field-clause-entry c =
    sym (ap (λ (xs : List ℕ). get_or xs c.args.k 0) (field_is c.args.scan c.in-Field.is))

pub returns-in-Field-clause-position : goal.returns-in-Field-clause-position
returns-in-Field-clause-position c =
    place_is c.args.scan FIELD FIELD_POSITIONS (field_is c.args.scan c.in-Field.is) field_tables c.args.k c.requires
