use Rattle.prores_scan.proofs.ScanLemmas.{position_is, progressive_is, field_is, progressive_tables, field_tables}
use Rattle.prores_scan.specs.declared.scans.TheConstants.{PROGRESSIVE, FIELD, PROGRESSIVE_POSITIONS, FIELD_POSITIONS}
use Rattle.prores_scan.proofs.scans.position.Goals as goal

pub returns-in-Progressive : goal.returns-in-Progressive
returns-in-Progressive c =
    position_is c.args.scan PROGRESSIVE PROGRESSIVE_POSITIONS (progressive_is c.args.scan c.in-Progressive.is)
    progressive_tables c.args.p c.requires

pub returns-in-Field : goal.returns-in-Field
returns-in-Field c =
    position_is c.args.scan FIELD FIELD_POSITIONS (field_is c.args.scan c.in-Field.is) field_tables c.args.p c.requires
