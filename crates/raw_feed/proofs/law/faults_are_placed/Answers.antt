use Rattle.raw_feed.proofs.ReadingLemmas.{fault_of_head, fault_of_item, fault_of_marker}
use Rattle.raw_feed.proofs.law.faults_are_placed.Goals as goal

pub returns-clause-head : goal.returns-clause-head
returns-clause-head c = fault_of_head

pub returns-clause-item : goal.returns-clause-item
returns-clause-item c = fault_of_item

pub returns-clause-marker : goal.returns-clause-marker
returns-clause-marker c = fault_of_marker
