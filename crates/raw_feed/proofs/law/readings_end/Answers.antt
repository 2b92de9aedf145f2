use Rattle.raw_feed.proofs.HasReadLemmas.{reading_ends_clean, reading_ends_full, reading_ends_item, reading_ends_marker}
use Rattle.raw_feed.proofs.law.readings_end.Goals as goal

pub returns-clause-clean : goal.returns-clause-clean
returns-clause-clean c = reading_ends_clean

pub returns-clause-full : goal.returns-clause-full
returns-clause-full c = reading_ends_full

pub returns-clause-item : goal.returns-clause-item
returns-clause-item c = reading_ends_item

pub returns-clause-marker : goal.returns-clause-marker
returns-clause-marker c = reading_ends_marker
