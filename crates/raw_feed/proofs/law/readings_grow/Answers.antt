use Rattle.raw_feed.proofs.HasReadLemmas.{reading_starts, reading_grows, reading_marks, reading_stops}
use Rattle.raw_feed.proofs.law.readings_grow.Goals as goal

pub returns-clause-starts : goal.returns-clause-starts
returns-clause-starts c = reading_starts

pub returns-clause-grows : goal.returns-clause-grows
returns-clause-grows c = reading_grows

pub returns-clause-marked : goal.returns-clause-marked
returns-clause-marked c = reading_marks

pub returns-clause-stopped : goal.returns-clause-stopped
returns-clause-stopped c = reading_stops
