use Rattle.raw_feed.proofs.FeedLemmas.{one_feed, one_feed_of, judged_there}
use Rattle.raw_feed.proofs.TotalLemmas.{every_feed}
use Rattle.raw_feed.proofs.law.feeds_are_one.Goals as goal

pub returns-clause-some : goal.returns-clause-some
returns-clause-some c = every_feed

pub returns-clause-units : goal.returns-clause-units
returns-clause-units c = one_feed

pub returns-clause-configuration : goal.returns-clause-configuration
returns-clause-configuration c = λ kind bytes one two units others ending other f g. (one_feed_of kind bytes one two units others ending other f g).0

pub returns-clause-judged : goal.returns-clause-judged
returns-clause-judged c = judged_there
