use Rattle.raw_feed.proofs.PictureFeedLemmas.{one_picture_feed}
use Rattle.raw_feed.proofs.law.pictures_are_one.Goals as goal

pub returns : goal.returns
returns c = one_picture_feed
