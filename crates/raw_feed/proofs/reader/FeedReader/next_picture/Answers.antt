use Rattle.std.proofs.Common.{◌≡◌, ℕ, List, ◌+◌, ◌*◌, ◌∙◌, length, ap, sym, arith}
use Rattle.rec_bytes.specs.Views.{view}
use Rattle.picture_plane.specs.Sizes.{size_of}
use Rattle.raw_feed.specs.declared.kind.Kind.TheVariants.{Pictures}
use Rattle.raw_feed.specs.Pictures.{picture_bytes}
use Rattle.raw_feed.proofs.PictureLemmas.{sized_picture, picture_item_long}
use Rattle.raw_feed.proofs.ReadingLemmas.{GivesUnit-of, RefusesItem-of, OnTrue-there, config_there}
use Rattle.raw_feed.proofs.reader.FeedReader.next_picture.Goals as goal

pub read_picture-requires-clause-sized : goal.read_picture-requires-clause-sized
read_picture-requires-clause-sized g c =
    let marked = OnTrue-there _ c.if-not-more.false c.in_ok-more.ensures.marked in
    c.requires.sized
    ∙ ap size_of (config_there c.args.self.now.stage c.args.self.now c.marker.new.self _ _ _ _ _ _ (g.S.Source.told c.marker.new.source) c.self.view_is marked)

pub returns-in-Ok-clause-picture : goal.returns-in-Ok-clause-picture
returns-in-Ok-clause-picture g c =
    let marked = OnTrue-there _ c.if-not-more.false c.in_ok-more.ensures.marked in
    let config_is : c.args.self.now.config ≡ view c.self.inside.config =
    config_there c.args.self.now.stage c.args.self.now c.marker.new.self _ _ _ _ _ _ (g.S.Source.told c.marker.new.source) c.self.view_is marked in
    let size : c.read_picture.new.into.size ≡ size_of c.args.self.now.config = c.read_picture.ensures.kept ∙ c.requires.sized in
    let long = picture_item_long c.read_picture.new.into in
    let within = c.in-Ok.ensures.within in (
      record { size = size; whole = c.ranges-in-Ok.ensures },
      GivesUnit-of Pictures c.args.self.now.stage c.args.self.now c.marker.new.self _ _ _ _ _ _ _ (g.S.Source.told c.marker.new.source) _
          (picture_bytes c.read_picture.new.into) c.self.view_is marked c.requires.kind
          (sized_picture (view c.self.inside.config) c.read_picture.new.into (size ∙ ap size_of config_is) c.ranges-in-Ok.ensures) (omega arith)
          (ap (λ (xs : List ℕ). 4 + 2 * length xs) c.samples.ensures ∙ sym long) c.in-Ok.ensures.read,
    )

pub returns-in-Err-clause-refused : goal.returns-in-Err-clause-refused
returns-in-Err-clause-refused g c =
    RefusesItem-of Pictures c.args.self.now.stage c.args.self.now c.marker.new.self _ _ _ _ _ _ (g.S.Source.told c.marker.new.source) _ _ c.self.view_is
    (OnTrue-there _ c.if-not-more.false c.in_ok-more.ensures.marked) c.requires.kind c.in-Err.ensures.named c.in-Err.ensures.broken
