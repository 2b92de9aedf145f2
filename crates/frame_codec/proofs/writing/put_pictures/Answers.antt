use Rattle.rec_bytes.specs.Views.{view}
use Rattle.frame_codec.proofs.SlicesLemmas.{one_picture, two_pictures}
use Rattle.frame_codec.proofs.writing.put_pictures.Goals as goal

pub returns-then-config-eq0-clause-put : goal.returns-then-config-eq0-clause-put
returns-then-config-eq0-clause-put g c =
    let first = c.put_picture-second_at in
    one_picture (view c.args.config.now) c.args.picture.now c.args.at first.result c.args.out.now first.new.out c.if-config-eq0.true first.ensures.put

pub returns-clause-put : goal.returns-clause-put
returns-clause-put g c =
    let first = c.put_picture-second_at in
    let second = c.put_picture in
    two_pictures (view c.args.config.now) c.args.picture.now c.args.at first.result second.result c.args.out.now first.new.out second.new.out c.if-config-eq0.false first.ensures.put second.ensures.put
