use Rattle.std.proofs.Common.{◌≡◌}
use Rattle.std.proofs.lemmas.List.Elements.{All-same, All-push}
use Rattle.rec_bytes.specs.Views.{view}
use Rattle.slice_workers.specs.declared.hand.Hand.{Hand}
use Rattle.slice_workers.specs.inner.Hands.{config_of}
use Rattle.slice_workers.proofs.encoder.hands_of.Goals as goal

pub hands-preserved : goal.hands-preserved
hands-preserved c =
    let is : Hand → Type 0 = λ hand. config_of hand ≡ view c.args.cfg.now in
    All-same is c.push.new.self.items _ (c.in_ok-push.ensures.items) (All-push is c.hands.hands.items c.in_ok-new.field-0 c.hands.invariant c.in_ok-new.ensures)
