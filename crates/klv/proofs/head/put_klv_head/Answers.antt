use Rattle.std.proofs.Common.{◌≡◌, ℕ, ◌+◌, length, drop, ap, ◌∙◌, arith}
use Rattle.std.proofs.lemmas.List.{take_at, drop_at}
use Rattle.klv.specs.Head.{form_of}
use Rattle.klv.specs.Items.{klv_head}
use Rattle.klv.specs.laws.Lengths.{length-klv_head}
use Rattle.klv.proofs.head.put_klv_head.Goals as goal

pub returns : goal.returns
returns c =
    let form = form_of c.args.form in
    let head = klv_head c.args.key.now form c.args.len in
    let size : length head ≡ 17 + form = length-klv_head c.args.key.now form c.args.len c.told-key in
    let behind : c.put_klv_head_at.result ≡ 17 + form = omega (arith, c.put_klv_head_at.ensures.behind) in
    record {
      count = behind;
      written = rw (c.put_klv_head_at.ensures.written, behind) (take_at head _ (17 + form) size);
      unchanged = rw (c.put_klv_head_at.ensures.written, behind, size) (drop_at head _ (17 + form) size ∙ ap (λ (n : ℕ). drop n c.args.out.now) (omega arith));
    }
