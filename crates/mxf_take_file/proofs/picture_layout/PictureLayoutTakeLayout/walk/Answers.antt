use Rattle.std.proofs.Common.{◌≡◌, ℕ, ◌+◌, ◌≤◌, List, [], ◌++◌, length, inl, inr, sym, subst, ap, ◌∙◌, arith, append_assoc, append-nil}
use Rattle.std.proofs.lemmas.List.{length-append}
use Rattle.rec_bytes.specs.Configuration.{Fields}
use Rattle.rec_bytes.specs.Views.{view}
use Rattle.mxf_take_file.specs.Layout.{lead}
use Rattle.mxf_take_file.specs.laws.Next.{last_small}
use Rattle.mxf_take_file.specs.inner.Standing.{look_at, stand_first}
use Rattle.mxf_take_file.specs.declared.picture_layout.TheConstants.{MAX_UNIT}
use Rattle.mxf_take_file.proofs.LookLemmas.{look_finds}
use Rattle.mxf_take_file.proofs.WalkLemmas.{look_says, look_more}
use Rattle.mxf_take_file.proofs.picture_layout.PictureLayoutTakeLayout.walk.Goals as goal

pub returns-clause-whole : goal.returns-clause-whole
returns-clause-whole c = λ units unit rest are is far.
    let cfg : Fields = view c.args.cfg.now in
    let bytes : List ℕ = c.args.bytes.now in
    let front : List ℕ = lead cfg units (length unit) in
    let small = last_small units unit are.each in
    let parts : bytes ++ [] ≡ front ++ (unit ++ rest) = append-nil bytes ∙ is ∙ append_assoc front unit rest in
    let long : length bytes ≡ length front + length (unit ++ rest) = ap length is ∙ ap length (append_assoc front unit rest) ∙ length-append front (unit ++ rest) in
    elim (look_finds cfg units (length unit) c.args.from bytes [] (unit ++ rest) c.ranges-2.ensures.part.least small parts far) [
      | inl found ↦ c.look.ensures ∙ found
      | inr more ↦ absurd (omega (arith, more.2, more.3, long))
    ]

pub returns-clause-part : goal.returns-clause-part
returns-clause-part c = λ units unit missing are some is far.
    let cfg : Fields = view c.args.cfg.now in
    let bytes : List ℕ = c.args.bytes.now in
    let small = last_small units unit are.each in
    elim (look_finds cfg units (length unit) c.args.from bytes missing unit c.ranges-2.ensures.part.least small is far) [
      | inl found ↦ inl (c.look.ensures ∙ found)
      | inr more ↦ inr (more.0, c.look.ensures ∙ more.1, record { above = more.2; within = omega (arith, more.3) })
    ]

pub returns-clause-unit : goal.returns-clause-unit
unfolding look_at
returns-clause-unit c = λ unit_at unit_len is.
    let says = look_says (stand_first c.args.cfg.now.part c.args.bytes.now) c.args.bytes.now c.args.from unit_at unit_len (sym c.look.ensures ∙ is) in
    (says.0, λ unit long same. subst (λ (k : ℕ). k ≤ MAX_UNIT) (sym long) says.1)

pub returns-clause-more : goal.returns-clause-more
unfolding look_at
returns-clause-more c = λ need is.
    let asks = look_more c.args.cfg.now.part c.args.bytes.now c.args.from need (sym c.look.ensures ∙ is) in
    (asks.0, omega (arith, asks.1))
