use Rattle.std.proofs.Common.{◌≡◌, length, ◌∙◌, ap}
use Rattle.bit_io.specs.laws.BitLaws.{length-bits}
use Rattle.prores_codes.proofs.spellings.write.Goals as goal

pub returns-clause-accepted : goal.returns-clause-accepted
returns-clause-accepted c =
    λ spelling spells.
    let f = c.form_of-form.result in
    let size : length spelling ≡ f.size = ap length (c.form_of-form.ensures.spelled spelling spells) ∙ length-bits f.size f.number in
    rw size c.put.ensures.accepted

pub returns-clause-refused : goal.returns-clause-refused
returns-clause-refused c =
    λ spelling spells.
    let f = c.form_of-form.result in
    let size : length spelling ≡ f.size = ap length (c.form_of-form.ensures.spelled spelling spells) ∙ length-bits f.size f.number in
    rw size c.put.ensures.refused
