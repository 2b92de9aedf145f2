use Rattle.std.proofs.Common.{◌≡◌, List, ℕ, None, sym, subst, ◌∙◌}
use Rattle.rec_bytes.specs.Configuration.{Fields, fields_of, first_broken, picture_rules, coding_rules, take_rules, zero_rules, spelling}
use Rattle.rec_bytes.specs.laws.Spellings.{spelled_once}
use Rattle.rec_bytes.proofs.Rules.{zero_is}
use Rattle.rec_bytes.proofs.config_bytes.read_config.Goals as goal

pub returns-clause-spelled : goal.returns-clause-spelled
returns-clause-spelled c =
    let bytes : List ℕ = c.args.bytes.now in
    let picture : first_broken (picture_rules (fields_of bytes)) ≡ None = sym c.picture_fault.ensures.first ∙ c.in_default.is in
    let coding : first_broken (coding_rules (fields_of bytes)) ≡ None = sym c.coding_fault.ensures.first ∙ c.in_default-coding_fault.is in
    let take : first_broken (take_rules (fields_of bytes)) ≡ None = sym c.take_fault.ensures.first ∙ c.in_default-take_fault.is in
    let zeros : first_broken (zero_rules bytes) ≡ None = sym c.zero_fault.ensures.first ∙ c.in_default-zero_fault.is in
    let once : bytes ≡ spelling (fields_of bytes) = spelled_once bytes c.told-bytes c.fits-bytes zeros in
    record {
      kept = zero_is bytes None picture coding take zeros;
      stand = sym c.config_of.ensures;
      spelled = subst (λ (f : Fields). bytes ≡ spelling f) (sym c.config_of.ensures) once;
    }
