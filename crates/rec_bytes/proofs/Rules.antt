-- The first rule that is broken.
use Rattle.std.proofs.Common.{◌≡◌, ℕ, List, [], ◌∷◌, ◌++◌, Bool, true, false, Option, Some, None, refl, ◌∙◌}
use Rattle.std.specs.List.{list_all}
use Rattle.rec_bytes.specs.Configuration.{Fields, fields_of, picture_rules, coding_rules, take_rules, zero_rules, field_rules}
use Rattle.rec_bytes.specs.Configuration.{first_broken, first_fault, is_config}
use Rattle.rec_bytes.specs.laws.Spellings.{all_kept}

-- a rule that is broken in the first list is the first of both
pub broken_here : (rules more : List (ℕ × Bool)) (at : ℕ) → first_broken rules ≡ Some at → first_broken (rules ++ more) ≡ Some at
unfolding first_broken
broken_here [] more at e = absurd (cc)
broken_here ((place, true) ∷ rules) more at e = broken_here rules more at e
broken_here ((place, false) ∷ rules) more at e = e

-- where the first list keeps its rules, the second decides
pub broken_later : (rules more : List (ℕ × Bool)) → first_broken rules ≡ None → first_broken (rules ++ more) ≡ first_broken more
unfolding first_broken
broken_later [] more e = refl
broken_later ((place, true) ∷ rules) more e = broken_later rules more e
broken_later ((place, false) ∷ rules) more e = absurd (cc)

-- where all rules are kept, none is broken
pub none_broken : (rules : List (ℕ × Bool)) → list_all (λ (rule : ℕ × Bool). rule.1) rules ≡ true → first_broken rules ≡ None
unfolding first_broken
none_broken [] e = refl
none_broken ((place, true) ∷ rules) e = none_broken rules e
none_broken ((place, false) ∷ rules) e = absurd (cc)

-- a fault in the rules on the picture is the first of all
pub picture_is : (bytes : List ℕ) (at : ℕ) → first_broken (picture_rules (fields_of bytes)) ≡ Some at → first_fault bytes ≡ Some at
unfolding first_fault field_rules picture_rules coding_rules take_rules
picture_is bytes at e =
    let f : Fields = fields_of bytes in
    broken_here (field_rules f) (zero_rules bytes) at (broken_here (picture_rules f) (coding_rules f ++ take_rules f) at e)

-- so is one in the rules on the coding, where the picture keeps its own
pub coding_is : (bytes : List ℕ) (at : ℕ) → first_broken (picture_rules (fields_of bytes)) ≡ None
    → first_broken (coding_rules (fields_of bytes)) ≡ Some at → first_fault bytes ≡ Some at
unfolding first_fault field_rules picture_rules coding_rules take_rules
coding_is bytes at p e =
    let f : Fields = fields_of bytes in
    broken_here (field_rules f) (zero_rules bytes) at
    (broken_later (picture_rules f) (coding_rules f ++ take_rules f) p ∙ broken_here (coding_rules f) (take_rules f) at e)

-- the rules on the fields end with those of the take
fields_end : (f : Fields) → first_broken (picture_rules f) ≡ None → first_broken (coding_rules f) ≡ None
    → first_broken (field_rules f) ≡ first_broken (take_rules f)
unfolding field_rules picture_rules coding_rules take_rules
fields_end f p e = broken_later (picture_rules f) (coding_rules f ++ take_rules f) p ∙ broken_later (coding_rules f) (take_rules f) e

-- and one in the rules on the take, where picture and coding keep theirs
pub take_is : (bytes : List ℕ) (at : ℕ) → first_broken (picture_rules (fields_of bytes)) ≡ None
    → first_broken (coding_rules (fields_of bytes)) ≡ None → first_broken (take_rules (fields_of bytes)) ≡ Some at
    → first_fault bytes ≡ Some at
unfolding first_fault
take_is bytes at p e g = broken_here (field_rules (fields_of bytes)) (zero_rules bytes) at (fields_end (fields_of bytes) p e ∙ g)

-- where the fields keep their rules, the zeros decide
pub zero_is : (bytes : List ℕ) (found : Option ℕ) → first_broken (picture_rules (fields_of bytes)) ≡ None
    → first_broken (coding_rules (fields_of bytes)) ≡ None → first_broken (take_rules (fields_of bytes)) ≡ None
    → first_broken (zero_rules bytes) ≡ found → first_fault bytes ≡ found
unfolding first_fault
zero_is bytes found p e g h = broken_later (field_rules (fields_of bytes)) (zero_rules bytes) (fields_end (fields_of bytes) p e ∙ g) ∙ h

-- fields that break no rule are those of a configuration
pub config_is : (f : Fields) → first_broken (picture_rules f) ≡ None → first_broken (coding_rules f) ≡ None
    → first_broken (take_rules f) ≡ None → is_config f ≡ true
unfolding is_config
config_is f p e g = all_kept (field_rules f) (fields_end f p e ∙ g)

-- and the fields of a configuration break none
pub config_keeps : (f : Fields) → is_config f ≡ true → first_broken (field_rules f) ≡ None
unfolding is_config
config_keeps f h = none_broken (field_rules f) h

-- what a broken rule, or none, says of the bytes and of the fields
pub ruleset refusals = (picture_is, coding_is, take_is, zero_is, config_is)
