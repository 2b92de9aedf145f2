-- The two forms of a length that are written (own choice of ST 336's nine). docs/FORMATS.md, "Items".
use Rattle.std.specs.Prelude.{ℕ}
use Rattle.klv.specs.declared.head.Form.{Form}
use Rattle.klv.specs.declared.head.Form.TheVariants.{Three, Seven}

-- how many bytes follow the first one of a length
abbrev pub form_of : Form → ℕ
form_of Three = 3
form_of Seven = 7
