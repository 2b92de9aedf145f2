use Rattle.std.proofs.Common.{◌≡◌, ℕ, List, length, Result, Ok, Err, None, sym, ap, ◌∙◌, IfOk, IfSome, arith}
use Rattle.std.proofs.lemmas.Result.{IfErr-weaker}
use Rattle.frame_syntax.specs.Headers.{header_of}
use Rattle.frame_syntax.specs.Rules.{first_broken, opening_rules, head_rules, picture_rules}
use Rattle.frame_syntax.specs.Frames.{parts_behind}
use Rattle.frame_syntax.specs.inner.Rooms.{AreParts, IsRoomy}
use Rattle.frame_syntax.specs.declared.fault.FrameFault.{FrameFault}
use Rattle.frame_syntax.specs.declared.frame.FrameParts.{FrameParts}
use Rattle.frame_syntax.specs.declared.frame_head.FrameHead.{FrameHead}
use Rattle.frame_syntax.proofs.RuleLemmas.{opening_is, head_is, pictures_are}
use Rattle.frame_syntax.proofs.frame.read_parts.Goals as goal

-- the parts that were read, by what each clause says of them
parts_read : (bytes : List ℕ) (head : FrameHead) (read : Result FrameParts FrameFault)
    → first_broken (opening_rules bytes) ≡ None → first_broken (head_rules (header_of bytes)) ≡ None → head ≡ header_of bytes
    → IfOk read (λ parts. parts ≡ parts_behind bytes head) → IfOk read (λ parts. first_broken (picture_rules bytes head) ≡ None)
    → IfOk read (λ parts. IsRoomy (length bytes) parts.first) → IfOk read (λ parts. IfSome parts.second (IsRoomy (length bytes)))
    → IfOk read (AreParts bytes)
parts_read bytes head (Ok parts) opening kept is_head stand pictures first second = record {
  kept = pictures_are bytes opening kept ∙ ap (λ (h : FrameHead). first_broken (picture_rules bytes h)) (sym is_head) ∙ pictures;
  stand = ap (parts_behind bytes) (sym is_head) ∙ sym stand;
  first = first;
  second = second;
}
parts_read bytes head (Err fault) opening kept is_head stand pictures first second = tt

pub returns-in-Some-clause-refused : goal.returns-in-Some-clause-refused
returns-in-Some-clause-refused c = opening_is c.args.bytes.now c.in-Some.fault (sym c.opening_fault.ensures.first ∙ c.in-Some.is)

pub returns-in-Some-head_fault-clause-refused : goal.returns-in-Some-head_fault-clause-refused
returns-in-Some-head_fault-clause-refused c =
    head_is c.args.bytes.now c.in-Some-head_fault.fault (sym c.opening_fault.ensures.first ∙ c.in_default.is)
    (ap (λ (h : FrameHead). first_broken (head_rules h)) (sym c.read_header-head.ensures) ∙ sym c.head_fault.ensures ∙ c.in-Some-head_fault.is)

pub read_pictures-requires : goal.read_pictures-requires
unfolding header_of
read_pictures-requires c =
    let same : c.read_header-head.result.head_size ≡ (header_of c.args.bytes.now).head_size = ap (λ (h : FrameHead). h.head_size) c.read_header-head.ensures in
    omega (arith, same, c.in_default.ensures.head)

pub returns-clause-read : goal.returns-clause-read
returns-clause-read c =
    let opening : first_broken (opening_rules c.args.bytes.now) ≡ None = sym c.opening_fault.ensures.first ∙ c.in_default.is in
    let head : first_broken (head_rules (header_of c.args.bytes.now)) ≡ None =
    ap (λ (h : FrameHead). first_broken (head_rules h)) (sym c.read_header-head.ensures) ∙ sym c.head_fault.ensures ∙ c.in_default-head_fault.is in
    parts_read c.args.bytes.now c.read_header-head.result c.read_pictures.result opening head c.read_header-head.ensures
    c.read_pictures.ensures.read c.read_pictures.ensures.kept c.read_pictures.ensures.first c.read_pictures.ensures.second

pub returns-clause-refused : goal.returns-clause-refused
returns-clause-refused c =
    let opening : first_broken (opening_rules c.args.bytes.now) ≡ None = sym c.opening_fault.ensures.first ∙ c.in_default.is in
    let head : first_broken (head_rules (header_of c.args.bytes.now)) ≡ None =
    ap (λ (h : FrameHead). first_broken (head_rules h)) (sym c.read_header-head.ensures) ∙ sym c.head_fault.ensures ∙ c.in_default-head_fault.is in
    IfErr-weaker c.read_pictures.result _ _ (λ fault e.
    pictures_are c.args.bytes.now opening head ∙ ap (λ (h : FrameHead). first_broken (picture_rules c.args.bytes.now h)) (sym c.read_header-head.ensures) ∙ e) c.read_pictures.ensures.refused
