-- The room that the coded pictures of a frame have.
use Rattle.std.proofs.Common.{◌≡◌, ◌==◌, ◌&&◌, ◌+◌, ℕ, List, [], ◌∷◌, ◌++◌, Bool, true, false, Some, None, IfSome, nat_le, length, refl, subst, if◌then◌else◌}
use Rattle.std.proofs.lemmas.Bool.{and_parts, leb-true}
use Rattle.frame_syntax.specs.Headers.{header_of}
use Rattle.frame_syntax.specs.Pictures.{front_len}
use Rattle.frame_syntax.specs.Rules.{Rule, first_broken, opening_rules, head_rules, rules_from, picture_rules, frame_rules, is_sized, first_picture, picture_behind}
use Rattle.frame_syntax.specs.Frames.{IsFrame, second_picture}
use Rattle.frame_syntax.specs.inner.Rooms.{IsRoomy}
use Rattle.frame_syntax.specs.declared.fault.FrameFault.{FrameFault}
use Rattle.frame_syntax.specs.declared.frame.FrameParts.{FrameParts}
use Rattle.frame_syntax.specs.declared.frame_head.FrameHead.{FrameHead}
use Rattle.frame_syntax.specs.declared.picture_head.PictureHead.{PictureHead}

-- where no rule of two lists is broken, none of the second is
pub none_behind : (rules more : List Rule) → first_broken (rules ++ more) ≡ None → first_broken more ≡ None
unfolding first_broken
none_behind [] more e = e
none_behind ((broken, true) ∷ rules) more e = none_behind rules more e
none_behind ((broken, false) ∷ rules) more e = absurd (cc)

-- and where none of a list is broken, the first isn't
pub none_cons : (fault : FrameFault) (kept : Bool) (rules : List Rule) → first_broken ((fault, kept) ∷ rules) ≡ None → (kept ≡ true) × (first_broken rules ≡ None)
unfolding first_broken
none_cons fault true rules e = (refl, e)
none_cons fault false rules e = absurd (cc)

-- the test of a coded picture's room
pub roomy : (n : ℕ) (picture : PictureHead) → is_sized n picture ≡ true → IsRoomy n picture
roomy n p e =
    let fourth = and_parts (nat_le (p.at + 8) n && nat_le 8 p.head_size && nat_le (front_len p) p.size) (nat_le (p.at + p.size) n) e in
    let third = and_parts (nat_le (p.at + 8) n && nat_le 8 p.head_size) (nat_le (front_len p) p.size) fourth.0 in
    let second = and_parts (nat_le (p.at + 8) n) (nat_le 8 p.head_size) third.0 in
    record {
      there = leb-true (p.at + 8) n second.0;
      head = leb-true 8 p.head_size second.1;
      table = leb-true (front_len p) p.size third.1;
      within = leb-true (p.at + p.size) n fourth.1;
    }

-- the second coded picture, where there is one
second_roomy : (one : Bool) (n : ℕ) (fault : FrameFault) (picture : PictureHead)
    → first_broken (if one then [] else (fault, is_sized n picture) ∷ []) ≡ None → IfSome (if one then None else Some picture) (IsRoomy n)
second_roomy true n fault p e = tt
second_roomy false n fault p e = roomy n p (none_cons fault (is_sized n p) [] e).0

-- the coded pictures that keep their rules have room
both_roomy : (bytes : List ℕ) (head : FrameHead) (first : PictureHead) → first_broken (rules_from bytes head first) ≡ None
    → IsRoomy (length bytes) first × IfSome (second_picture bytes head first) (IsRoomy (length bytes))
unfolding rules_from
both_roomy bytes head first e =
    let parts = none_cons _ (is_sized (length bytes) first) _ e in
    (roomy (length bytes) first parts.0, second_roomy (head.interlace == 0) (length bytes) _ (picture_behind bytes head first) parts.1)

-- and so have those of a frame
pub frame_roomy : (bytes : List ℕ) (parts : FrameParts) → IsFrame bytes parts → IsRoomy (length bytes) parts.first × IfSome parts.second (IsRoomy (length bytes))
unfolding frame_rules opening_rules head_rules
frame_roomy bytes parts frame =
    let behind : first_broken (head_rules (header_of bytes) ++ picture_rules bytes (header_of bytes)) ≡ None =
    none_behind (opening_rules bytes) (head_rules (header_of bytes) ++ picture_rules bytes (header_of bytes)) frame.kept in
    let pictures : first_broken (picture_rules bytes (header_of bytes)) ≡ None = none_behind (head_rules (header_of bytes)) (picture_rules bytes (header_of bytes)) behind in
    subst (λ (p : FrameParts). IsRoomy (length bytes) p.first × IfSome p.second (IsRoomy (length bytes))) frame.stand
    (both_roomy bytes (header_of bytes) (first_picture bytes (header_of bytes)) pictures)
