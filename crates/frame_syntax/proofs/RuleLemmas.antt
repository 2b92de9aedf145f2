-- The first rule of a frame that is broken.
use Rattle.std.proofs.Common.{◌≡◌, ℕ, List, [], ◌∷◌, ◌++◌, true, false, Some, None, ◌==◌, length, refl, ◌∙◌}
use Rattle.frame_syntax.specs.Headers.{header_of}
use Rattle.frame_syntax.specs.Rules.{Rule, first_broken, opening_rules, head_rules, rules_from, picture_rules, frame_rules, is_sized, picture_behind}
use Rattle.frame_syntax.specs.declared.fault.FrameFault.{FrameFault}
use Rattle.frame_syntax.specs.declared.fault.FrameFault.TheVariants.{PictureSize}
use Rattle.frame_syntax.specs.declared.frame_head.FrameHead.{FrameHead}
use Rattle.frame_syntax.specs.declared.picture_head.PictureHead.{PictureHead}

-- a rule that is broken in the first list is the first of both
pub broken_here : (rules more : List Rule) (fault : FrameFault) → first_broken rules ≡ Some fault → first_broken (rules ++ more) ≡ Some fault
unfolding first_broken
broken_here [] more fault e = absurd (cc)
broken_here ((broken, true) ∷ rules) more fault e = broken_here rules more fault e
broken_here ((broken, false) ∷ rules) more fault e = e

-- where the first list keeps its rules, the second decides
pub broken_later : (rules more : List Rule) → first_broken rules ≡ None → first_broken (rules ++ more) ≡ first_broken more
unfolding first_broken
broken_later [] more e = refl
broken_later ((broken, true) ∷ rules) more e = broken_later rules more e
broken_later ((broken, false) ∷ rules) more e = absurd (cc)

-- a rule of the opening that is broken is the first of all
pub opening_is : (bytes : List ℕ) (fault : FrameFault) → first_broken (opening_rules bytes) ≡ Some fault → first_broken (frame_rules bytes) ≡ Some fault
unfolding frame_rules opening_rules head_rules rules_from
opening_is bytes fault e = broken_here (opening_rules bytes) (head_rules (header_of bytes) ++ picture_rules bytes (header_of bytes)) fault e

-- a rule of the frame header that is broken is the first of all where the opening keeps its own
pub head_is : (bytes : List ℕ) (fault : FrameFault) → first_broken (opening_rules bytes) ≡ None
    → first_broken (head_rules (header_of bytes)) ≡ Some fault → first_broken (frame_rules bytes) ≡ Some fault
unfolding frame_rules opening_rules head_rules rules_from
head_is bytes fault opening e =
    broken_later (opening_rules bytes) (head_rules (header_of bytes) ++ picture_rules bytes (header_of bytes)) opening
    ∙ broken_here (head_rules (header_of bytes)) (picture_rules bytes (header_of bytes)) fault e

-- where opening and frame header keep theirs, the coded pictures decide
pub pictures_are : (bytes : List ℕ) → first_broken (opening_rules bytes) ≡ None → first_broken (head_rules (header_of bytes)) ≡ None
    → first_broken (frame_rules bytes) ≡ first_broken (picture_rules bytes (header_of bytes))
unfolding frame_rules opening_rules head_rules rules_from
pictures_are bytes opening head =
    broken_later (opening_rules bytes) (head_rules (header_of bytes) ++ picture_rules bytes (header_of bytes)) opening
    ∙ broken_later (head_rules (header_of bytes)) (picture_rules bytes (header_of bytes)) head

-- the first coded picture has no room
pub first_short : (bytes : List ℕ) (head : FrameHead) (first : PictureHead) → is_sized (length bytes) first ≡ false
    → first_broken (rules_from bytes head first) ≡ Some (PictureSize first.at 0)
unfolding rules_from first_broken
first_short bytes head first e = rw e refl

-- the only coded picture has room
pub only_sized : (bytes : List ℕ) (head : FrameHead) (first : PictureHead) → (head.interlace == 0) ≡ true → is_sized (length bytes) first ≡ true
    → first_broken (rules_from bytes head first) ≡ None
unfolding rules_from first_broken
only_sized bytes head first one e = rw (e, one) refl

-- the first coded picture has room, and the second one none
pub second_short : (bytes : List ℕ) (head : FrameHead) (first : PictureHead) → (head.interlace == 0) ≡ false → is_sized (length bytes) first ≡ true
    → is_sized (length bytes) (picture_behind bytes head first) ≡ false
    → first_broken (rules_from bytes head first) ≡ Some (PictureSize (picture_behind bytes head first).at 1)
unfolding rules_from first_broken
second_short bytes head first two e g = rw (e, two, g) refl

-- both coded pictures have room
pub both_sized : (bytes : List ℕ) (head : FrameHead) (first : PictureHead) → (head.interlace == 0) ≡ false → is_sized (length bytes) first ≡ true
    → is_sized (length bytes) (picture_behind bytes head first) ≡ true → first_broken (rules_from bytes head first) ≡ None
unfolding rules_from first_broken
both_sized bytes head first two e g = rw (e, two, g) refl
