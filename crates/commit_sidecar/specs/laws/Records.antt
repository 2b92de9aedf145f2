-- The lengths of a head, a note and open records, and one record more: proved here, for proofs to cite.
use Rattle.std.proofs.Common.{◌≡◌, ℕ, ◌*◌, List, [], ◌∷◌, ◌++◌, length, Option, Some, None, refl, sym, ap, ◌∙◌, arith, append_assoc}
use Rattle.std.proofs.lemmas.List.{length-append}
use Rattle.byteorder.specs.Endian.{big_bytes}
use Rattle.byteorder.specs.Numbers.{length-bytes_high_first}
use Rattle.rec_bytes.specs.Configuration.{Fields, Spells, spelling}
use Rattle.rec_bytes.specs.laws.Spellings.{spelling_long}
use Rattle.take_core.specs.declared.mark.Mark.{Mark}
use Rattle.commit_sidecar.specs.Notes.{note_of, closed_byte, Fits, IsLater, Follows, Follow, last_from}
use Rattle.commit_sidecar.specs.Says.{head_of, opened, counting}
use Rattle.commit_sidecar.specs.declared.head.TheConstants.{MAGIC}

-- a head has 72 bytes
pub length-head : (cfg : Fields) → Spells (spelling cfg) cfg → length (head_of cfg) ≡ 72
length-head cfg s = omega (arith, length-append MAGIC (spelling cfg), spelling_long (spelling cfg) cfg s)

-- a note has 17 bytes
pub length-note : (mark : Mark) → length (note_of mark) ≡ 17
length-note mark =
    omega (
      arith,
      length-append (big_bytes 8 mark.count) (big_bytes 8 mark.length ++ (closed_byte mark.closed ∷ [])),
      length-append (big_bytes 8 mark.length) (closed_byte mark.closed ∷ []),
      length-bytes_high_first 8 mark.count,
      length-bytes_high_first 8 mark.length,
    )

-- an open record behind others
pub opened-more : (marks : List Mark) (mark : Mark) (rest : List ℕ) → opened (marks ++ mark ∷ []) ++ rest ≡ opened marks ++ (1 ∷ (note_of mark ++ rest))
opened-more [] mark rest = ap (λ (xs : List ℕ). 1 ∷ xs) (append_assoc (note_of mark) [] rest)
opened-more (first ∷ marks) mark rest =
    ap (λ (xs : List ℕ). 1 ∷ xs) (
    append_assoc (note_of first) (opened (marks ++ mark ∷ [])) rest
    ∙ ap (λ (xs : List ℕ). note_of first ++ xs) (opened-more marks mark rest)
    ∙ sym (append_assoc (note_of first) (opened marks) (1 ∷ (note_of mark ++ rest)))
    )

-- an open record has 18 bytes
pub length-opened : (marks : List Mark) → length (opened marks) ≡ 18 * length marks
length-opened [] = refl
length-opened (mark ∷ marks) = omega (arith, length-append (note_of mark) (opened marks), length-note mark, length-opened marks)

-- a mark that follows the last one follows them all
pub follow-more : (last : Option Mark) (marks : List Mark) (mark : Mark) → Follow last marks → Follows (last_from last marks) mark → Follow last (marks ++ mark ∷ [])
follow-more last [] mark follow next = (next, tt)
follow-more last (first ∷ marks) mark follow next = (follow.0, follow-more (Some first) marks mark follow.1 next)

-- and is then the last one
pub last-more : (last : Option Mark) (marks : List Mark) (mark : Mark) → last_from last (marks ++ mark ∷ []) ≡ Some mark
last-more last [] mark = refl
last-more last (first ∷ marks) mark = last-more (Some first) marks mark

-- behind the mark that counts, a mark may stand behind the last one
pub follows-said : (head_len : ℕ) (last : Option Mark) (mark : Mark) → Fits mark → IsLater (counting head_len last) mark → Follows last mark
follows-said head_len None mark fits later = record { fits = fits; after = tt }
follows-said head_len (Some before) mark fits later = record { fits = fits; after = later }
