-- The first rule that a value breaks.
use Rattle.std.proofs.Common.{◌≡◌, ℕ, ◌+◌, ◌*◌, List, Option, Some, None, map, sym, ap, ◌∙◌}
use Rattle.std.specs.List.{range_with_len}
use Rattle.std.specs.Option.{option_or, option_map}
use Rattle.mxf_index.specs.Dues.{due_items, end_fault, first_fault}
use Rattle.mxf_index.specs.Reads.{count_in, first_fall, frames_in, stream_in, value_fault}
use Rattle.mxf_index.specs.inner.Items.{items_fault}
use Rattle.mxf_index.specs.declared.fault.SegmentFault.{SegmentFault}
use Rattle.mxf_index.specs.declared.fault.SegmentFault.TheVariants.{EntryOrder}
use Rattle.mxf_index.proofs.DueLemmas.{or_or}

-- by its items first, and then by the order of the offsets
value_is : (value : List ℕ) → value_fault value ≡ option_or (items_fault value) (option_map EntryOrder (first_fall (frames_in value).streams))
unfolding value_fault items_fault
value_is value =
    or_or (first_fault value 0 (due_items (count_in value))) (end_fault value (120 + 11 * count_in value)) (option_map EntryOrder (first_fall
    (frames_in value).streams))

-- by its items
pub by_items : (value : List ℕ) (fault : SegmentFault) → items_fault value ≡ Some fault → value_fault value ≡ Some fault
by_items value fault e =
    value_is value ∙ ap (λ (x : Option SegmentFault). option_or x (option_map EntryOrder (first_fall (frames_in value).streams))) e

-- or by the order alone
pub by_order : (value streams : List ℕ) (fall : Option ℕ) → items_fault value ≡ None → streams ≡ (frames_in value).streams → fall ≡ first_fall streams
    → value_fault value ≡ option_map EntryOrder fall
by_order value streams fall e s f =
    value_is value
    ∙ ap (λ (x : Option SegmentFault). option_or x (option_map EntryOrder (first_fall (frames_in value).streams))) e
    ∙ ap (option_map EntryOrder) (ap first_fall (sym s) ∙ sym f)

-- the offsets that stand in a value, of which there are so many
pub streams_are : (value streams : List ℕ) (count : ℕ) → count ≡ count_in value → streams ≡ map (stream_in value) (range_with_len 0 count)
    → streams ≡ (frames_in value).streams
streams_are value streams count n e = e ∙ ap (λ (m : ℕ). map (stream_in value) (range_with_len 0 m)) n
