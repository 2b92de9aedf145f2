use Rattle.std.proofs.Common.{ℕ, List, arith, refl, ap, ◌∙◌}
use Rattle.std.specs.List.{flat_map}
use Rattle.byteorder.specs.Endian.{big_bytes}
use Rattle.klv.specs.Items.{klv_head}
use Rattle.rec_bytes.specs.Places.{with_bytes}
use Rattle.klv.specs.laws.Lengths.{length-klv_head}
use Rattle.mxf_metadata.specs.inner.Entries.{tag_bytes}
use Rattle.mxf_metadata.specs.declared.tags.TheConstants.{TAGS}
use Rattle.mxf_names.specs.declared.keys.TheConstants.{PRIMER_KEY}
use Rattle.mxf_metadata.proofs.PrimerLemmas.{four, parts, length_entries}
use Rattle.mxf_metadata.proofs.primer.put_primer.Goals as goal

pub returns : goal.returns
returns c =
    four c.args.out.now c.put_klv_head_at.new.out c.put_u32.new.out c.put_u32-2.new.out c.put_entries.new.out (klv_head PRIMER_KEY 3 908) (big_bytes 4 50) (big_bytes 4 18) (flat_map tag_bytes TAGS) (length-klv_head PRIMER_KEY 3 908 refl) refl refl (omega (arith, c.requires.room, length_entries)) c.put_klv_head_at.ensures.written c.put_u32.ensures c.put_u32-2.ensures c.put_entries.ensures
    ∙ ap (λ (bytes : List ℕ). with_bytes c.args.out.now 0 bytes) parts
