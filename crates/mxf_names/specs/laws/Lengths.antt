-- Laws of the lengths of identifiers: proved here, for proofs to cite.
use Rattle.std.proofs.Common.{◌≡◌, ℕ, List, length, refl, arith, length-append, codes}
use Rattle.std.proofs.lemmas.List.{length-take-le}
use Rattle.byteorder.specs.Endian.{big_bytes}
use Rattle.rec_bytes.specs.Configuration.{Fields}
use Rattle.sha1.specs.Sha1.{sha1, digest_bytes}
use Rattle.mxf_names.specs.Identifiers.{AreIds, ids_of, named_id, set_id, umid}
use Rattle.mxf_names.specs.declared.ids.Ids.{Ids}
use Rattle.mxf_names.specs.declared.labels.TheConstants.{UMID_HEAD}

-- an identifier has 16 bytes
pub length-named_id : (namespace name : List ℕ) → length (named_id namespace name) ≡ 16
unfolding named_id sha1 digest_bytes
length-named_id namespace name = refl

-- the identifiers of a take have the sizes of their types
pub are-ids_of : (cfg : Fields) → length cfg.take_id ≡ 16 → AreIds (ids_of cfg)
unfolding ids_of
are-ids_of cfg h =
    let sets = length-named_id cfg.take_id (codes "sets") in
    let index = length-named_id cfg.take_id (codes "index") in
    record {
      take = h;
      file = length-named_id cfg.take_id (codes "file");
      sets = length-take-le 8 (named_id cfg.take_id (codes "sets")) (omega arith);
      index = length-take-le 8 (named_id cfg.take_id (codes "index")) (omega arith);
    }

-- an identifier of a set has 16 bytes
pub length-set_id : (ids : Ids) (number : ℕ) → AreIds ids → length (set_id ids number) ≡ 16
length-set_id ids number h = omega (arith, length-append ids.sets (big_bytes 8 number), h.sets)

-- a unique material identifier has 32
pub length-umid : (identifier : List ℕ) → length identifier ≡ 16 → length (umid identifier) ≡ 32
length-umid identifier h = omega (arith, length-append UMID_HEAD identifier, h)
