use Rattle.std.proofs.Common.{rules, ◌≡◌, true, false, Some, None, inl, inr, sym, ap, ◌∙◌}
use Rattle.mxf_partitions.specs.Reads.{has_pack_key, kind_of, status_of}
use Rattle.mxf_partitions.specs.inner.Fronts.{front_size}
use Rattle.mxf_partitions.proofs.FrontLemmas.{size_told, fields_told, pack_says}
use Rattle.mxf_partitions.proofs.reading.read_pack.Goals as goal

pub returns-then-not-has_pack_size-clause-refused : goal.returns-then-not-has_pack_size-clause-refused
returns-then-not-has_pack_size-clause-refused c = λ item f.
    let key : has_pack_key c.args.key.now ≡ true = search rules in
    let size : front_size c.args.value_len c.args.front.now ≡ false = search rules in
    (ap has_pack_key f.key_is ∙ key, size_told item c.args.key.now c.args.value_len c.args.front.now f ∙ size)

pub returns-in_default-clause-refused : goal.returns-in_default-clause-refused
returns-in_default-clause-refused c = λ item f.
    let key : has_pack_key c.args.key.now ≡ true = search rules in
    let size : front_size c.args.value_len c.args.front.now ≡ true = search rules in
    let none : kind_of c.args.key.now ≡ None = search rules in
    (ap has_pack_key f.key_is ∙ key, size_told item c.args.key.now c.args.value_len c.args.front.now f ∙ size, inl (ap kind_of f.key_is ∙ none))

pub returns-in_default-status_of-clause-refused : goal.returns-in_default-status_of-clause-refused
returns-in_default-status_of-clause-refused c = λ item f.
    let key : has_pack_key c.args.key.now ≡ true = search rules in
    let size : front_size c.args.value_len c.args.front.now ≡ true = search rules in
    let none : status_of c.args.key.now ≡ None = search rules in
    (ap has_pack_key f.key_is ∙ key, size_told item c.args.key.now c.args.value_len c.args.front.now f ∙ size, inr (ap status_of f.key_is ∙ none))

pub returns-clause-read : goal.returns-clause-read
returns-clause-read c = λ item f.
    let key : has_pack_key c.args.key.now ≡ true = search rules in
    let size : front_size c.args.value_len c.args.front.now ≡ true = search rules in
    let kind : kind_of c.args.key.now ≡ Some _ = search rules in
    let status : status_of c.args.key.now ≡ Some _ = search rules in
    pack_says item _ _ (ap has_pack_key f.key_is ∙ key) (size_told item c.args.key.now c.args.value_len c.args.front.now f ∙ size)
    (ap kind_of f.key_is ∙ kind) (ap status_of f.key_is ∙ status)
    ∙ ap Some (fields_told item c.args.key.now c.args.value_len c.args.front.now _ _ f ∙ sym c.read_fields.ensures)
