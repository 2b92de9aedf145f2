use Rattle.std.proofs.Common.{◌∙◌, sym, ap}
use Rattle.std.specs.Option.{option_copied}
use Rattle.ingest_run.proofs.WordsLemmas.{none_given, none_named, wrap_refused, encode_refused, recover_refused, check_refused, frame_refused, wrap_taken, encode_taken, recover_taken, check_taken, frame_taken}
use Rattle.ingest_run.proofs.words.read_command.Goals as goal

pub returns-in_default-clause-refused : goal.returns-in_default-clause-refused
returns-in_default-clause-refused c _ = none_given c.args.words.now (sym c.first.ensures.value ∙ ap option_copied c.in_default.is)

pub returns-in-wrap-clause-named : goal.returns-in-wrap-clause-named
returns-in-wrap-clause-named c =
    let first = sym c.first.ensures.value ∙ ap option_copied c.in-Some.is in
    let named = sym c.as_str.ensures.value ∙ c.in-wrap.is in
    wrap_taken c.args.words.now c.in-Some.first.now c.read_wrap.result first named c.read_wrap.ensures.named c.read_wrap.ensures.taken

pub returns-in-wrap-clause-refused : goal.returns-in-wrap-clause-refused
returns-in-wrap-clause-refused c faulty =
    let first = sym c.first.ensures.value ∙ ap option_copied c.in-Some.is in
    let named = sym c.as_str.ensures.value ∙ c.in-wrap.is in
    wrap_refused c.args.words.now c.in-Some.first.now first named (c.read_wrap.ensures.refused faulty)

pub returns-in-encode-clause-named : goal.returns-in-encode-clause-named
returns-in-encode-clause-named c =
    let first = sym c.first.ensures.value ∙ ap option_copied c.in-Some.is in
    let named = sym c.as_str.ensures.value ∙ c.in-encode.is in
    encode_taken c.args.words.now c.in-Some.first.now c.read_encode.result first named c.read_encode.ensures.named c.read_encode.ensures.taken

pub returns-in-encode-clause-refused : goal.returns-in-encode-clause-refused
returns-in-encode-clause-refused c faulty =
    let first = sym c.first.ensures.value ∙ ap option_copied c.in-Some.is in
    let named = sym c.as_str.ensures.value ∙ c.in-encode.is in
    encode_refused c.args.words.now c.in-Some.first.now first named (c.read_encode.ensures.refused faulty)

pub returns-in-recover-clause-named : goal.returns-in-recover-clause-named
returns-in-recover-clause-named c =
    let first = sym c.first.ensures.value ∙ ap option_copied c.in-Some.is in
    let named = sym c.as_str.ensures.value ∙ c.in-recover.is in
    recover_taken c.args.words.now c.in-Some.first.now c.read_recover.result first named c.read_recover.ensures.named c.read_recover.ensures.taken

pub returns-in-recover-clause-refused : goal.returns-in-recover-clause-refused
returns-in-recover-clause-refused c faulty =
    let first = sym c.first.ensures.value ∙ ap option_copied c.in-Some.is in
    let named = sym c.as_str.ensures.value ∙ c.in-recover.is in
    recover_refused c.args.words.now c.in-Some.first.now first named (c.read_recover.ensures.refused faulty)

pub returns-in-check-clause-named : goal.returns-in-check-clause-named
returns-in-check-clause-named c =
    let first = sym c.first.ensures.value ∙ ap option_copied c.in-Some.is in
    let named = sym c.as_str.ensures.value ∙ c.in-check.is in
    check_taken c.args.words.now c.in-Some.first.now c.read_check.result first named c.read_check.ensures.named c.read_check.ensures.taken

pub returns-in-check-clause-refused : goal.returns-in-check-clause-refused
returns-in-check-clause-refused c faulty =
    let first = sym c.first.ensures.value ∙ ap option_copied c.in-Some.is in
    let named = sym c.as_str.ensures.value ∙ c.in-check.is in
    check_refused c.args.words.now c.in-Some.first.now first named (c.read_check.ensures.refused faulty)

pub returns-in-frame-clause-named : goal.returns-in-frame-clause-named
returns-in-frame-clause-named c =
    let first = sym c.first.ensures.value ∙ ap option_copied c.in-Some.is in
    let named = sym c.as_str.ensures.value ∙ c.in-frame.is in
    frame_taken c.args.words.now c.in-Some.first.now c.read_frame.result first named c.read_frame.ensures.named c.read_frame.ensures.taken

pub returns-in-frame-clause-refused : goal.returns-in-frame-clause-refused
returns-in-frame-clause-refused c faulty =
    let first = sym c.first.ensures.value ∙ ap option_copied c.in-Some.is in
    let named = sym c.as_str.ensures.value ∙ c.in-frame.is in
    frame_refused c.args.words.now c.in-Some.first.now first named (c.read_frame.ensures.refused faulty)

pub returns-in_default-as_str-clause-refused : goal.returns-in_default-as_str-clause-refused
returns-in_default-as_str-clause-refused c _ =
    let first = sym c.first.ensures.value ∙ ap option_copied c.in-Some.is in
    none_named c.args.words.now c.in-Some.first.now first
    (λ e. c.in_default-as_str.not-wrap (c.as_str.ensures.value ∙ e))
    (λ e. c.in_default-as_str.not-encode (c.as_str.ensures.value ∙ e))
    (λ e. c.in_default-as_str.not-recover (c.as_str.ensures.value ∙ e))
    (λ e. c.in_default-as_str.not-check (c.as_str.ensures.value ∙ e))
    (λ e. c.in_default-as_str.not-frame (c.as_str.ensures.value ∙ e))
