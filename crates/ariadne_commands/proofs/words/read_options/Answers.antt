-- Each turn takes one option.
use Rattle.std.proofs.Common.{◌≡◌, sym, ◌∙◌}
use Rattle.std.specs.Prelude.{string_bytes, []}
use Rattle.std.proofs.lemmas.List.{nil_from_length}
use Rattle.ariadne_commands.specs.Words.{front_of}
use Rattle.ariadne_commands.specs.declared.words.Front.TheVariants.{Ascii, Plain, Compact, Bytes, File}
use Rattle.ariadne_commands.specs.declared.words.Front.TheVariants.{Dashes, Unknown, Message}
use Rattle.ariadne_commands.proofs.Options.{after_ascii, after_bytes, after_compact, after_dashes, after_file, after_message}
use Rattle.ariadne_commands.proofs.Options.{after_none, after_file_alone, after_plain, after_unknown}
use Rattle.ariadne_commands.proofs.words.read_options.Goals as goal

pub returns-in-Dashes : goal.returns-in-Dashes
returns-in-Dashes c =
    let is : front_of (string_bytes c.in-Some.word.now) ≡ Dashes = sym (rw c.as_str.ensures.value at c.in-Dashes.ensures) in
    c.loop-word.invariant ∙ (rw c.in-Some.ensures.cases.0 (after_dashes _ _ _ is))

pub returns-in-Unknown : goal.returns-in-Unknown
returns-in-Unknown c =
    let is : front_of (string_bytes c.in-Some.word.now) ≡ Unknown = sym (rw c.as_str.ensures.value at c.in-Unknown.ensures) in
    c.loop-word.invariant ∙ (rw c.in-Some.ensures.cases.0 (after_unknown _ _ _ is))

pub returns-in-Message : goal.returns-in-Message
returns-in-Message c =
    let is : front_of (string_bytes c.in-Some.word.now) ≡ Message = sym (rw c.as_str.ensures.value at c.in-Message.ensures) in
    c.loop-word.invariant ∙ (rw c.in-Some.ensures.cases.0 (after_message _ _ _ is))

pub loop-word-preserved-in-Ascii : goal.loop-word-preserved-in-Ascii
loop-word-preserved-in-Ascii c =
    let is : front_of (string_bytes c.in-Some.word.now) ≡ Ascii = sym (rw c.as_str.ensures.value at c.in-Ascii.ensures) in
    c.loop-word.invariant ∙ (rw c.in-Some.ensures.cases.0 (after_ascii _ _ _ is))

pub loop-word-preserved-in-Plain : goal.loop-word-preserved-in-Plain
loop-word-preserved-in-Plain c =
    let is : front_of (string_bytes c.in-Some.word.now) ≡ Plain = sym (rw c.as_str.ensures.value at c.in-Plain.ensures) in
    c.loop-word.invariant ∙ (rw c.in-Some.ensures.cases.0 (after_plain _ _ _ is))

pub loop-word-preserved-in-Compact : goal.loop-word-preserved-in-Compact
loop-word-preserved-in-Compact c =
    let is : front_of (string_bytes c.in-Some.word.now) ≡ Compact = sym (rw c.as_str.ensures.value at c.in-Compact.ensures) in
    c.loop-word.invariant ∙ (rw c.in-Some.ensures.cases.0 (after_compact _ _ _ is))

pub loop-word-preserved : goal.loop-word-preserved
loop-word-preserved c =
    let is : front_of (string_bytes c.in-Some.word.now) ≡ Bytes = sym (rw c.as_str.ensures.value at c.in-Bytes.ensures) in
    c.loop-word.invariant ∙ (rw c.in-Some.ensures.cases.0 (after_bytes _ _ _ is))

pub loop-word-preserved-in-File : goal.loop-word-preserved-in-File
loop-word-preserved-in-File c =
    let is : front_of (string_bytes c.in-Some.word.now) ≡ File = sym (rw c.as_str.ensures.value at c.in-File.ensures) in
    c.loop-word.invariant
    ∙ (rw (c.in-Some.ensures.cases.0, c.in_ok-path-in-File.ensures.cases.0, c.as_str-in-File.ensures.value) (after_file _ _ _ _ is))

pub returns-in_err-path-in-File : goal.returns-in_err-path-in-File
returns-in_err-path-in-File c =
    let is : front_of (string_bytes c.in-Some.word.now) ≡ File = sym (rw c.as_str.ensures.value at c.in-File.ensures) in
    let alone : c.in-Some.others.now ≡ [] = nil_from_length _ c.in_err-path-in-File.ensures.cases in
    rw c.from_residual.ensures (c.loop-word.invariant ∙ (rw (c.in-Some.ensures.cases.0, alone) (after_file_alone _ _ is)))

pub returns : goal.returns
returns c =
    let none : c.loop-word.rest.now ≡ [] = nil_from_length _ c.in_default.ensures.cases in
    c.loop-word.invariant ∙ (rw none (after_none _ _))
