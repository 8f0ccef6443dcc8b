use Rattle.std.proofs.Common.{List, ℕ, ◌++◌, ◌∙◌, ap}
use Rattle.std.specs.Prelude.{codes}
use Rattle.ledger_model.specs.Inputs.{format_word, switch_word, separator_word}
use Rattle.ledger.proofs.Inputting.{behind_mark, behind_format, behind_word, behind_switch, behind_separator}
use Rattle.ledger.proofs.input_text.is_input.Goals as goal

pub returns-in_default-after : goal.returns-in_default-after
returns-in_default-after c = λ is.
    let r1 = behind_mark c.args.text.now c.in-Some.format.now is.input is.is c.in-Some.ensures in
    let r2 = behind_format c.in-Some.format.now c.in-Some-after_format.header.now _ c.in-Some-after_format.ensures.0 is.input.format r1 c.in-Some-after_format.ensures.1 in
    c.in_default-after.ensures _ r2

pub returns-in_default-after-2 : goal.returns-in_default-after-2
returns-in_default-after-2 c = λ is.
    let r1 = behind_mark c.args.text.now c.in-Some.format.now is.input is.is c.in-Some.ensures in
    let r2 = behind_format c.in-Some.format.now c.in-Some-after_format.header.now _ c.in-Some-after_format.ensures.0 is.input.format r1 c.in-Some-after_format.ensures.1 in
    let r3 = behind_word (codes " -headerRow:") c.in-Some-after_format.header.now c.in-Some-after.switch.now _ r2 c.in-Some-after.ensures in
    let r4 = behind_switch c.in-Some-after.switch.now c.in-Some-after_switch.separator.now _ c.in-Some-after_switch.ensures.0 is.input.header_row r3 c.in-Some-after_switch.ensures.1 in
    c.in_default-after-2.ensures _ r4

pub returns : goal.returns
returns c = λ is.
    let r1 = behind_mark c.args.text.now c.in-Some.format.now is.input is.is c.in-Some.ensures in
    let r2 = behind_format c.in-Some.format.now c.in-Some-after_format.header.now _ c.in-Some-after_format.ensures.0 is.input.format r1 c.in-Some-after_format.ensures.1 in
    let r3 = behind_word (codes " -headerRow:") c.in-Some-after_format.header.now c.in-Some-after.switch.now _ r2 c.in-Some-after.ensures in
    let r4 = behind_switch c.in-Some-after.switch.now c.in-Some-after_switch.separator.now _ c.in-Some-after_switch.ensures.0 is.input.header_row r3 c.in-Some-after_switch.ensures.1 in
    let r5 = behind_word (codes " -iSeparator:") c.in-Some-after_switch.separator.now c.in-Some-after-2.character.now _ r4 c.in-Some-after-2.ensures in
    let r6 = behind_separator c.in-Some-after-2.character.now c.in-Some-after_separator.rotation.now _ c.in-Some-after_separator.ensures.0 is.input.separator r5 c.in-Some-after_separator.ensures.2 in
    c.if-is_rotation.ensures is.input.numbers r6

pub returns-then-is_rotation : goal.returns-then-is_rotation
returns-then-is_rotation c =
    let f = c.in-Some-after_format.ensures in
    let a = c.in-Some-after_switch.ensures in
    let s = c.in-Some-after_separator.ensures in
    let r = c.if-is_rotation.ensures in
    record {
      input = record { format = f.0; header_row = a.0; separator = s.0; numbers = r.0 };
      separator = s.1;
      is = c.in-Some.ensures ∙ ap (λ (t : List ℕ). codes "-i:" ++ t) (f.1
          ∙ ap (λ (t : List ℕ). format_word f.0 ++ t) (c.in-Some-after.ensures ∙ ap (λ (t : List ℕ). codes " -headerRow:" ++ t) (a.1
          ∙ ap (λ (t : List ℕ). switch_word a.0 ++ t) (c.in-Some-after-2.ensures ∙ ap (λ (t : List ℕ). codes " -iSeparator:" ++ t) (s.2
          ∙ ap (λ (t : List ℕ). separator_word s.0 ++ t) r.1)))));
    }
