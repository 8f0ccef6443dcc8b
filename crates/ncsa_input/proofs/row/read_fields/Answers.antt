use Rattle.std.proofs.Common.{◌++◌, ◌∷◌, [], None, Some, cond, get_or, refl, sym, ap, ◌∙◌, option_map, map}
use Rattle.std.proofs.lemmas.List.{map-append}
use Rattle.line_input.specs.Parts.{field_of}
use Rattle.line_input.specs.Taken.{slot_bytes, slots_of}
use Rattle.ncsa_input.specs.declared.shape.Shape.TheVariants.{Word}
use Rattle.ncsa_input.specs.Lines.{may_end, shapes}
use Rattle.ncsa_input.proofs.Rows.{read_other, read_unparted, read_more, read_end, read_past, parts_read}
use Rattle.ncsa_input.proofs.row.read_fields.Goals as goal

pub returns-in_default : goal.returns-in_default
returns-in_default c =
    let shape = get_or shapes c.loop-shape.shape-index Word in
    sym (ap (option_map (map field_of)) (read_other c.args.line.now c.loop-shape.at c.loop-shape.shape-index (slots_of c.args.line.now c.loop-shape.row) shape Word c.loop-shape.invariant.read c.loop-shape-test.true refl c.in_default.ensures))

pub returns-in_default-behind_spaces : goal.returns-in_default-behind_spaces
returns-in_default-behind_spaces c =
    let shape = get_or shapes c.loop-shape.shape-index Word in
    sym (ap (option_map (map field_of)) (read_unparted c.args.line.now c.loop-shape.at c.loop-shape.shape-index (slots_of c.args.line.now c.loop-shape.row) shape Word c.in-Some.piece c.loop-shape.invariant.read c.loop-shape-test.true refl c.in-Some.ensures c.if-piece-line.false c.in_default-behind_spaces.ensures))

pub loop-shape-preserved : goal.loop-shape-preserved
loop-shape-preserved c =
    let line = c.args.line.now in
    let shape = get_or shapes c.loop-shape.shape-index Word in
    record {
      items = c.loop-shape.invariant.items;
      read = read_more line c.loop-shape.at c.loop-shape.shape-index c.in-Some-behind_spaces.next (slots_of line c.loop-shape.row) (slots_of line c.push.new.self) shape Word c.in-Some.piece c.loop-shape.invariant.read c.loop-shape-test.true refl c.in-Some.ensures c.if-piece-line.false
          c.in-Some-behind_spaces.ensures.0 c.in-Some-behind_spaces.ensures.1
          (ap (slots_of line) c.in_ok-push.ensures.ok ∙ (map-append (slot_bytes line) c.loop-shape.row (c.in_ok-field.field-0 ∷ []) ∙ ap (λ slot. slots_of line c.loop-shape.row ++ slot ∷ []) c.in_ok-field.ensures));
    }

pub returns-then-piece-line : goal.returns-then-piece-line
returns-then-piece-line c =
    let line = c.args.line.now in
    let shape = get_or shapes c.loop-shape.shape-index Word in
    let size = parts_read line c.loop-shape.at c.loop-shape.shape-index c.loop-shape.row c.push.new.self c.in_ok-field.field-0 c.loop-shape.invariant.read c.in_ok-push.ensures.ok in
    ap (λ b. cond b (Some (slots_of line c.push.new.self)) None) (c.may_end.ensures ∙ ap may_end c.len.ensures)
    ∙ (ap (λ n. cond (may_end n) (Some (slots_of line c.push.new.self)) None) size
    ∙ read_end line c.loop-shape.at c.loop-shape.shape-index (slots_of line c.loop-shape.row) (slots_of line c.push.new.self) shape Word c.in-Some.piece c.loop-shape.invariant.read c.loop-shape-test.true refl c.in-Some.ensures c.if-piece-line.true
    (ap (slots_of line) c.in_ok-push.ensures.ok ∙ (map-append (slot_bytes line) c.loop-shape.row (c.in_ok-field.field-0 ∷ []) ∙ ap (λ slot. slots_of line c.loop-shape.row ++ slot ∷ []) c.in_ok-field.ensures)))

pub returns : goal.returns
returns c = sym (ap (option_map (map field_of)) (read_past c.args.line.now c.loop-shape.at c.loop-shape.shape-index (slots_of c.args.line.now c.loop-shape.row) c.loop-shape.invariant.read c.loop-shape-test.false))
