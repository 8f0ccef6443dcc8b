use Rattle.std.proofs.Common.{◌≡◌, ◌<◌, ◌+◌, ◌++◌, ◌∷◌, [], ℕ, List, length, take, get_or, sym, ap, subst, ◌∙◌, arith}
use Rattle.std.proofs.lemmas.List.{length-map, take_more}
use Rattle.line_input.specs.declared.slot.Slot.{Slot}
use Rattle.lp_model.specs.Reading.{Columns}
use Rattle.delimited_input.specs.Names.{header_name}
use Rattle.delimited_input.specs.Kept.{text_of, texts_of}
use Rattle.delimited_input.specs.Noted.{AreNoted}
use Rattle.delimited_input.proofs.Naming.{names_up_to, names_more, names_all, noted_none, name_there}
use Rattle.delimited_input.proofs.header.header_names.Goals as goal

pub loop-place-init : goal.loop-place-init
loop-place-init c = record { names = c.new-names.ensures; noted = subst (λ keys. AreNoted keys []) (sym c.new-earlier.ensures.empty) noted_none }

pub loop-place-preserved : goal.loop-place-preserved
loop-place-preserved c =
    let texts : List (List ℕ) = texts_of c.args.line.now c.args.fields.now in
    let place = c.loop-place.place in
    let size : length texts ≡ length c.args.fields.now = length-map c.args.fields.now (text_of c.args.line.now) in
    let slots : length c.as_slice-slots.result.now ≡ length c.args.fields.now = ap length c.as_slice-slots.ensures in
    let within : place < length texts = omega (arith, size, slots, c.loop-place-test.true) in
    let name = c.text_of-name.result.now in
    let there : name ≡ get_or texts place [] =
    name_there c.args.line.now c.as_slice-slots.result.now place c.index-slots-place.result name c.loop-place-test.true c.index-slots-place.is c.text_of-name.ensures
    ∙ ap (λ (all : List Slot). get_or (texts_of c.args.line.now all) place []) c.as_slice-slots.ensures in
    let known = c.loop-place.invariant.noted in
    record {
      names = c.in_ok-add_name.ensures.added (take place texts) known
          ∙ (ap (λ (names : Columns). names ++ header_name (take place texts) (place + 1) name ∷ []) c.loop-place.invariant.names
          ∙ (ap (λ (n : List ℕ). names_up_to texts place ++ header_name (take place texts) (place + 1) n ∷ []) there
          ∙ sym (names_more texts place within)));
      noted = subst (λ names. AreNoted c.add_name.new.earlier.keys names) (ap (λ (n : List ℕ). take place texts ++ n ∷ []) there ∙ sym (take_more texts place [] within)) (c.in_ok-add_name.ensures.noted (take place texts) known);
    }

pub returns : goal.returns
returns c =
    let texts : List (List ℕ) = texts_of c.args.line.now c.args.fields.now in
    let size : length texts ≡ length c.args.fields.now = length-map c.args.fields.now (text_of c.args.line.now) in
    let slots : length c.as_slice-slots.result.now ≡ length c.args.fields.now = ap length c.as_slice-slots.ensures in
    c.loop-place.invariant.names ∙ names_all texts c.loop-place.place (omega (arith, size, slots, c.loop-place-test.false))
