use Rattle.std.proofs.Common.{◌≡◌, ℕ, ℤ, List, Some, take, drop, sym, ap, ◌∙◌, w64}
use Rattle.std.proofs.lemmas.Int.{to_z-of_z}
use Rattle.std.specs.Option.{option_map, option_and_then}
use Rattle.std.specs.Str.{chars, encode_utf8_all}
use Rattle.text_functions.specs.Positions.{natural, substring}
use Rattle.text_functions.proofs.CharacterLemmas.{part_between}
use Rattle.text_functions.proofs.places.substr.Goals as goal

substring-some : (text : List ℕ) (from most : ℤ) (n m : ℕ) → natural from ≡ Some n → natural most ≡ Some m → substring text from most ≡ Some (encode_utf8_all (take m (drop n (chars text))))
substring-some text from most n m first second =
    ap (option_and_then (λ (i : ℕ). option_map (λ (j : ℕ). encode_utf8_all (take j (drop i (chars text)))) (natural most))) first
    ∙ ap (option_map (λ (j : ℕ). encode_utf8_all (take j (drop n (chars text))))) second

pub returns : goal.returns
returns c =
    let from = ap natural (sym (to_z-of_z w64 c.args.from c.ranges.from)) ∙ (sym c.natural.ensures ∙ c.in_ok-from.was) in
    let most = ap natural (sym (to_z-of_z w64 c.args.most c.ranges.most)) ∙ (sym c.natural-2.ensures ∙ c.in_ok-most.was) in
    ap Some (part_between c.args.text.now c.behind.result.now c.front.result.now c.in_ok-from.from c.in_ok-most.most c.behind.utf8 c.behind.ensures c.front.ensures)
    ∙ sym (substring-some c.args.text.now c.args.from c.args.most c.in_ok-from.from c.in_ok-most.most from most)
