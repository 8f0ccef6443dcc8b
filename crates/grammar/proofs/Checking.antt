-- That one token of look-ahead tells each choice of each rule apart.
use Rattle.std.proofs.Common.{◌≡◌, Bool, true, false, not, ◌&&◌, refl}
use Rattle.grammar.specs.Classes.{for_all}
use Rattle.grammar.specs.Forms.{Kind, Rule, Form, Tok, Seq, Alt, Many, Opt, Map, Nest, Ref, is_nullable}
use Rattle.grammar.specs.Forms.{Rule as r}
use Rattle.grammar.specs.Rules.{rule}
use Rattle.grammar.specs.Reading.{starts, continues}

abbrev pub is_told_apart : {a : Kind} → Form a → Bool
is_told_apart (Tok p) = true
is_told_apart (Seq f g) = is_told_apart f && is_told_apart g && for_all (λ k. not (continues f k && starts g k))
is_told_apart (Alt f g) = is_told_apart f && is_told_apart g && not (is_nullable f) && not (is_nullable g) && for_all (λ k. not (starts f k && starts g k))
is_told_apart (Many f) = is_told_apart f && not (is_nullable f) && for_all (λ k. not (continues f k && starts f k))
is_told_apart (Opt f) = is_told_apart f && not (is_nullable f)
is_told_apart (Map h f) = is_told_apart f
is_told_apart (Nest p f) = is_told_apart f
is_told_apart (Ref n) = true

pub told_apart : (n : Rule) → is_told_apart (rule n) ≡ true
told_apart r.query_rule = refl
told_apart r.item_rule = refl
told_apart r.using_rule = refl
told_apart (r.cond_rule true) = refl
told_apart (r.cond_rule false) = refl
told_apart (r.conj_rule true) = refl
told_apart (r.conj_rule false) = refl
told_apart (r.neg_rule true) = refl
told_apart (r.neg_rule false) = refl
told_apart (r.test_rule true) = refl
told_apart (r.test_rule false) = refl
told_apart (r.tail_rule true) = refl
told_apart (r.tail_rule false) = refl
told_apart (r.range_rule true) = refl
told_apart (r.range_rule false) = refl
told_apart (r.set_rule true) = refl
told_apart (r.set_rule false) = refl
told_apart r.asked_rule = refl
told_apart r.expr_rule = refl
