-- Numbers in names.
use Rattle.std.proofs.Common.{◌≡◌, ◌≢◌, ℕ, ◌<◌, ◌≤◌, ◌^◌, List, ◌++◌, sym, ◌∙◌, subst, arith, Result, Ok, Err, Option, Some, None, MatchOption}
use Rattle.std.proofs.lemmas.List.{append_cancel_left}
use Rattle.std.specs.Fmt.{decimal}
use Rattle.std.specs.Str.{IsUtf8}
use Rattle.std.specs.Str.Parse.{ParsesUnsigned}
use Rattle.std.proofs.lemmas.Fmt.{decimal-digits_of, parse-decimal, IsAscii-decimal}
use Rattle.std.proofs.lemmas.Str.{IsUtf8-from_ascii}
use Rattle.run_model.proofs.Generations.{one_text}
use Rattle.generations.specs.Numbers.{IsPlain, IsNotPlain, IsNumber, IsNoNumber, IsGenerationOf, IsNoGeneration, IsIdentityOf, IsNoIdentity}

pub number_decimal : (text : List ℕ) (number : ℕ) → IsPlain text number → text ≡ decimal number
number_decimal text number is = let small = is.small in is.is ∙ sym (decimal-digits_of number is.some (omega arith))

-- a number's text is read as that number
pub read_as : {E : Type 0} (text digits : List ℕ) (number : ℕ) (r : Result ℕ E) → digits ≡ text → ParsesUnsigned 64 10 digits r → IsPlain text number → r ≡ Ok number
read_as text digits number r same parses is = let small = is.small in parse-decimal 64 number digits r (omega arith) (omega arith) (same ∙ number_decimal text number is) parses

pub one_read : {E : Type 0} (text digits : List ℕ) (found number : ℕ) (r : Result ℕ E) → digits ≡ text → ParsesUnsigned 64 10 digits r → r ≡ Ok found → IsPlain text number → found ≡ number
one_read text digits found number r same parses is_found is = let e : Ok found ≡ Ok number = sym is_found ∙ read_as text digits number r same parses is in cc

pub none_read : {E : Type 0} (text digits : List ℕ) (fault : E) (number : ℕ) (r : Result ℕ E) → digits ≡ text → ParsesUnsigned 64 10 digits r → r ≡ Err fault → IsPlain text number → ⊥
none_read text digits fault number r same parses is_fault is = let e : Err fault ≡ Ok number = sym is_fault ∙ read_as text digits number r same parses is in cc

-- it is UTF-8
pub number_utf8 : (text : List ℕ) (number : ℕ) → IsPlain text number → IsUtf8 text
number_utf8 text number is = let small = is.small in subst IsUtf8 (sym (number_decimal text number is)) (IsUtf8-from_ascii (decimal number) (IsAscii-decimal number (omega arith)))

pub written : (text : List ℕ) (number : ℕ) → 1 ≤ number → number < 2 ^ 64 → decimal number ≡ text → IsPlain text number
written text number some small is = record { some = some; small = small; is = sym is ∙ decimal-digits_of number some (omega arith) }

-- a number of a rotated file is a plain one
pub plain_of : (text : List ℕ) (number : ℕ) → IsNumber text number → IsPlain text number
plain_of text number is = let small = is.small in record { some = is.some; small = omega (arith, small); is = is.is }

-- a text is one number
pub one_plain : (text : List ℕ) (a b : ℕ) → IsPlain text a → IsPlain text b → a ≡ b
one_plain text a b f g = one_text a b (sym f.is ∙ g.is)

-- a name behind a front
pub generation_behind : (front name bytes text : List ℕ) (found : Option ℕ) → bytes ≡ name → bytes ≡ front ++ text → MatchOption found (IsNoNumber text) (IsNumber text) → MatchOption found (IsNoGeneration front name) (IsGenerationOf front name)
generation_behind front name bytes text None same split none = λ number is.
    let texts : text ≡ is.text = append_cancel_left front text is.text (sym split ∙ (same ∙ is.parts)) in
    none number (subst (λ (t : List ℕ). IsNumber t number) (sym texts) is.is)
generation_behind front name bytes text (Some number) same split is = record { text = text; parts = sym same ∙ split; is = is }

pub no_generation : (front name bytes : List ℕ) → bytes ≡ name → ((rest : List ℕ) → bytes ≢ front ++ rest) → IsNoGeneration front name
no_generation front name bytes same none = λ number is. none is.text (same ∙ is.parts)

pub identity_behind : (front name bytes text : List ℕ) (found : Option ℕ) → bytes ≡ name → bytes ≡ front ++ text → MatchOption found (IsNotPlain text) (IsPlain text) → MatchOption found (IsNoIdentity front name) (IsIdentityOf front name)
identity_behind front name bytes text None same split none = λ number is.
    let texts : text ≡ is.text = append_cancel_left front text is.text (sym split ∙ (same ∙ is.parts)) in
    none number (subst (λ (t : List ℕ). IsPlain t number) (sym texts) is.is)
identity_behind front name bytes text (Some number) same split is = record { text = text; parts = sym same ∙ split; is = is }

pub no_identity : (front name bytes : List ℕ) → bytes ≡ name → ((rest : List ℕ) → bytes ≢ front ++ rest) → IsNoIdentity front name
no_identity front name bytes same none = λ number is. none is.text (same ∙ is.parts)
