-- How what begins with a byte is read.
use Rattle.std.proofs.Common.{◌≡◌, ℕ, ◌==◌, ◌&&◌, ◌||◌, if◌then◌else◌, Bool, true, false, refl}
use Rattle.query_lexer.specs.Bytes.{is_blank, is_letter, is_digit, is_name_byte}
use Rattle.query_lexer.specs.Standing.{start_of}
use Rattle.query_lexer.specs.declared.piece.Start.{Start}
use Rattle.query_lexer.specs.declared.piece.Start.TheVariants as s

-- the first test that passes
abbrev pub start_by : (blank quote name letter number bracket : Bool) → Start
start_by blank quote name letter number bracket =
    if blank then s.Blank
    else if quote then s.Quote
    else if name then s.Name
    else if letter then s.Letter
    else if number then s.Number
    else if bracket then s.Bracket
    else s.Sign

start_blank : (a q n l d k : Bool) → a ≡ true → start_by a q n l d k ≡ s.Blank
start_blank a q n l d k is = rw is refl

start_is_blank : (a q n l d k : Bool) → start_by a q n l d k ≡ s.Blank → a ≡ true
start_is_blank true q n l d k e = refl
start_is_blank false true n l d k e = cc
start_is_blank false false true l d k e = cc
start_is_blank false false false true d k e = cc
start_is_blank false false false false true k e = cc
start_is_blank false false false false false true e = cc
start_is_blank false false false false false false e = cc

start_is_name : (a q n l d k : Bool) → start_by a q n l d k ≡ s.Name → n ≡ true
start_is_name true q n l d k e = cc
start_is_name false true n l d k e = cc
start_is_name false false true l d k e = refl
start_is_name false false false true d k e = cc
start_is_name false false false false true k e = cc
start_is_name false false false false false true e = cc
start_is_name false false false false false false e = cc

start_is_letter : (a q n l d k : Bool) → start_by a q n l d k ≡ s.Letter → l ≡ true
start_is_letter true q n l d k e = cc
start_is_letter false true n l d k e = cc
start_is_letter false false true l d k e = cc
start_is_letter false false false true d k e = refl
start_is_letter false false false false true k e = cc
start_is_letter false false false false false true e = cc
start_is_letter false false false false false false e = cc

pub blank_start : (names : Bool) (b : ℕ) → is_blank b ≡ true → start_of names b ≡ s.Blank
blank_start names b is = start_blank _ _ _ _ _ _ is

pub start_of_blank : (names : Bool) (b : ℕ) → start_of names b ≡ s.Blank → is_blank b ≡ true
start_of_blank names b is = start_is_blank (is_blank b) (b == 39) (names && is_name_byte b) (is_letter b) (is_digit b || b == 45) (b == 91) is

pub start_of_name : (names : Bool) (b : ℕ) → start_of names b ≡ s.Name → (names && is_name_byte b) ≡ true
start_of_name names b is = start_is_name (is_blank b) (b == 39) (names && is_name_byte b) (is_letter b) (is_digit b || b == 45) (b == 91) is

pub start_of_letter : (names : Bool) (b : ℕ) → start_of names b ≡ s.Letter → is_letter b ≡ true
start_of_letter names b is = start_is_letter (is_blank b) (b == 39) (names && is_name_byte b) (is_letter b) (is_digit b || b == 45) (b == 91) is
