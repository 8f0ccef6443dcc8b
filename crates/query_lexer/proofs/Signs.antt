-- The longest sign in front.
use Rattle.std.specs.List.{starts_with}
use Rattle.std.specs.Cmp.Lexicographic.{pointwise}
use Rattle.std.proofs.Common.{◌≡◌, ℕ, zero, suc, ◌≤◌, ◌<◌, ◌||◌, nat_eq, cond, Bool, true, false, List, [], ◌∷◌, ◌++◌, length, take, drop, get_or, find, Option, Some, None, MatchOption, unwrap_or, refl, sym, ◌∙◌, ap, subst, arith, lit<, lit≤, take-append-drop}
use Rattle.std.proofs.Math.Seq.{take-append_seam}
use Rattle.std.proofs.lemmas.Bool.{false≢true}
use Rattle.query_lexer.specs.Symbols.{text_of, BeginsWith, HasSign, HasNoSign}
use Rattle.query_lexer.specs.declared.symbol.TheConstants.{ALL}
use Rattle.query_lexer.specs.declared.symbol.Symbol.{Symbol}
use Rattle.query_lexer.specs.declared.symbol.Symbol.TheVariants as y
use Rattle.query_lexer.proofs.Finding.{pointwise_same, pointwise_self, find_passes}

abbrev pub begins : List ℕ → Symbol → Bool
begins text sign = starts_with nat_eq text (text_of sign)

pub sign_front : (text : List ℕ) (sign : Symbol) → BeginsWith text sign → text_of sign ≡ take (length (text_of sign)) text
sign_front text sign is = sym (take-append_seam (text_of sign) is.0) ∙ ap (λ (x : List ℕ). take (length (text_of sign)) x) (sym is.1)

begins_so : (text : List ℕ) (sign : Symbol) → BeginsWith text sign → begins text sign ≡ true
begins_so text sign is = ap (λ (x : List ℕ). pointwise nat_eq (text_of sign) x) (sym (sign_front text sign is)) ∙ pointwise_self (text_of sign)

so_begins : (text : List ℕ) (sign : Symbol) → begins text sign ≡ true → BeginsWith text sign
so_begins text sign is =
    (drop (length (text_of sign)) text, sym (take-append-drop (length (text_of sign)) text) ∙ ap (λ (x : List ℕ). x ++ drop (length (text_of sign)) text) (sym (pointwise_same (text_of sign) (take (length (text_of sign)) text) is)))

find_none_by : {A : Type 0} (test : A → Bool) (b : Bool) (x : A) (xs : List A) → test x ≡ b → cond b (Some x) (find test xs) ≡ None → (test x ≡ false) × (find test xs ≡ None)
find_none_by test true x xs is e = cc
find_none_by test false x xs is e = (is, e)

find_none : {A : Type 0} (test : A → Bool) (xs : List A) (i : ℕ) (d : A) → find test xs ≡ None → i < length xs → test (get_or xs i d) ≡ false
find_none test [] i d e lt = absurd (omega arith)
find_none test (x ∷ xs) zero d e lt = (find_none_by test (test x) x xs refl e).0
find_none test (x ∷ xs) (suc i) d e lt = find_none test xs i d (find_none_by test (test x) x xs refl e).1 (omega arith)

-- each sign stands in the table
place : (sign : Symbol) → (i : ℕ) × (i < 11) × (get_or ALL i y.Open ≡ sign)
place y.NotEqual = (0, lit< tt, refl)
place y.LessEqual = (1, lit< tt, refl)
place y.MoreEqual = (2, lit< tt, refl)
place y.Open = (3, lit< tt, refl)
place y.Close = (4, lit< tt, refl)
place y.Comma = (5, lit< tt, refl)
place y.Semicolon = (6, lit< tt, refl)
place y.Star = (7, lit< tt, refl)
place y.Equal = (8, lit< tt, refl)
place y.Less = (9, lit< tt, refl)
place y.More = (10, lit< tt, refl)

sign_is : {one two : Symbol} → Some one ≡ Some two → one ≡ two
sign_is {one} e = ap (λ (o : Option Symbol). unwrap_or o one) e

-- the longer ones come first
three_first : (a b c : Bool) (rest : Option Symbol) (sign : Symbol) → cond a (Some y.NotEqual) (cond b (Some y.LessEqual) (cond c (Some y.MoreEqual) rest)) ≡ Some sign → (a || b || c) ≡ true → 2 ≤ length (text_of sign)
three_first true b c rest sign e some = subst (λ (x : Symbol). 2 ≤ length (text_of x)) (sign_is e) (lit≤ tt)
three_first false true c rest sign e some = subst (λ (x : Symbol). 2 ≤ length (text_of x)) (sign_is e) (lit≤ tt)
three_first false false true rest sign e some = subst (λ (x : Symbol). 2 ≤ length (text_of x)) (sign_is e) (lit≤ tt)
three_first false false false rest sign e some = absurd (false≢true some)

some_bytes : (sign : Symbol) → 1 ≤ length (text_of sign)
some_bytes y.Open = lit≤ tt
some_bytes y.Close = lit≤ tt
some_bytes y.Comma = lit≤ tt
some_bytes y.Semicolon = lit≤ tt
some_bytes y.Star = lit≤ tt
some_bytes y.Equal = lit≤ tt
some_bytes y.NotEqual = lit≤ tt
some_bytes y.Less = lit≤ tt
some_bytes y.More = lit≤ tt
some_bytes y.LessEqual = lit≤ tt
some_bytes y.MoreEqual = lit≤ tt

or_first : (a b c : Bool) → a ≡ true → (a || b || c) ≡ true
or_first a b c is = rw is refl

or_second : (a b c : Bool) → b ≡ true → (a || b || c) ≡ true
or_second true b c is = refl
or_second false b c is = rw is refl

or_third : (a b c : Bool) → c ≡ true → (a || b || c) ≡ true
or_third true b c is = refl
or_third false true c is = refl
or_third false false c is = is

three : (text : List ℕ) (sign : Symbol) → find (begins text) ALL ≡ Some sign → (begins text y.NotEqual || begins text y.LessEqual || begins text y.MoreEqual) ≡ true → 2 ≤ length (text_of sign)
three text sign e some = three_first (begins text y.NotEqual) (begins text y.LessEqual) (begins text y.MoreEqual) (find (begins text) (drop 3 ALL)) sign e some

longest : (text : List ℕ) (sign : Symbol) → find (begins text) ALL ≡ Some sign → (other : Symbol) → BeginsWith text other → length (text_of other) ≤ length (text_of sign)
longest text sign e y.Open is = some_bytes sign
longest text sign e y.Close is = some_bytes sign
longest text sign e y.Comma is = some_bytes sign
longest text sign e y.Semicolon is = some_bytes sign
longest text sign e y.Star is = some_bytes sign
longest text sign e y.Equal is = some_bytes sign
longest text sign e y.NotEqual is = three text sign e (or_first (begins text y.NotEqual) (begins text y.LessEqual) (begins text y.MoreEqual) (begins_so text y.NotEqual is))
longest text sign e y.Less is = some_bytes sign
longest text sign e y.More is = some_bytes sign
longest text sign e y.LessEqual is = three text sign e (or_second (begins text y.NotEqual) (begins text y.LessEqual) (begins text y.MoreEqual) (begins_so text y.LessEqual is))
longest text sign e y.MoreEqual is = three text sign e (or_third (begins text y.NotEqual) (begins text y.LessEqual) (begins text y.MoreEqual) (begins_so text y.MoreEqual is))

pub sign_found : (text : List ℕ) (found : Option Symbol) → find (begins text) ALL ≡ found → MatchOption found (HasNoSign text) (HasSign text)
sign_found text None e = λ sign is. false≢true (sym (subst (λ (x : Symbol). begins text x ≡ false) (place sign).2 (find_none (begins text) ALL (place sign).0 y.Open e (place sign).1)) ∙ begins_so text sign is)
sign_found text (Some sign) e = (so_begins text sign (find_passes (begins text) ALL sign e), longest text sign e)

-- a text is one sign's at most
sign_of : List ℕ → Option Symbol
sign_of text = find (λ sign. pointwise nat_eq text (text_of sign)) ALL

named : (sign : Symbol) → sign_of (text_of sign) ≡ Some sign
unfolding sign_of
named y.Open = refl
named y.Close = refl
named y.Comma = refl
named y.Semicolon = refl
named y.Star = refl
named y.Equal = refl
named y.NotEqual = refl
named y.Less = refl
named y.More = refl
named y.LessEqual = refl
named y.MoreEqual = refl

pub sign_once : (text : List ℕ) (one two : Symbol) → HasSign text one → HasSign text two → one ≡ two
sign_once text one two first second =
    let low : length (text_of one) ≤ length (text_of two) = second.1 one first.0 in
    let high : length (text_of two) ≤ length (text_of one) = first.1 two second.0 in
    let size : length (text_of one) ≡ length (text_of two) = omega arith in
    let same : text_of one ≡ text_of two = sign_front text one first.0 ∙ ap (λ (n : ℕ). take n text) size ∙ sym (sign_front text two second.0) in
    sign_is (sym (named one) ∙ ap (λ (x : List ℕ). sign_of x) same ∙ named two)
