-- Where a text ends, and where it is faulty.
use Rattle.std.specs.Str.{IsCharBoundary, IsUtf8}
use Rattle.std.proofs.Common.{◌≡◌, ◌≢◌, ℕ, zero, suc, ◌+◌, ◌<◌, Bool, true, false, List, [], ◌∷◌, length, drop, get_or, Option, Some, None, inl, inr, unwrap_or, if◌then◌else◌, refl, sym, ◌∙◌, ap, ap₂, subst}
use Rattle.std.proofs.lemmas.List.{drop_more}
use Rattle.std.proofs.lemmas.Str.{IsCharBoundary-from_rest, IsUtf8-drop}
use Rattle.query_lexer.specs.Bytes.{is_blank}
use Rattle.query_lexer.specs.Numbers.{is_signed, sign_length, whole_of, decimals_of}
use Rattle.query_lexer.specs.Standing.{number_by, bracket_by, start_of, StandsBy, Stands}
use Rattle.query_lexer.specs.Reading.{names_come, Reads, IsLexed, IsOnly, IsBad, IsFault, HasNone, fault_of}
use Rattle.query_lexer.specs.declared.token.Token.{Token}
use Rattle.query_lexer.specs.declared.token.TokenKind.{TokenKind}
use Rattle.query_lexer.specs.declared.piece.Piece.{Piece}
use Rattle.query_lexer.specs.declared.piece.Piece.TheVariants as p
use Rattle.query_lexer.specs.declared.piece.Problem.{Problem}
use Rattle.query_lexer.specs.declared.piece.Problem.TheVariants as wrong
use Rattle.query_lexer.specs.declared.piece.Start.{Start}
use Rattle.query_lexer.specs.declared.piece.Start.TheVariants as s
use Rattle.query_lexer.specs.declared.piece.Mode.{Mode}
use Rattle.query_lexer.specs.declared.piece.Mode.TheVariants as m
use Rattle.query_lexer.specs.declared.fault.LexFault.{LexFault}
use Rattle.query_lexer.specs.declared.fault.LexFault.TheVariants as fault
use Rattle.query_lexer.proofs.Deciding.{string_shape}
use Rattle.query_lexer.proofs.Starting.{start_of_blank}
use Rattle.query_lexer.proofs.Advancing.{token_advances}
use Rattle.query_lexer.proofs.Reading.{reads_once}

in_range_not_blank : (b : Bool) (problem : Problem) (kind : TokenKind) (n : ℕ) → p.Blank ≡ (if b then p.Bad problem else p.Token kind n) → ⊥
in_range_not_blank true problem kind n e = cc
in_range_not_blank false problem kind n e = cc

number_not_blank : (signed : Bool) (sign : ℕ) (whole decimals : List ℕ) → p.Blank ≡ number_by signed sign whole decimals → ⊥
number_not_blank signed sign [] decimals e = cc
number_not_blank signed sign (d ∷ ds) [] e = in_range_not_blank _ _ _ _ e
number_not_blank signed sign (d ∷ ds) (x ∷ xs) e = in_range_not_blank _ _ _ _ e

bracket_not_blank : (behind : List ℕ) (found : Option ℕ) → p.Blank ≡ bracket_by behind found → ⊥
bracket_not_blank behind None e = cc
bracket_not_blank behind (Some zero) e = cc
bracket_not_blank behind (Some (suc n)) e = cc

blank_by : (start : Start) (names : Bool) (all : List ℕ) → StandsBy start names all p.Blank → start ≡ s.Blank
blank_by s.Blank names all is = refl
blank_by s.Quote names all is = elim (string_shape names all p.Blank is) [ inl x ↦ (let e = x.3 in cc) | inr x ↦ (let e = x.1 in cc) ]
blank_by s.Name names all is = cc
blank_by s.Letter names all is = absurd is
blank_by s.Number names all is = absurd (number_not_blank (is_signed all) (sign_length all) (whole_of all) (decimals_of all) is)
blank_by s.Bracket names all is = absurd (bracket_not_blank _ _ is)
blank_by s.Sign names all is = absurd is

pub blank_stands : (names : Bool) (text : List ℕ) (at : ℕ) → at < length text → Stands names (drop at text) p.Blank → is_blank (get_or text at 0) ≡ true
blank_stands names text at lt is =
    let first : Stands names (get_or text at 0 ∷ drop (at + 1) text) p.Blank = subst (λ (x : List ℕ). Stands names x p.Blank) (drop_more text at 0 lt) is in
    start_of_blank names (get_or text at 0) (blank_by (start_of names (get_or text at 0)) names (get_or text at 0 ∷ drop (at + 1) text) first)

pub stands_along : (names names' : Bool) (all all' : List ℕ) (piece piece' : Piece) → names ≡ names' → all ≡ all' → piece ≡ piece' → Stands names all piece → Stands names' all' piece'
stands_along names names' all all' piece piece' one two three is =
    subst (λ (x : Piece). Stands names' all' x) three (subst (λ (x : List ℕ). Stands names' x piece) two (subst (λ (x : Bool). Stands x all piece) one is))

-- where a token ends that begins at a place
pub token_ends : (names : Bool) (text : List ℕ) (at : ℕ) (kind : TokenKind) (size : ℕ) → IsUtf8 text → IsCharBoundary text at → Stands names (drop at text) (p.Token kind size) → (0 < size) × IsCharBoundary text (at + size)
token_ends names text at kind size utf8 cut is =
    let q = token_advances names (drop at text) kind size (IsUtf8-drop text at utf8 cut) is in
    (q.0, IsCharBoundary-from_rest text at size cut.0 q.1)

pub only_these : (text : List ℕ) (ts : List Token) (last : Mode) (at : ℕ) → Reads text m.Ordinary 0 ts last at → at ≡ length text → IsOnly text ts
only_these text ts last at reads end = λ others is. (reads_once text m.Ordinary 0 others ts is.0 last (length text) at None None is.1 refl reads end).tokens

some_is : {one two : Problem} → Some one ≡ Some two → one ≡ two
some_is {one} e = ap (λ (o : Option Problem). unwrap_or o one) e

same_fault : (text : List ℕ) (ts : List Token) (last : Mode) (at other-at : ℕ) (problem other : Problem) → Reads text m.Ordinary 0 ts last at → Stands (names_come last) (drop at text) (p.Bad problem) → IsBad text other other-at
    → fault_of other other-at ≡ fault_of problem at
same_fault text ts last at other-at problem other reads stands is =
    let same = reads_once text m.Ordinary 0 is.0 ts is.1 last other-at at (Some other) (Some problem) is.2 is.3 reads stands in
    ap₂ (λ (x : Problem) (n : ℕ). fault_of x n) (some_is same.end) same.place

pub none_else : (text : List ℕ) (ts : List Token) (last : Mode) (at : ℕ) (problem : Problem) (given : LexFault) → Reads text m.Ordinary 0 ts last at → Stands (names_come last) (drop at text) (p.Bad problem) → given ≡ fault_of problem at
    → HasNone text given
none_else text ts last at problem given reads stands is = λ some. (no_tokens, others)
  where
    no_tokens : (tokens : List Token) → IsLexed text tokens → ⊥
    no_tokens tokens lexed = (let e = (reads_once text m.Ordinary 0 tokens ts lexed.0 last (length text) at None (Some problem) lexed.1 refl reads stands).end in cc)

    others : (other : LexFault) → other ≢ fault.Memory → IsFault text other → other ≡ given
    others (fault.BadCharacter n) some bad = same_fault text ts last at n problem wrong.BadCharacter reads stands bad ∙ sym is
    others (fault.OpenString n) some bad = same_fault text ts last at n problem wrong.OpenString reads stands bad ∙ sym is
    others (fault.OpenBracket n) some bad = same_fault text ts last at n problem wrong.OpenBracket reads stands bad ∙ sym is
    others (fault.NumberTooLarge n) some bad = same_fault text ts last at n problem wrong.NumberTooLarge reads stands bad ∙ sym is
    others fault.Memory some bad = absurd (some refl)
