-- At a place stands one piece at most.
use Rattle.std.proofs.Common.{◌≡◌, ℕ, Bool, true, false, List, [], ◌∷◌, length, take, take_while, Option, Some, None, MatchOption, ◌⊎◌, inl, inr, if◌then◌else◌, refl, sym, ◌∙◌, ap, ap₂}
use Rattle.std.specs.List.{prefix_len}
use Rattle.query_lexer.specs.Bytes.{is_word_byte}
use Rattle.query_lexer.specs.Keywords.{IsKeyword, IsNoKeyword}
use Rattle.query_lexer.specs.Standing.{IsString, IsNoString, IsStringAt, IsWordKind, IsWordAt, field_length, IsSignAt, start_of, StandsBy, Stands}
use Rattle.query_lexer.specs.Symbols.{text_of, HasSign, HasNoSign}
use Rattle.query_lexer.specs.declared.symbol.Symbol.{Symbol}
use Rattle.query_lexer.specs.declared.keyword.Keyword.{Keyword}
use Rattle.query_lexer.specs.declared.token.TokenKind.{TokenKind}
use Rattle.query_lexer.specs.declared.token.TokenKind.TheVariants as k
use Rattle.query_lexer.specs.declared.piece.Piece.{Piece}
use Rattle.query_lexer.specs.declared.piece.Piece.TheVariants as p
use Rattle.query_lexer.specs.declared.piece.Problem.TheVariants as problem
use Rattle.query_lexer.specs.declared.piece.Start.{Start}
use Rattle.query_lexer.specs.declared.piece.Start.TheVariants as s
use Rattle.query_lexer.proofs.Quoting.{string_once}
use Rattle.query_lexer.proofs.Signs.{sign_once}
use Rattle.query_lexer.proofs.Naming.{keyword_once}

abbrev pub string_kind : Bool → List ℕ → TokenKind
string_kind names text = if names then k.Name text else k.Str text

pub string_shape : (names : Bool) (all : List ℕ) (piece : Piece) → IsStringAt names all piece
    → ((text : List ℕ) × (size : ℕ) × IsString all text size × (piece ≡ p.Token (string_kind names text) size)) ⊎ (IsNoString all × (piece ≡ p.Bad problem.OpenString))
string_shape true all (p.Token (k.Name text) size) is = inl (text, size, is, refl)
string_shape false all (p.Token (k.Str text) size) is = inl (text, size, is, refl)
string_shape true all (p.Bad problem.OpenString) is = inr (is, refl)
string_shape false all (p.Bad problem.OpenString) is = inr (is, refl)
string_shape true all _ is = absurd is
string_shape false all _ is = absurd is

string_piece_once : (names : Bool) (all : List ℕ) (one two : Piece) → IsStringAt names all one → IsStringAt names all two → one ≡ two
string_piece_once names all one two first second = elim (string_shape names all one first) [
  | inl x ↦ (elim (string_shape names all two second) [
    | inl y ↦ (let same = string_once all x.0 y.0 x.1 y.1 x.2 y.2 in
        x.3 ∙ ap₂ (λ (t : List ℕ) (n : ℕ). p.Token (string_kind names t) n) same.0 same.1 ∙ sym y.3)
    | inr y ↦ absurd (y.0 x.0 x.1 x.2)
  ])
  | inr x ↦ (elim (string_shape names all two second) [
    | inl y ↦ absurd (x.0 y.0 y.1 y.2)
    | inr y ↦ x.1 ∙ sym y.1
  ])
]

word_kind_shape : (word : List ℕ) (kind : TokenKind) → IsWordKind word kind → ((keyword : Keyword) × IsKeyword word keyword × (kind ≡ k.Keyword keyword)) ⊎ (IsNoKeyword word × (kind ≡ k.Word word))
word_kind_shape word (k.Keyword keyword) is = inl (keyword, is, refl)
word_kind_shape word (k.Word text) is = inr (is.1, ap (λ (x : List ℕ). k.Word x) is.0)
word_kind_shape word _ is = absurd is

word_kind_once : (word : List ℕ) (one two : TokenKind) → IsWordKind word one → IsWordKind word two → one ≡ two
word_kind_once word one two first second = elim (word_kind_shape word one first) [
  | inl x ↦ (elim (word_kind_shape word two second) [
    | inl y ↦ x.2 ∙ ap (λ (w : Keyword). k.Keyword w) (keyword_once word x.0 y.0 x.1 y.1) ∙ sym y.2
    | inr y ↦ absurd (y.0 x.0 x.1)
  ])
  | inr x ↦ (elim (word_kind_shape word two second) [
    | inl y ↦ absurd (x.0 y.0 y.1)
    | inr y ↦ x.1 ∙ sym y.1
  ])
]

word_token_once : (all : List ℕ) (field : Option ℕ) (one two : TokenKind) (m n : ℕ)
    → MatchOption field (IsWordKind (take_while is_word_byte all) one × (m ≡ prefix_len is_word_byte all)) (λ i. (one ≡ k.Word (take i all)) × (m ≡ i))
    → MatchOption field (IsWordKind (take_while is_word_byte all) two × (n ≡ prefix_len is_word_byte all)) (λ i. (two ≡ k.Word (take i all)) × (n ≡ i))
    → p.Token one m ≡ p.Token two n
word_token_once all None one two m n first second = ap₂ (λ (kind : TokenKind) (i : ℕ). p.Token kind i) (word_kind_once _ one two first.0 second.0) (first.1 ∙ sym second.1)
word_token_once all (Some i) one two m n first second = ap₂ (λ (kind : TokenKind) (i : ℕ). p.Token kind i) (first.0 ∙ sym second.0) (first.1 ∙ sym second.1)

pub word_shape : (all : List ℕ) (piece : Piece) → IsWordAt all piece → (kind : TokenKind) × (size : ℕ) × (piece ≡ p.Token kind size)
    × MatchOption (field_length all) (IsWordKind (take_while is_word_byte all) kind × (size ≡ prefix_len is_word_byte all)) (λ i. (kind ≡ k.Word (take i all)) × (size ≡ i))
word_shape all (p.Token kind size) is = (kind, size, refl, is)
word_shape all _ is = absurd is

word_piece_once : (all : List ℕ) (one two : Piece) → IsWordAt all one → IsWordAt all two → one ≡ two
word_piece_once all one two first second =
    let x = word_shape all one first in
    let y = word_shape all two second in
    x.2 ∙ word_token_once all (field_length all) x.0 y.0 x.1 y.1 x.3 y.3 ∙ sym y.2

pub sign_shape : (all : List ℕ) (piece : Piece) → IsSignAt all piece → ((sign : Symbol) × HasSign all sign × (piece ≡ p.Token (k.Symbol sign) (length (text_of sign)))) ⊎ (HasNoSign all × (piece ≡ p.Bad problem.BadCharacter))
sign_shape all (p.Token (k.Symbol sign) size) is = inl (sign, is.0, ap (λ (n : ℕ). p.Token (k.Symbol sign) n) is.1)
sign_shape all (p.Bad problem.BadCharacter) is = inr (is, refl)
sign_shape all _ is = absurd is

sign_piece_once : (all : List ℕ) (one two : Piece) → IsSignAt all one → IsSignAt all two → one ≡ two
sign_piece_once all one two first second = elim (sign_shape all one first) [
  | inl x ↦ (elim (sign_shape all two second) [
    | inl z ↦ x.2 ∙ ap (λ (sign : Symbol). p.Token (k.Symbol sign) (length (text_of sign))) (sign_once all x.0 z.0 x.1 z.1) ∙ sym z.2
    | inr z ↦ absurd (z.0 x.0 x.1.0)
  ])
  | inr x ↦ (elim (sign_shape all two second) [
    | inl z ↦ absurd (x.0 z.0 z.1.0)
    | inr z ↦ x.1 ∙ sym z.1
  ])
]

by_once : (start : Start) (names : Bool) (all : List ℕ) (one two : Piece) → StandsBy start names all one → StandsBy start names all two → one ≡ two
by_once s.Blank names all one two first second = first ∙ sym second
by_once s.Quote names all one two first second = string_piece_once names all one two first second
by_once s.Name names all one two first second = first ∙ sym second
by_once s.Letter names all one two first second = word_piece_once all one two first second
by_once s.Number names all one two first second = first ∙ sym second
by_once s.Bracket names all one two first second = first ∙ sym second
by_once s.Sign names all one two first second = sign_piece_once all one two first second

pub stands_once : (names : Bool) (all : List ℕ) (one two : Piece) → Stands names all one → Stands names all two → one ≡ two
stands_once names [] one two first second = absurd first
stands_once names (b ∷ bs) one two first second = by_once (start_of names b) names (b ∷ bs) one two first second

-- a token is its kind and its size
pub kind_is : {one two : TokenKind} {m n : ℕ} → p.Token one m ≡ p.Token two n → (one ≡ two) × (m ≡ n)
kind_is {one} {two} {m} {n} e = (ap (λ (x : Piece). kind_or one x) e, ap (λ (x : Piece). size_or m x) e)
  where
    kind_or : TokenKind → Piece → TokenKind
    kind_or one (p.Token kind size) = kind
    kind_or one _ = one

    size_or : ℕ → Piece → ℕ
    size_or m (p.Token kind size) = size
    size_or m _ = m
