-- A text as its tokens, from the left.
use Rattle.std.proofs.Common.{◌≡◌, ℕ, suc, ◌+◌, ◌≤◌, ◌<◌, Bool, true, false, List, [], ◌∷◌, ◌++◌, length, drop, get_or, Option, Some, None, inl, inr, refl, sym, ◌∙◌, ap, ap₂, subst, arith, drop_of_length-le}
use Rattle.std.proofs.lemmas.List.{drop_more}
use Rattle.std.proofs.lemmas.Bool.{false≢true, false_from_ne_true}
use Rattle.std.proofs.lemmas.Bool.Decides.{leb_tells}
use Rattle.query_lexer.specs.Bytes.{is_blank}
use Rattle.query_lexer.specs.Standing.{start_of, StandsBy, Stands}
use Rattle.query_lexer.specs.Reading.{names_come, after, IsBlankBetween, Reads}
use Rattle.query_lexer.specs.declared.token.Token.{Token}
use Rattle.query_lexer.specs.declared.token.TokenKind.{TokenKind}
use Rattle.query_lexer.specs.declared.piece.Piece.{Piece}
use Rattle.query_lexer.specs.declared.piece.Piece.TheVariants as p
use Rattle.query_lexer.specs.declared.piece.Problem.{Problem}
use Rattle.query_lexer.specs.declared.piece.Start.{Start}
use Rattle.query_lexer.specs.declared.piece.Start.TheVariants as s
use Rattle.query_lexer.specs.declared.piece.Mode.{Mode}
use Rattle.query_lexer.proofs.Starting.{blank_start}
use Rattle.query_lexer.proofs.Deciding.{stands_once, kind_is}

-- one blank more
blank_more : (text : List ℕ) (from to : ℕ) → IsBlankBetween text from to → to < length text → is_blank (get_or text to 0) ≡ true → IsBlankBetween text from (to + 1)
blank_more text from to is lt blank = (
  omega (arith, is.0),
  omega arith,
  λ n low high. elim (leb_tells (suc n) to) [
    | inl q ↦ is.2 n low (omega (arith, q.1))
    | inr q ↦ (let same : to ≡ n = omega (arith, q.1) in subst (λ (i : ℕ). is_blank (get_or text i 0) ≡ true) same blank)
  ],
)

pub reads_blank : (text : List ℕ) (mode : Mode) (from : ℕ) (ts : List Token) (last : Mode) (to : ℕ) → Reads text mode from ts last to → to < length text → is_blank (get_or text to 0) ≡ true
    → Reads text mode from ts last (to + 1)
reads_blank text mode from [] last to is lt blank = (is.0, blank_more text from to is.1 lt blank)
reads_blank text mode from (t ∷ ts) last to is lt blank = (is.0, is.1, is.2, reads_blank text (after mode t.kind) (t.at + is.0) ts last to is.3 lt blank)

pub reads_token : (text : List ℕ) (mode : Mode) (from : ℕ) (ts : List Token) (last : Mode) (to size : ℕ) (kind : TokenKind) → Reads text mode from ts last to
    → Stands (names_come last) (drop to text) (p.Token kind size) → to + size ≤ length text → Reads text mode from (ts ++ record { at = to; kind = kind } ∷ []) (after last kind) (to + size)
reads_token text mode from [] last to size kind is stands le =
    (size, is.1, subst (λ (m : Mode). Stands (names_come m) (drop to text) (p.Token kind size)) (sym is.0) stands, (ap (λ (m : Mode). after m kind) is.0, (omega arith, le, λ n low high. absurd (omega arith))))
reads_token text mode from (t ∷ ts) last to size kind is stands le = (is.0, is.1, is.2, reads_token text (after mode t.kind) (t.at + is.0) ts last to size kind is.3 stands le)

-- what stands at a place that is no blank
abbrev pub NotBlankAt : List ℕ → ℕ → Type 0
NotBlankAt text at = at < length text → is_blank (get_or text at 0) ≡ false

by_blank : (start : Start) (names : Bool) (all : List ℕ) (piece : Piece) → start ≡ s.Blank → StandsBy start names all piece → piece ≡ p.Blank
by_blank start names all piece is stands = subst (λ (x : Start). StandsBy x names all piece) is stands

no_blank_stands : (names : Bool) (b : ℕ) (bs : List ℕ) (piece : Piece) → Stands names (b ∷ bs) piece → (piece ≡ p.Blank → ⊥) → is_blank b ≡ false
no_blank_stands names b bs piece stands other = false_from_ne_true _ (λ is. other (by_blank (start_of names b) names (b ∷ bs) piece (blank_start names b is) stands))

stands_not_blank : (names : Bool) (text : List ℕ) (at : ℕ) (piece : Piece) → Stands names (drop at text) piece → (piece ≡ p.Blank → ⊥) → NotBlankAt text at
stands_not_blank names text at piece stands other = λ lt.
    no_blank_stands names (get_or text at 0) (drop (at + 1) text) piece (subst (λ (x : List ℕ). Stands names x piece) (drop_more text at 0 lt) stands) other

not_between : (text : List ℕ) (from one two : ℕ) → from ≤ one → NotBlankAt text one → IsBlankBetween text from two → one < two → ⊥
not_between text from one two low other blanks lt = false≢true (sym (other (omega (arith, blanks.1))) ∙ blanks.2 one low lt)

same_place : (text : List ℕ) (from one two : ℕ) → IsBlankBetween text from one → NotBlankAt text one → IsBlankBetween text from two → NotBlankAt text two → one ≡ two
same_place text from one two first no-one second no-two = elim (leb_tells (suc one) two) [
  | inl q ↦ absurd (not_between text from one two first.0 no-one second (omega (arith, q.1)))
  | inr q ↦ (elim (leb_tells (suc two) one) [
    | inl r ↦ absurd (not_between text from two one second.0 no-two first (omega (arith, r.1)))
    | inr r ↦ omega (arith, q.1, r.1)
  ])
]

-- the text ends, or a problem stands there
abbrev pub IsEnd : List ℕ → Mode → ℕ → Option Problem → Type 0
IsEnd text last to None = to ≡ length text
IsEnd text last to (Some problem) = Stands (names_come last) (drop to text) (p.Bad problem)

end_not_blank : (text : List ℕ) (last : Mode) (to : ℕ) (end : Option Problem) → IsEnd text last to end → NotBlankAt text to
end_not_blank text last to None is = λ lt. absurd (omega arith)
end_not_blank text last to (Some problem) is = stands_not_blank (names_come last) text to (p.Bad problem) is (λ e. cc)

nothing_stands : (names : Bool) (text : List ℕ) (at : ℕ) (piece : Piece) → at ≡ length text → Stands names (drop at text) piece → ⊥
nothing_stands names text at piece is stands = subst (λ (x : List ℕ). Stands names x piece) (drop_of_length-le text (omega arith)) stands

problem_is : {one two : Problem} → p.Bad one ≡ p.Bad two → one ≡ two
problem_is {one} {two} e = ap (λ (x : Piece). problem_or one x) e
  where
    problem_or : Problem → Piece → Problem
    problem_or one (p.Bad problem) = problem
    problem_or one _ = one

end_once : (text : List ℕ) (last : Mode) (to : ℕ) (one two : Option Problem) → IsEnd text last to one → IsEnd text last to two → one ≡ two
end_once text last to None None first second = refl
end_once text last to None (Some problem) first second = absurd (nothing_stands (names_come last) text to (p.Bad problem) first second)
end_once text last to (Some problem) None first second = absurd (nothing_stands (names_come last) text to (p.Bad problem) second first)
end_once text last to (Some one) (Some two) first second = ap (λ (x : Problem). Some x) (problem_is (stands_once (names_come last) (drop to text) (p.Bad one) (p.Bad two) first second))

-- an end is no token
no_token_at_end : (text : List ℕ) (last : Mode) (to : ℕ) (end : Option Problem) (kind : TokenKind) (size : ℕ) → IsEnd text last to end → Stands (names_come last) (drop to text) (p.Token kind size) → ⊥
no_token_at_end text last to None kind size is stands = nothing_stands (names_come last) text to (p.Token kind size) is stands
no_token_at_end text last to (Some problem) kind size is stands = (let e = stands_once (names_come last) (drop to text) (p.Bad problem) (p.Token kind size) is stands in cc)

pub record Same (ts us : List Token) (one two : Option Problem) (m n : ℕ) : Type 0 where
  pub tokens : ts ≡ us
  pub end : one ≡ two
  pub place : m ≡ n

-- one text has one list of tokens up to its end, or up to its first problem
pub reads_once : (text : List ℕ) (mode : Mode) (from : ℕ) (ts us : List Token) (last other : Mode) (m n : ℕ) (one two : Option Problem)
    → Reads text mode from ts last m → IsEnd text last m one → Reads text mode from us other n → IsEnd text other n two → Same ts us one two m n
reads_once text mode from [] [] last other m n one two first end second stop =
    let place = same_place text from m n first.1 (end_not_blank text last m one end) second.1 (end_not_blank text other n two stop) in
    let modes : other ≡ last = sym second.0 ∙ first.0 in
    let here : IsEnd text last n two = subst (λ (x : Mode). IsEnd text x n two) modes stop in
    record { tokens = refl; end = end_once text last n one two (subst (λ (i : ℕ). IsEnd text last i one) place end) here; place = place }
reads_once text mode from [] (u ∷ us) last other m n one two first end second stop =
    let place = same_place text from m u.at first.1 (end_not_blank text last m one end) second.1 (stands_not_blank (names_come mode) text u.at (p.Token u.kind second.0) second.2 (λ e. cc)) in
    let here : IsEnd text mode u.at one = subst (λ (i : ℕ). IsEnd text mode i one) place (subst (λ (x : Mode). IsEnd text x m one) (sym first.0) end) in
    absurd (no_token_at_end text mode u.at one u.kind second.0 here second.2)
reads_once text mode from (t ∷ ts) [] last other m n one two first end second stop =
    let place = same_place text from n t.at second.1 (end_not_blank text other n two stop) first.1 (stands_not_blank (names_come mode) text t.at (p.Token t.kind first.0) first.2 (λ e. cc)) in
    let here : IsEnd text mode t.at two = subst (λ (i : ℕ). IsEnd text mode i two) place (subst (λ (x : Mode). IsEnd text x n two) (sym second.0) stop) in
    absurd (no_token_at_end text mode t.at two t.kind first.0 here first.2)
reads_once text mode from (t ∷ ts) (u ∷ us) last other m n one two first end second stop =
    let place : t.at ≡ u.at = same_place text from t.at u.at first.1 (stands_not_blank (names_come mode) text t.at (p.Token t.kind first.0) first.2 (λ e. cc))
    second.1 (stands_not_blank (names_come mode) text u.at (p.Token u.kind second.0) second.2 (λ e. cc)) in
    let kinds = kind_is (stands_once (names_come mode) (drop u.at text) (p.Token t.kind first.0) (p.Token u.kind second.0)
    (subst (λ (i : ℕ). Stands (names_come mode) (drop i text) (p.Token t.kind first.0)) place first.2) second.2) in
    let next : t.at + first.0 ≡ u.at + second.0 = ap₂ (λ (i j : ℕ). i + j) place kinds.1 in
    let rest : Reads text (after mode u.kind) (u.at + second.0) ts last m
    = subst (λ (i : ℕ). Reads text (after mode u.kind) i ts last m) next (subst (λ (x : TokenKind). Reads text (after mode x) (t.at + first.0) ts last m) kinds.0 first.3) in
    let more = reads_once text (after mode u.kind) (u.at + second.0) ts us last other m n one two rest end second.3 stop in
    record { tokens = ap₂ (λ (x : Token) (xs : List Token). x ∷ xs) (ap₂ (λ (i : ℕ) (x : TokenKind). token i x) place kinds.0) more.tokens; end = more.end; place = more.place }
  where
    token : ℕ → TokenKind → Token
    token i x = record { at = i; kind = x }
