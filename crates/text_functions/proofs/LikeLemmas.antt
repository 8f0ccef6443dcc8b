-- Likeness, one character of the pattern or of the text at a time.
use Rattle.std.specs.Bool.{MatchBool, IsTrue}
use Rattle.std.specs.Str.{chars, IsUtf8, encode_utf8_all}
use Rattle.std.proofs.Common.{◌≡◌, ◌↔◌, ℕ, ◌==◌, Bool, true, false, List, [], ◌∷◌, ◌++◌, length, refl, sym, ap, subst, ◌∙◌}
use Rattle.std.proofs.lemmas.Bool.{MatchBool-at_false, false≢true, false_from_ne_true, eqb-true, eq-eqb}
use Rattle.std.proofs.lemmas.List.{append_assoc}
use Rattle.std.proofs.lemmas.Str.{encodes-chars}
use Rattle.text_functions.specs.Likes.{Likes, stands_for}
use Rattle.text_functions.proofs.CharacterLemmas.{no_characters}

-- what a `%` says, and what another character says
abbrev pub Skips : List ℕ → List ℕ → Type 0
Skips ps text = (skipped : List ℕ) × (rest : List ℕ) × (text ≡ skipped ++ rest) × Likes ps rest

abbrev pub Takes : ℕ → List ℕ → List ℕ → Type 0
Takes p ps text = (c : ℕ) × (rest : List ℕ) × (text ≡ c ∷ rest) × IsTrue (stands_for p c) × Likes ps rest

pub as_skips : (ps text : List ℕ) → Likes (37 ∷ ps) text → Skips ps text
unfolding Likes
as_skips ps text h = h

pub from_skips : (ps text : List ℕ) → Skips ps text → Likes (37 ∷ ps) text
unfolding Likes
from_skips ps text h = h

pub as_takes : (p : ℕ) (ps text : List ℕ) → (p == 37) ≡ false → Likes (p ∷ ps) text → Takes p ps text
unfolding Likes
as_takes p ps text other h = MatchBool-at_false (Skips ps text) (Takes p ps text) other h

pub from_takes : (p : ℕ) (ps text : List ℕ) → (p == 37) ≡ false → Takes p ps text → Likes (p ∷ ps) text
unfolding Likes
from_takes p ps text other h = subst (λ (b : Bool). MatchBool b (Skips ps text) (Takes p ps text)) (sym other) h

pub as_end : (text : List ℕ) → Likes [] text → text ≡ []
unfolding Likes
as_end text h = h

pub from_end : (text : List ℕ) → text ≡ [] → Likes [] text
unfolding Likes
from_end text h = h

tail_is : (x y : ℕ) (xs ys : List ℕ) → x ∷ xs ≡ y ∷ ys → xs ≡ ys
tail_is x y xs ys e = cc

head_is : (x y : ℕ) (xs ys : List ℕ) → x ∷ xs ≡ y ∷ ys → x ≡ y
head_is x y xs ys e = cc

-- a `%` may stand for nothing
pub percent_start : (ps text : List ℕ) → Likes ps text → Likes (37 ∷ ps) text
percent_start ps text h = from_skips ps text ([], text, refl, h)

-- or for one character more
pub percent_more : (ps : List ℕ) (f : ℕ) (text : List ℕ) → Likes (37 ∷ ps) text → Likes (37 ∷ ps) (f ∷ text)
percent_more ps f text h =
    let q = as_skips ps text h in
    from_skips ps (f ∷ text) (f ∷ q.0, q.1, ap (λ (xs : List ℕ). f ∷ xs) q.2, q.3)

skip_by : (ps : List ℕ) (f : ℕ) (text skipped rest : List ℕ) → (Likes ps (f ∷ text) → ⊥) → f ∷ text ≡ skipped ++ rest → Likes ps rest → Likes (37 ∷ ps) text
skip_by ps f text [] rest other e h = absurd (other (subst (Likes ps) (sym e) h))
skip_by ps f text (x ∷ skipped) rest other e h = from_skips ps text (skipped, rest, tail_is f x text (skipped ++ rest) e, h)

-- where the pattern behind it isn't like the whole, it stands for the first character at least
pub percent_skips : (ps : List ℕ) (f : ℕ) (text : List ℕ) → (Likes ps (f ∷ text) → ⊥) → Likes (37 ∷ ps) (f ∷ text) → Likes (37 ∷ ps) text
percent_skips ps f text other h =
    let q = as_skips ps (f ∷ text) h in
    skip_by ps f text q.0 q.1 other q.2 q.3

nothing_by : (ps skipped rest : List ℕ) → [] ≡ skipped ++ rest → Likes ps rest → Likes ps []
nothing_by ps [] rest e h = subst (Likes ps) (sym e) h
nothing_by ps (x ∷ skipped) rest e h = cc

-- at the end it stands for nothing
pub percent_end : (ps : List ℕ) → Likes (37 ∷ ps) [] → Likes ps []
percent_end ps h = let q = as_skips ps [] h in nothing_by ps q.0 q.1 q.2 q.3

-- two of them are one
pub percent_twice : (ps text : List ℕ) → Likes (37 ∷ 37 ∷ ps) text → Likes (37 ∷ ps) text
percent_twice ps text h =
    let q = as_skips (37 ∷ ps) text h in
    let r = as_skips ps q.1 q.3 in
    from_skips ps text (q.0 ++ r.0, r.1, q.2 ∙ (ap (λ (xs : List ℕ). q.0 ++ xs) r.2 ∙ sym (append_assoc q.0 r.0 r.1)), r.3)

-- a character that stands for the first
pub character_same : (p f : ℕ) (ps text : List ℕ) → (p == 37) ≡ false → stands_for p f ≡ true → Likes (p ∷ ps) (f ∷ text) ↔ Likes ps text
character_same p f ps text other is = (
  λ h. let q = as_takes p ps (f ∷ text) other h in subst (Likes ps) (sym (tail_is f q.0 text q.1 q.2)) q.4,
  λ h. from_takes p ps (f ∷ text) other (f, text, refl, is, h),
)

-- one that doesn't
pub character_other : (p f : ℕ) (ps text : List ℕ) → (p == 37) ≡ false → stands_for p f ≡ false → Likes (p ∷ ps) (f ∷ text) → ⊥
character_other p f ps text other differs h =
    let q = as_takes p ps (f ∷ text) other h in
    false≢true (sym differs ∙ (ap (stands_for p) (head_is f q.0 text q.1 q.2) ∙ q.3))

pub character_end : (p : ℕ) (ps : List ℕ) → (p == 37) ≡ false → Likes (p ∷ ps) [] → ⊥
character_end p ps other h = let q = as_takes p ps [] other h in let e : [] ≡ q.0 ∷ q.1 = q.2 in cc

passes_by : (f c : ℕ) (ps text skipped rest : List ℕ) → f ∷ text ≡ skipped ++ (c ∷ rest) → Likes ps rest → Likes (37 ∷ ps) text
passes_by f c ps text [] rest e h = percent_start ps text (subst (Likes ps) (sym (tail_is f c text rest e)) h)
passes_by f c ps text (x ∷ skipped) rest e h =
    from_skips ps text (skipped ++ c ∷ [], rest, tail_is f x text (skipped ++ (c ∷ rest)) e ∙ sym (append_assoc skipped (c ∷ []) rest), h)

-- a character behind a `%` takes one of the text
pub character_later : (p f : ℕ) (ps text : List ℕ) → (p == 37) ≡ false → Likes (37 ∷ p ∷ ps) (f ∷ text) → Likes (37 ∷ ps) text
character_later p f ps text other h =
    let q = as_skips (p ∷ ps) (f ∷ text) h in
    let r = as_takes p ps q.1 other q.3 in
    passes_by f r.0 ps text q.0 r.1 (q.2 ∙ ap (λ (xs : List ℕ). q.0 ++ xs) r.2) r.4

-- the end of a pattern is the end of a text
pub pattern_end : (pattern text : List ℕ) → IsUtf8 text → length pattern ≡ 0 → Likes (chars pattern) (chars text) ↔ (length text ≡ 0)
pattern_end pattern text utf8 none = (
  λ h. ap length (sym (encodes-chars text utf8) ∙ ap encode_utf8_all (as_end (chars text) (subst (λ (ps : List ℕ). Likes ps (chars text)) (no_characters pattern none) h))),
  λ e. subst (λ (ps : List ℕ). Likes ps (chars text)) (sym (no_characters pattern none)) (from_end (chars text) (no_characters text e)),
)

not_percent : (p : ℕ) → (p ≡ 37 → ⊥) → (p == 37) ≡ false
not_percent p other = false_from_ne_true (p == 37) (λ is. other (eqb-true p 37 is))

-- the front of a pattern meets its first `%`
pub at_percent : (P T left rest : List ℕ) (p : ℕ) (behind : List ℕ) → (Likes P T ↔ Likes left rest) → (Likes (37 ∷ P) T → Likes (37 ∷ left) rest) → left ≡ p ∷ behind → p ≡ 37
    → (Likes P T ↔ Likes (37 ∷ behind) rest) × (Likes (37 ∷ P) T ↔ Likes (37 ∷ behind) rest)
at_percent P T left rest p behind same later e is =
    let whole : left ≡ 37 ∷ behind = e ∙ ap (λ (n : ℕ). n ∷ behind) is in
    let first : Likes P T → Likes (37 ∷ behind) rest = λ h. subst (λ (ps : List ℕ). Likes ps rest) whole (same.0 h) in
    let back : Likes (37 ∷ behind) rest → Likes P T = λ h. same.1 (subst (λ (ps : List ℕ). Likes ps rest) (sym whole) h) in (
      (first, back),
      (λ h. percent_twice behind rest (subst (λ (ps : List ℕ). Likes (37 ∷ ps) rest) whole (later h)), λ h. percent_start P T (back h)),
    )

-- it needs a character where there is none
pub at_nothing : (P T left rest : List ℕ) (p : ℕ) (behind : List ℕ) → (Likes P T ↔ Likes left (chars rest)) → left ≡ p ∷ behind → (p ≡ 37 → ⊥) → length rest ≡ 0 → IsTrue false ↔ Likes P T
at_nothing P T left rest p behind same e other none = (
  λ is. absurd (false≢true is),
  λ h. absurd (character_end p behind (not_percent p other) (subst (Likes (p ∷ behind)) (no_characters rest none) (subst (λ (ps : List ℕ). Likes ps (chars rest)) e (same.0 h)))),
)

moved : (left rest ps ts : List ℕ) → left ≡ ps → rest ≡ ts → Likes left rest → Likes ps ts
moved left rest ps ts a b h = subst (Likes ps) b (subst (λ (xs : List ℕ). Likes xs rest) a h)

-- its character doesn't stand for the text's
pub at_other : (P T left rest : List ℕ) (p f : ℕ) (behind next : List ℕ) → (Likes P T ↔ Likes left rest) → left ≡ p ∷ behind → (p ≡ 37 → ⊥) → rest ≡ f ∷ next → stands_for p f ≡ false → IsTrue false ↔ Likes P T
at_other P T left rest p f behind next same e other first differs = (
  λ is. absurd (false≢true is),
  λ h. absurd (character_other p f behind next (not_percent p other) differs (moved left rest (p ∷ behind) (f ∷ next) e first (same.0 h))),
)

-- it does
pub at_same : (P T left rest : List ℕ) (p f : ℕ) (behind next : List ℕ) → (Likes P T ↔ Likes left rest) → (Likes (37 ∷ P) T → Likes (37 ∷ left) rest) → left ≡ p ∷ behind → (p ≡ 37 → ⊥) → rest ≡ f ∷ next → stands_for p f ≡ true
    → (Likes P T ↔ Likes behind next) × (Likes (37 ∷ P) T → Likes (37 ∷ behind) next)
at_same P T left rest p f behind next same later e other first is =
    let step = character_same p f behind next (not_percent p other) is in (
      (λ h. step.0 (moved left rest (p ∷ behind) (f ∷ next) e first (same.0 h)), λ h. same.1 (moved (p ∷ behind) (f ∷ next) left rest (sym e) (sym first) (step.1 h))),
      λ h. character_later p f behind next (not_percent p other) (moved (37 ∷ left) rest (37 ∷ p ∷ behind) (f ∷ next) (ap (λ (xs : List ℕ). 37 ∷ xs) e) first (later h)),
    )

-- the pattern is at its end
pub at_end : (P T left rest : List ℕ) (is_empty : Bool) → (Likes P T ↔ Likes (chars left) (chars rest)) → IsUtf8 rest → length left ≡ 0 → is_empty ≡ (length rest == 0) → IsTrue is_empty ↔ Likes P T
at_end P T left rest is_empty same utf8 none e =
    let end = pattern_end left rest utf8 none in
    (λ is. same.1 (end.1 (eqb-true (length rest) 0 (sym e ∙ is))), λ h. e ∙ eq-eqb (length rest) 0 (end.0 (same.0 h)))

-- the pattern is like what is left
pub at_whole : (P T left rest : List ℕ) (is : Bool) → (Likes (37 ∷ P) T ↔ Likes (37 ∷ left) rest) → (IsTrue is ↔ Likes left rest) → is ≡ true → IsTrue true ↔ Likes (37 ∷ P) T
at_whole P T left rest is same meaning e = (λ _. same.1 (percent_start left rest (meaning.0 e)), λ _. refl)

unlike : (left rest : List ℕ) (is : Bool) → (IsTrue is ↔ Likes left rest) → is ≡ false → Likes left rest → ⊥
unlike left rest is meaning e h = false≢true (sym e ∙ meaning.1 h)

-- it isn't, and nothing is left
pub at_last : (P T left rest : List ℕ) (is : Bool) → (Likes (37 ∷ P) T ↔ Likes (37 ∷ left) (chars rest)) → (IsTrue is ↔ Likes left (chars rest)) → is ≡ false → length rest ≡ 0 → IsTrue false ↔ Likes (37 ∷ P) T
at_last P T left rest is same meaning e none = (
  λ wrong. absurd (false≢true wrong),
  λ h.
      let nothing : chars rest ≡ [] = no_characters rest none in
      absurd (unlike left (chars rest) is meaning e (subst (Likes left) (sym nothing) (percent_end left (subst (Likes (37 ∷ left)) nothing (same.0 h))))),
)

-- it isn't, and a character is passed
pub at_skip : (P T left rest : List ℕ) (f : ℕ) (next : List ℕ) (is : Bool) → (Likes (37 ∷ P) T ↔ Likes (37 ∷ left) rest) → (IsTrue is ↔ Likes left rest) → is ≡ false → rest ≡ f ∷ next → Likes (37 ∷ P) T ↔ Likes (37 ∷ left) next
at_skip P T left rest f next is same meaning e first = (
  λ h. percent_skips left f next (λ whole. unlike left rest is meaning e (subst (Likes left) (sym first) whole)) (subst (Likes (37 ∷ left)) first (same.0 h)),
  λ h. same.1 (subst (Likes (37 ∷ left)) (sym first) (percent_more left f next h)),
)
