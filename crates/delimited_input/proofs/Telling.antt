-- The tallies of a row's columns, one after the other.
use Rattle.std.proofs.Common.{◌≡◌, ℕ, suc, ◌+◌, ◌<◌, ◌≤◌, List, [], ◌∷◌, ◌++◌, length, map, take, drop, set, get_or, refl, sym, ap, ◌∙◌, arith}
use Rattle.std.specs.List.{enumerate_from}
use Rattle.std.proofs.lemmas.List.{map-append, take_all, take_more, take_more_set, drop-set-lt, length-set}
use Rattle.std.proofs.lemmas.List.FromFn.{length-enumerate_from, get_or-enumerate_from}
use Rattle.std.proofs.Math.Seq.{drop-cons}
use Rattle.lp_time.specs.declared.piece.Piece.{Piece}
use Rattle.delimited_input.specs.declared.tally.Tally.{Tally}
use Rattle.delimited_input.specs.Kinds.{Row, column_text}
use Rattle.delimited_input.specs.Sampled.{tally_with}

-- what a row tells of a column
abbrev pub told_of : List Piece → Row → ℕ × Tally → Tally
told_of pattern row column = tally_with pattern column.1 (column_text column.0 row)

pub record ToldUpTo (pattern : List Piece) (row : Row) (old : List Tally) (place : ℕ) (new : List Tally) : Type 0 where
  pub size : length new ≡ length old
  pub told : take place new ≡ map (told_of pattern row) (take place (enumerate_from 0 old))
  pub rest : drop place new ≡ drop place old

pub told_none : (pattern : List Piece) (row : Row) (old : List Tally) → ToldUpTo pattern row old 0 old
told_none pattern row old = record { size = refl; told = refl; rest = refl }

pub told_more : (pattern : List Piece) (row : Row) (old new : List Tally) (place : ℕ) (tally d : Tally) → ToldUpTo pattern row old place new → place < length new
    → tally ≡ tally_with pattern (get_or new place d) (column_text place row) → ToldUpTo pattern row old (place + 1) (set new place tally)
told_more pattern row old new place tally d told more e =
    let within : place < length old = omega (arith, told.size) in
    let listed : place < length (enumerate_from 0 old) = omega (arith, length-enumerate_from 0 old) in
    let next : place + 1 ≡ suc place = omega arith in
    let zero_sum : 0 + place ≡ place = omega arith in
    let heads : get_or new place d ∷ drop (suc place) new ≡ get_or old place d ∷ drop (suc place) old = sym (drop-cons new place d more) ∙ (told.rest ∙ drop-cons old place d within) in
    let same : get_or new place d ≡ get_or old place d = cc in
    let after : drop (suc place) new ≡ drop (suc place) old = cc in
    record {
      size = length-set new place tally ∙ told.size;
      told = take_more_set new place tally more
          ∙ (ap (λ (front : List Tally). front ++ tally ∷ []) told.told
          ∙ (ap (λ (t : Tally). map (told_of pattern row) (take place (enumerate_from 0 old)) ++ t ∷ []) (e ∙ ap (λ (t : Tally). tally_with pattern t (column_text place row)) same)
          ∙ (ap (λ (column : ℕ × Tally). map (told_of pattern row) (take place (enumerate_from 0 old)) ++ told_of pattern row column ∷ [])
          (sym (get_or-enumerate_from 0 old place (0, d) within ∙ ap (λ (n : ℕ). (n, get_or old place d)) zero_sum))
          ∙ (sym (map-append (told_of pattern row) (take place (enumerate_from 0 old)) (get_or (enumerate_from 0 old) place (0, d) ∷ []))
          ∙ ap (map (told_of pattern row)) (sym (take_more (enumerate_from 0 old) place (0, d) listed))))));
      rest = drop-set-lt (place + 1) new place tally (omega arith) ∙ (ap (λ n. drop n new) next ∙ (after ∙ ap (λ n. drop n old) (sym next)));
    }

pub told_all : (pattern : List Piece) (row : Row) (old new : List Tally) (place : ℕ) → ToldUpTo pattern row old place new → length new ≤ place → new ≡ map (told_of pattern row) (enumerate_from 0 old)
told_all pattern row old new place told all =
    sym (take_all place new all) ∙ (told.told ∙ ap (map (told_of pattern row)) (take_all place (enumerate_from 0 old) (omega (arith, told.size, length-enumerate_from 0 old))))
