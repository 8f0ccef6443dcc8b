-- Kinds that the first records tell stay, whatever records follow.
use Rattle.std.proofs.Common.{◌≡◌, ℕ, ◌<◌, ◌≤◌, ◌==◌, false, List, [], ◌∷◌, ◌++◌, length, map, Some, refl, ◌∙◌, ap, ap₂, arith, rules, tests, length-append}
use Rattle.std.proofs.lemmas.List.{map-append, take-append-le, length-map}
use Rattle.std.specs.List.{range_with_len}
use Rattle.lp_time.specs.declared.piece.Piece.{Piece}
use Rattle.lp_values.specs.declared.kind.Kind.{Kind}
use Rattle.log_reading.specs.Found.{Found}
use Rattle.delimited_input.specs.Kinds.{Row, column_kind, kind_of_texts, kinds_of, column_text}
use Rattle.column_kinds.specs.declared.judging.Judged.{Judged}
use Rattle.column_kinds.specs.declared.kept.FirstLog.{FirstLog}
use Rattle.column_kinds.specs.Fields.{texts_under}
use Rattle.column_kinds.specs.Judged.{judged, named_kinds}

map_same : {X Y : Type 0} (f g : X → Y) → ((x : X) → f x ≡ g x) → (xs : List X) → map f xs ≡ map g xs
map_same f g same [] = refl
map_same f g same (x ∷ xs) = ap₂ (λ y ys. y ∷ ys) (same x) (map_same f g same xs)

some_there : (n : ℕ) → 0 < n → (n == 0) ≡ false
some_there n some = Prim.search (rules, tests)

kind_stays : (pattern : List Piece) (limit : ℕ) (rows more : List Row) (column : ℕ) → 0 < length rows → limit ≤ length rows → column_kind pattern limit (rows ++ more) column ≡ column_kind pattern limit rows column
kind_stays pattern limit rows more column some enough =
    let size = length-append rows more in
    let here : (length rows == 0) ≡ false = some_there (length rows) some in
    let there : (length (rows ++ more) == 0) ≡ false = some_there (length (rows ++ more)) (Prim.omega arith) in
    Prim.rw (here, there) (ap (λ (shown : List Row). kind_of_texts pattern (map (column_text column) shown)) (take-append-le limit rows more enough))

pub kinds_stay : (columns : ℕ) (pattern : List Piece) (limit : ℕ) (rows more : List Row) → 0 < length rows → limit ≤ length rows → kinds_of columns pattern limit (rows ++ more) ≡ kinds_of columns pattern limit rows
unfolding kinds_of
kinds_stay columns pattern limit rows more some enough = map_same (column_kind pattern limit (rows ++ more)) (column_kind pattern limit rows) (λ column. kind_stays pattern limit rows more column some enough) (range_with_len 0 columns)

abbrev told_with : FirstLog → List Kind → Judged
told_with log kinds = record { log = Some log.identity; columns = named_kinds kinds log.columns }

pub judged_stays : (limit : ℕ) (pattern : List Piece) (log : FirstLog) (founds more : List Found) → 0 < length founds → limit ≤ length founds → judged limit pattern (Some log) (founds ++ more) ≡ judged limit pattern (Some log) founds
judged_stays limit pattern log founds more some enough =
    let size = length-map founds (texts_under log) in
    ap (told_with log)
    (ap (kinds_of (length log.columns) pattern limit) (map-append (texts_under log) founds more)
    ∙ kinds_stay (length log.columns) pattern limit (map (texts_under log) founds) (map (texts_under log) more) (Prim.omega arith) (Prim.omega arith))
