-- A line of pieces, one after the other.
use Rattle.std.proofs.Common.{◌≡◌, ℕ, ◌+◌, ◌-◌, ◌<◌, ◌≤◌, Bool, List, [], ◌++◌, length, drop, get_or, ap, sym, ◌∙◌, refl, append_assoc, arith, ◌==◌, length-drop}
use Rattle.std.proofs.lemmas.Bool.Decides.{nat_tests}
use Rattle.std.proofs.lemmas.List.{drop_more, drop_all}
use Rattle.lp_model.specs.Outside.{GrowsIn}
use Rattle.lp_model.proofs.Growing.{append-nil}
use Rattle.text_formats.specs.Tables.{pieces_from}

-- the pieces before a place are out
pub record Pieced {X : Type 0} (piece : ℕ → Bool → X → List ℕ) (xs : List X) (i : ℕ) (start now : List ℕ) : Type 0 where
  pub done : List ℕ
  pub added : now ≡ start ++ done
  pub whole : pieces_from piece 0 xs ≡ done ++ pieces_from piece i (drop i xs)

pub pieced_none : {X : Type 0} (piece : ℕ → Bool → X → List ℕ) (xs : List X) (start : List ℕ) → Pieced piece xs 0 start start
pieced_none piece xs start = record { done = []; added = append-nil start; whole = refl }

same_test : (a b : ℕ) → b ≤ a → (a - b == 0) ≡ (b == a)
same_test a b le = grind (arith, nat_tests)

-- the last item is the one behind which there are none
is_last : {X : Type 0} (xs : List X) (i : ℕ) → i < length xs → (length (drop (i + 1) xs) == 0) ≡ (i + 1 == length xs)
is_last xs i lt = ap (λ n. n == 0) (length-drop (i + 1) xs) ∙ same_test (length xs) (i + 1) (omega arith)

here : {X : Type 0} (piece : ℕ → Bool → X → List ℕ) (xs : List X) (i : ℕ) (x d : X) (last : Bool) → i < length xs → x ≡ get_or xs i d → last ≡ (i + 1 == length xs)
    → pieces_from piece i (drop i xs) ≡ piece i last x ++ pieces_from piece (i + 1) (drop (i + 1) xs)
unfolding pieces_from
here piece xs i x d last lt is ends =
    ap (pieces_from piece i) (drop_more xs i d lt)
    ∙ (ap (λ b. piece i b (get_or xs i d) ++ pieces_from piece (i + 1) (drop (i + 1) xs)) (is_last xs i lt ∙ sym ends)
    ∙ ap (λ y. piece i last y ++ pieces_from piece (i + 1) (drop (i + 1) xs)) (sym is))

-- one more
pub pieced_next : {X : Type 0} (piece : ℕ → Bool → X → List ℕ) (xs : List X) (i : ℕ) (x d : X) (last : Bool) (start before after : List ℕ) → i < length xs → x ≡ get_or xs i d → last ≡ (i + 1 == length xs)
    → Pieced piece xs i start before → after ≡ before ++ piece i last x → Pieced piece xs (i + 1) start after
pieced_next piece xs i x d last start before after lt is ends so_far one = record {
  done = so_far.done ++ piece i last x;
  added = one ∙ (ap (λ t. t ++ piece i last x) so_far.added ∙ append_assoc start so_far.done (piece i last x));
  whole = so_far.whole ∙ (ap (λ t. so_far.done ++ t) (here piece xs i x d last lt is ends) ∙ sym (append_assoc so_far.done (piece i last x) (pieces_from piece (i + 1) (drop (i + 1) xs))));
}

-- all are out
pub pieced_all : {X : Type 0} (piece : ℕ → Bool → X → List ℕ) (xs : List X) (i : ℕ) (start now : List ℕ) → length xs ≤ i → Pieced piece xs i start now → now ≡ start ++ pieces_from piece 0 xs
unfolding pieces_from
pieced_all piece xs i start now past so_far =
    so_far.added ∙ ap (λ t. start ++ t) (sym (so_far.whole ∙ (ap (λ t. so_far.done ++ pieces_from piece i t) (drop_all i xs past) ∙ sym (append-nil so_far.done))))

-- it stopped between two pieces
pub pieced_stopped : {X : Type 0} (piece : ℕ → Bool → X → List ℕ) (xs : List X) (i : ℕ) (start before after tail : List ℕ) → Pieced piece xs i start before → after ≡ before → GrowsIn start after (pieces_from piece 0 xs ++ tail)
pieced_stopped piece xs i start before after tail so_far same =
    let rest = pieces_from piece i (drop i xs) in
    (so_far.done, same ∙ so_far.added, (rest ++ tail, ap (λ t. t ++ tail) so_far.whole ∙ append_assoc so_far.done rest tail))

-- it stopped within a piece
pub pieced_within : {X : Type 0} (piece : ℕ → Bool → X → List ℕ) (xs : List X) (i : ℕ) (x d : X) (last : Bool) (start before after tail : List ℕ) → i < length xs → x ≡ get_or xs i d → last ≡ (i + 1 == length xs)
    → Pieced piece xs i start before → GrowsIn before after (piece i last x) → GrowsIn start after (pieces_from piece 0 xs ++ tail)
pieced_within piece xs i x d last start before after tail lt is ends so_far (part, added, (rest, whole)) =
    let behind = pieces_from piece (i + 1) (drop (i + 1) xs) in
    let done = so_far.done in
    let all : pieces_from piece 0 xs ≡ (done ++ part) ++ (rest ++ behind) =
    so_far.whole ∙ (ap (λ t. done ++ t) (here piece xs i x d last lt is ends ∙ (ap (λ t. t ++ behind) whole ∙ append_assoc part rest behind)) ∙ sym (append_assoc done part (rest ++ behind))) in
    (done ++ part, added ∙ (ap (λ t. t ++ part) so_far.added ∙ append_assoc start done part), ((rest ++ behind) ++ tail, ap (λ t. t ++ tail) all ∙ append_assoc (done ++ part) (rest ++ behind) tail))
