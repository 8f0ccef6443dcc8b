-- STDIN among names, name by name.
use Rattle.std.proofs.Common.{◌≡◌, ℕ, suc, ◌+◌, ◌<◌, ◌≤◌, Bool, true, false, List, [], ◌∷◌, length, get_or, drop, map, Option, Some, None, option_map, refl, sym, ◌∙◌, ap, add-one, drop-cons, arith}
use Rattle.std.specs.List.{find}
use Rattle.grammar.specs.Trees as model
use Rattle.query_tree.proofs.Lists.{queries_list}
use Rattle.query_tree.specs.Views.{placed_of, placed_all, query_of, queries_in}
use Rattle.query_tree.specs.declared.placed.Placed.{Placed}
use Rattle.query_tree.specs.declared.query.Query.{Query, Query', out-Query}
use Rattle.query_tree.specs.declared.query.QueryList.{QueryList, out-QueryList}
use Rattle.query_text.specs.Stdin.{is_stdin, stdin_among, stdin_beside, stdin_within, names_in, or_else, misplaced}

find_next : {A : Type 0} (f : A → Bool) (p : A) (ps : List A) → f p ≡ false → find f (p ∷ ps) ≡ find f ps
find_next f p ps other = rw other refl

find_here : {A : Type 0} (f : A → Bool) (p : A) (ps : List A) → f p ≡ true → find f (p ∷ ps) ≡ Some p
find_here f p ps same = rw same refl

pub split_here : {A : Type 0} (items : List A) (i : ℕ) (x : A) → i < length items → x ≡ get_or items i x → drop i items ≡ x ∷ drop (i + 1) items
split_here items i x lt is = rw add-one (drop-cons items i x lt ∙ ap (λ y. y ∷ drop (suc i) items) (sym is))

-- a name that isn't STDIN is passed
pub passes : (items : List Placed) (i : ℕ) (x : Placed) → i < length items → x ≡ get_or items i x → is_stdin x.text ≡ false
    → stdin_among (map placed_of (drop i items)) ≡ stdin_among (map placed_of (drop (i + 1) items))
passes items i x lt is other =
    ap (λ (ps : List Placed). stdin_among (map placed_of ps)) (split_here items i x lt is)
    ∙ ap (λ (found : Option model.Placed). option_map (λ (name : model.Placed). name.at) found) (find_next (λ (name : model.Placed). is_stdin name.text) (placed_of x) (map placed_of (drop (i + 1) items)) other)

-- a name that is STDIN is the first
pub stands : (items : List Placed) (i : ℕ) (x : Placed) → i < length items → x ≡ get_or items i x → is_stdin x.text ≡ true
    → stdin_among (map placed_of (drop i items)) ≡ Some x.at
stands items i x lt is so =
    ap (λ (ps : List Placed). stdin_among (map placed_of ps)) (split_here items i x lt is)
    ∙ ap (λ (found : Option model.Placed). option_map (λ (name : model.Placed). name.at) found) (find_here (λ (name : model.Placed). is_stdin name.text) (placed_of x) (map placed_of (drop (i + 1) items)) so)

pub beside_few : (items : List Placed) → length items < 2 → None ≡ stdin_beside (map placed_of items)
beside_few [] lt = refl
beside_few (x ∷ []) lt = refl
beside_few (x ∷ y ∷ items) lt = absurd (omega arith)

pub beside_more : (items : List Placed) → 2 ≤ length items → stdin_among (map placed_of items) ≡ stdin_beside (map placed_of items)
beside_more [] le = absurd (omega arith)
beside_more (x ∷ []) le = absurd (omega arith)
beside_more (x ∷ y ∷ items) le = refl

query_names : (q : Query) → names_in (query_of q) ≡ placed_all (out-Query q).names
unfolding out-Query denote.Hole.Carrier.out
query_names (Query' top distinct star items aliases into names condition keys rollup having order descending subqueries) = refl

pub misplaced_parts : (q : Query) → misplaced (query_of q) ≡ or_else (stdin_beside (placed_all (out-Query q).names)) (stdin_within (queries_in (out-Query q).subqueries))
unfolding out-Query denote.Hole.Carrier.out
misplaced_parts (Query' top distinct star items aliases into names condition keys rollup having order descending subqueries) = refl

-- STDIN in these queries
abbrev pub within : List Query → Option ℕ
within items = stdin_within (model.queries_of (map query_of items))

pub within_list : (qs : QueryList) → stdin_within (queries_in qs) ≡ within (out-QueryList qs).items.items
within_list qs = ap (λ (all : model.Queries). stdin_within all) (queries_list qs)

-- a subquery goes first
pub within_split : (items : List Query) (i : ℕ) (x : Query) → i < length items → x ≡ get_or items i x
    → within (drop i items) ≡ or_else (stdin_among (placed_all (out-Query x).names)) (within (drop (i + 1) items))
within_split items i x lt is =
    ap (λ (qs : List Query). within qs) (split_here items i x lt is)
    ∙ ap (λ (names : List model.Placed). or_else (stdin_among names) (within (drop (i + 1) items))) (query_names x)

pub within_passes : (items : List Query) (i : ℕ) (x : Query) → i < length items → x ≡ get_or items i x → None ≡ stdin_among (placed_all (out-Query x).names)
    → within (drop i items) ≡ within (drop (i + 1) items)
within_passes items i x lt is none = within_split items i x lt is ∙ ap (λ (found : Option ℕ). or_else found (within (drop (i + 1) items))) (sym none)

pub within_stands : (items : List Query) (i : ℕ) (x : Query) (at : ℕ) → i < length items → x ≡ get_or items i x → Some at ≡ stdin_among (placed_all (out-Query x).names)
    → within (drop i items) ≡ Some at
within_stands items i x at lt is some = within_split items i x lt is ∙ ap (λ (found : Option ℕ). or_else found (within (drop (i + 1) items))) (sym some)

pub misplaced_first : (q : Query) (at : ℕ) → Some at ≡ stdin_beside (placed_all (out-Query q).names) → Some at ≡ misplaced (query_of q)
misplaced_first q at first = sym (misplaced_parts q ∙ ap (λ (found : Option ℕ). or_else found (stdin_within (queries_in (out-Query q).subqueries))) (sym first))

pub misplaced_next : (q : Query) (found : Option ℕ) → None ≡ stdin_beside (placed_all (out-Query q).names) → found ≡ stdin_within (queries_in (out-Query q).subqueries) → found ≡ misplaced (query_of q)
misplaced_next q found none rest = sym (misplaced_parts q ∙ ap (λ (f : Option ℕ). or_else f (stdin_within (queries_in (out-Query q).subqueries))) (sym none) ∙ sym rest)
