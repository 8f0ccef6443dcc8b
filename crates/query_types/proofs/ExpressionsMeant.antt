-- What expressions mean, one part at a time.
use Rattle.std.proofs.Common.{◌≡◌, ℕ, ◌<◌, ◌+◌, List, [], ◌∷◌, ◌++◌, length, drop, get_or, map, Result, Ok, Err, Option, Some, option_map, refl, sym, ◌∙◌, ap, append_assoc, Box}
use Rattle.std.proofs.lemmas.List.{append-nil}
use Rattle.std.specs.declared.alloc.Global.{Global}
use Rattle.grammar.specs.Trees.{Otherwise, otherwise_of, place_of}
use Rattle.grammar.specs.Trees.{Tree as tree}
use Rattle.grammar.specs.Trees.{trees_of as listed}
use Rattle.grammar.specs.Trees.{whens_of as branched}
use Rattle.lp_values.specs.declared.kind.Kind.{Kind}
use Rattle.lp_values.specs.declared.kind.Kind.TheVariants.{Any}
use Rattle.lp_values.specs.declared.value.Value.{Value}
use Rattle.query_tree.specs.Views.{tree_of, when_of, whens_of}
use Rattle.query_tree.specs.declared.expression.Expr.{Expr}
use Rattle.query_tree.specs.declared.expression.Expr.TheViews as shown
use Rattle.query_tree.specs.declared.expression.WhenList.{WhenList}
use Rattle.query_tree.specs.declared.expression.When.{When}
use Rattle.query_types.specs.declared.alias.Alias.{Alias}
use Rattle.query_types.specs.declared.callee.Callee.{Callee}
use Rattle.query_types.specs.declared.fault.TypeFault.{TypeFault}
use Rattle.query_types.specs.declared.table.NamedKind.{NamedKind}
use Rattle.query_types.specs.declared.table.TableColumns.{TableColumns}
use Rattle.query_types.specs.Calls.{callee}
use Rattle.query_types.specs.Meanings.{added, joined, followed, known, meant, all_meant, branches_meant, branch_added, call_means, else_meant, case_kind, case_means, case_ended, if_fits, if_agrees, kind_meant, sharper}
use Rattle.query_types.specs.Terms.{Term}
use Rattle.query_types.proofs.Answering.{joined_one}
use Rattle.query_types.proofs.Arguments.{counted}
use Rattle.query_types.proofs.Forms.{dropped}
use Rattle.query_types.proofs.Lists.{case_tree}

module _ (table : TableColumns) (moment : Value) (aliases : List Alias) where
  -- a call whose name was looked up
  pub call_known : (at : ℕ) (name : List ℕ) (es : List Expr) (many : ℕ) (found : Callee) (r : Result Callee TypeFault) → many ≡ length es → found ≡ callee name → known at many found ≡ r
      → meant table moment aliases (tree.Call at name (listed (map tree_of es))) ≡ followed r (λ f. followed (all_meant table moment aliases (listed (map tree_of es))) (call_means table.columns moment at f (listed (map tree_of es))))
  call_known at name es many found r size is known_is =
      let trees = listed (map tree_of es) in
      ap (λ r. followed r (λ f. followed (all_meant table moment aliases trees) (call_means table.columns moment at f trees)))
      (ap (λ (n : ℕ). known at n (callee name)) (counted es ∙ sym size) ∙ ap (known at many) (sym is) ∙ known_is)

  -- a call whose arguments were looked at
  pub call_given : (at : ℕ) (name : List ℕ) (es : List Expr) (many : ℕ) (found f : Callee) (r : Result (List Term) TypeFault) → many ≡ length es → found ≡ callee name → known at many found ≡ Ok f
      → all_meant table moment aliases (listed (map tree_of es)) ≡ r
      → meant table moment aliases (tree.Call at name (listed (map tree_of es))) ≡ followed r (call_means table.columns moment at f (listed (map tree_of es)))
  call_given at name es many found f r size is known_is given =
      call_known at name es many found (Ok f) size is known_is ∙ ap (λ r. followed r (call_means table.columns moment at f (listed (map tree_of es)))) given

  pub argument_step : (front : List Term) (es : List Expr) (i : ℕ) (e : Expr) (r : Result Term TypeFault) → i < length es → e ≡ get_or es i e → meant table moment aliases (tree_of e) ≡ r
      → joined front (all_meant table moment aliases (listed (map tree_of (drop i es)))) ≡ joined front (added r (all_meant table moment aliases (listed (map tree_of (drop (i + 1) es)))))
  argument_step front es i e r here is found =
      ap (λ (l : List Expr). joined front (all_meant table moment aliases (listed (map tree_of l)))) (dropped es i e here is)
      ∙ ap (λ r. joined front (added r (all_meant table moment aliases (listed (map tree_of (drop (i + 1) es)))))) found

  pub argument_more : (front : List Term) (es : List Expr) (i : ℕ) (e : Expr) (m : Term) → i < length es → e ≡ get_or es i e → meant table moment aliases (tree_of e) ≡ Ok m
      → joined front (all_meant table moment aliases (listed (map tree_of (drop i es)))) ≡ joined (front ++ m ∷ []) (all_meant table moment aliases (listed (map tree_of (drop (i + 1) es))))
  argument_more front es i e m here is found = argument_step front es i e (Ok m) here is found ∙ joined_one front m (all_meant table moment aliases (listed (map tree_of (drop (i + 1) es))))

  -- what stands behind a WHEN that means this
  abbrev pub tested : Kind → Kind → When → List When → Term → Result (List Term) TypeFault
  tested subject kind w rest x = followed (followed (meant table moment aliases (tree_of w.value)) (if_agrees table.columns kind (place_of (tree_of w.value))))
      (λ y. branch_added x y (branches_meant table moment aliases subject (sharper kind (kind_meant table.columns y)) (branched (map when_of rest))))

  pub branch_tested : (subject kind : Kind) (front : List Term) (ws : List When) (i : ℕ) (w : When) (r : Result Term TypeFault) → i < length ws → w ≡ get_or ws i w
      → followed (meant table moment aliases (tree_of w.test)) (if_fits table.columns subject (place_of (tree_of w.test))) ≡ r
      → joined front (branches_meant table moment aliases subject kind (branched (map when_of (drop i ws)))) ≡ joined front (followed r (tested subject kind w (drop (i + 1) ws)))
  branch_tested subject kind front ws i w r here is found =
      ap (λ (l : List When). joined front (branches_meant table moment aliases subject kind (branched (map when_of l)))) (dropped ws i w here is)
      ∙ ap (λ r. joined front (followed r (tested subject kind w (drop (i + 1) ws)))) found

  pub branch_valued : (subject kind : Kind) (front : List Term) (ws : List When) (i : ℕ) (w : When) (x : Term) (r : Result Term TypeFault) → i < length ws → w ≡ get_or ws i w
      → followed (meant table moment aliases (tree_of w.test)) (if_fits table.columns subject (place_of (tree_of w.test))) ≡ Ok x
      → followed (meant table moment aliases (tree_of w.value)) (if_agrees table.columns kind (place_of (tree_of w.value))) ≡ r
      → joined front (branches_meant table moment aliases subject kind (branched (map when_of (drop i ws))))
      ≡ joined front (followed r (λ y. branch_added x y (branches_meant table moment aliases subject (sharper kind (kind_meant table.columns y)) (branched (map when_of (drop (i + 1) ws))))))
  branch_valued subject kind front ws i w x r here is one two =
      branch_tested subject kind front ws i w (Ok x) here is one
      ∙ ap (λ r. joined front (followed r (λ y. branch_added x y (branches_meant table moment aliases subject (sharper kind (kind_meant table.columns y)) (branched (map when_of (drop (i + 1) ws))))))) two

two_more : (front : List Term) (x y : Term) (r : Result (List Term) TypeFault) → joined front (branch_added x y r) ≡ joined ((front ++ x ∷ []) ++ y ∷ []) r
two_more front x y (Err fault) = refl
two_more front x y (Ok rest) = ap Ok (sym (append_assoc (front ++ x ∷ []) (y ∷ []) rest ∙ append_assoc front (x ∷ []) (y ∷ rest)))

module _ (table : TableColumns) (moment : Value) (aliases : List Alias) where
  pub branch_more : (subject kind : Kind) (front : List Term) (ws : List When) (i : ℕ) (w : When) (x y : Term) → i < length ws → w ≡ get_or ws i w
      → followed (meant table moment aliases (tree_of w.test)) (if_fits table.columns subject (place_of (tree_of w.test))) ≡ Ok x
      → followed (meant table moment aliases (tree_of w.value)) (if_agrees table.columns kind (place_of (tree_of w.value))) ≡ Ok y
      → joined front (branches_meant table moment aliases subject kind (branched (map when_of (drop i ws))))
      ≡ joined ((front ++ x ∷ []) ++ y ∷ []) (branches_meant table moment aliases subject (sharper kind (kind_meant table.columns y)) (branched (map when_of (drop (i + 1) ws))))
  branch_more subject kind front ws i w x y here is one two =
      branch_valued table moment aliases subject kind front ws i w x (Ok y) here is one two
      ∙ two_more front x y (branches_meant table moment aliases subject (sharper kind (kind_meant table.columns y)) (branched (map when_of (drop (i + 1) ws))))

-- a call whose arguments are all known
pub all_known : (front : List Term) → joined front (Ok []) ≡ Ok front
all_known front = ap Ok (append-nil front)

followed_twice : {A B D : Type 0} (r : Result A TypeFault) (f : A → B) (g : B → Result D TypeFault) → followed (followed r (λ a. Ok (f a))) g ≡ followed r (λ a. g (f a))
followed_twice (Err fault) f g = refl
followed_twice (Ok a) f g = refl

module _ (table : TableColumns) (moment : Value) (aliases : List Alias) where
  -- what stands behind the branches of a CASE
  abbrev pub behind : Term → Otherwise → List Term → Result Term TypeFault
  behind x otherwise parts = followed (else_meant table moment aliases (case_kind table.columns Any parts) otherwise) (λ last. Ok (case_means table.columns x (parts ++ last)))

  -- a CASE whose subject and branches were looked at
  pub case_parts : (at : ℕ) (subject : Box Expr Global) (branches : WhenList) (otherwise o : Option (Box Expr Global)) (x : Term) (kind : Kind) (r : Result (List Term) TypeFault)
      → meant table moment aliases (tree_of subject.value) ≡ Ok x → kind ≡ kind_meant table.columns x → branches_meant table moment aliases kind Any (branched (whens_of branches)) ≡ r → otherwise ≡ o
      → meant table moment aliases (tree_of (shown.Case at subject branches otherwise)) ≡ followed r (behind x (otherwise_of (option_map (λ b. tree_of b.value) o)))
  case_parts at subject branches otherwise o x kind r one kind_is two which =
      let ws = branched (whens_of branches) in
      let rest : Option (Box Expr Global) → Otherwise = λ o. otherwise_of (option_map (λ b. tree_of b.value) o) in
      ap (meant table moment aliases) (case_tree at subject branches otherwise)
      ∙ ap (λ r. followed r (λ x. followed (branches_meant table moment aliases (kind_meant table.columns x) Any ws) (behind x (rest otherwise)))) one
      ∙ ap (λ k. followed (branches_meant table moment aliases k Any ws) (behind x (rest otherwise))) (sym kind_is)
      ∙ ap (λ r. followed r (behind x (rest otherwise))) two
      ∙ ap (λ o. followed r (behind x (rest o))) which

  -- a CASE whose ELSE was looked at
  pub case_last : (at : ℕ) (subject : Box Expr Global) (branches : WhenList) (otherwise : Option (Box Expr Global)) (value : Box Expr Global) (x : Term) (kind : Kind) (parts : List Term) (r : Result Term TypeFault)
      → meant table moment aliases (tree_of subject.value) ≡ Ok x → kind ≡ kind_meant table.columns x → branches_meant table moment aliases kind Any (branched (whens_of branches)) ≡ Ok parts → otherwise ≡ Some value
      → meant table moment aliases (tree_of value.value) ≡ r
      → meant table moment aliases (tree_of (shown.Case at subject branches otherwise))
      ≡ followed (followed (followed r (if_agrees table.columns (case_kind table.columns Any parts) (place_of (tree_of value.value)))) (λ y. Ok (y ∷ []))) (λ last. Ok (case_means table.columns x (parts ++ last)))
  case_last at subject branches otherwise value x kind parts r one kind_is two which last =
      case_parts at subject branches otherwise (Some value) x kind (Ok parts) one kind_is two which
      ∙ ap (λ r. followed (followed (followed r (if_agrees table.columns (case_kind table.columns Any parts) (place_of (tree_of value.value)))) (λ y. Ok (y ∷ []))) (λ last. Ok (case_means table.columns x (parts ++ last)))) last

-- a CASE with its ELSE
pub ended : (columns : List NamedKind) (x : Term) (parts : List Term) (at : ℕ) (last : Term)
    → followed (followed (if_agrees columns (case_kind columns Any parts) at last) (λ y. Ok (y ∷ []))) (λ l. Ok (case_means columns x (parts ++ l))) ≡ case_ended columns x parts at last
ended columns x parts at last = followed_twice (if_agrees columns (case_kind columns Any parts) at last) (λ y. y ∷ []) (λ l. Ok (case_means columns x (parts ++ l)))
