-- What expressions mean, one part at a time.
use Rattle.std.proofs.Common.{◌≡◌, ℕ, Bool, not, ◌&&◌, ◌<◌, ◌+◌, List, [], ◌∷◌, ◌++◌, length, drop, get_or, map, Result, Ok, Err, Option, Some, None, option_map, refl, sym, ◌∙◌, ap, append_assoc, Box}
use Rattle.std.proofs.lemmas.List.{append-nil}
use Rattle.std.specs.declared.alloc.Global.{Global}
use Rattle.std.specs.List.{slice_get}
use Rattle.grammar.specs.Trees.{Otherwise, otherwise_of, place_of, Tree}
use Rattle.grammar.specs.Trees.{Tree as tree}
use Rattle.grammar.specs.Trees.{trees_of as listed}
use Rattle.grammar.specs.Trees.{whens_of as branched}
use Rattle.lp_values.specs.declared.kind.Kind.{Kind}
use Rattle.lp_values.specs.declared.kind.Kind.TheVariants.{Any}
use Rattle.lp_values.specs.declared.value.Value.{Value}
use Rattle.query_tree.specs.Views.{tree_of, when_of, whens_of}
use Rattle.query_tree.specs.declared.expression.Expr.{Expr}
use Rattle.query_tree.specs.declared.expression.Expr.TheViews as shown
use Rattle.query_tree.specs.declared.expression.WhenList.{WhenList}
use Rattle.query_tree.specs.declared.expression.When.{When}
use Rattle.query_types.specs.declared.callee.Callee.{Callee}
use Rattle.query_types.specs.declared.fault.TypeFault.{TypeFault}
use Rattle.query_types.specs.declared.table.NamedKind.{NamedKind}
use Rattle.query_types.specs.declared.table.TableColumns.{TableColumns}
use Rattle.query_types.specs.Calls.{is_counting}
use Rattle.query_types.specs.Meanings.{added, joined, followed, branch_added, sharper}
use Rattle.senses.specs.Senses.{Sense, kind_sensed, kind_of_case}
use Rattle.sensing.specs.Sensing.{Named, agreeing_sense, all_sensed, branches_sensed, call_senses, case_closed, case_senses, else_sensed, first_place, fitting_sense, sensed, standing}
use Rattle.query_types.proofs.Answering.{joined_one}
use Rattle.query_types.proofs.Arguments.{counted}
use Rattle.query_types.proofs.Forms.{dropped}
use Rattle.query_types.proofs.Lists.{case_tree}

abbrev pub place_in : Option Tree → ℕ
place_in None = 0
place_in (Some e) = place_of e

module _ (wide : Bool) (table : TableColumns) (moment : Value) (aliases : List Named) where
  -- what a call means once its name stands
  abbrev pub called : ℕ → List ℕ → List Expr → Callee → Result Sense TypeFault
  called at name es f = followed (all_sensed (wide && not (is_counting name)) table moment aliases (listed (map tree_of es))) (call_senses table.columns moment at name (listed (map tree_of es)) f)

  -- a call whose name was looked up
  pub call_standing : (at : ℕ) (name : List ℕ) (es : List Expr) (many : ℕ) (r : Result Callee TypeFault) → many ≡ length es → standing wide at name many ≡ r
      → sensed wide table moment aliases (tree.Call at name (listed (map tree_of es))) ≡ followed r (called at name es)
  call_standing at name es many r size is =
      ap (λ r. followed r (called at name es)) (ap (λ (n : ℕ). standing wide at name n) (counted es ∙ sym size) ∙ is)

  -- a call whose arguments were looked at
  pub call_given : (at : ℕ) (name : List ℕ) (es : List Expr) (many : ℕ) (f : Callee) (within : Bool) (r : Result (List Sense) TypeFault) → many ≡ length es → standing wide at name many ≡ Ok f
      → within ≡ (wide && not (is_counting name)) → all_sensed within table moment aliases (listed (map tree_of es)) ≡ r
      → sensed wide table moment aliases (tree.Call at name (listed (map tree_of es))) ≡ followed r (call_senses table.columns moment at name (listed (map tree_of es)) f)
  call_given at name es many f within r size is mode given =
      call_standing at name es many (Ok f) size is
      ∙ ap (λ r. followed r (call_senses table.columns moment at name (listed (map tree_of es)) f)) (ap (λ (w : Bool). all_sensed w table moment aliases (listed (map tree_of es))) (sym mode) ∙ given)

  pub argument_step : (front : List Sense) (es : List Expr) (i : ℕ) (e : Expr) (r : Result Sense TypeFault) → i < length es → e ≡ get_or es i e → sensed wide table moment aliases (tree_of e) ≡ r
      → joined front (all_sensed wide table moment aliases (listed (map tree_of (drop i es)))) ≡ joined front (added r (all_sensed wide table moment aliases (listed (map tree_of (drop (i + 1) es)))))
  argument_step front es i e r here is found =
      ap (λ (l : List Expr). joined front (all_sensed wide table moment aliases (listed (map tree_of l)))) (dropped es i e here is)
      ∙ ap (λ r. joined front (added r (all_sensed wide table moment aliases (listed (map tree_of (drop (i + 1) es)))))) found

  pub argument_more : (front : List Sense) (es : List Expr) (i : ℕ) (e : Expr) (m : Sense) → i < length es → e ≡ get_or es i e → sensed wide table moment aliases (tree_of e) ≡ Ok m
      → joined front (all_sensed wide table moment aliases (listed (map tree_of (drop i es)))) ≡ joined (front ++ m ∷ []) (all_sensed wide table moment aliases (listed (map tree_of (drop (i + 1) es))))
  argument_more front es i e m here is found = argument_step front es i e (Ok m) here is found ∙ joined_one front m (all_sensed wide table moment aliases (listed (map tree_of (drop (i + 1) es))))

  -- what stands behind a WHEN that means this
  abbrev pub tested : Kind → Kind → When → List When → Sense → Result (List Sense) TypeFault
  tested subject kind w rest x = followed (followed (sensed wide table moment aliases (tree_of w.value)) (agreeing_sense table.columns kind (place_of (tree_of w.value))))
      (λ y. branch_added x y (branches_sensed wide table moment aliases subject (sharper kind (kind_sensed table.columns y)) (branched (map when_of rest))))

  pub branch_tested : (subject kind : Kind) (front : List Sense) (ws : List When) (i : ℕ) (w : When) (r : Result Sense TypeFault) → i < length ws → w ≡ get_or ws i w
      → followed (sensed wide table moment aliases (tree_of w.test)) (fitting_sense table.columns subject (place_of (tree_of w.test))) ≡ r
      → joined front (branches_sensed wide table moment aliases subject kind (branched (map when_of (drop i ws)))) ≡ joined front (followed r (tested subject kind w (drop (i + 1) ws)))
  branch_tested subject kind front ws i w r here is found =
      ap (λ (l : List When). joined front (branches_sensed wide table moment aliases subject kind (branched (map when_of l)))) (dropped ws i w here is)
      ∙ ap (λ r. joined front (followed r (tested subject kind w (drop (i + 1) ws)))) found

  pub branch_valued : (subject kind : Kind) (front : List Sense) (ws : List When) (i : ℕ) (w : When) (x : Sense) (r : Result Sense TypeFault) → i < length ws → w ≡ get_or ws i w
      → followed (sensed wide table moment aliases (tree_of w.test)) (fitting_sense table.columns subject (place_of (tree_of w.test))) ≡ Ok x
      → followed (sensed wide table moment aliases (tree_of w.value)) (agreeing_sense table.columns kind (place_of (tree_of w.value))) ≡ r
      → joined front (branches_sensed wide table moment aliases subject kind (branched (map when_of (drop i ws))))
      ≡ joined front (followed r (λ y. branch_added x y (branches_sensed wide table moment aliases subject (sharper kind (kind_sensed table.columns y)) (branched (map when_of (drop (i + 1) ws))))))
  branch_valued subject kind front ws i w x r here is one two =
      branch_tested subject kind front ws i w (Ok x) here is one
      ∙ ap (λ r. joined front (followed r (λ y. branch_added x y (branches_sensed wide table moment aliases subject (sharper kind (kind_sensed table.columns y)) (branched (map when_of (drop (i + 1) ws))))))) two

two_more : (front : List Sense) (x y : Sense) (r : Result (List Sense) TypeFault) → joined front (branch_added x y r) ≡ joined ((front ++ x ∷ []) ++ y ∷ []) r
two_more front x y (Err fault) = refl
two_more front x y (Ok rest) = ap Ok (sym (append_assoc (front ++ x ∷ []) (y ∷ []) rest ∙ append_assoc front (x ∷ []) (y ∷ rest)))

module _ (wide : Bool) (table : TableColumns) (moment : Value) (aliases : List Named) where
  pub branch_more : (subject kind : Kind) (front : List Sense) (ws : List When) (i : ℕ) (w : When) (x y : Sense) → i < length ws → w ≡ get_or ws i w
      → followed (sensed wide table moment aliases (tree_of w.test)) (fitting_sense table.columns subject (place_of (tree_of w.test))) ≡ Ok x
      → followed (sensed wide table moment aliases (tree_of w.value)) (agreeing_sense table.columns kind (place_of (tree_of w.value))) ≡ Ok y
      → joined front (branches_sensed wide table moment aliases subject kind (branched (map when_of (drop i ws))))
      ≡ joined ((front ++ x ∷ []) ++ y ∷ []) (branches_sensed wide table moment aliases subject (sharper kind (kind_sensed table.columns y)) (branched (map when_of (drop (i + 1) ws))))
  branch_more subject kind front ws i w x y here is one two =
      branch_valued wide table moment aliases subject kind front ws i w x (Ok y) here is one two
      ∙ two_more front x y (branches_sensed wide table moment aliases subject (sharper kind (kind_sensed table.columns y)) (branched (map when_of (drop (i + 1) ws))))

-- a call whose arguments are all known
pub all_known : (front : List Sense) → joined front (Ok []) ≡ Ok front
all_known front = ap Ok (append-nil front)

followed_twice : {A B D : Type 0} (r : Result A TypeFault) (f : A → B) (g : B → Result D TypeFault) → followed (followed r (λ a. Ok (f a))) g ≡ followed r (λ a. g (f a))
followed_twice (Err fault) f g = refl
followed_twice (Ok a) f g = refl

module _ (wide : Bool) (table : TableColumns) (moment : Value) (aliases : List Named) where
  -- what stands behind the branches of a CASE
  abbrev pub behind : Sense → Otherwise → List Sense → Result Sense TypeFault
  behind x otherwise parts = followed (else_sensed wide table moment aliases (kind_of_case table.columns Any parts) otherwise) (λ last. Ok (case_senses table.columns x (parts ++ last)))

  -- a CASE whose subject and branches were looked at
  pub case_parts : (at : ℕ) (subject : Box Expr Global) (branches : WhenList) (otherwise o : Option (Box Expr Global)) (x : Sense) (kind : Kind) (r : Result (List Sense) TypeFault)
      → sensed wide table moment aliases (tree_of subject.value) ≡ Ok x → kind ≡ kind_sensed table.columns x → branches_sensed wide table moment aliases kind Any (branched (whens_of branches)) ≡ r → otherwise ≡ o
      → sensed wide table moment aliases (tree_of (shown.Case at subject branches otherwise)) ≡ followed r (behind x (otherwise_of (option_map (λ b. tree_of b.value) o)))
  case_parts at subject branches otherwise o x kind r one kind_is two which =
      let ws = branched (whens_of branches) in
      let rest : Option (Box Expr Global) → Otherwise = λ o. otherwise_of (option_map (λ b. tree_of b.value) o) in
      ap (sensed wide table moment aliases) (case_tree at subject branches otherwise)
      ∙ ap (λ r. followed r (λ x. followed (branches_sensed wide table moment aliases (kind_sensed table.columns x) Any ws) (behind x (rest otherwise)))) one
      ∙ ap (λ k. followed (branches_sensed wide table moment aliases k Any ws) (behind x (rest otherwise))) (sym kind_is)
      ∙ ap (λ r. followed r (behind x (rest otherwise))) two
      ∙ ap (λ o. followed r (behind x (rest o))) which

  -- a CASE whose ELSE was looked at
  pub case_last : (at : ℕ) (subject : Box Expr Global) (branches : WhenList) (otherwise : Option (Box Expr Global)) (value : Box Expr Global) (x : Sense) (kind : Kind) (parts : List Sense) (r : Result Sense TypeFault)
      → sensed wide table moment aliases (tree_of subject.value) ≡ Ok x → kind ≡ kind_sensed table.columns x → branches_sensed wide table moment aliases kind Any (branched (whens_of branches)) ≡ Ok parts → otherwise ≡ Some value
      → sensed wide table moment aliases (tree_of value.value) ≡ r
      → sensed wide table moment aliases (tree_of (shown.Case at subject branches otherwise))
      ≡ followed (followed (followed r (agreeing_sense table.columns (kind_of_case table.columns Any parts) (place_of (tree_of value.value)))) (λ y. Ok (y ∷ []))) (λ last. Ok (case_senses table.columns x (parts ++ last)))
  case_last at subject branches otherwise value x kind parts r one kind_is two which last =
      case_parts at subject branches otherwise (Some value) x kind (Ok parts) one kind_is two which
      ∙ ap (λ r. followed (followed (followed r (agreeing_sense table.columns (kind_of_case table.columns Any parts) (place_of (tree_of value.value)))) (λ y. Ok (y ∷ []))) (λ last. Ok (case_senses table.columns x (parts ++ last)))) last

-- a CASE with its ELSE
pub ended : (columns : List NamedKind) (x : Sense) (parts : List Sense) (at : ℕ) (last : Sense)
    → followed (followed (agreeing_sense columns (kind_of_case columns Any parts) at last) (λ y. Ok (y ∷ []))) (λ l. Ok (case_senses columns x (parts ++ l))) ≡ case_closed columns x parts at last
ended columns x parts at last = followed_twice (agreeing_sense columns (kind_of_case columns Any parts) at last) (λ y. y ∷ []) (λ l. Ok (case_senses columns x (parts ++ l)))

-- the place of the first of some expressions
pub place_given : (es : List Expr) (o : Option Expr) → o ≡ slice_get es 0 → first_place (listed (map tree_of es)) ≡ place_in (option_map tree_of o)
place_given [] o is = ap (λ o. place_in (option_map tree_of o)) (sym is)
place_given (e ∷ es) o is = ap (λ o. place_in (option_map tree_of o)) (sym is)
