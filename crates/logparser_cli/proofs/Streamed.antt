-- What a run over standard input knows of it, from what the log that it is lets stand.
use Rattle.std.proofs.Common.{◌≡◌, ℕ, ◌+◌, ◌^◌, Bool, true, false, true≢false, List, [], ◌++◌, length, Option, Some, None, ap, sym, ◌∙◌, refl, subst, arith}
use Rattle.std.specs.Prelude.{option_map}
use Rattle.lp_model.specs.Outside.{Rose}
use Rattle.query_text.specs.Stdin.{names_in}
use Rattle.query_tree.specs.Views.{placed_all, query_of}
use Rattle.query_tree.specs.declared.query.Query.{Query, Query', out-Query}
use Rattle.standard_input.specs.Streams.{Goes, IsCounted, faults_of, folder_of, stream_files, whole_of}
use Rattle.standard_input.specs.declared.log.InputLog.{InputLog}
use Rattle.logparser_cli.specs.Input.{IsReadOn}
use Rattle.logparser_cli.specs.Outputs.{input_at}

-- the FROM names of a query as it stands in memory
pub names_read : (q : Query) → placed_all (out-Query q).names ≡ names_in (query_of q)
unfolding out-Query denote.Hole.Carrier.out
names_read (Query' top distinct star items aliases into names condition keys rollup having order descending subqueries) = refl

-- behind nothing stands what is left
behind_none : (bytes : List ℕ) (left : Option (List ℕ)) → bytes ≡ [] → option_map (λ rest. bytes ++ rest) left ≡ left
behind_none bytes None none = refl
behind_none bytes (Some rest) none = ap (λ t. Some (t ++ rest)) none

-- an input that stays was read no further
pub not_read : {I : Type 0} (left : I → Option (List ℕ)) (given faults : I → ℕ) (before after : I) → after ≡ before → IsReadOn (input_at left given faults before) (input_at left given faults after)
not_read left given faults before after same = record {
  bytes = [];
  left = behind_none [] (left after) refl ∙ ap left same;
  given = ap given same ∙ omega arith;
  most = omega arith;
}

-- an input that stays hasn't given 2^40 bytes
pub stays_short : {I : Type 0} (given : I → ℕ) (before after : I) → after ≡ before → given after ≡ given before + 2 ^ 40 → ⊥
stays_short given before after same long = let still : given after ≡ given before = ap given same in omega arith

module _ {I : Type 0} (left : I → Option (List ℕ)) (given faults : I → ℕ) (first last : InputLog I) (before : I) (goes : Goes left given first last) (none : first.gone.bytes ≡ []) (zero : first.given ≡ 0) (fresh : first.is_refused ≡ false) (starts : first.input.now ≡ before) where
  all_left : whole_of left last ≡ left before
  all_left = goes.whole ∙ (behind_none first.gone.bytes (left first.input.now) none ∙ ap left starts)

  -- the log is a folder of what was left of the stream
  pub folder_kept : folder_of left last ≡ option_map stream_files (left before)
  folder_kept = ap (option_map stream_files) all_left

  empty : length first.gone.bytes ≡ 0
  empty = ap length none

  read_more : given last.input.now ≡ given before + length last.gone.bytes
  read_more =
      let read = goes.read in
      let size = empty in
      let at : given first.input.now ≡ given before = ap given starts in
      omega arith

  counted : IsCounted last
  counted = goes.counted (record { count = zero ∙ sym empty; most = omega (arith, zero); refused = λ long. absurd (true≢false (sym long ∙ fresh)) })

  gave : given last.input.now ≡ given before + last.given
  gave = read_more ∙ ap (λ n. given before + n) (sym counted.count)

  pub read_on : (after : I) → after ≡ last.input.now → IsReadOn (input_at left given faults before) (input_at left given faults after)
  read_on after ends = record {
    bytes = last.gone.bytes;
    left = ap (λ i. option_map (λ rest. last.gone.bytes ++ rest) (left i)) ends ∙ all_left;
    given = ap given ends ∙ read_more;
    most = omega (arith, counted.count, counted.most);
  }

  -- a stream that is too long has given 2^40 bytes
  pub gave_most : (after : I) → after ≡ last.input.now → last.given ≡ 2 ^ 40 → given after ≡ given before + 2 ^ 40
  gave_most after ends full = ap given ends ∙ (gave ∙ ap (λ n. given before + n) full)

  -- one that has given so many is too long
  pub is_full : (after : I) → after ≡ last.input.now → given after ≡ given before + 2 ^ 40 → last.given ≡ 2 ^ 40
  is_full after ends long =
      let all : given after ≡ given last.input.now = ap given ends in
      let more = gave in
      omega arith

  unrefused : (d : Bool) → last.is_refused ≡ d → (last.given ≡ 2 ^ 40 → ⊥) → last.is_refused ≡ false
  unrefused true is short = absurd (short (counted.refused is))
  unrefused false is short = is

  -- another fault of the log is one of the stream
  pub stream_rose : (after : I) → after ≡ last.input.now → (last.given ≡ 2 ^ 40 → ⊥) → Rose (faults_of faults first) (faults_of faults last) → Rose (faults before) (faults after)
  stream_rose after ends short rose =
      let still = unrefused last.is_refused refl short in
      let began : faults first.input.now ≡ faults before = ap faults starts in
      let ended : faults last.input.now ≡ faults after = ap faults (sym ends) in
      let a : faults_of faults first ≡ faults before = rw fresh (omega arith) in
      let b : faults_of faults last ≡ faults after = rw still (omega arith) in
      subst (λ n. Rose n (faults after)) a (subst (λ n. Rose (faults_of faults first) n) b rose)
