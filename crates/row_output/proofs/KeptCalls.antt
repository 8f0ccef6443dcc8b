-- What the calls of rows on their way come to.
use Rattle.std.proofs.Common.{◌≡◌, ◌+◌, ◌≤◌, ℕ, List, [], ◌∷◌, ◌++◌, length, Result, Ok, Err, OnOk, OnErr, IfErr, IsTrue, true, false, true≢false, refl, sym, ◌∙◌, ap, subst, arith, length-append}
use Rattle.std.proofs.lemmas.List.{append-nil}
use Rattle.order_top.specs.Finish.{Row, Finish, finished, keys_at}
use Rattle.order_top.specs.Ordering.{Ordering, StandsFor, is_past}
use Rattle.order_top.proofs.Standing.{past_stands}
use Rattle.text_output.specs.Output.{StageKind}
use Rattle.text_output.specs.declared.target.Output.{Output}
use Rattle.row_output.specs.declared.fault.OutputFault.{OutputFault}
use Rattle.row_output.specs.declared.fault.OutputFault.TheVariants as F
use Rattle.row_output.specs.declared.fault.Refused.{Refused}
use Rattle.row_output.specs.declared.kept.Kept.{Kept}
use Rattle.row_output.specs.declared.kept.Kept.TheVariants as K
use Rattle.row_output.specs.declared.kept.RowOutput.{RowOutput}
use Rattle.row_output.specs.declared.sink.Sink.{Sink}
use Rattle.row_output.specs.Asked.{Asked, left_of}
use Rattle.row_output.specs.FileRows.{OnRefused}
use Rattle.row_output.specs.Kept.{DropsAll, HasKept, HasPut, HasRows, LetsAllGo, asked_of}
use Rattle.row_output.specs.Rows.{Holds, HoldsAt, IsRefused, IsRefusedAt, Stops, StopsAt}
use Rattle.row_output.specs.Sinks.{HasSinkRows, HoldsLittle, IsOpened, Purpose, files_in, purpose_of, sink_text}
use Rattle.row_output.specs.Few.{GoOn, places_in}
use Rattle.row_output.proofs.Plain.{all_left}
use Rattle.row_output.proofs.Stopping.{kept_stops}

abbrev pub asked_for : Purpose → Finish → Asked
asked_for purpose order = record { files = purpose.files; text = purpose.text; columns = purpose.columns; order = order }

-- what holds of the rows that a sink has, and more of any, holds of what is left of all
left_so : {S : Type 0} (kind : StageKind S) (kept : Kept) (order : Finish) (s : Sink) (start : S) (rows more : List Row) (a : S) (P : List Row → Type 0) → ((rows more : List Row) → HasSinkRows kind s start rows a → P (rows ++ more))
    → HasKept kind kept order s start rows a → P (finished order (rows ++ more))
left_so kind K.All order s start rows more a P so (plain, has) = subst P (sym (all_left order plain (rows ++ more))) (so rows more has)
left_so kind (K.Ordered ordering) order s start rows more a P so (asks, same, stands, has) = so [] (finished order (rows ++ more)) has

-- the rows that it has, whichever these are
still_so : {S : Type 0} (kind : StageKind S) (kept : Kept) (order : Finish) (s : Sink) (start : S) (rows : List Row) (a : S) (Q : Type 0) → ((rows : List Row) → HasSinkRows kind s start rows a → Q) → HasKept kind kept order s start rows a → Q
still_so kind K.All order s start rows a Q so (plain, has) = so rows has
still_so kind (K.Ordered ordering) order s start rows a Q so (asks, same, stands, has) = so [] has

still_has : {S : Type 0} (kind : StageKind S) (kept : Kept) (order : Finish) (s t : Sink) (start : S) (rows : List Row) (a b : S) → ((rows : List Row) → HasSinkRows kind s start rows a → HasSinkRows kind t start rows b) → HasKept kind kept order s start rows a → HasKept kind kept order t start rows b
still_has kind K.All order s t start rows a b so (plain, has) = (plain, so rows has)
still_has kind (K.Ordered ordering) order s t start rows a b so (asks, same, stands, has) = (asks, same, stands, so [] has)

-- the same kept rows, taken out
pub kept_as : {S : Type 0} (kind : StageKind S) (kept taken : Kept) (order : Finish) (s : Sink) (start : S) (rows : List Row) (a : S) → taken ≡ kept → HasKept kind kept order s start rows a → HasKept kind taken order s start rows a
kept_as kind kept taken order s start rows a same has = subst (λ (k : Kept). HasKept kind k order s start rows a) (sym same) has

-- a row goes on to the sink
module _ {S : Type 0} (kind : StageKind S) (kept : Kept) (is : kept ≡ K.All) (order : Finish) (s : Sink) (a b : S) where
  own : (start : S) (rows : List Row) → HasKept kind kept order s start rows a → HasKept kind K.All order s start rows a
  own start rows has = subst (λ (k : Kept). HasKept kind k order s start rows a) is has

  pub plain_has : {A : Type 0} (r : Result A OutputFault) (k : Kept) (t : Sink) (after : List Row → List Row) → k ≡ kept → OnOk r ((start : S) (rows : List Row) → HasSinkRows kind s start rows a → HasSinkRows kind t start (after rows) b)
      → OnOk r ((start : S) (rows : List Row) → HasKept kind kept order s start rows a → HasKept kind k order t start (after rows) b)
  plain_has (Ok x) k t after same so = λ start rows has.
      let had = own start rows has in
      subst (λ (y : Kept). HasKept kind y order t start (after rows) b) (sym (same ∙ is)) (had.0, so start rows had.1)
  plain_has (Err fault) k t after same so = tt

  pub plain_little : {A : Type 0} (r : Result A OutputFault) (t : Sink) → OnOk r ((start : S) (rows : List Row) → HasSinkRows kind s start rows a → HoldsLittle t)
      → OnOk r (GoOn kept → (start : S) (rows : List Row) → HasKept kind kept order s start rows a → HoldsLittle t)
  plain_little (Ok x) t so = λ go start rows has. so start rows (own start rows has).1
  plain_little (Err fault) t so = tt

  pub plain_stops : {A : Type 0} (r : Result A OutputFault) (whole : List Row → List Row → List Row) → OnErr r ((start : S) (rows more : List Row) → HasSinkRows kind s start rows a → StopsAt (files_in s) kind (sink_text s) start (whole rows more) b)
      → OnErr r ((start : S) (rows more : List Row) → HasKept kind kept order s start rows a → StopsAt (files_in s) kind (sink_text s) start (finished order (whole rows more)) b)
  plain_stops (Ok x) whole so = tt
  plain_stops (Err fault) whole so = λ start rows more has.
      let had = own start rows has in
      subst (λ (l : List Row). StopsAt (files_in s) kind (sink_text s) start l b) (sym (all_left order had.0 (whole rows more))) (so start rows more had.1)

  pub plain_refuses : {A : Type 0} (r : Result A OutputFault) (whole : List Row → List Row → List Row) → IfErr r (OnRefused (λ why. (start : S) (rows more : List Row) → HasSinkRows kind s start rows a → IsRefusedAt (files_in s) (whole rows more) why))
      → IfErr r (OnRefused (λ why. (start : S) (rows more : List Row) → HasKept kind kept order s start rows a → IsRefusedAt (files_in s) (finished order (whole rows more)) why))
  plain_refuses (Ok x) whole so = tt
  plain_refuses (Err (F.Refused why)) whole so = λ start rows more has.
      let had = own start rows has in
      subst (λ (l : List Row). IsRefusedAt (files_in s) l why) (sym (all_left order had.0 (whole rows more))) (so start rows more had.1)
  plain_refuses (Err F.Failed) whole so = tt
  plain_refuses (Err F.Memory) whole so = tt

  pub plain_left : (start : S) (rows : List Row) → HasKept kind kept order s start rows a → finished order rows ≡ rows
  plain_left start rows has = all_left order (own start rows has).0 rows

  pub plain_sink : (start : S) (rows : List Row) → HasKept kind kept order s start rows a → HasSinkRows kind s start (finished order rows) a
  plain_sink start rows has =
      let had = own start rows has in
      subst (λ (l : List Row). HasSinkRows kind s start l a) (sym (all_left order had.0 rows)) had.1

-- an order has the rows
module _ {S : Type 0} (kind : StageKind S) (kept : Kept) (ordering : Ordering) (is : kept ≡ K.Ordered ordering) (order : Finish) (s : Sink) (start : S) (rows : List Row) (a : S) where
  had : HasKept kind kept order s start rows a → HasKept kind (K.Ordered ordering) order s start rows a
  had has = subst (λ (k : Kept). HasKept kind k order s start rows a) is has

  pub ordered_takes : (new : Ordering) (row : Row) → new.finish ≡ ordering.finish → (ordering.finish ≡ order → (rows : List Row) → StandsFor ordering rows → StandsFor new (rows ++ row ∷ [])) → HasKept kind kept order s start rows a
      → HasKept kind (K.Ordered new) order s start (rows ++ row ∷ []) a
  ordered_takes new row same so has = let own = had has in (own.0, same ∙ own.1, so own.1 rows own.2, own.3)

  -- what it leaves
  pub ordered_so : (left : List Row) (P : List Row → Type 0) → ((rows : List Row) → StandsFor ordering rows → left ≡ finished ordering.finish rows) → (HasSinkRows kind s start [] a → P left) → HasKept kind kept order s start rows a → P (finished order rows)
  ordered_so left P leaves so has = let own = had has in subst P (leaves rows own.2 ∙ ap (λ (f : Finish). finished f rows) own.1) (so own.3)

-- nothing more is put
pub nothing_stops : {S : Type 0} (kind : StageKind S) (kept : Kept) (order : Finish) (s : Sink) (start : S) (rows : List Row) (a : S) → HasKept kind kept order s start rows a → StopsAt (files_in s) kind (sink_text s) start (finished order rows) a
nothing_stops kind kept order s start rows a has = subst (λ (l : List Row). StopsAt (files_in s) kind (sink_text s) start (finished order l) a) (append-nil rows) (kept_stops kind kept order s start rows [] a has)

pub places_taken : (kept : Kept) (old new : Ordering) → kept ≡ K.Ordered old → new.places ≤ old.places + 1 → places_in (K.Ordered new) ≤ places_in kept + 1
places_taken kept old new is less = subst (λ (k : Kept). new.places ≤ places_in k + 1) (sym is) less

-- rows that an order has don't go on
pub ordered_apart : (Q : Type 0) (kept : Kept) (ordering : Ordering) → kept ≡ K.Ordered ordering → GoOn kept → Q
ordered_apart Q kept ordering is go = absurd (cc)

-- a row that an order lets go
pub lets_go : (kept : Kept) (old new : Ordering) (Goes : Kept → Type 0) (Is : Type 0) → kept ≡ K.Ordered old → (Goes (K.Ordered old) → Is × (new ≡ old)) → Goes kept → Is × (K.Ordered new ≡ kept)
lets_go kept old new Goes Is is so goes =
    let stays = so (subst Goes is goes) in
    (stays.0, ap K.Ordered stays.1 ∙ sym is)

-- a refusal is no answer
pub never_err : false ≡ true → ⊥
never_err is = true≢false (sym is)

-- a call that lets a sink have its rows
module _ {S : Type 0} (kind : StageKind S) (o : RowOutput) (a b : S) where
  pub open_has : {A : Type 0} (r : Result A OutputFault) (p : RowOutput) → p.kept ≡ o.kept → p.order ≡ o.order → p.put ≡ o.put → OnOk r ((start : S) (rows : List Row) → HasSinkRows kind o.sink start rows a → HasSinkRows kind p.sink start rows b)
      → OnOk r ((start : S) (rows : List Row) → HasRows kind o start rows a → HasRows kind p start rows b)
  unfolding HasRows
  open_has (Ok x) p kept order put so = λ start rows has. record {
    has = subst (λ (k : Kept). HasKept kind k p.order p.sink start rows b) (sym kept) (subst (λ (f : Finish). HasKept kind o.kept f p.sink start rows b) (sym order) (still_has kind o.kept o.order o.sink p.sink start rows a b (so start) has.has));
    count = put ∙ has.count;
  }
  open_has (Err fault) p kept order put so = tt

  pub rows_little : (t : Sink) (start : S) (rows : List Row) → (HasKept kind o.kept o.order o.sink start rows a → HoldsLittle t) → HasRows kind o start rows a → HoldsLittle t
  unfolding HasRows
  rows_little t start rows so has = so has.has

  pub open_opened : {A : Type 0} (r : Result A OutputFault) (t : Sink) → OnOk r ((start : S) (rows : List Row) → HasSinkRows kind o.sink start rows a → IsOpened t) → OnOk r ((start : S) (rows : List Row) → HasRows kind o start rows a → IsOpened t)
  unfolding HasRows
  open_opened (Ok x) t so = λ start rows has. still_so kind o.kept o.order o.sink start rows a (IsOpened t) (so start) has.has
  open_opened (Err fault) t so = tt

  pub open_stops : {A : Type 0} (r : Result A OutputFault) → OnErr r ((start : S) (rows more : List Row) → HasSinkRows kind o.sink start rows a → StopsAt (files_in o.sink) kind (sink_text o.sink) start (rows ++ more) b)
      → OnErr r ((start : S) (rows more : List Row) → HasRows kind o start rows a → Stops kind (asked_of o) start (rows ++ more) b)
  unfolding HasRows Stops
  open_stops (Ok x) so = tt
  open_stops (Err fault) so = λ start rows more has. left_so kind o.kept o.order o.sink start rows more a (λ l. StopsAt (files_in o.sink) kind (sink_text o.sink) start l b) (so start) has.has

  pub open_refuses : {A : Type 0} (r : Result A OutputFault) → IfErr r (OnRefused (λ why. (start : S) (rows more : List Row) → HasSinkRows kind o.sink start rows a → IsRefusedAt (files_in o.sink) (rows ++ more) why))
      → IfErr r (OnRefused (λ why. (start : S) (rows more : List Row) → HasRows kind o start rows a → IsRefused (asked_of o) (rows ++ more) why))
  unfolding HasRows IsRefused
  open_refuses (Ok x) so = tt
  open_refuses (Err (F.Refused why)) so = λ start rows more has. left_so kind o.kept o.order o.sink start rows more a (λ l. IsRefusedAt (files_in o.sink) l why) (so start) has.has
  open_refuses (Err F.Failed) so = tt
  open_refuses (Err F.Memory) so = tt

  -- of the rows that an output has what is left stops, is refused or is held
  pub rows_have : (p : RowOutput) (start : S) (rows more : List Row) → (HasKept kind o.kept o.order o.sink start rows a → HasKept kind p.kept p.order p.sink start more b) → (o.put ≡ length rows → p.put ≡ length more) → HasRows kind o start rows a → HasRows kind p start more b
  unfolding HasRows
  rows_have p start rows more so count has = record { has = so has.has; count = count has.count }

  pub rows_stop_at : (start : S) (rows whole : List Row) → (HasKept kind o.kept o.order o.sink start rows a → StopsAt (files_in o.sink) kind (sink_text o.sink) start (finished o.order whole) b) → HasRows kind o start rows a → Stops kind (asked_of o) start whole b
  unfolding HasRows Stops
  rows_stop_at start rows whole so has = so has.has

  pub rows_refused : (start : S) (rows whole : List Row) (why : Refused) → (HasKept kind o.kept o.order o.sink start rows a → IsRefusedAt (files_in o.sink) (finished o.order whole) why) → HasRows kind o start rows a → IsRefused (asked_of o) whole why
  unfolding HasRows IsRefused
  rows_refused start rows whole why so has = so has.has

  pub rows_hold : (start : S) (rows : List Row) (outputs : List Output) → (HasKept kind o.kept o.order o.sink start rows a → HoldsAt (files_in o.sink) kind (sink_text o.sink) start (finished o.order rows) outputs b) → HasRows kind o start rows a → Holds kind (asked_of o) start rows outputs b
  unfolding HasRows Holds
  rows_hold start rows outputs so has = so has.has

  pub rows_left : (start : S) (rows : List Row) (count : ℕ) → (HasKept kind o.kept o.order o.sink start rows a → o.put ≡ length rows → count ≡ length (finished o.order rows)) → HasRows kind o start rows a → count ≡ length (left_of (asked_of o) rows)
  unfolding HasRows
  rows_left start rows count so has = so has.has has.count

pub one_more : (put : ℕ) (rows : List Row) (row : Row) → put ≡ length rows → put + 1 ≡ length (rows ++ row ∷ [])
one_more put rows row was = let long = length-append rows (row ∷ []) in omega (arith, was, long)

-- an order without columns, past which a row with no keys goes, stands for one row more, whichever it is
pub any_stands : (order : Finish) (ordering : Ordering) (rows : List Row) (row : Row) → ordering.finish ≡ order → order.columns ≡ [] → IsTrue (is_past ordering.finish [] ordering.kept) → StandsFor ordering rows → StandsFor ordering (rows ++ row ∷ [])
any_stands order ordering rows row same plain past stands =
    past_stands ordering [] past row (ap (λ (f : Finish). keys_at f.columns row) same ∙ ap (λ (columns : List ℕ). keys_at columns row) plain) rows stands

-- so has an output
kept_skips : {S : Type 0} (kind : StageKind S) (kept : Kept) (order : Finish) (s : Sink) (start : S) (rows : List Row) (row : Row) (a : S) → LetsAllGo kept order → HasKept kind kept order s start rows a → HasKept kind kept order s start (rows ++ row ∷ []) a
kept_skips kind K.All order s start rows row a drops has = absurd drops
kept_skips kind (K.Ordered ordering) order s start rows row a (plain, past) (asks, same, stands, has) = (asks, same, any_stands order ordering rows row same plain past stands, has)

pub rows_skip : {S : Type 0} (kind : StageKind S) (o p : RowOutput) (start : S) (rows : List Row) (row : Row) (a : S) → DropsAll o → p.kept ≡ o.kept → p.order ≡ o.order → p.sink ≡ o.sink → p.put ≡ o.put + 1 → HasRows kind o start rows a → HasRows kind p start (rows ++ row ∷ []) a
unfolding HasRows
rows_skip kind o p start rows row a drops kept order sink put has =
    let Of : Kept → Finish → Sink → Type 0 = λ k f t. HasKept kind k f t start (rows ++ row ∷ []) a in
    let skips : Of o.kept o.order o.sink = kept_skips kind o.kept o.order o.sink start rows row a drops has.has in
    record {
      has = subst (λ (k : Kept). Of k p.order p.sink) (sym kept) (subst (λ (f : Finish). Of o.kept f p.sink) (sym order) (subst (λ (t : Sink). Of o.kept o.order t) (sym sink) skips));
      count = put ∙ one_more o.put rows row has.count;
    }
