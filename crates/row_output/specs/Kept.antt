-- How far the rows of a query have come on their way to its outputs.
use Rattle.std.specs.Prelude.{◌≡◌, ℕ, true, List, [], length, IsTrue}
use Rattle.std.specs.List.{list_any}
use Rattle.order_top.specs.Finish.{Row, Finish, keys_at, same_row}
use Rattle.order_top.specs.Ordering.{StandsFor, is_past}
use Rattle.text_output.specs.Output.{StageKind}
use Rattle.row_output.specs.Asked.{Asked}
use Rattle.row_output.specs.Few.{GoOn}
use Rattle.row_output.specs.Orders.{IsPlain}
use Rattle.row_output.specs.Sinks.{HasSinkRows, IsNewSink, columns_in, files_in, text_fn}
use Rattle.row_output.specs.declared.kept.Kept.{Kept}
use Rattle.row_output.specs.declared.kept.Kept.TheVariants as K
use Rattle.row_output.specs.declared.kept.RowOutput.{RowOutput}
use Rattle.row_output.specs.declared.sink.Sink.{Sink}

-- what is asked of the rows
abbrev pub asked_of : RowOutput → Asked
asked_of o = record { files = files_in o.sink; text = text_fn o.sink; columns = columns_in o.sink; order = o.order }

-- no row is kept back
abbrev pub KeepsNone : RowOutput → Type 0
KeepsNone o = GoOn o.kept

-- an order without columns has its n rows under TOP n: it lets each later row go, whatever the row holds
abbrev pub LetsAllGo : Kept → Finish → Type 0
LetsAllGo K.All order = ⊥
LetsAllGo (K.Ordered ordering) order = (order.columns ≡ []) × IsTrue (is_past ordering.finish [] ordering.kept)

-- each later row is dropped
abbrev pub DropsAll : RowOutput → Type 0
DropsAll o = LetsAllGo o.kept o.order

-- under DISTINCT an order has this row already
abbrev pub IsKnown : Kept → Row → Type 0
IsKnown K.All row = ⊥
IsKnown (K.Ordered ordering) row = (ordering.finish.distinct ≡ true) × (list_any (same_row row) ordering.kept ≡ true)

-- an order has its n rows under TOP n, and this row goes behind them
abbrev pub GoesPast : Kept → Row → Type 0
GoesPast K.All row = ⊥
GoesPast (K.Ordered ordering) row = is_past ordering.finish (keys_at ordering.finish.columns row) ordering.kept ≡ true

-- rows went on as they came, or an order has them, which asks something
abbrev pub HasKept : {S : Type 0} → StageKind S → Kept → Finish → Sink → S → List Row → S → Type 0
HasKept kind K.All order sink start rows now = IsPlain order × HasSinkRows kind sink start rows now
HasKept kind (K.Ordered ordering) order sink start rows now = ¬ IsPlain order × (ordering.finish ≡ order) × StandsFor ordering rows × HasSinkRows kind sink start [] now

-- since a moment of the stage these rows were put
pub record HasPut {S : Type 0} (kind : StageKind S) (o : RowOutput) (start : S) (rows : List Row) (now : S) : Type 0 where
  pub has : HasKept kind o.kept o.order o.sink start rows now
  pub count : o.put ≡ length rows

unfoldable pub HasRows : {S : Type 0} → StageKind S → RowOutput → S → List Row → S → Type 0
HasRows kind o start rows now = HasPut kind o start rows now

-- no row was put
abbrev pub IsNewKept : Kept → Finish → Type 0
IsNewKept K.All order = IsPlain order
IsNewKept (K.Ordered ordering) order = ¬ IsPlain order × (ordering.finish ≡ order) × StandsFor ordering []

pub record IsNew (o : RowOutput) : Type 0 where
  pub kept : IsNewKept o.kept o.order
  pub sink : IsNewSink o.sink
  pub none : o.put ≡ 0
