-- Where an output is refused before the last row is there.
use Rattle.std.proofs.Common.{◌≡◌, ◌⊎◌, inl, inr, List, [], ◌++◌, Result, Ok, Err, IfErr, refl, sym, subst}
use Rattle.order_top.specs.Finish.{Row, Finish, finished}
use Rattle.text_output.specs.Output.{StageKind}
use Rattle.row_output.specs.FileRows.{OnRefused}
use Rattle.row_output.specs.Kept.{HasKept, HasPut, HasRows, asked_of}
use Rattle.row_output.specs.Orders.{IsPlain}
use Rattle.row_output.specs.Rows.{IsRefused, IsRefusedAt, IsRefusedEarly}
use Rattle.row_output.specs.Sinks.{HasSinkRows, files_in}
use Rattle.row_output.specs.declared.fault.OutputFault.{OutputFault}
use Rattle.row_output.specs.declared.fault.OutputFault.TheVariants as F
use Rattle.row_output.specs.declared.fault.Refused.{Refused}
use Rattle.row_output.specs.declared.kept.Kept.{Kept}
use Rattle.row_output.specs.declared.kept.Kept.TheVariants as K
use Rattle.row_output.specs.declared.kept.RowOutput.{RowOutput}
use Rattle.row_output.specs.declared.sink.Sink.{Sink}
use Rattle.row_output.proofs.Unrefused.{none_left}

-- a sink that an order has given no row refuses as it does before any row
kept_early : {S : Type 0} (kind : StageKind S) (kept : Kept) (order : Finish) (s : Sink) (start : S) (rows : List Row) (a : S) (why : Refused) → ((rows more : List Row) → HasSinkRows kind s start rows a → IsRefusedAt (files_in s) (rows ++ more) why)
    → HasKept kind kept order s start rows a → IsPlain order ⊎ IsRefusedAt (files_in s) (finished order []) why
kept_early kind K.All order s start rows a why so (plain, has) = inl plain
kept_early kind (K.Ordered ordering) order s start rows a why so (asks, same, stands, has) =
    inr (subst (λ (l : List Row). IsRefusedAt (files_in s) l why) (sym (none_left order.distinct order.top order refl refl)) (so [] [] has))

-- a call that lets a sink have its rows
pub open_early : {S : Type 0} {A : Type 0} (kind : StageKind S) (o : RowOutput) (a : S) (r : Result A OutputFault) → IfErr r (OnRefused (λ why. (start : S) (rows more : List Row) → HasSinkRows kind o.sink start rows a → IsRefusedAt (files_in o.sink) (rows ++ more) why))
    → IfErr r (OnRefused (λ why. (start : S) (rows : List Row) → HasRows kind o start rows a → IsRefusedEarly (asked_of o) why))
unfolding HasRows IsRefused
open_early kind o a (Ok x) so = tt
open_early kind o a (Err (F.Refused why)) so = λ start rows has. kept_early kind o.kept o.order o.sink start rows a why (so start) has.has
open_early kind o a (Err F.Failed) so = tt
open_early kind o a (Err F.Memory) so = tt

-- a row goes to the sink at once, where the order asks nothing
pub plain_early : {S : Type 0} {A : Type 0} (kind : StageKind S) (kept : Kept) (order : Finish) (s : Sink) (a : S) (r : Result A OutputFault) → kept ≡ K.All → IfErr r (OnRefused (λ why. (start : S) (rows : List Row) → HasKept kind kept order s start rows a → IsPlain order))
plain_early kind kept order s a (Ok x) is = tt
plain_early kind kept order s a (Err (F.Refused why)) is = λ start rows has.
    let own : HasKept kind K.All order s start rows a = subst (λ (k : Kept). HasKept kind k order s start rows a) is has in
    own.0
plain_early kind kept order s a (Err F.Failed) is = tt
plain_early kind kept order s a (Err F.Memory) is = tt

pub put_early : {S : Type 0} (kind : StageKind S) (o : RowOutput) (start : S) (rows : List Row) (a : S) (why : Refused) → (HasKept kind o.kept o.order o.sink start rows a → IsPlain o.order) → HasRows kind o start rows a → IsRefusedEarly (asked_of o) why
unfolding HasRows
put_early kind o start rows a why so has = inl (so has.has)
