-- What is out of a NAT text begins the whole.
use Rattle.std.specs.Prelude.{ℕ, Bool, true, List, ◌++◌, map}
use Rattle.lp_model.specs.Outside.{Begins}
use Rattle.lp_values.specs.declared.value.Value.{Value}
use Rattle.text_formats.specs.Nat.{NatState, IsNatText, nat_of, blocks_text, blocks_behind, title}
use Rattle.text_formats.specs.Tables.{cells_of, block_text}

pub nat_begins : (state : NatState) (fresh : Bool) (names : List (List ℕ)) (rows more : List (List Value)) (so_far : List ℕ) → IsNatText state names rows so_far → Begins so_far (nat_of state.limit state.headers fresh names (rows ++ more))
nat_begins state fresh names rows more so_far is =
    (blocks_text (block_text state.headers (title names)) state.first (blocks_behind state.limit true state.first state.held (map cells_of more)), is.later true more)
