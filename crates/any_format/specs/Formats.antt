-- The text of the format that is held.
use Rattle.std.specs.Prelude.{◌≡◌, ℕ, Bool, true, false, List, ◌++◌, IsTrue}
use Rattle.std.proofs.lemmas.Bool.{false≢true}
use Rattle.lp_model.specs.Outside.{Begins}
use Rattle.lp_values.specs.declared.value.Value.{Value}
use Rattle.output_formats.specs.Headers.{csv_of}
use Rattle.output_formats.specs.Beginning.{csv_begins}
use Rattle.text_formats.specs.Lined.{lined_begins}
use Rattle.text_formats.specs.Tsv.{tsv_of, tsv_head, tsv_line}
use Rattle.text_formats.specs.W3c.{w3c_of, w3c_head, w3c_line}
use Rattle.text_formats.specs.Nat.{nat_of, IsNatText}
use Rattle.text_formats.specs.NatBeginning.{nat_begins}
use Rattle.tpl_output.specs.Tpl.{tpl_of, IsTplText}
use Rattle.tpl_output.specs.TplBeginning.{tpl_begins}
use Rattle.any_format.specs.declared.format.Format.{Format}
use Rattle.any_format.specs.declared.format.Format.TheVariants.{Csv, Tsv, W3c, Nat, Tpl}

abbrev pub text_of : Format → Bool → List (List ℕ) → List (List Value) → List ℕ
text_of (Csv headers) = csv_of headers
text_of (Tsv wanted) = tsv_of wanted
text_of (W3c moment) = w3c_of moment
text_of (Nat state) = nat_of state.limit state.headers
text_of (Tpl state) = tpl_of state.sections state.moment

-- whether the text of all rows that were put is there after each of them: NAT holds rows back to align them, and the footer of TPL stands behind them
abbrev pub is_at_once : Format → Bool
is_at_once (Csv headers) = true
is_at_once (Tsv wanted) = true
is_at_once (W3c moment) = true
is_at_once (Nat state) = false
is_at_once (Tpl state) = false

-- The text of named rows, for an output that begins empty or not, and whether that of all rows that were put is there after each of them.
pub record RowsText : Type 0 where
  pub of : Bool → List (List ℕ) → List (List Value) → List ℕ
  pub at_once : Bool

abbrev pub format_text : Format → RowsText
format_text format = record { of = text_of format; at_once = is_at_once format }

-- how far the text has come
abbrev pub HasText : Format → Bool → List (List ℕ) → List (List Value) → List ℕ → Type 0
HasText (Csv headers) fresh names rows so_far = so_far ≡ csv_of headers fresh names rows
HasText (Tsv wanted) fresh names rows so_far = so_far ≡ tsv_of wanted fresh names rows
HasText (W3c moment) fresh names rows so_far = so_far ≡ w3c_of moment fresh names rows
HasText (Nat state) fresh names rows so_far = IsNatText state names rows so_far
HasText (Tpl state) fresh names rows so_far = IsTplText state names rows so_far

pub format_begins : (format : Format) (fresh : Bool) (names : List (List ℕ)) (rows more : List (List Value)) (so_far : List ℕ) → HasText format fresh names rows so_far → Begins so_far (text_of format fresh names (rows ++ more))
format_begins (Csv headers) fresh names rows more so_far is = csv_begins headers fresh names rows more so_far is
format_begins (Tsv wanted) fresh names rows more so_far is = lined_begins (tsv_head wanted.headers wanted.separator fresh names) (tsv_line wanted.separator) rows more so_far is
format_begins (W3c moment) fresh names rows more so_far is = lined_begins (w3c_head moment names) w3c_line rows more so_far is
format_begins (Nat state) fresh names rows more so_far is = nat_begins state fresh names rows more so_far is
format_begins (Tpl state) fresh names rows more so_far is = tpl_begins state fresh names rows more so_far is

-- where no row waits it has come to the text of all rows that were put
pub format_whole : (format : Format) (fresh : Bool) (names : List (List ℕ)) (rows : List (List Value)) (so_far : List ℕ) → IsTrue (is_at_once format) → HasText format fresh names rows so_far → so_far ≡ text_of format fresh names rows
format_whole (Csv headers) fresh names rows so_far once is = is
format_whole (Tsv wanted) fresh names rows so_far once is = is
format_whole (W3c moment) fresh names rows so_far once is = is
format_whole (Nat state) fresh names rows so_far once is = absurd (false≢true once)
format_whole (Tpl state) fresh names rows so_far once is = absurd (false≢true once)
