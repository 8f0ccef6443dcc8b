use Rattle.std.proofs.Common.{◌≤◌, ◌<◌, ◌^◌, ℕ, refl, arith}
use Rattle.ledger.proofs.Composing.{handed, narrowed, misfit, refused_narrower, refused_first, refused_here, checks_behind}
use Rattle.ledger.proofs.Tagged.{checks_viewed, refused_viewed}
use Rattle.std.proofs.Common.{Option}
use Rattle.lp_model.specs.Reading.{Columns, Standing}
use Rattle.ledger_model.specs.Numbers.{u64_bytes}
use Rattle.ledger_model.specs.Layouts.{field, behind}
use Rattle.ledger_model.specs.Standings.{columns_field}
use Rattle.ledger_model.proofs.Fields.{number_law}
use Rattle.ledger.proofs.checking.lines.Goals as goal

pub returns-in_err-count-clause-looks : goal.returns-in_err-count-clause-looks
returns-in_err-count-clause-looks g c = λ file to can.
    let k = c.in_err-count.ensures.gives file to can in
    (k.0, checks_viewed {A = Standing} {B = ℕ × Option Columns} (λ standing. (standing.lines, standing.columns)) (λ parts. record { lines = parts.0; columns = parts.1 }) (behind (field (λ n. (n < 2 ^ 64) × (n ≤ c.args.most)) u64_bytes) (λ lines. columns_field)) (λ parts. refl) file to _ _ (c.from_residual.result) (handed c.from_residual.result c.in_err-count.field-0.0 _ _ c.from_residual.ensures.1 (refused_first (field (λ n. (n < 2 ^ 64) × (n ≤ c.args.most)) u64_bytes) (λ lines. columns_field) file to _ _ (refused_narrower (λ n. n < 2 ^ 64) (λ n. (n < 2 ^ 64) × (n ≤ c.args.most)) u64_bytes (λ n fits. fits.0) file to _ _ k.1))))

pub returns-then-count-most-clause-looks : goal.returns-then-count-most-clause-looks
returns-then-count-most-clause-looks g c = λ file to can.
    let k = c.in_ok-count.ensures.gives file to can in (
      k.0,
      refused_viewed (λ (standing : Standing). (standing.lines, standing.columns)) (behind (field (λ n. (n < 2 ^ 64) × (n ≤ c.args.most)) u64_bytes) (λ lines. columns_field)) file to c.args.reader.now.at c.damaged.result (refused_first (field (λ n. (n < 2 ^ 64) × (n ≤ c.args.most)) u64_bytes) (λ lines. columns_field) file to _ _
          (refused_here (field (λ n. (n < 2 ^ 64) × (n ≤ c.args.most)) u64_bytes) file to c.args.reader.now.at c.place-place.result c.damaged.result c.damaged.ensures c.place-place.ensures
          (misfit (λ n. n < 2 ^ 64) (λ n. (n < 2 ^ 64) × (n ≤ c.args.most)) u64_bytes number_law (λ n fits. fits.0) file to _ _ _ k.1 (λ fits. omega (arith, c.if-count-most.true, fits.1))))),
    )

pub returns-clause-looks : goal.returns-clause-looks
returns-clause-looks g c = λ file to can.
    let k = c.in_ok-count.ensures.gives file to can in
    let t = c.columns.ensures.looks file to k.0 in
    (t.0, checks_viewed {A = Standing} {B = ℕ × Option Columns} (λ standing. (standing.lines, standing.columns)) (λ parts. record { lines = parts.0; columns = parts.1 }) (behind (field (λ n. (n < 2 ^ 64) × (n ≤ c.args.most)) u64_bytes) (λ lines. columns_field)) (λ parts. refl) file to _ _ (c.columns.result) (checks_behind (field (λ n. (n < 2 ^ 64) × (n ≤ c.args.most)) u64_bytes) (λ lines. columns_field) file to _ _ _ _ (narrowed (λ n. n < 2 ^ 64) (λ n. (n < 2 ^ 64) × (n ≤ c.args.most)) u64_bytes file to _ _ _ k.1 (omega arith, omega (arith, c.if-count-most.false))) c.columns.result t.1))
