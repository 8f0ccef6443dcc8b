use Rattle.std.proofs.Common.{◌<◌, Bool, List, subst, arith, length, Some, None}
use Rattle.std.specs.List.{IsDistinct}
use Rattle.lp_values.specs.declared.value.Value.{Value}
use Rattle.group_rollup.proofs.FirstsLemmas.{found, same_as}
use Rattle.group_rollup.proofs.rows.Rows.place.Goals as goal

pub returns-in-Some : goal.returns-in-Some
returns-in-Some c =
    let f = found c.args.self.now.keys.keys c.args.keys.now (Some c.in-Some.index) c.in-Some.ensures.index c.in-Some.ensures.found in
    let low : c.in-Some.index < length c.args.self.now.keys.keys = f.2 in
    record {
      known = λ h. f.1;
      absent = λ e. absurd (omega (arith, e, low));
      within = omega arith;
      distinct = subst (λ (e : List Value → List Value → Bool). IsDistinct e c.args.self.now.keys.keys) same_as c.len-count.ensures.unique;
    }

pub returns-in-None : goal.returns-in-None
returns-in-None c =
    let f = found c.args.self.now.keys.keys c.args.keys.now None c.in-None.ensures.index c.in-None.ensures.found in
    record {
      known = λ h. absurd (omega (arith, h, c.len-count.ensures.len));
      absent = λ e. f;
      within = omega (arith, c.len-count.ensures.len);
      distinct = subst (λ (e : List Value → List Value → Bool). IsDistinct e c.args.self.now.keys.keys) same_as c.len-count.ensures.unique;
    }
