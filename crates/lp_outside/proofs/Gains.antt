-- Gains follow each other.
use Rattle.std.proofs.Common.{◌≡◌, ℕ, ◌+◌, ◌%◌, ◌<◌, ◌≤◌, ◌^◌, List, [], ◌++◌, length, Option, Some, None, refl, sym, ◌∙◌, ap, subst, arith, append_assoc, length-append}
use Rattle.std.specs.Prelude.{option_map, IsSomeAnd}
use Rattle.lp_model.specs.Outside.{Told}
use Rattle.lp_model.proofs.Gaining.{Gains_nothing, Gains_trans, GainsSome_all, GainsSome_none, GainsSome_later, GainsSome_front}
use Rattle.lp_model.proofs.Growing.{append-nil}
use Rattle.lp_outside.specs.declared.stage.Mark.{Mark}
use Rattle.lp_outside.specs.Stages.{StageState}
use Rattle.lp_outside.specs.Gained.{Gained, GainedSome}

counts_on : (a b c : Option ℕ) (one two : List ℕ) → b ≡ option_map (λ n. n + length one) a → c ≡ option_map (λ n. n + length two) b → c ≡ option_map (λ n. n + length (one ++ two)) a
counts_on None b c one two f s = s ∙ ap (option_map (λ n. n + length two)) f
counts_on (Some x) b c one two f s = s ∙ ap (option_map (λ n. n + length two)) f ∙ ap Some (omega (arith, length-append one two))

mod_twice : (a b : ℕ) → (a % 2 ^ 64 + b) % 2 ^ 64 ≡ (a + b) % 2 ^ 64
mod_twice a b = omega arith

-- what an output gains up to a second moment and then up to a third it gains from the first to the third
pub gained_on : (a b c : StageState) (output : ℕ) (name : List ℕ) (base : ℕ) (from at to : Mark) (one two : List ℕ)
    → Gained output name base from at one a b → Gained output name base at to two b c → Gained output name base from to (one ++ two) a c
gained_on a b c output name base from at to one two f s =
    let both = length-append one two in
    record {
      tells = λ tells. s.tells (f.tells tells);
      staged = λ tells was is. subst (λ (t : List ℕ). c.is_text output name base to t) (append_assoc was one two) (s.staged (f.tells tells) (was ++ one) (f.staged tells was is));
      streamed = λ standard. Gains_trans a.written b.written c.written one two (f.streamed standard) (s.streamed standard);
      counted = counts_on a.taken b.taken c.taken one two f.counted s.counted;
      length_is =
          s.length_is ∙ ap (λ (n : ℕ). (n + length two) % 2 ^ 64) f.length_is ∙ mod_twice (from.length + length one) (length two)
          ∙ ap (λ (n : ℕ). n % 2 ^ 64) (omega (arith, both));
    }

-- nothing is gained over no calls
pub gained_nothing : (a : StageState) (output : ℕ) (name : List ℕ) (base : ℕ) (mark : Mark) → mark.length < 2 ^ 64 → Gained output name base mark mark [] a a
gained_nothing a output name base mark fits = record {
  tells = λ tells. tells;
  staged = λ tells was is. subst (λ (t : List ℕ). a.is_text output name base mark t) (append-nil was) is;
  streamed = λ standard. Gains_nothing a.written;
  counted = counts_nothing a.taken;
  length_is = omega (arith, fits);
}
  where
    counts_nothing : (a : Option ℕ) → a ≡ option_map (λ n. n + 0) a
    counts_nothing None = refl
    counts_nothing (Some n) = ap Some (omega arith)

same_lengths : (a b c : ℕ) → a ≤ b → b ≤ c → a ≤ c
same_lengths a b c f s = omega (arith, f, s)

takes_on : (a b c : Option ℕ) → Told a (λ was. IsSomeAnd b (λ is. was ≤ is)) → Told b (λ was. IsSomeAnd c (λ is. was ≤ is)) → Told a (λ was. IsSomeAnd c (λ is. was ≤ is))
takes_on None b c f s = tt
takes_on (Some x) None c f s = absurd f
takes_on (Some x) (Some y) None f s = absurd s
takes_on (Some x) (Some y) (Some z) f s = same_lengths x y z f s

takes_more : (a b : Option ℕ) (text : List ℕ) → b ≡ option_map (λ n. n + length text) a → Told a (λ was. IsSomeAnd b (λ is. was ≤ is))
takes_more None b text e = tt
takes_more (Some x) b text e = rw e (omega arith)

-- one text whole, and some of the next
pub gained_then_some : (a b c : StageState) (output : ℕ) (name : List ℕ) (base : ℕ) (from to : Mark) (one two : List ℕ)
    → Gained output name base from to one a b → GainedSome name two b c → GainedSome name (one ++ two) a c
gained_then_some a b c output name base from to one two f s = record {
  streamed = λ standard. GainsSome_later a.written b.written c.written one two (f.streamed standard) (s.streamed standard);
  counted = takes_on a.taken b.taken c.taken (takes_more a.taken b.taken one f.counted) s.counted;
}

-- some of a text is some of one that it begins
pub gained_some_front : (a b : StageState) (name x y : List ℕ) → GainedSome name x a b → GainedSome name (x ++ y) a b
gained_some_front a b name x y some = record { streamed = λ standard. GainsSome_front a.written b.written x y (some.streamed standard); counted = some.counted }

-- all that is gained is some of it
pub gained_some_all : (a b : StageState) (output : ℕ) (name : List ℕ) (base : ℕ) (from to : Mark) (x more : List ℕ) → Gained output name base from to x a b → GainedSome name (x ++ more) a b
gained_some_all a b output name base from to x more gained =
    record { streamed = λ standard. GainsSome_all a.written b.written x more (gained.streamed standard); counted = takes_more a.taken b.taken x gained.counted }

-- nothing was gained of a text
pub gained_some_none : (a : StageState) (name text : List ℕ) → GainedSome name text a a
gained_some_none a name text = record { streamed = λ standard. GainsSome_none a.written text; counted = stays a.taken }
  where
    stays : (a : Option ℕ) → Told a (λ was. IsSomeAnd a (λ is. was ≤ is))
    stays None = tt
    stays (Some n) = omega arith

-- a mark behind a text has a length below 2^64
pub gained_fits : (a b : StageState) (output : ℕ) (name : List ℕ) (base : ℕ) (from to : Mark) (text : List ℕ) → Gained output name base from to text a b → to.length < 2 ^ 64
gained_fits a b output name base from to text gained = let is = gained.length_is in omega arith
